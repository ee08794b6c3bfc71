use mathlib.Core.Path.{ap}
use lib.ListN.{length}
use native.Mathlib.Omega.{arith}
use borrow.Author.Rules.{rules}
use Rattle.lines.proofs.Laws.{spelled_part, length_decimal}
use Rattle.lines.proofs.Writers.{same, within}
use Rattle.lines.proofs.Text.put_decimal.Goals as goal

pub returns : goal.returns
returns c =
    let e = spelled_part c.spell-i.ensures (search rules) in
    within 20 (omega (arith, ap length e, length_decimal c.args.n)) (same e c.put_bytes.ensures)
