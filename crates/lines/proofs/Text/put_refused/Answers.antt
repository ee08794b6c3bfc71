use mathlib.Core.Path.{ap}
use borrow.Author.Rules.{rules}
use Rattle.lines.specs.Line.{number, refused_line}
use Rattle.lines.proofs.Writers.{then, same, within}
use Rattle.lines.proofs.Text.put_refused.Goals as goal

pub returns : goal.returns
unfolding refused_line
returns c = within 48 (search rules)
    (then c.put_bytes.ensures (then (same (ap number c.from.ensures) c.put_number.ensures) c.put_byte.ensures))
