use mathlib.Core.Path.{ap}
use borrow.Author.Rules.{rules}
use Rattle.lines.specs.Line.{number}
use Rattle.lines.proofs.Writers.{then, same, within}
use Rattle.lines.proofs.Text.put_tail.Goals as goal

pub returns : goal.returns
returns c = within _ (search rules)
    (then c.put_float.ensures (then c.put_carrier.ensures
    (then (same (ap number c.from.ensures) c.put_number.ensures) (then c.put_widths.ensures c.put_byte.ensures))))
