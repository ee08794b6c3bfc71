use mathlib.Core.Path.{ap}
use borrow.Author.Rules.{rules}
use Rattle.lines.specs.Line.{number}
use Rattle.lines.proofs.Writers.{then, same, within}
use Rattle.lines.proofs.Text.put_head.Goals as goal

pub returns : goal.returns
returns c = within 87 (search rules)
    (then c.put_kind.ensures (then c.put_number.ensures (then c.put_number-2.ensures
    (then (same (ap number c.from.ensures) c.put_number-3.ensures) (same (ap number c.span.ensures) c.put_number-4.ensures)))))
