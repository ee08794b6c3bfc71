use borrow.Author.Rules.{rules}
use Rattle.lines.proofs.Writers.{then, within}
use Rattle.lines.specs.Line.{carrier_line}
use Rattle.lines.proofs.Text.put_idle_at.Goals as goal

pub returns : goal.returns
unfolding carrier_line
returns c = within 48 (search rules) (then c.put_bytes.ensures (then c.put_number.ensures (then c.put_float.ensures c.put_byte.ensures)))
