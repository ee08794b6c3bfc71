use borrow.Author.Rules.{rules}
use Rattle.lines.proofs.Writers.{then, within}
use Rattle.lines.specs.Line.{idle_line}
use Rattle.lines.proofs.Text.put_idle.Goals as goal

pub returns : goal.returns
unfolding idle_line
returns c = within 48 (search rules) (then c.put_bytes.ensures (then c.put_number.ensures c.put_byte.ensures))
