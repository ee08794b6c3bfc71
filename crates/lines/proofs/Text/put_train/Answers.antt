use borrow.Author.Rules.{rules}
use Rattle.lines.proofs.Writers.{then, within}
use Rattle.lines.specs.Line.{train_line}
use Rattle.lines.proofs.Text.put_train.Goals as goal

pub returns : goal.returns
unfolding train_line
returns c = within _ (search rules) (then c.put_head.ensures c.put_tail.ensures)
