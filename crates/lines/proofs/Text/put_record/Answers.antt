use borrow.Author.Tests.{eq-eqb, ne_eqb}
use Rattle.lines.proofs.Writers.{then, same, none}
use Rattle.lines.proofs.Tagged.{record_tagged, record_none}
use Rattle.lines.proofs.Text.put_record.Goals as goal

pub returns-then-o-eq1 : goal.returns-then-o-eq1
returns-then-o-eq1 c =
    same (record_tagged _ _ _ (eq-eqb _ _ c.if-o-eq1.true)) (then c.put_bytes.ensures c.put_train.ensures)

pub returns-else-o-eq1 : goal.returns-else-o-eq1
returns-else-o-eq1 c = same (record_none _ _ _ (ne_eqb _ _ c.if-o-eq1.false)) (none _ _)
