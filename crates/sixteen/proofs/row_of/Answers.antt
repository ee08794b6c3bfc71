use borrow.Author.Tests.{lt-ltb, le-ltb}
use Rattle.sixteen.proofs.row_of.Goals as goal

pub returns-then-i-lt16 : goal.returns-then-i-lt16
returns-then-i-lt16 c = simp (lt-ltb _ _ c.if-i-lt16.true)

pub returns-else-i-lt16 : goal.returns-else-i-lt16
returns-else-i-lt16 c = simp (le-ltb _ _ c.if-i-lt16.false)
