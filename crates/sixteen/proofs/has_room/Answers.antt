use borrow.Author.Tests.{lt-ltb, le-ltb}
use Rattle.sixteen.specs.Spoken.{has_tagged_room}
use Rattle.sixteen.proofs.has_room.Goals as goal

pub returns-then-len-lt63 : goal.returns-then-len-lt63
unfolding has_tagged_room
returns-then-len-lt63 c = simp (lt-ltb _ _ c.if-len-lt63.true)

pub returns : goal.returns
unfolding has_tagged_room
returns c = simp (le-ltb _ _ c.if-len-lt63.false, ← c.has_room.ensures)
