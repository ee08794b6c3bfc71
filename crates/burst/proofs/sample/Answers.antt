use Rattle.burst.specs.Sample.{sample_of}
use Rattle.burst.proofs.sample.Goals as goal

pub returns-then-is_stay : goal.returns-then-is_stay
unfolding sample_of
returns-then-is_stay c = simp (← c.see-s.ensures, ← c.snap_if-n.ensures, ← c.act-d.ensures, ← c.with_acted-burst.ensures, ← c.is_stay.ensures, c.if-is_stay.true, ← c.rest.ensures)

pub returns-else-is_stay : goal.returns-else-is_stay
unfolding sample_of
returns-else-is_stay c = simp (← c.see-s.ensures, ← c.snap_if-n.ensures, ← c.act-d.ensures, ← c.with_acted-burst.ensures, ← c.is_stay.ensures, c.if-is_stay.false)
