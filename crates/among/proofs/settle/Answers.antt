use Rattle.among.specs.Settled.{settled_by}
use Rattle.among.proofs.settle.Goals as goal

pub returns-then-refused : goal.returns-then-refused
unfolding settled_by
returns-then-refused g c = simp (g.met.E.Numbered.made _ c.from.ensures, ← c.is_begin.ensures, ← c.is_late.ensures, c.if-refused.true)

pub returns : goal.returns
unfolding settled_by
returns g c = simp (← c.is_begin.ensures, ← c.is_late.ensures, c.if-refused.false)
