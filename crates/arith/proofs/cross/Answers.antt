-- Widening does not change the quotient.
use Rattle.std.proofs.Common.{◌∙◌}
use lib.Ieee.{binary32}
use lib.Ieee.Fits.{div-fits}
use Rattle.ieee.proofs.Widening.{widen_keeps}
use Rattle.arith.specs.Leaves.{cross_of}
use Rattle.arith.proofs.cross.Goals as goal

pub returns-then-abs : goal.returns-then-abs
unfolding cross_of
returns-then-abs c = simp (← c.abs.ensures, c.if-abs.true, ← c.widen.ensures ∙ widen_keeps _ (div-fits binary32 _ _)) c.clamp.ensures.value
