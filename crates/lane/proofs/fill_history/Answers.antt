use mathlib.Core.Path.{refl}
use Rattle.lane.specs.Begin.{history_of}
use Rattle.lane.proofs.fill_history.Goals as goal

pub loop-i-init : goal.loop-i-init
unfolding history_of
loop-i-init c = rw c.nearest_first.ensures (refl, refl)
