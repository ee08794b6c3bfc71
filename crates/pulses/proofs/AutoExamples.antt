-- Every row of the examples in Auto mode holds, by computation from the definitions that the contracts cite; and the claim that they show to be
-- false is refuted.
use mathlib.Core.Path.{refl}
use mathlib.Core.List.{◌++◌}
use Rattle.pulses.specs.Demand.{the_lane}
use Rattle.pulses.specs.Auto.{Demand3Where, Auto}
use Rattle.pulses.specs.Ran.{ran}
use Rattle.pulses.specs.Lists.{turned, tones, opens_auto, four_runs, keyed}
use Rattle.pulses.specs.Examples.{shown}
use Rattle.pulses.specs.AutoExamples.{framed, framed_in, Right, table}
use Rattle.pulses.proofs.Refuted.{told, numbers, asked, equal, every, tells_asked, refuted_in}

pub auto_right : Right table
unfolding framed framed_in shown ran turned tones
auto_right = refl

-- Of every Auto burst, whatever is found in it, demand 3 does not hold: four runs are a frame, and the pulse of the record is no train's.
pub auto_alone_fails : Demand3Where Auto the_lane → ⊥
unfolding told numbers asked equal every tells_asked ran turned tones
auto_alone_fails = refuted_in 2 the_lane (opens_auto ++ keyed 10 four_runs) refl refl
