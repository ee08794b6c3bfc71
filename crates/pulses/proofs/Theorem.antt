-- Demand 3, whole: the theorem, and in Auto mode (R-9). Its terms stand in specs/Runs, Yardstick, Demand and Auto, each beside the words that it
-- takes. One proof has every burst whose pulses are listed, and each statement is of some of them.
use mathlib.Core.Path.{refl}
use mathlib.Core.List.{List, [], ◌∷◌}
use Rattle.lane.specs.Idle.{idle_lane}
use Rattle.lane.specs.Step.{new_lane}
use Rattle.pulses.specs.Yardstick.{Yardstick, unused}
use Rattle.pulses.specs.Demand.{the_lane, Place, start, bursts, Each, Demand3}
use Rattle.pulses.specs.Auto.{EachWhere, Demand3Where, StaysZero, FindsNone, InAuto, InAutoWide}
use Rattle.pulses.proofs.BurstState.{in_ook, in_auto, frameless}
use Rattle.pulses.proofs.Measure.{ListedAt, at_rest}
use Rattle.pulses.proofs.Calls.{from}

listed : Demand3Where ListedAt the_lane
unfolding Demand3Where start unused new_lane idle_lane
listed cs handed = from cs (start the_lane) (at_rest refl) (record { lane = refl; ook = refl; trains = refl }) handed

-- in OOK mode every burst
each_ook : (ks : List (Place the_lane)) → EachWhere ListedAt ks → Each ks
unfolding EachWhere Each
each_ook [] E = tt
each_ook (k ∷ ks) E = ((λ o. E.0 (in_ook o)), each_ook ks E.1)

pub demand_3 : Demand3 the_lane
unfolding Demand3 Demand3Where
demand_3 cs handed = (each_ook (bursts the_lane (start the_lane) cs) (listed cs handed).0, λ h o. (listed cs handed).1 h (in_ook o))

-- in Auto mode
module _ (C : Yardstick → Type 0) (tells : (y : Yardstick) → C y → ListedAt y) where
  each_where : (ks : List (Place the_lane)) → EachWhere ListedAt ks → EachWhere C ks
  unfolding EachWhere
  each_where [] E = tt
  each_where (k ∷ ks) E = ((λ c. E.0 (tells k.yard c)), each_where ks E.1)

  listed_where : Demand3Where C the_lane
  unfolding Demand3Where
  listed_where cs handed = (each_where (bursts the_lane (start the_lane) cs) (listed cs handed).0, λ h c. (listed cs handed).1 h (tells _ c))

pub auto_pulses : InAuto the_lane
auto_pulses = listed_where StaysZero (λ y c. in_auto c.0 c.1)

pub auto_pulses_wide : InAutoWide the_lane
auto_pulses_wide = listed_where FindsNone (λ y c. frameless c.0 c.1)
