-- R-9, first half: the theorems. Their terms stand in specs/Quiet.
use mathlib.Core.Path.{◌≡◌, refl, sym, subst}
use mathlib.Core.Bool.{Bool, true}
use mathlib.Core.List.{List, [], ◌∷◌}
use Prim.Native.Nat.{ℕ}
use Rattle.shared.specs.declared.Settings.{Settings}
use Rattle.shared.proofs.Tests.{clash, both_true}
use Rattle.refusals.proofs.Domain.{InDomain}
use Rattle.lane.specs.declared.StepArgs.{StepArgs}
use Rattle.lane.specs.Idle.{idle_lane}
use Rattle.lane.specs.Advance.{advance_of}
use Rattle.lane.specs.Serial.{stamp_of}
use Rattle.lane.specs.Step.{new_lane}
use Rattle.pulses.specs.Yardstick.{as_left, other, lent, Call, opening, begin, step, close, Yardstick, unused, accepts, advanced, lent_well, handed_on}
use Rattle.pulses.specs.Demand.{the_lane, Place, returned_by, start, after}
use Rattle.pulses.proofs.Calls.{Same, step_answers, after_same, yard_after}
use Rattle.quiet.specs.Quiet.{wait, shortest, EndsBy, EachEnds, QuietEnds, brought, counted, Waits, WaitKnown}
use Rattle.quiet.proofs.Low.{Enough, wait_enough, shortest_enough}
use Rattle.quiet.proofs.Calls.{Good, at_rest, call_good, good_waits, quiet_rests, step_idles}

module _ (w : Settings → ℕ) (N : (p : Settings) → InDomain p → Enough p (w p)) where
  -- ---- the wait in calls
  waits_from : (cs : List Call) (y : Yardstick) (n : ℕ) → Good w y n → Waits w (counted (y, n) cs)
  unfolding counted
  waits_from [] y n G = good_waits w N y n G
  waits_from (c ∷ cs) y n G = waits_from cs (advanced (accepts y c) y c) (brought (accepts y c) n c) (call_good w N y n c (accepts y c) refl G)

  known : WaitKnown w
  unfolding WaitKnown unused new_lane idle_lane
  known cs = waits_from cs unused 0 (at_rest refl)

  -- ---- the call whose answer it is
  -- a step lent the buffer as it was left: the lane's answer is the yardstick's
  step_ends : (k : Place the_lane) (n : ℕ) (s : StepArgs) (fsk : List ℕ) → Same k → Good w k.yard n → EndsBy w the_lane k (step s as_left fsk)
  unfolding EndsBy lent returned_by advanced stamp_of
  step_ends k n s fsk S G a t = rw (step_answers k S s fsk a) (step_idles k.yard.lane s k.yard.ook fsk (rests (call_good w N k.yard n (step s as_left fsk) true a G)))
    where
      rests : Good w (advanced true k.yard (step s as_left fsk)) (brought true n (step s as_left fsk)) → (advance_of k.yard.lane s k.yard.ook fsk).0.lane.phase ≡ 0
      rests G' = quiet_rests w N (advanced true k.yard (step s as_left fsk)) (brought true n (step s as_left fsk)) G' t.0 t.1

  ends_by : (k : Place the_lane) (n : ℕ) (c : Call) → Same k → Good w k.yard n → lent_well (accepts k.yard c) c ≡ true → EndsBy w the_lane k c
  unfolding EndsBy lent_well
  ends_by k n (opening p) S G H = tt
  ends_by k n (begin b ook fsk) S G H = tt
  ends_by k n (step s as_left fsk) S G H = step_ends k n s fsk S G
  ends_by k n (step s (other o) fsk) S G H = λ a t. clash (sym (subst (λ (b : Bool). lent_well b (step s (other o) fsk) ≡ true) a H))
  ends_by k n (close o fsk) S G H = tt

  ends_from : (cs : List Call) (k : Place the_lane) (n : ℕ) → Same k → Good w k.yard n → handed_on k.yard cs ≡ true → EachEnds w the_lane k cs
  unfolding handed_on EachEnds
  ends_from [] k n S G H = tt
  ends_from (c ∷ cs) k n S G H =
      let a : Bool = accepts k.yard c in
      let k' : Place the_lane = after the_lane a k c in
      let H' = both_true (lent_well a c) (handed_on (advanced a k.yard c) cs) H in
      let G' : Good w k'.yard (brought a n c) = subst (λ (y : Yardstick). Good w y (brought a n c)) (sym (yard_after k c a)) (call_good w N k.yard n c a refl G) in
      (ends_by k n c S G H'.0, ends_from cs k' (brought a n c) (after_same k S c a refl H'.0) G' (subst (λ (y : Yardstick). handed_on y cs ≡ true) (sym (yard_after k c a)) H'.1))

  ends : QuietEnds w the_lane
  unfolding QuietEnds start unused new_lane idle_lane
  ends cs handed = ends_from cs (start the_lane) 0 (record { lane = refl; ook = refl; trains = refl }) (at_rest refl) handed

-- ---- R-9's number, and the least
pub quiet_ends : QuietEnds wait the_lane
quiet_ends = ends wait wait_enough

pub wait_known : WaitKnown wait
wait_known = known wait wait_enough

pub quiet_ends_soon : QuietEnds shortest the_lane
quiet_ends_soon = ends shortest shortest_enough

pub soon_known : WaitKnown shortest
soon_known = known shortest shortest_enough
