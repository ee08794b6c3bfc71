-- The ways of an accepted call. A step's sample joins a lead-in that is not full yet, or is answered as the last sample that was stepped or replayed is; a
-- close leaves the lane idle. What holds of each way holds of the call.
use Prim.Native.Nat.{ℕ}
use mathlib.Core.List.{List}
use lib.Dec.{ltb, eqb}
use lib.Ieee.{Float}
use Rattle.arith.specs.Leaves.{lead_len_of}
use Rattle.shared.proofs.Cases.{either}
use Rattle.burst.specs.Types.{Burst}
use Rattle.burst.specs.declared.Lead.{Lead}
use Rattle.burst.specs.Types.{Sampled}
use Rattle.burst.specs.Lead.{lead_add_of}
use Rattle.lane.specs.declared.Answer.{Answer}
use Rattle.lane.specs.declared.Lane.{Lane}
use Rattle.lane.specs.declared.StepArgs.{StepArgs}
use Rattle.lane.specs.Advance.{settled, fill_of, replay_step, lead_step, burst_step, advance_of}
use Rattle.lane.specs.Close.{idle_with, close_of}

module _ (P : Answer × List ℕ × List ℕ → Type 0) (l : Lane) where
  pub step_ways : (s : StepArgs) (ook fsk : List ℕ) → ((ld : Lead) (ring : List Float) → P (fill_of l s ld ring, ook, fsk))
      → ((ld : Lead) (ring : List Float) (r : Sampled × List ℕ × List ℕ) → P (settled l s ld ring r)) → P (advance_of l s ook fsk)
  unfolding advance_of lead_step replay_step burst_step
  step_ways s ook fsk fills settles =
      either P (eqb l.phase 1)
      (either P (ltb (lead_add_of l.lead s.envelope s.x).lead_n (lead_len_of l.settings.min_steps)) (fills _ _) (settles _ _ _))
      (settles _ _ _)

  pub close_ways : (ook fsk : List ℕ) → ((b : Burst) (o : List ℕ) → P (idle_with l b, o, fsk)) → P (close_of l ook fsk)
  unfolding close_of
  close_ways ook fsk idles = either P (eqb l.phase 1) (idles _ _) (idles _ _)
