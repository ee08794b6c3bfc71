-- An accepted step in lead and in burst: demand 2's answer, and what it adds to the record.
use mathlib.Core.Path.{◌≡◌, sym, subst}
use mathlib.Core.Bool.{cond}
use mathlib.Core.List.{List, [], ◌∷◌}
use Prim.Native.Nat.{ℕ}
use lib.Dec.{ltb, eqb}
use lib.Ieee.{Float}
use Rattle.arith.specs.Leaves.{lead_len_of}
use Rattle.shared.specs.declared.Settings.{Settings}
use Rattle.burst.specs.Types.{Burst}
use Rattle.burst.specs.declared.Lead.{Lead}
use Rattle.burst.specs.Sample.{sample_of}
use Rattle.burst.specs.Lead.{lead_add_of, staying}
use Rattle.lane.specs.declared.Lane.{Lane}
use Rattle.lane.specs.declared.Answer.{Answer}
use Rattle.lane.specs.declared.StepArgs.{StepArgs}
use Rattle.lane.specs.Begin.{ring_of, cleared_of}
use Rattle.lane.specs.Advance.{at_of, lead_step, burst_step, advance_of}
use Rattle.pulses.specs.Runs.{Sample}
use Rattle.pulses.specs.Yardstick.{levelled, replayed, phase_after, phases_replayed, burst_at, step_samples, step_phases}

module _ (l : Lane) (s : StepArgs) (ook fsk : List ℕ) where
  abbrev p : Settings
  p = l.settings

  abbrev pub ring : List Float
  ring = ring_of l.ring s.index s.envelope

  -- the lead-in with the sample, and how many it holds
  abbrev pub ld : Lead
  ld = lead_add_of l.lead s.envelope s.x

  abbrev pub len : ℕ
  len = lead_len_of p.min_steps

  abbrev cleared : Burst
  cleared = cleared_of l.burst

  -- what the replay of the lead-in adds, and what a sample of the burst does
  abbrev pub lead_samples : List (Sample Float)
  lead_samples = cond (ltb ld.lead_n len) [] (replayed p s.noise ring ld len 0 (staying (burst_at ld len cleared) ook fsk))

  abbrev pub lead_phases : List ℕ
  lead_phases = cond (ltb ld.lead_n len) [] (phases_replayed p s.noise ring ld len 0 (staying (burst_at ld len cleared) ook fsk))

  abbrev pub own_sample : List (Sample Float)
  own_sample = levelled p (at_of l s) ring cleared ∷ []

  abbrev pub own_phase : List ℕ
  own_phase = phase_after (sample_of p (at_of l s) ring cleared ook fsk) ∷ []

  module _ (P : Answer × List ℕ × List ℕ → List (Sample Float) → List ℕ → Type 0) where
    abbrev At : ℕ → Type 0
    At n = P (cond (eqb n 1) (lead_step l s ring ook fsk) (burst_step l s ring ook fsk)) (cond (eqb n 1) lead_samples own_sample) (cond (eqb n 1) lead_phases own_phase)

    pub lead_step_lem : l.phase ≡ 1 → P (lead_step l s ring ook fsk) lead_samples lead_phases → P (advance_of l s ook fsk) (step_samples l s ook fsk) (step_phases l s ook fsk)
    unfolding advance_of step_samples step_phases
    lead_step_lem q h = subst At (sym q) h

    pub burst_step_lem : l.phase ≡ 2 → P (burst_step l s ring ook fsk) own_sample own_phase → P (advance_of l s ook fsk) (step_samples l s ook fsk) (step_phases l s ook fsk)
    unfolding advance_of step_samples step_phases
    burst_step_lem q h = subst At (sym q) h
