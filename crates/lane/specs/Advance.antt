-- An accepted step: `Lane::lead` in the phase lead, `Lane::sample` in the phase burst.
use Rattle.std.specs.Prelude.{ℕ, cond, List, ltb, eqb, Float, Ok}
use Rattle.arith.specs.Leaves.{lead_len_of}
use Rattle.shared.specs.declared.Next.TheVariants as next
use Rattle.envelope.specs.declared.At.{At}
use Rattle.burst.specs.declared.Lead.{Lead}
use Rattle.burst.specs.Types.{Sampled}
use Rattle.burst.specs.Sample.{sample_of}
use Rattle.burst.specs.Lead.{lead_add_of, lead_full_of}
use Rattle.lane.specs.declared.StepArgs.{StepArgs}
use Rattle.lane.specs.declared.Lane.{Lane}
use Rattle.lane.specs.declared.Answer.{Answer}
use Rattle.lane.specs.Answers.{phase_of}
use Rattle.lane.specs.Begin.{lane_of, ring_of, cleared_of}

-- the lane and the reply after the last sample that was stepped or replayed
unfoldable pub settle_of : Lane → StepArgs → Lead → List Float → Sampled → Answer
settle_of l s ld ring r = record { reply = Ok r.next; lane = lane_of l (phase_of r.next) s.index s.x ld ring r.burst }

abbrev pub settled : Lane → StepArgs → Lead → List Float → Sampled × List ℕ × List ℕ → Answer × List ℕ × List ℕ
settled l s ld ring r = (settle_of l s ld ring r.0, r.1, r.2)

-- lead: the sample joins the lead-in; until that is full nothing is replayed and `high` is not read
unfoldable pub fill_of : Lane → StepArgs → Lead → List Float → Answer
fill_of l s ld ring = record { reply = Ok next.Stay; lane = lane_of l 1 s.index s.x ld ring (cleared_of l.burst) }

unfoldable pub replay_step : Lane → StepArgs → Lead → List Float → List ℕ → List ℕ → Answer × List ℕ × List ℕ
replay_step l s ld ring ook fsk = settled l s ld ring (lead_full_of l.settings s.noise ring ld (cleared_of l.burst) ook fsk)

abbrev pub lead_step_with : Lane → StepArgs → Lead → List Float → List ℕ → List ℕ → Answer × List ℕ × List ℕ
lead_step_with l s ld ring ook fsk =
    cond (ltb ld.lead_n (lead_len_of l.settings.min_steps)) (fill_of l s ld ring, ook, fsk) (replay_step l s ld ring ook fsk)

unfoldable pub lead_step : Lane → StepArgs → List Float → List ℕ → List ℕ → Answer × List ℕ × List ℕ
lead_step l s ring ook fsk = lead_step_with l s (lead_add_of l.lead s.envelope s.x) ring ook fsk

-- what a sample of the burst reads; the previous sample is the one of the call before
abbrev pub at_of : Lane → StepArgs → At
at_of l s = record { idx = s.index; lead_at = l.lead.lead_at; noise = s.noise; e = s.envelope; x = s.x; xp = l.x_prev }

unfoldable pub burst_step : Lane → StepArgs → List Float → List ℕ → List ℕ → Answer × List ℕ × List ℕ
burst_step l s ring ook fsk = settled l s l.lead ring (sample_of l.settings (at_of l s) ring (cleared_of l.burst) ook fsk)

abbrev pub phase_step : Lane → StepArgs → List Float → List ℕ → List ℕ → Answer × List ℕ × List ℕ
phase_step l s ring ook fsk = cond (eqb l.phase 1) (lead_step l s ring ook fsk) (burst_step l s ring ook fsk)

-- the envelope goes to the ring, then the phase's work
unfoldable pub advance_of : Lane → StepArgs → List ℕ → List ℕ → Answer × List ℕ × List ℕ
advance_of l s ook fsk = phase_step l s (ring_of l.ring s.index s.envelope) ook fsk
