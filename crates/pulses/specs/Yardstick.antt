-- The yardstick of demand 3: "Demand 2's written definition, run over the arguments of the list's accepted calls". It has a lane, an OOK
-- buffer and a record of its own, and knows no program: "None of this is read from the program's lane, slots or returned records."
use Rattle.std.specs.Prelude.{Bool, true, false, cond, not, ◌&&◌, List, [], ◌∷◌, ◌++◌, ℕ, zero, suc, ◌+◌, ltb, eqb, pos, length, get_or, Float, ⊤, Result, is_ok}
use Rattle.std.specs.Float.{nan, binary64}
use Rattle.std.specs.Float.Ieee.{of_int}
use Rattle.arith.specs.Leaves.{lead_len_of}
use Rattle.shared.specs.declared.Settings.{Settings}
use Rattle.shared.specs.declared.Out.{Out}
use Rattle.shared.specs.Answers.{is_stay_of}
use Rattle.envelope.specs.declared.At.{At}
use Rattle.envelope.specs.declared.Seen.{Seen}
use Rattle.envelope.specs.See.{see_of}
use Rattle.burst.specs.Types.{Burst}
use Rattle.burst.specs.declared.Lead.{Lead}
use Rattle.burst.specs.Types.{Sampled}
use Rattle.burst.specs.Sample.{sample_of}
use Rattle.burst.specs.Lead.{lead_add_of, largest_of, begin_burst_of, lead_at_of, onward, staying}
use Rattle.lane.specs.declared.Lane.{Lane}
use Rattle.lane.specs.declared.Answer.{Answer}
use Rattle.lane.specs.declared.BeginArgs.{BeginArgs}
use Rattle.lane.specs.declared.StepArgs.{StepArgs}
use Rattle.refusals.specs.declared.Refusal.{Refusal}
use Rattle.lane.specs.Answers.{reply_number_of}
use Rattle.lane.specs.Refusals.{open_refusal, begin_refusal, step_refusal, close_refusal}
use Rattle.lane.specs.Idle.{idle_lane}
use Rattle.lane.specs.Begin.{ring_of, cleared_of, lead_lane}
use Rattle.lane.specs.Advance.{at_of, advance_of}
use Rattle.lane.specs.Close.{close_of}
use Rattle.lane.specs.Serial.{stamped, stamped_with}
use Rattle.lane.specs.Part.{part_of}
use Rattle.lane.specs.Step.{stay, new_lane}
use Rattle.pulses.specs.Runs.{Sample, sample}

-- ---- calls
-- The OOK buffer that a step or a close is lent: as the accepted call before left it, or another.
pub data Lent : Type 0 where
  as_left : Lent
  other : List ℕ → Lent

unfoldable pub lent : Lent → List ℕ → List ℕ
lent as_left ook = ook
lent (other o) ook = o

-- A call with its arguments; begin, step and close have the OOK and the FSK buffer. Document 02, R-13: "Close stands in demand 3's lists
-- too, with the OOK buffer lent as to a step".
pub data Call : Type 0 where
  opening : Settings → Call
  begin : BeginArgs → List ℕ → List ℕ → Call
  step : StepArgs → Lent → List ℕ → Call
  close : Lent → List ℕ → Call

-- A train: the OOK record that decides it, and "that record's part of the OOK buffer, as the call leaves it", fetched by the lane that the
-- call returned (document 02, R-6).
pub record Given : Type 0 where
  pub out : Out
  pub part : List ℕ

-- "where a call of it returns an OOK record that decides one", state 1, and this is the part fetched for it
unfoldable pub given_by : Out → List ℕ → List Given
given_by out part = cond (eqb out.state 1) (record { out = out; part = part } ∷ []) []

-- ---- demand 2's definition, run by itself
-- Its lane and OOK buffer, and of the last burst the record so far, the trains that the definition gives, and its `fsk_phase` after each
-- sample of the record.
pub record Yardstick : Type 0 where
  pub lane : Lane
  pub ook : List ℕ
  pub recorded : List (Sample Float)
  pub trains : List Given
  pub phases : List ℕ

-- "The list starts from the idle lane that never had settings."
unfoldable pub unused : Yardstick
unused = record { lane = new_lane; ook = []; recorded = []; trains = []; phases = [] }

-- A call is accepted where no refusal applies, of document 01's and 13 of document 02: the first that does.
unfoldable pub refusal : Yardstick → Call → Result ⊤ Refusal
refusal y (opening p) = open_refusal y.lane p
refusal y (begin b ook fsk) = begin_refusal y.lane b (length ook) (length fsk)
refusal y (step s o fsk) = step_refusal y.lane s (length (lent o y.ook)) (length fsk)
refusal y (close o fsk) = close_refusal y.lane (length (lent o y.ook)) (length fsk)

abbrev pub accepts : Yardstick → Call → Bool
accepts y c = is_ok (refusal y c)

-- "gives each sample its level, high or low": what the level test of demand 2's `sample` says in this burst, and the run's edge after it
unfoldable pub levelled : Settings → At → List Float → Burst → Sample Float
levelled p a ring b =
    let s : Seen = see_of p a ring b.high b.e_prev b.env b.pac in
    sample s.on s.env.run.t_run

-- "as it is stepped or replayed": the k samples of the lead-in from place i on, after the answer r; "what a replay drops is not in it"
unfoldable pub replayed : Settings → Float → List Float → Lead → ℕ → ℕ → Sampled × List ℕ × List ℕ → List (Sample Float)
replayed p noise ring ld zero i r = []
replayed p noise ring ld (suc k) i r =
    let more : List (Sample Float) = replayed p noise ring ld k (i + 1) (onward p (lead_at_of noise ld i) ring r) in
    cond (is_stay_of r.0.next) (levelled p (lead_at_of noise ld i) ring r.0.burst ∷ more) []

-- Document 02, R-9: `fsk_phase` after each of the same samples, that of the sample which ends the burst among them.
abbrev pub phase_after : Sampled × List ℕ × List ℕ → ℕ
phase_after r = r.0.burst.frame.fsk_phase

unfoldable pub phases_replayed : Settings → Float → List Float → Lead → ℕ → ℕ → Sampled × List ℕ × List ℕ → List ℕ
phases_replayed p noise ring ld zero i r = []
phases_replayed p noise ring ld (suc k) i r =
    let next : Sampled × List ℕ × List ℕ = onward p (lead_at_of noise ld i) ring r in
    cond (is_stay_of r.0.next) (phase_after next ∷ phases_replayed p noise ring ld k (i + 1) next) []

-- the burst at its first sample, with a lead-in of len samples: the one that demand 2's `lead_full_of` replays from (`full_replays` in
-- proofs/BurstState)
abbrev pub burst_at : Lead → ℕ → Burst → Burst
burst_at ld len b = begin_burst_of (largest_of ld.lead_e len) (of_int binary64 (pos ld.lead_at)) (get_or ld.lead_e 0 nan) b

-- "Its samples are begin's, then one for each accepted step." What a step adds to the record: in lead (phase 1) nothing until the
-- lead-in, whose first sample is begin's, is full, and then the samples of its replay; in burst its own.
unfoldable pub step_samples : Lane → StepArgs → List ℕ → List ℕ → List (Sample Float)
step_samples l s ook fsk =
    let ring : List Float = ring_of l.ring s.index s.envelope in
    let ld : Lead = lead_add_of l.lead s.envelope s.x in
    let len : ℕ = lead_len_of l.settings.min_steps in
    let lead : List (Sample Float) = replayed l.settings s.noise ring ld len 0 (staying (burst_at ld len (cleared_of l.burst)) ook fsk) in
    let own : List (Sample Float) = levelled l.settings (at_of l s) ring (cleared_of l.burst) ∷ [] in
    cond (eqb l.phase 1) (cond (ltb ld.lead_n len) [] lead) own

-- and `fsk_phase` after each of them
unfoldable pub step_phases : Lane → StepArgs → List ℕ → List ℕ → List ℕ
step_phases l s ook fsk =
    let ring : List Float = ring_of l.ring s.index s.envelope in
    let ld : Lead = lead_add_of l.lead s.envelope s.x in
    let len : ℕ = lead_len_of l.settings.min_steps in
    let lead : List ℕ = phases_replayed l.settings s.noise ring ld len 0 (staying (burst_at ld len (cleared_of l.burst)) ook fsk) in
    let own : List ℕ = phase_after (sample_of l.settings (at_of l s) ring (cleared_of l.burst) ook fsk) ∷ [] in
    cond (eqb l.phase 1) (cond (ltb ld.lead_n len) [] lead) own

-- demand 2's accepted step and close, on the yardstick's own OOK buffer
abbrev pub step_of : Yardstick → StepArgs → List ℕ → Answer × List ℕ × List ℕ
step_of y s fsk = stamped_with y.lane (advance_of y.lane s y.ook fsk)

abbrev pub closing_of : Yardstick → List ℕ → Answer × List ℕ × List ℕ
closing_of y fsk = stamped_with y.lane (close_of y.lane y.ook fsk)

-- the train that an answer gives: "Fetching a part takes lane and record" (R-6), as the answer has both
abbrev pub fetched : Answer × List ℕ × List ℕ → List Given
fetched r = let out : Out = r.0.lane.burst.out_ook in given_by out (part_of r.0.lane out r.1 r.2)

-- after the answer r, with this record and these phases
abbrev pub answered_by : Yardstick → Answer × List ℕ × List ℕ → List (Sample Float) → List ℕ → Yardstick
answered_by y r xs phases = record { lane = r.0.lane; ook = r.1; recorded = xs; trains = y.trains ++ fetched r; phases = phases }

-- After a call, accepted (true) or refused: "an accepted opening puts a new lane in its place, and a refused call leaves it as it was".
-- "A burst starts with an accepted begin." Each accepted call raises the serial by 1 (R-6). A close adds no sample: the pulses "are those of
-- the record up to the last step" (R-13).
unfoldable pub advanced : Bool → Yardstick → Call → Yardstick
advanced false y c = y
advanced true y (opening p) = record { lane = (stamped y.lane (stay (idle_lane 1 p))).lane; ook = y.ook; recorded = []; trains = []; phases = [] }
advanced true y (begin b ook fsk) = record { lane = (stamped y.lane (stay (lead_lane y.lane b))).lane; ook = ook; recorded = []; trains = []; phases = [] }
advanced true y (step s o fsk) = answered_by y (step_of y s fsk) (y.recorded ++ step_samples y.lane s y.ook fsk) (y.phases ++ step_phases y.lane s y.ook fsk)
advanced true y (close o fsk) = answered_by y (closing_of y fsk) y.recorded y.phases

-- "The burst ends at the first sample whose stepping or replay answers idle or idle-at", numbers 1 and 2, and not stay, 0. An accepted close
-- "ends a burst as if its gap had run out" (R-13). "In lead it gives no train": the record is empty there.
unfoldable pub ends : Bool → Yardstick → Call → Bool
ends false y c = false
ends true y (opening p) = false
ends true y (begin b ook fsk) = false
ends true y (step s o fsk) = not (eqb (reply_number_of (step_of y s fsk).0.reply) 0)
ends true y (close o fsk) = true

-- "each accepted step is lent the OOK buffer as the accepted call before left it", and so is a close; "in a refused call, the OOK buffer may be any"
unfoldable pub lent_well : Bool → Call → Bool
lent_well false c = true
lent_well true (opening p) = true
lent_well true (begin b ook fsk) = true
lent_well true (step s as_left fsk) = true
lent_well true (step s (other o) fsk) = false
lent_well true (close as_left fsk) = true
lent_well true (close (other o) fsk) = false

unfoldable pub handed_on : Yardstick → List Call → Bool
handed_on y [] = true
handed_on y (c ∷ cs) = lent_well (accepts y c) c && handed_on (advanced (accepts y c) y c) cs
