-- The records of an accepted call, whatever the lane value: an opening and a begin leave none, and each that a step or a close leaves has at most
-- max_pulses pairs. So the slots that belong to a record are at most 2 * max_pulses, which the domain ends at max_slots.
use Prim.Native.Nat.{ℕ, ◌*◌, ◌≤◌}
use mathlib.Core.Bool.{Bool, true, false, ◌&&◌}
use mathlib.Core.Path.{◌≡◌, refl}
use mathlib.Core.List.{List}
use native.Mathlib.Omega.{arith}
use lib.ListN.{length, get_or, length-take}
use lib.Dec.{leb, ltb, eqb}
use lib.IntN.{pos}
use lib.Ieee.{Float, nan, binary64, of_int}
use borrow.Author.Tests.{not-true}
use Rattle.std.specs.Prelude.{⊤, Result, Ok, is_ok}
use Rattle.domain.specs.Limits.{max_slots}
use Rattle.arith.specs.Leaves.{lead_len_of}
use Rattle.shared.proofs.Tests.{six_true}
use Rattle.shared.proofs.Cases.{either}
use Rattle.ook.specs.Limits.{EnvWithin, TrainWithin}
use Rattle.ook.specs.declared.Env.{Env}
use Rattle.ook.specs.declared.Train.{Train}
use Rattle.shared.specs.declared.Out.{Out}
use Rattle.shared.specs.declared.Settings.{Settings}
use Rattle.fsk.specs.Types.{Frame}
use Rattle.burst.specs.Types.{Burst}
use Rattle.burst.specs.declared.Lead.{Lead}
use Rattle.burst.specs.Lead.{lead_add_of, largest_of, begin_burst_of, staying, replay_of, lead_full_of}
use Rattle.reached.specs.Limits.{Paired, BurstFits}
use Rattle.reached.proofs.Pairs.{SampledFits, sample_fits, replay_fits, begin_burst_fits}
use Rattle.refusals.proofs.Domain.{InDomain, settings_tell}
use Rattle.refusals.specs.declared.Refusal.{Refusal}
use Rattle.refusals.specs.State.{env_ok, train_ok, out_ok, pres_ok, frame_ok, burst_ok}
use Rattle.reached.proofs.Kept.{cleared_fits, ended_fits}
use Rattle.lane.specs.declared.BeginArgs.{BeginArgs}
use Rattle.lane.specs.declared.StepArgs.{StepArgs}
use Rattle.lane.specs.declared.Lane.{Lane}
use Rattle.lane.specs.declared.Answer.{Answer}
use Rattle.lane.specs.Answers.{reply_number_of}
use Rattle.lane.specs.Refusals.{opened_ok, open_refusal, begin_refusal, step_refusal, close_refusal, Passes}
use Rattle.lane.proofs.Refusals.{opened_tells, lane_passes, by_refusal}
use Rattle.lane.specs.Idle.{no_burst, idle_lane}
use Rattle.lane.specs.Begin.{ring_of, cleared_of, lead_lane}
use Rattle.lane.specs.Advance.{settle_of, fill_of, replay_step, lead_step, at_of, burst_step, advance_of}
use Rattle.lane.specs.Serial.{stamp_of}
use Rattle.lane.specs.Close.{idle_with, close_of}
use Rattle.lane.specs.Step.{unless_refused, opened, begun, stepped, closed}
use Rattle.lane.specs.Part.{front, named_of, part_refusal, part_of}
use Rattle.reached.proofs.Reached.{step_passes, close_passes}

-- ---- what refusal 4's check says of the train and of the frame's pairs

env_tells : (v : Env) → env_ok v ≡ true → EnvWithin v
env_tells v h = grind arith

train_tells : (max : ℕ) (t : Train) → train_ok max t ≡ true → TrainWithin max t
train_tells max t h = grind arith

frame_tells : (max : ℕ) (f : Frame) → frame_ok max f ≡ true → Paired max f.done
unfolding frame_ok
frame_tells max f h = grind arith

burst_tells : (max : ℕ) (b : Burst) → burst_ok max b ≡ true → BurstFits max (cleared_of b)
unfolding burst_ok
burst_tells max b h =
    let q = six_true (env_ok b.env) (train_ok max b.train) (out_ok b.out_ook) (pres_ok b.pres) (frame_ok max b.frame) (out_ok b.out_fsk) h in
    cleared_fits max b (env_tells b.env q.0) (train_tells max b.train q.1) (frame_tells max b.frame q.4)

-- ---- an accepted step

-- what is known of the lane: its settings are of the domain, and its burst passes refusal 4's check
record Ready (l : Lane) : Type 0 where
  domain : InDomain l.settings
  fits : BurstFits l.settings.max_pulses (cleared_of l.burst)

-- out of idle a lane has settings
domain_tells : (had phase : ℕ) (p : Settings) → eqb phase 0 ≡ false → opened_ok had phase p ≡ true → InDomain p
domain_tells had phase p busy h = settings_tell p (opened_tells had phase p h (go (eqb had 0)))
  where
    go : (a : Bool) → (a && eqb phase 0) ≡ false
    go true = busy
    go false = refl

ready : (l : Lane) (s : StepArgs) (m n : ℕ) → step_refusal l s m n ≡ Ok tt → Ready l
ready l s m n e =
    let t = step_passes l s m n e in
    let k : Passes l = lane_passes l t.lane_ok in
    record { domain = domain_tells l.opened l.phase l.settings (not-true (eqb l.phase 0) t.phase_ok) k.had; fits = burst_tells l.settings.max_pulses l.burst k.within }

abbrev AnswerFits : ℕ → Answer × List ℕ × List ℕ → Type 0
AnswerFits max q = BurstFits max q.0.lane.burst

module _ (l : Lane) (s : StepArgs) (r : Ready l) where
  lead_fits : (noise : Float) (ring : List Float) (ld : Lead) (ook fsk : List ℕ) → SampledFits l.settings.max_pulses (lead_full_of l.settings noise ring ld (cleared_of l.burst) ook fsk)
  unfolding lead_full_of replay_of
  lead_fits noise ring ld ook fsk =
      let p : Settings = l.settings in
      let n : Burst = begin_burst_of (largest_of ld.lead_e (lead_len_of p.min_steps)) (of_int binary64 (pos ld.lead_at)) (get_or ld.lead_e 0 nan) (cleared_of l.burst) in
      replay_fits p (omega (arith, r.domain.max_pulses.1)) noise ring ld (lead_len_of p.min_steps) 0 (staying n ook fsk)
      (begin_burst_fits p (omega (arith, r.domain.max_pulses.1)) _ _ _ (cleared_of l.burst) r.fits)

  advance_fits : (ook fsk : List ℕ) → AnswerFits l.settings.max_pulses (advance_of l s ook fsk)
  unfolding advance_of lead_step fill_of replay_step burst_step settle_of
  advance_fits ook fsk =
      let ring : List Float = ring_of l.ring s.index s.envelope in
      let ld : Lead = lead_add_of l.lead s.envelope s.x in
      either (AnswerFits l.settings.max_pulses) (eqb l.phase 1)
      (either (AnswerFits l.settings.max_pulses) (ltb ld.lead_n (lead_len_of l.settings.min_steps))
      r.fits
      (lead_fits s.noise ring ld ook fsk))
      (sample_fits l.settings (omega (arith, r.domain.max_pulses.1)) (at_of l s) ring (cleared_of l.burst) ook fsk r.fits)

-- ---- an accepted close

ready_close : (l : Lane) (m n : ℕ) → close_refusal l m n ≡ Ok tt → Ready l
ready_close l m n e =
    let t = close_passes l m n e in
    let k : Passes l = lane_passes l t.lane_ok in
    record { domain = domain_tells l.opened l.phase l.settings (not-true (eqb l.phase 0) t.phase_ok) k.had; fits = burst_tells l.settings.max_pulses l.burst k.within }

close_fits : (l : Lane) → Ready l → (ook fsk : List ℕ) → AnswerFits l.settings.max_pulses (close_of l ook fsk)
unfolding close_of idle_with
close_fits l r ook fsk =
    either (AnswerFits l.settings.max_pulses) (eqb l.phase 1) r.fits (ended_fits l.settings.max_pulses (omega (arith, r.domain.max_pulses.1)) l.burst ook r.fits)

-- ---- the records of an accepted call

-- neither record has more pairs than max
pub record RecordsFit (max : ℕ) (b : Burst) : Type 0 where
  pub ook_pairs : b.out_ook.pairs ≤ max
  pub fsk_pairs : b.out_fsk.pairs ≤ max

-- both records are cleared: neither decides, and neither has a pair
pub record NoRecords (b : Burst) : Type 0 where
  pub ook_none : b.out_ook.pairs ≡ 0
  pub fsk_none : b.out_fsk.pairs ≡ 0

records_fit_step : (l : Lane) (s : StepArgs) (ook fsk : List ℕ) → step_refusal l s (length ook) (length fsk) ≡ Ok tt → RecordsFit l.settings.max_pulses (stepped l s ook fsk).0.lane.burst
unfolding stepped stamp_of
records_fit_step l s ook fsk e =
    let f : AnswerFits l.settings.max_pulses (advance_of l s ook fsk) = advance_fits l s (ready l s (length ook) (length fsk) e) ook fsk in
    rw e (record { ook_pairs = f.ook_within.room; fsk_pairs = f.fsk_within.room })

records_fit_close : (l : Lane) (ook fsk : List ℕ) → close_refusal l (length ook) (length fsk) ≡ Ok tt → RecordsFit l.settings.max_pulses (closed l ook fsk).0.lane.burst
unfolding closed stamp_of
records_fit_close l ook fsk e =
    let f : AnswerFits l.settings.max_pulses (close_of l ook fsk) = close_fits l (ready_close l (length ook) (length fsk) e) ook fsk in
    rw e (record { ook_pairs = f.ook_within.room; fsk_pairs = f.fsk_within.room })

records_none_begin : (l : Lane) (b : BeginArgs) (ook fsk : List ℕ) → begin_refusal l b (length ook) (length fsk) ≡ Ok tt → NoRecords (begun l b ook fsk).lane.burst
unfolding begun lead_lane cleared_of stamp_of
records_none_begin l b ook fsk e = rw e (record { ook_none = refl; fsk_none = refl })

records_none_open : (l : Lane) (p : Settings) → open_refusal l p ≡ Ok tt → NoRecords (opened l p).lane.burst
unfolding opened idle_lane no_burst stamp_of
records_none_open l p e = rw e (record { ook_none = refl; fsk_none = refl })

-- ---- their slots

-- of the buffers ook and fsk at most `most` slots belong to either record of the lane
pub record PartsFit (most : ℕ) (l : Lane) (ook fsk : List ℕ) : Type 0 where
  pub ook_part : length (part_of l l.burst.out_ook ook fsk) ≤ most
  pub fsk_part : length (part_of l l.burst.out_fsk ook fsk) ≤ most

front_most : (n : ℕ) (s : List ℕ) → length (front n s) ≤ n
unfolding front
front_most n s = either (λ (q : List ℕ). length q ≤ n) (leb n (length s)) (omega (arith, length-take n s)) (omega arith)

part_most : (most : ℕ) (l : Lane) (r : Out) (ook fsk : List ℕ) → 2 * r.pairs ≤ most → length (part_of l r ook fsk) ≤ most
unfolding part_of named_of
part_most most l r ook fsk h =
    let short : List ℕ → Type 0 = λ (q : List ℕ). length q ≤ most in
    either short (is_ok (part_refusal l r))
    (either short (eqb r.state 1)
    (either short (eqb r.fsk 1) (omega (arith, front_most (2 * r.pairs) fsk)) (omega (arith, front_most (2 * r.pairs) ook)))
    (omega arith))
    (omega arith)

parts_fit : (max : ℕ) (l : Lane) → RecordsFit max l.burst → (x y : List ℕ) → PartsFit (2 * max) l x y
parts_fit max l f x y = record { ook_part = part_most _ _ _ x y (omega (arith, f.ook_pairs)); fsk_part = part_most _ _ _ x y (omega (arith, f.fsk_pairs)) }

pub parts_fit_step : (l : Lane) (s : StepArgs) (ook fsk : List ℕ) → step_refusal l s (length ook) (length fsk) ≡ Ok tt → (x y : List ℕ) → PartsFit (2 * l.settings.max_pulses) (stepped l s ook fsk).0.lane x y
parts_fit_step l s ook fsk e = parts_fit l.settings.max_pulses (stepped l s ook fsk).0.lane (records_fit_step l s ook fsk e)

pub parts_fit_close : (l : Lane) (ook fsk : List ℕ) → close_refusal l (length ook) (length fsk) ≡ Ok tt → (x y : List ℕ) → PartsFit (2 * l.settings.max_pulses) (closed l ook fsk).0.lane x y
parts_fit_close l ook fsk e = parts_fit l.settings.max_pulses (closed l ook fsk).0.lane (records_fit_close l ook fsk e)

none_most : (most : ℕ) (l : Lane) → NoRecords l.burst → (x y : List ℕ) → PartsFit most l x y
none_most most l n x y = record { ook_part = part_most most l _ x y (omega (arith, n.ook_none)); fsk_part = part_most most l _ x y (omega (arith, n.fsk_none)) }

pub parts_fit_begin : (l : Lane) (b : BeginArgs) (ook fsk : List ℕ) → begin_refusal l b (length ook) (length fsk) ≡ Ok tt → (most : ℕ) (x y : List ℕ) → PartsFit most (begun l b ook fsk).lane x y
parts_fit_begin l b ook fsk e most = none_most most (begun l b ook fsk).lane (records_none_begin l b ook fsk e)

pub parts_fit_open : (l : Lane) (p : Settings) → open_refusal l p ≡ Ok tt → (most : ℕ) (x y : List ℕ) → PartsFit most (opened l p).lane x y
parts_fit_open l p e most = none_most most (opened l p).lane (records_none_open l p e)

pub slots_close : (l : Lane) (m n : ℕ) → close_refusal l m n ≡ Ok tt → 2 * l.settings.max_pulses ≤ max_slots
slots_close l m n e = omega (arith, (ready_close l m n e).domain.max_pulses.1)

pub slots_step : (l : Lane) (s : StepArgs) (m n : ℕ) → step_refusal l s m n ≡ Ok tt → 2 * l.settings.max_pulses ≤ max_slots
slots_step l s m n e = omega (arith, (ready l s m n e).domain.max_pulses.1)

-- ---- a call that does not answer 3 is accepted

abbrev Accepts : Result ⊤ Refusal → Answer → Type 0
Accepts k a = (reply_number_of a.reply ≡ 3 → ⊥) → k ≡ Ok tt

-- k is the first check that fails
not_three : {A : Type 0} (answer : A → Answer) (k : Result ⊤ Refusal) (a : A) (g : Refusal → A) → ((r : Refusal) → reply_number_of (answer (g r)).reply ≡ 3) → Accepts k (answer (unless_refused k a g))
not_three answer k a g three = by_refusal (λ x. Accepts k (answer x)) k (λ q h. q) (λ r q h. absurd (h (three r)))

pub answered_open : (l : Lane) (p : Settings) → Accepts (open_refusal l p) (opened l p)
unfolding opened
answered_open l p = not_three (λ (a : Answer). a) _ _ _ (λ r. refl)

pub answered_begin : (l : Lane) (b : BeginArgs) (ook fsk : List ℕ) → Accepts (begin_refusal l b (length ook) (length fsk)) (begun l b ook fsk)
unfolding begun
answered_begin l b ook fsk = not_three (λ (a : Answer). a) _ _ _ (λ r. refl)

pub answered_step : (l : Lane) (s : StepArgs) (ook fsk : List ℕ) → Accepts (step_refusal l s (length ook) (length fsk)) (stepped l s ook fsk).0
unfolding stepped
answered_step l s ook fsk = not_three (λ (q : Answer × List ℕ × List ℕ). q.0) _ _ _ (λ r. refl)

pub answered_close : (l : Lane) (ook fsk : List ℕ) → Accepts (close_refusal l (length ook) (length fsk)) (closed l ook fsk).0
unfolding closed
answered_close l ook fsk = not_three (λ (q : Answer × List ℕ × List ℕ). q.0) _ _ _ (λ r. refl)
