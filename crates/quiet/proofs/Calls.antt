-- The yardstick call by call: its burst under way is calm, and its record has a sample for each call.
use mathlib.Core.Path.{◌≡◌, refl, sym, ap, ◌∙◌}
use mathlib.Core.Bool.{Bool, true, false, cond}
use mathlib.Core.List.{List, [], ◌∷◌, ◌++◌, append-nil}
use Prim.Native.Nat.{ℕ, ◌+◌, ◌<◌}
use native.Mathlib.Omega.{arith}
use lib.Dec.{ltb}
use lib.Ieee.{Float}
use lib.ListN.{length, length-append}
use borrow.Author.Tests.{ltb-true, ltb-false}
use Rattle.std.specs.Prelude.{Ok}
use Rattle.arith.specs.Leaves.{lead_len_of}
use Rattle.shared.specs.declared.Settings.{Settings}
use Rattle.shared.specs.declared.Next.{Next}
use Rattle.shared.specs.declared.Next.TheVariants as next
use Rattle.shared.specs.Counts.{inc}
use Rattle.shared.proofs.Counts.{inc_exact}
use Rattle.refusals.specs.declared.Refusal.{Refusal}
use Rattle.refusals.proofs.Domain.{InDomain}
use Rattle.refusals.proofs.Order.{is_passed}
use Rattle.burst.specs.declared.Lead.{Lead}
use Rattle.burst.specs.Types.{Burst}
use Rattle.burst.specs.Types.{Sampled}
use Rattle.burst.specs.Sample.{sample_of}
use Rattle.burst.specs.Lead.{lead_add_of, staying, replay_from, lead_full_of}
use Rattle.lane.specs.declared.Lane.{Lane}
use Rattle.lane.specs.declared.Answer.{Answer}
use Rattle.lane.specs.declared.StepArgs.{StepArgs}
use Rattle.lane.specs.Answers.{phase_of}
use Rattle.lane.specs.Idle.{idle_lane}
use Rattle.lane.specs.Begin.{ring_of, cleared_of, begin_lead_of, lead_lane}
use Rattle.lane.specs.Advance.{settle_of, settled, fill_of, at_of, replay_step, lead_step, burst_step, advance_of}
use Rattle.lane.specs.Close.{idle_with, close_of}
use Rattle.lane.specs.Serial.{stamp_of, stamped_with}
use Rattle.reached.proofs.Accepted.{step_ways, close_ways}
use Rattle.pulses.specs.Runs.{Sample}
use Rattle.pulses.specs.Yardstick.{lent, Call, opening, begin, step, close, Yardstick, refusal, accepts, levelled, replayed, burst_at, step_samples, step_phases, answered_by, advanced}
use Rattle.shared.proofs.Tests.{clash}
use Rattle.pulses.proofs.BurstState.{full_replays}
use Rattle.pulses.proofs.Phases.{lead_step_lem, burst_step_lem}
use Rattle.pulses.proofs.Accepted.{begin_tells, step_tells}
use Rattle.quiet.specs.Quiet.{quiet_from, quiet, idles, brought, Waits}
use Rattle.quiet.proofs.Low.{Enough}
use Rattle.quiet.proofs.Calm.{Calm, start_calm, sample_calm, replay_calm}

-- The yardstick, the calls of whose burst have brought n samples: in lead they are in the lead-in, which is not full; in burst in the record.
pub data Good (w : Settings → ℕ) (y : Yardstick) (n : ℕ) : Type 0 where
  at_rest : y.lane.phase ≡ 0 → Good w y n
  in_lead : y.lane.phase ≡ 1 → InDomain y.lane.settings → y.recorded ≡ [] → y.lane.lead.lead_n ≡ n → n < lead_len_of y.lane.settings.min_steps → Good w y n
  in_burst : y.lane.phase ≡ 2 → InDomain y.lane.settings → (y.lane.settings.mode ≡ 0 → Calm (w y.lane.settings) y.lane.burst y.recorded × (length y.recorded ≡ n)) → Good w y n

module _ (w : Settings → ℕ) (N : (p : Settings) → InDomain p → Enough p (w p)) where
  -- after a step that answers r and adds ms to the record, whatever `fsk_phase` was
  StepGood : Yardstick → ℕ → Answer × List ℕ × List ℕ → List (Sample Float) → Type 0
  StepGood y n r ms = (phases : List ℕ) → Good w (answered_by y (stamped_with y.lane r) (y.recorded ++ ms) phases) (n + 1)

  module _ (y : Yardstick) (n : ℕ) (D : InDomain y.lane.settings) (s : StepArgs) where
    abbrev p : Settings
    p = y.lane.settings

    abbrev ring : List Float
    ring = ring_of y.lane.ring s.index s.envelope

    -- a sample of a burst, or the replay of its lead-in, is answered
    answered : (ld : Lead) (r : Sampled × List ℕ × List ℕ) (ms : List (Sample Float))
        → (p.mode ≡ 0 → r.0.next ≡ next.Stay → Calm (w p) r.0.burst (y.recorded ++ ms) × (length (y.recorded ++ ms) ≡ n + 1)) → StepGood y n (settled y.lane s ld ring r) ms
    unfolding StepGood settle_of stamp_of phase_of
    answered ld r ms H phases = go r.0.next refl
      where
        go : (x : Next) → r.0.next ≡ x → Good w (answered_by y (stamped_with y.lane (settled y.lane s ld ring r)) (y.recorded ++ ms) phases) (n + 1)
        go next.Stay q =
            in_burst (ap phase_of q) D
            (λ o. let c = H o q in
            (let calm = c.0 in search, c.1))
        go next.Idle q = at_rest (ap phase_of q)
        go (next.IdleAt e) q = at_rest (ap phase_of q)

    -- a step in burst
    burst_good : (fsk : List ℕ) → (p.mode ≡ 0 → Calm (w p) y.lane.burst y.recorded × (length y.recorded ≡ n))
        → StepGood y n (burst_step y.lane s ring y.ook fsk) (levelled p (at_of y.lane s) ring (cleared_of y.lane.burst) ∷ [])
    unfolding burst_step cleared_of
    burst_good fsk H =
        answered y.lane.lead (sample_of p (at_of y.lane s) ring (cleared_of y.lane.burst) y.ook fsk) (levelled p (at_of y.lane s) ring (cleared_of y.lane.burst) ∷ [])
        (λ o q. let c = (H o).0 in (
          sample_calm p D o (w p) (N p D) (at_of y.lane s) ring (cleared_of y.lane.burst) y.ook fsk y.recorded
              (search) q,
          length-append y.recorded (levelled p (at_of y.lane s) ring (cleared_of y.lane.burst) ∷ []) ∙ ap (λ (k : ℕ). k + 1) (H o).1,
        ))

    -- a step in lead
    abbrev ld : Lead
    ld = lead_add_of y.lane.lead s.envelope s.x

    abbrev len : ℕ
    len = lead_len_of p.min_steps

    abbrev replay : List ℕ → List (Sample Float)
    replay fsk = replayed p s.noise ring ld len 0 (staying (burst_at ld len (cleared_of y.lane.burst)) y.ook fsk)

    -- one sample more in the lead-in
    lead_more : y.lane.lead.lead_n ≡ n → n < len → ld.lead_n ≡ n + 1
    unfolding lead_add_of
    lead_more q l = ap inc q ∙ inc_exact n (omega arith)

    -- the lead-in is not full yet
    fill_good : (fsk : List ℕ) → y.recorded ≡ [] → y.lane.lead.lead_n ≡ n → n + 1 < len → StepGood y n (fill_of y.lane s ld ring, y.ook, fsk) []
    unfolding StepGood fill_of stamp_of
    fill_good fsk e q h phases = in_lead refl D (append-nil y.recorded ∙ e) (lead_more q (omega arith)) h

    -- it is full: as many samples as it has are replayed
    replay_good : (fsk : List ℕ) → y.recorded ≡ [] → len ≡ n + 1 → StepGood y n (replay_step y.lane s ld ring y.ook fsk) (replay fsk)
    unfolding replay_step
    replay_good fsk e h =
        answered ld (lead_full_of p s.noise ring ld b y.ook fsk) (replay fsk)
        (λ o z. let c = replay_calm p D o (w p) (N p D) s.noise ring ld len 0 (burst_at ld len b) y.ook fsk [] (start_calm (w p) _ _ _ b (omega (arith, (N p D).longer))) (ap (λ (r : Sampled × List ℕ × List ℕ). r.0.next) (sym full) ∙ z) in
        (rw (e, full) c.0, rw e (c.1 ∙ h)))
      where
        b : Burst
        b = cleared_of y.lane.burst

        full : lead_full_of p s.noise ring ld b y.ook fsk ≡ replay_from p s.noise ring ld len 0 (staying (burst_at ld len b) y.ook fsk)
        full = full_replays p s.noise ring ld b y.ook fsk

    lead_good : (fsk : List ℕ) → y.recorded ≡ [] → y.lane.lead.lead_n ≡ n → n < len → StepGood y n (lead_step y.lane s ring y.ook fsk) (cond (ltb ld.lead_n len) [] (replay fsk))
    unfolding lead_step
    lead_good fsk e q l = go (ltb ld.lead_n len) refl
      where
        go : (b : Bool) → ltb ld.lead_n len ≡ b → StepGood y n (cond b (fill_of y.lane s ld ring, y.ook, fsk) (replay_step y.lane s ld ring y.ook fsk)) (cond b [] (replay fsk))
        go true h = fill_good fsk e q (omega (arith, lead_more q l, ltb-true ld.lead_n len h))
        go false h = replay_good fsk e (omega (arith, lead_more q l, ltb-false ld.lead_n len h))

  -- an accepted step, in either phase
  step_good : (y : Yardstick) (n : ℕ) (s : StepArgs) (fsk : List ℕ) → Good w y n → (y.lane.phase ≡ 0 → ⊥) → StepGood y n (advance_of y.lane s y.ook fsk) (step_samples y.lane s y.ook fsk)
  step_good y n s fsk (at_rest q) h = absurd (h q)
  step_good y n s fsk (in_lead q D e a l) h = lead_step_lem y.lane s y.ook fsk (λ r ms phases. StepGood y n r ms) q (lead_good y n D s fsk e a l)
  step_good y n s fsk (in_burst q D H) h = burst_step_lem y.lane s y.ook fsk (λ r ms phases. StepGood y n r ms) q (burst_good y n D s fsk H)

  -- a close leaves the lane idle
  close_rests : (y : Yardstick) (fsk : List ℕ) → (close_of y.lane y.ook fsk).0.lane.phase ≡ 0
  unfolding idle_with
  close_rests y fsk = close_ways (λ (r : Answer × List ℕ × List ℕ). r.0.lane.phase ≡ 0) y.lane y.ook fsk (λ b o. refl)

  pub call_good : (y : Yardstick) (n : ℕ) (c : Call) (b : Bool) → accepts y c ≡ b → Good w y n → Good w (advanced b y c) (brought b n c)
  unfolding StepGood advanced brought refusal stamp_of idle_lane lead_lane begin_lead_of
  call_good y n c false q G = G
  call_good y n (opening p) true q G = at_rest refl
  call_good y n (begin b ook fsk) true q G =
      let t = begin_tells y.lane b (length ook) (length fsk) (is_passed _ q) in
      in_lead refl t.0 refl refl (omega (arith, t.0.min_steps.0))
  call_good y n (step s o fsk) true q G = step_good y n s fsk G (step_tells y.lane s (length (lent o y.ook)) (length fsk) (is_passed _ q)) (y.phases ++ step_phases y.lane s y.ook fsk)
  call_good y n (close o fsk) true q G = at_rest (close_rests y fsk)

  -- ---- what it tells
  -- fewer samples have come than the bound says
  pub good_waits : (y : Yardstick) (n : ℕ) → Good w y n → Waits w (y, n)
  unfolding Waits
  good_waits y n (at_rest q) h o = absurd (h q)
  good_waits y n (in_lead q D e a l) h o = omega (arith, l)
  good_waits y n (in_burst q D H) h o = omega (arith, (H o).0.few, (H o).1)

  -- a record with quiet in it is that of a burst that has ended
  pub quiet_rests : (y : Yardstick) (n : ℕ) → Good w y n → y.lane.settings.mode ≡ 0 → quiet (w y.lane.settings) y.recorded ≡ true → y.lane.phase ≡ 0
  unfolding quiet_from
  quiet_rests y n (at_rest q) o t = q
  quiet_rests y n (in_lead q D e a l) o t = clash (sym t ∙ ap (quiet (w y.lane.settings)) e)
  quiet_rests y n (in_burst q D H) o t = clash (sym t ∙ (H o).0.loud)

-- ---- the answer
next_idles : (n : Next) → phase_of n ≡ 0 → idles {E = Refusal} (Ok n) ≡ true
unfolding phase_of
next_idles n q = grind arith

-- a step that leaves the lane idle answers so
pub step_idles : (l : Lane) (s : StepArgs) (ook fsk : List ℕ) → (advance_of l s ook fsk).0.lane.phase ≡ 0 → idles (advance_of l s ook fsk).0.reply ≡ true
unfolding fill_of settle_of
step_idles l s ook fsk =
    step_ways (λ (q : Answer × List ℕ × List ℕ). q.0.lane.phase ≡ 0 → idles q.0.reply ≡ true) l s ook fsk (λ ld ring q. absurd (omega (arith, q))) (λ ld ring r q. next_idles r.0.next q)
