-- The yardstick alone, call by call: its burst under way follows the run machine, and one that ends gives what demand 3 asks.
use mathlib.Core.Path.{◌≡◌, refl, sym, ap, ◌∙◌, subst}
use mathlib.Core.Bool.{Bool, true, false, cond, not}
use mathlib.Core.List.{List, [], ◌∷◌, ◌++◌, append-nil}
use Prim.Native.Nat.{ℕ, ◌+◌, ◌*◌, ◌≤◌}
use native.Mathlib.Omega.{arith}
use lib.Dec.{ltb, eqb}
use lib.ListN.{length}
use lib.Ieee.{Float}
use Rattle.arith.specs.Leaves.{lead_len_of}
use Rattle.shared.specs.declared.Settings.{Settings}
use Rattle.shared.specs.declared.Out.{Out}
use Rattle.shared.specs.Core.{numbered}
use Rattle.shared.specs.declared.Next.{Next}
use Rattle.shared.specs.declared.Next.TheVariants as next
use Rattle.burst.specs.declared.Lead.{Lead}
use Rattle.burst.specs.Types.{Sampled}
use Rattle.burst.specs.Sample.{sample_of}
use Rattle.burst.specs.Lead.{lead_add_of, staying, lead_full_of}
use Rattle.shared.specs.Answers.{next_number_of}
use Rattle.refusals.proofs.Domain.{InDomain}
use Rattle.refusals.proofs.Order.{is_passed}
use Rattle.lane.specs.declared.Lane.{Lane}
use Rattle.lane.specs.declared.Answer.{Answer}
use Rattle.lane.specs.declared.StepArgs.{StepArgs}
use Rattle.lane.specs.Answers.{reply_number_of, phase_of}
use Rattle.lane.specs.Idle.{no_out, idle_lane}
use Rattle.lane.specs.Begin.{ring_of, cleared_of, lead_lane}
use Rattle.lane.specs.Advance.{settle_of, settled, fill_of, at_of, replay_step, lead_step, burst_step, advance_of}
use Rattle.lane.specs.Close.{idle_with, end_burst_of, close_of}
use Rattle.lane.specs.Serial.{stamp_of, stamped_with}
use Rattle.lane.specs.Part.{part_of}
use Rattle.lane.proofs.PartLaws.{part_named}
use Rattle.pulses.specs.Runs.{Sample, pulses}
use Rattle.pulses.specs.Yardstick.{lent, Call, opening, begin, step, close, Yardstick, refusal, accepts, levelled, replayed, phase_after, phases_replayed, burst_at, step_samples, step_phases, fetched, answered_by, advanced, ends}
use Rattle.pulses.specs.Demand.{Gives}
use Rattle.shared.proofs.Tests.{clash}
use Rattle.pulses.proofs.Machine.{emitted}
use Rattle.pulses.proofs.TrainState.{Claim, no_pulse, claim_numbered}
use Rattle.pulses.proofs.OokSample.{given, stays, over, idle_not, idle_at_not, train_ends}
use Rattle.pulses.proofs.BurstState.{Under, Next-is, Listed, apart, listed_on, listed_before, sample_frames, stepped_follows, full_follows}
use Rattle.pulses.proofs.BurstEnd.{given_none, claim_gives}
use Rattle.pulses.proofs.Phases.{lead_step_lem, burst_step_lem}
use Rattle.pulses.proofs.Accepted.{begin_tells, step_tells, close_tells}

-- the burst's pulses are listed
abbrev pub ListedAt : Yardstick → Type 0
ListedAt y = Listed y.lane.settings y.phases y.lane.burst.frames

-- in burst, where they are
pub record Running (y : Yardstick) : Type 0 where
  pub under : Under y.lane.settings y.lane.burst y.ook y.recorded
  pub no_trains : y.trains ≡ []

-- in lead there is no record yet, and the buffer has room
pub record Leading (y : Yardstick) : Type 0 where
  pub unrecorded : y.recorded ≡ []
  pub no_trains : y.trains ≡ []
  pub room : 2 * y.lane.settings.max_pulses ≤ length y.ook

pub data Good (y : Yardstick) : Type 0 where
  at_rest : y.lane.phase ≡ 0 → Good y
  in_lead : y.lane.phase ≡ 1 → InDomain y.lane.settings → Leading y → Good y
  in_burst : y.lane.phase ≡ 2 → InDomain y.lane.settings → (ListedAt y → Running y) → Good y

-- after a call that ends a burst where e is true
unfoldable pub Fine : Yardstick → Bool → Type 0
Fine y e = Good y × (e ≡ true → ListedAt y → Gives y.lane.settings (pulses y.lane.settings.min_steps y.recorded) y.trains)

abbrev ends_with : Answer × List ℕ × List ℕ → Bool
ends_with r = not (eqb (reply_number_of r.0.reply) 0)

-- the step answers r, to which the serial is still to come, and adds ms to the record, after which fsk_phase is as in ns
StepFine : Yardstick → Answer × List ℕ × List ℕ → List (Sample Float) → List ℕ → Type 0
StepFine y r ms ns = Fine (answered_by y (stamped_with y.lane r) (y.recorded ++ ms) (y.phases ++ ns)) (ends_with r)

-- a close answers r and adds nothing
CloseFine : Yardstick → Answer × List ℕ × List ℕ → Type 0
CloseFine y r = Fine (answered_by y (stamped_with y.lane r) y.recorded y.phases) true

module _ (y : Yardstick) (D : InDomain y.lane.settings) where
  abbrev p : Settings
  p = y.lane.settings

  -- an answer that ends a burst of the record xs, which has given no train before
  end_gives : (r : Answer × List ℕ × List ℕ) (xs : List (Sample Float)) → y.trains ≡ [] → Claim p.carry p.max_pulses (given p xs) r.0.lane.burst.out_ook r.1
      → Gives p (pulses p.min_steps xs) (y.trains ++ fetched (stamped_with y.lane r))
  unfolding stamp_of
  end_gives r xs t C = rw t (claim_gives p D xs out r.1 r.2 (part_of lane out r.1 r.2) (part_named lane out r.1 r.2 refl (omega arith)) (claim_numbered number C))
    where
      number : ℕ
      number = y.lane.serial + 1

      lane : Lane
      lane = stamp_of number r.0.lane

      out : Out
      out = numbered number r.0.lane.burst.out_ook

  -- a close in lead and in burst
  close_lead : Leading y → (fsk : List ℕ) → CloseFine y (idle_with y.lane (cleared_of y.lane.burst), y.ook, fsk)
  unfolding CloseFine Fine idle_with stamp_of cleared_of emitted
  close_lead L fsk = (at_rest refl, λ e o. rw L.unrecorded (end_gives (idle_with y.lane (cleared_of y.lane.burst), y.ook, fsk) [] L.no_trains (no_pulse refl refl)))

  close_burst : (fsk : List ℕ) → (ListedAt y → Running y)
      → CloseFine y (idle_with y.lane (end_burst_of y.lane.burst y.ook).0, (end_burst_of y.lane.burst y.ook).1, fsk)
  unfolding CloseFine Fine idle_with end_burst_of stamp_of cleared_of
  close_burst fsk R = (
    at_rest refl,
    λ e o. end_gives (idle_with y.lane (end_burst_of y.lane.burst y.ook).0, (end_burst_of y.lane.burst y.ook).1, fsk) y.recorded (R o).no_trains
        (train_ends p D y.lane.burst.env y.lane.burst.train no_out y.ook y.recorded (record { run = (R o).under.run; train = (R o).under.train; undecided = refl }) y.lane.burst.high),
  )

  -- ---- steps
  module _ (s : StepArgs) where
    -- a sample of a burst, or the replay of its lead-in, is answered
    answered : (ld : Lead) (ring : List Float) (r : Sampled × List ℕ × List ℕ) (ms : List (Sample Float)) (ns : List ℕ)
        → (Listed p (y.phases ++ ns) r.0.burst.frames → Next-is p r (y.recorded ++ ms)) → (Listed p (y.phases ++ ns) r.0.burst.frames → y.trains ≡ [])
        → StepFine y (settled y.lane s ld ring r) ms ns
    unfolding StepFine Fine settle_of stamp_of phase_of
    answered ld ring r ms ns H T = go r.0.next refl
      where
        y' : Yardstick
        y' = answered_by y (stamped_with y.lane (settled y.lane s ld ring r)) (y.recorded ++ ms) (y.phases ++ ns)

        on_stay : r.0.next ≡ next.Stay → Next-is p r (y.recorded ++ ms) → y.trains ≡ [] → Running y'
        on_stay n (stays n' F) t = record { under = search; no_trains = rw t (given_none _ _ F.undecided) }
        on_stay n (over n' C') t = absurd (n' n)

        on_end : (r.0.next ≡ next.Stay → ⊥) → Next-is p r (y.recorded ++ ms) → y.trains ≡ [] → Gives p (pulses p.min_steps (y.recorded ++ ms)) y'.trains
        on_end n (stays n' F) t = absurd (n n')
        on_end n (over n' C') t = end_gives (settled y.lane s ld ring r) (y.recorded ++ ms) t C'

        go : (n : Next) → r.0.next ≡ n
            → Good y' × (not (eqb (next_number_of n) 0) ≡ true → Listed p (y.phases ++ ns) r.0.burst.frames → Gives p (pulses p.min_steps (y.recorded ++ ms)) y'.trains)
        go next.Stay n = (in_burst (ap phase_of n) D (λ o. on_stay n (H o) (T o)), λ e. clash (sym e))
        go next.Idle n = (at_rest (ap phase_of n), λ e o. on_end (λ q. idle_not (sym n ∙ q)) (H o) (T o))
        go (next.IdleAt v) n = (at_rest (ap phase_of n), λ e o. on_end (λ q. idle_at_not v (sym n ∙ q)) (H o) (T o))

    -- a step in burst
    abbrev ring : List Float
    ring = ring_of y.lane.ring s.index s.envelope

    -- and its sample
    abbrev own : List ℕ → Sampled × List ℕ × List ℕ
    own fsk = sample_of p (at_of y.lane s) ring (cleared_of y.lane.burst) y.ook fsk

    burst_fine : (fsk : List ℕ) → (ListedAt y → Running y)
        → StepFine y (burst_step y.lane s ring y.ook fsk) (levelled p (at_of y.lane s) ring (cleared_of y.lane.burst) ∷ []) (phase_after (own fsk) ∷ [])
    unfolding burst_step cleared_of
    burst_fine fsk R =
        answered y.lane.lead ring (own fsk) (levelled p (at_of y.lane s) ring (cleared_of y.lane.burst) ∷ []) (phase_after (own fsk) ∷ [])
        (λ o. stepped_follows p D (at_of y.lane s) ring (cleared_of y.lane.burst) y.ook fsk y.recorded
        (record { run = (R (before o)).under.run; train = (R (before o)).under.train; undecided = refl })
        (apart p (own fsk).0.burst [] (own fsk).0.burst.frames (λ q z. z) (listed_on p y.phases (phase_after (own fsk) ∷ []) _ o)))
        (λ o. (R (before o)).no_trains)
      where
        before : Listed p (y.phases ++ (phase_after (own fsk) ∷ [])) (own fsk).0.burst.frames → ListedAt y
        before o = listed_before p y.phases (phase_after (own fsk) ∷ []) _ _ (sample_frames p D (at_of y.lane s) ring (cleared_of y.lane.burst) y.ook fsk) o

    -- a step in lead
    abbrev ld : Lead
    ld = lead_add_of y.lane.lead s.envelope s.x

    abbrev len : ℕ
    len = lead_len_of p.min_steps

    wait_fine : Leading y → (fsk : List ℕ) → StepFine y (fill_of y.lane s ld ring, y.ook, fsk) [] []
    unfolding StepFine Fine fill_of stamp_of cleared_of
    wait_fine L fsk = (
      in_lead refl D
          (record {
            unrecorded = append-nil y.recorded ∙ L.unrecorded;
            no_trains = rw L.no_trains (given_none _ _ refl);
            room = L.room;
          }),
      λ e. clash (sym e),
    )

    -- what the replay of the lead-in adds to the record
    abbrev replay : List ℕ → List (Sample Float)
    replay fsk = replayed p s.noise ring ld len 0 (staying (burst_at ld len (cleared_of y.lane.burst)) y.ook fsk)

    abbrev phases : List ℕ → List ℕ
    phases fsk = phases_replayed p s.noise ring ld len 0 (staying (burst_at ld len (cleared_of y.lane.burst)) y.ook fsk)

    replay_fine : Leading y → (fsk : List ℕ) → StepFine y (replay_step y.lane s ld ring y.ook fsk) (replay fsk) (phases fsk)
    unfolding replay_step cleared_of
    replay_fine L fsk =
        answered ld ring (lead_full_of p s.noise ring ld (cleared_of y.lane.burst) y.ook fsk) (replay fsk) (phases fsk)
        (λ o. rw L.unrecorded (full_follows p D s.noise ring ld (cleared_of y.lane.burst) y.ook fsk refl L.room (listed_on p y.phases (phases fsk) _ o)))
        (λ o. L.no_trains)

    lead_fine : Leading y → (fsk : List ℕ) → StepFine y (lead_step y.lane s ring y.ook fsk) (cond (ltb ld.lead_n len) [] (replay fsk)) (cond (ltb ld.lead_n len) [] (phases fsk))
    unfolding lead_step
    lead_fine L fsk = go (ltb ld.lead_n len)
      where
        go : (b : Bool) → StepFine y (cond b (fill_of y.lane s ld ring, y.ook, fsk) (replay_step y.lane s ld ring y.ook fsk)) (cond b [] (replay fsk)) (cond b [] (phases fsk))
        go true = wait_fine L fsk
        go false = replay_fine L fsk

-- an accepted step, in either phase
step_fine : (y : Yardstick) (s : StepArgs) (fsk : List ℕ) → Good y → (y.lane.phase ≡ 0 → ⊥) → StepFine y (advance_of y.lane s y.ook fsk) (step_samples y.lane s y.ook fsk)
    (step_phases y.lane s y.ook fsk)
step_fine y s fsk (at_rest q) h = absurd (h q)
step_fine y s fsk (in_lead q D L) h = lead_step_lem y.lane s y.ook fsk (StepFine y) q (lead_fine y D s L fsk)
step_fine y s fsk (in_burst q D R) h = burst_step_lem y.lane s y.ook fsk (StepFine y) q (burst_fine y D s fsk R)

-- an accepted close, in either phase
close_fine : (y : Yardstick) (fsk : List ℕ) → Good y → (y.lane.phase ≡ 0 → ⊥) → CloseFine y (close_of y.lane y.ook fsk)
unfolding close_of
close_fine y fsk G h = go G
  where
    In : ℕ → Type 0
    In n = CloseFine y
        (cond (eqb n 1) (idle_with y.lane (cleared_of y.lane.burst), y.ook, fsk)
        (idle_with y.lane (end_burst_of y.lane.burst y.ook).0, (end_burst_of y.lane.burst y.ook).1, fsk))

    go : Good y → In y.lane.phase
    go (at_rest q) = absurd (h q)
    go (in_lead q D L) = subst In (sym q) (close_lead y D L fsk)
    go (in_burst q D R) = subst In (sym q) (close_burst y D fsk R)

pub call_fine : (y : Yardstick) (c : Call) (b : Bool) → accepts y c ≡ b → Good y → Fine (advanced b y c) (ends b y c)
unfolding Fine StepFine CloseFine advanced ends refusal stamp_of idle_lane lead_lane
call_fine y c false q G = (G, λ e. clash (sym e))
call_fine y (opening p) true q G = (at_rest refl, λ e. clash (sym e))
call_fine y (begin b ook fsk) true q G =
    let t = begin_tells y.lane b (length ook) (length fsk) (is_passed _ q) in
    (in_lead refl t.0 (record { unrecorded = refl; no_trains = refl; room = t.1 }), λ e. clash (sym e))
call_fine y (step s o fsk) true q G = step_fine y s fsk G (step_tells y.lane s (length (lent o y.ook)) (length fsk) (is_passed _ q))
call_fine y (close o fsk) true q G = close_fine y fsk G (close_tells y.lane (length (lent o y.ook)) (length fsk) (is_passed _ q))

pub good : (y : Yardstick) (e : Bool) → Fine y e → Good y
unfolding Fine
good y e F = F.0

pub none_yet : (y : Yardstick) → Good y → (y.lane.phase ≡ 0 → ⊥) → ListedAt y → y.trains ≡ []
none_yet y (at_rest q) h o = absurd (h q)
none_yet y (in_lead q D L) h o = L.no_trains
none_yet y (in_burst q D R) h o = (R o).no_trains
