-- The lanes that calls hand back, from the one that never had settings on, pass refusal 4's check: each accepted call leads from a sound lane to a sound
-- lane, and a refused one leaves it. So no list of calls meets refusal 4.
use Prim.Native.Nat.{ℕ, ◌+◌, ◌<◌, ◌≤◌}
use mathlib.Core.Bool.{Bool, true, not, ◌&&◌}
use mathlib.Core.Path.{◌≡◌, refl, sym, ap, ◌∙◌}
use mathlib.Core.List.{List}
use native.Mathlib.Omega.{arith}
use lib.ListN.{length, get_or}
use lib.Dec.{ltb, eqb}
use lib.IntN.{pos}
use lib.Ieee.{Float, nan, binary64, of_int, of_bits, to_bits}
use borrow.Author.Tests.{leb-true, le-leb, ltb-true, eqb-false, not-true}
use Rattle.std.specs.Prelude.{Ok, Err}
use Rattle.domain.specs.Limits.{max_index, spent_serial, max_serial}
use Rattle.arith.specs.Leaves.{lead_len_of}
use Rattle.shared.specs.declared.Settings.{Settings}
use Rattle.shared.proofs.Cases.{either, by_test}
use Rattle.shared.specs.Answers.{is_stay_of}
use Rattle.shared.specs.declared.Next.{Next}
use Rattle.burst.specs.Makers.{with_serials}
use Rattle.burst.specs.Types.{Burst}
use Rattle.burst.specs.declared.Lead.{Lead}
use Rattle.burst.specs.Types.{Sampled}
use Rattle.burst.specs.Lead.{lead_add_of, largest_of, begin_burst_of, staying, replay_of, lead_full_of}
use Rattle.refusals.proofs.Domain.{InDomain, settings_tell}
use Rattle.refusals.specs.Domain.{settings_ok, unset_ok, index_ok, room_ok}
use Rattle.refusals.specs.State.{burst_ok, frame_ok, lead_ok, cand_ok}
use Rattle.refusals.specs.declared.Refusal.TheVariants as refusal
use Rattle.refusals.specs.Order.{first_failed}
use Rattle.refusals.proofs.Order.{passed, AllPassed, none_failed}
use Rattle.shared.proofs.Tests.{clash, both_true}
use Rattle.reached.specs.Limits.{BurstWithin, UnderWay}
use Rattle.reached.proofs.Burst.{SampledWithin, sample_within, replay_within, begin_burst_within}
use Rattle.reached.proofs.Kept.{burst_ok_lem, cand_ok_lem, none_within, cleared_within, cleared_runs, factor_within, ended_within, serials_within}
use Rattle.lane.specs.declared.BeginArgs.{BeginArgs}
use Rattle.lane.specs.declared.StepArgs.{StepArgs}
use Rattle.lane.specs.declared.Lane.{Lane}
use Rattle.lane.specs.declared.Answer.{Answer}
use Rattle.lane.specs.Answers.{phase_of}
use Rattle.refusals.specs.Serial.{serial_left}
use Rattle.lane.specs.Refusals.{opened_ok, lane_ok, follows_of, begin_floats_ok, step_floats_ok, open_refusal, begin_refusal, step_refusal, close_refusal}
use Rattle.lane.proofs.Refusals.{passes_lane, open_left, begin_left, by_refusal}
use Rattle.lane.specs.Idle.{no_burst, idle_lane}
use Rattle.lane.specs.Begin.{cleared_of, begin_lead_of, lead_lane, lane_of}
use Rattle.lane.specs.Advance.{settle_of, fill_of, replay_step, lead_step, burst_step, advance_of}
use Rattle.lane.specs.Serial.{stamp_of}
use Rattle.lane.specs.Close.{idle_with, end_burst_of, close_of}
use Rattle.lane.specs.Step.{new_lane, opened, begun, stepped, closed}
use Rattle.reached.specs.Reached.{Reached, new, opening, beginning, stepping, closing, Kept, Counts, Within, Sound, unopened, within}

lead_ok_lem : (phase m : ℕ) (ld : Lead) → (phase ≡ 1 → ld.lead_n < lead_len_of m) → ld.lead_at ≤ max_index → lead_ok phase m ld ≡ true
unfolding lead_ok
lead_ok_lem phase m ld n a = grind arith

had_ok : (had phase : ℕ) (p : Settings) → had ≡ 1 → settings_ok p ≡ true → opened_ok had phase p ≡ true
unfolding opened_ok
had_ok had phase p e h = rw e (rw h refl)

pub sound_ok : {l : Lane} → Sound l → lane_ok l ≡ true
unfolding new_lane idle_lane no_burst lane_ok opened_ok unset_ok burst_ok frame_ok lead_ok cand_ok of_bits to_bits
sound_ok unopened = refl
sound_ok {l} (within w) =
    let h = w.kept in
    passes_lane l
    (record {
      had = had_ok l.opened l.phase l.settings h.had h.domain;
      named = le-leb l.phase 2 h.named;
      within = burst_ok_lem (settings_tell l.settings h.domain) h.held;
      filled = lead_ok_lem l.phase l.settings.min_steps l.lead h.filled h.from;
      waits = cand_ok_lem l.phase h.held;
      near = le-leb l.last max_index h.near;
      counted = le-leb l.serial max_serial (omega (arith, w.counted.idle, h.near));
    })

-- an accepted call raises the serial
raises : {phase last n : ℕ} → n ≤ spent_serial + last → Counts phase last n
raises h = record { busy = λ b. h; idle = omega arith }

stamp_sound : {l : Lane} (n : ℕ) → Kept l → Counts l.phase l.last n → Sound (stamp_of n l)
unfolding stamp_of
stamp_sound {l} n r c =
    let k : Kept (stamp_of n l) = let held = serials_within n (omega (arith, c.idle, r.near)) r.held in search in
    let w : Within (stamp_of n l) = record { kept = k; counted = c; own_ook = refl; own_fsk = refl } in
    within w

-- opening
idle_kept : (p : Settings) → settings_ok p ≡ true → Kept (idle_lane 1 p)
unfolding idle_lane
idle_kept p q =
    search (none_within, arith)

pub open_sound : {l : Lane} (p : Settings) → Sound l → Sound (opened l p).lane
unfolding opened open_refusal
open_sound {l} p h =
    by_refusal (λ (a : Answer). Sound a.lane) (open_refusal l p)
    (λ q. stamp_sound (l.serial + 1) (idle_kept p (passed refusal.Settings (settings_ok p) _ q).0) (raises (omega (arith, open_left l p q))))
    (λ k q. h)

-- begin
begin_passes : (l : Lane) (b : BeginArgs) (m n : ℕ) → begin_refusal l b m n ≡ Ok tt
    → AllPassed (not (eqb l.opened 0)) (lane_ok l) (eqb l.phase 0) (serial_left l.serial) (index_ok b.index) (begin_floats_ok b) (room_ok l.settings m n)
unfolding begin_refusal
begin_passes l b m n e = none_failed (not (eqb l.opened 0)) (lane_ok l) (eqb l.phase 0) (serial_left l.serial) (index_ok b.index) (begin_floats_ok b) (room_ok l.settings m n) e

lead_sound : {l : Lane} (b : BeginArgs) (m n : ℕ) → begin_refusal l b m n ≡ Ok tt → Sound l → Sound (stamp_of (l.serial + 1) (lead_lane l b))
unfolding lead_lane begin_lead_of new_lane idle_lane
lead_sound b m n e unopened = clash (sym (begin_passes new_lane b m n e).settings_ok)
lead_sound {l} b m n e (within w) =
    let h = w.kept in
    let t = begin_passes l b m n e in
    let i : b.index ≤ max_index = leb-true b.index max_index t.index_ok in
    let d : InDomain l.settings = settings_tell l.settings h.domain in
    let held = factor_within b.factor (cleared_within h.held) in
    let room = d.min_steps in
    let r : Kept (lead_lane l b) = search arith in
    stamp_sound (l.serial + 1) r (raises (omega (arith, begin_left l b m n e)))

pub begin_sound : {l : Lane} (b : BeginArgs) (ook fsk : List ℕ) → Sound l → Sound (begun l b ook fsk).lane
unfolding begun
begin_sound {l} b ook fsk h =
    by_refusal (λ (a : Answer). Sound a.lane) (begin_refusal l b (length ook) (length fsk))
    (λ q. lead_sound b (length ook) (length fsk) q h)
    (λ k q. h)

-- the replay of a lead-in
lead_within : (p : Settings) (noise : Float) (ring : List Float) (ld : Lead) (b : Burst) (ook fsk : List ℕ) → InDomain p → BurstWithin p b → SampledWithin p (lead_full_of p noise ring ld b ook fsk).0
unfolding lead_full_of replay_of
lead_within p noise ring ld b ook fsk d h =
    let n : Burst = begin_burst_of (largest_of ld.lead_e (lead_len_of p.min_steps)) (of_int binary64 (pos ld.lead_at)) (get_or ld.lead_e 0 nan) b in
    let g : BurstWithin p n × UnderWay p n = begin_burst_within p (omega (arith, d.max_pulses.1)) _ _ _ b h in
    replay_within p (omega (arith, d.max_pulses.1)) d.long_steps.1 noise ring ld (lead_len_of p.min_steps) 0 (staying n ook fsk) (record { within = g.0; running = λ q. g.1 })

-- step
phase_ends : (n : Next) → (phase_of n ≤ 2) × (phase_of n ≡ 1 → ⊥) × (phase_of n ≡ 2 → is_stay_of n ≡ true)
unfolding phase_of
phase_ends n = grind arith

-- an accepted step: its index is the one after the last, and the serial rises with it
record Steps (l : Lane) (s : StepArgs) : Type 0 where
  was : Within l
  index_most : s.index ≤ max_index
  next : s.index ≡ l.last + 1
  under_way : l.phase ≡ 0 → ⊥

module _ {l : Lane} (s : StepArgs) (k : Steps l s) where
  counts : (phase : ℕ) (ld : Lead) (ring : List Float) (b : Burst) → Kept (lane_of l phase s.index s.x ld ring b) → Sound (stamp_of (l.serial + 1) (lane_of l phase s.index s.x ld ring b))
  counts phase ld ring b r = stamp_sound (l.serial + 1) r (raises (omega (arith, k.was.counted.busy k.under_way, k.next)))

  settled_sound : (ld : Lead) (ring : List Float) (r : Sampled) → SampledWithin l.settings r → ld.lead_at ≤ max_index → Sound (stamp_of (l.serial + 1) (settle_of l s ld ring r).lane)
  unfolding settle_of
  settled_sound ld ring r g a =
      let h = k.was.kept in
      let t : (phase_of r.next ≤ 2) × (phase_of r.next ≡ 1 → ⊥) × (phase_of r.next ≡ 2 → is_stay_of r.next ≡ true) = phase_ends r.next in
      counts (phase_of r.next) ld ring r.burst
      (record { had = h.had; domain = h.domain; held = g.within; going = λ e. g.running (t.2 e); named = t.0; filled = λ e. absurd (t.1 e); from = a; near = k.index_most })

  lead_step_sound : (ring : List Float) (ook fsk : List ℕ) → Sound (stamp_of (l.serial + 1) (lead_step l s ring ook fsk).0.lane)
  unfolding lead_step replay_step fill_of lead_add_of
  lead_step_sound ring ook fsk =
      let h : Kept l = k.was.kept in
      let ld : Lead = lead_add_of l.lead s.envelope s.x in
      by_test (λ (r : Answer × List ℕ × List ℕ). Sound (stamp_of (l.serial + 1) r.0.lane)) (ltb ld.lead_n (lead_len_of l.settings.min_steps))
      (λ n. counts 1 ld ring (cleared_of l.burst)
      (let held = cleared_within h.held in let few = ltb-true _ _ n in let near = k.index_most in search arith))
      (λ n. settled_sound ld ring _ (lead_within l.settings s.noise ring ld (cleared_of l.burst) ook fsk (settings_tell l.settings h.domain) (cleared_within h.held)) h.from)

  burst_step_sound : (ring : List Float) (ook fsk : List ℕ) → l.phase ≡ 2 → Sound (stamp_of (l.serial + 1) (burst_step l s ring ook fsk).0.lane)
  unfolding burst_step
  burst_step_sound ring ook fsk e =
      let h = k.was.kept in
      let d : InDomain l.settings = settings_tell l.settings h.domain in
      settled_sound l.lead ring _ (sample_within l.settings (omega (arith, d.max_pulses.1)) d.long_steps.1 _ ring (cleared_of l.burst) ook fsk (cleared_within h.held) (cleared_runs l.settings l.burst (h.going e))) h.from

  advance_sound : (ook fsk : List ℕ) → Sound (stamp_of (l.serial + 1) (advance_of l s ook fsk).0.lane)
  unfolding advance_of
  advance_sound ook fsk =
      by_test (λ (r : Answer × List ℕ × List ℕ). Sound (stamp_of (l.serial + 1) r.0.lane)) (eqb l.phase 1)
      (λ q. lead_step_sound _ ook fsk)
      (λ q. burst_step_sound _ ook fsk (omega (arith, k.was.kept.named, k.under_way, eqb-false l.phase 1 q)))

pub step_passes : (l : Lane) (s : StepArgs) (m n : ℕ) → step_refusal l s m n ≡ Ok tt
    → AllPassed true (lane_ok l) (not (eqb l.phase 0)) true (index_ok s.index && follows_of l.last s.index) (step_floats_ok s) (room_ok l.settings m n)
unfolding step_refusal
step_passes l s m n e = none_failed true (lane_ok l) (not (eqb l.phase 0)) true (index_ok s.index && follows_of l.last s.index) (step_floats_ok s) (room_ok l.settings m n) e

follows_is : (last index : ℕ) → follows_of last index ≡ true → index ≡ last + 1
unfolding follows_of
follows_is last index q = grind arith

accepted_sound : {l : Lane} (s : StepArgs) (ook fsk : List ℕ) → step_refusal l s (length ook) (length fsk) ≡ Ok tt → Sound l → Sound (stamp_of (l.serial + 1) (advance_of l s ook fsk).0.lane)
unfolding new_lane idle_lane
accepted_sound s ook fsk e unopened = clash (sym (step_passes new_lane s (length ook) (length fsk) e).phase_ok)
accepted_sound {l} s ook fsk e (within h) =
    let t = step_passes l s (length ook) (length fsk) e in
    let i = both_true (index_ok s.index) (follows_of l.last s.index) t.index_ok in
    advance_sound s (record { was = h; index_most = leb-true s.index max_index i.0; next = follows_is l.last s.index i.1; under_way = eqb-false l.phase 0 (not-true (eqb l.phase 0) t.phase_ok) }) ook fsk

pub step_sound : {l : Lane} (s : StepArgs) (ook fsk : List ℕ) → Sound l → Sound (stepped l s ook fsk).0.lane
unfolding stepped
step_sound {l} s ook fsk h =
    by_refusal (λ (r : Answer × List ℕ × List ℕ). Sound r.0.lane) (step_refusal l s (length ook) (length fsk))
    (λ q. accepted_sound s ook fsk q h)
    (λ k q. h)

-- close
pub close_passes : (l : Lane) (m n : ℕ) → close_refusal l m n ≡ Ok tt → AllPassed true (lane_ok l) (not (eqb l.phase 0)) true true true (room_ok l.settings m n)
unfolding close_refusal
close_passes l m n e = none_failed true (lane_ok l) (not (eqb l.phase 0)) true true true (room_ok l.settings m n) e

idle_with_sound : {l : Lane} (b : Burst) → Within l → (l.phase ≡ 0 → ⊥) → BurstWithin l.settings b → Sound (stamp_of (l.serial + 1) (idle_with l b).lane)
unfolding idle_with
idle_with_sound {l} b w busy g =
    let h = w.kept in
    let k : Kept (lane_of l 0 l.last l.x_prev l.lead l.ring b) = search arith in
    stamp_sound (l.serial + 1) k (record { busy = λ n. absurd (n refl); idle = omega (arith, w.counted.busy busy) })

closes_sound : {l : Lane} (ook fsk : List ℕ) → close_refusal l (length ook) (length fsk) ≡ Ok tt → Sound l → Sound (stamp_of (l.serial + 1) (close_of l ook fsk).0.lane)
unfolding new_lane idle_lane close_of
closes_sound ook fsk e unopened = clash (sym (close_passes new_lane (length ook) (length fsk) e).phase_ok)
closes_sound {l} ook fsk e (within w) =
    let t = close_passes l (length ook) (length fsk) e in
    let busy = eqb-false l.phase 0 (not-true (eqb l.phase 0) t.phase_ok) in
    let d : InDomain l.settings = settings_tell l.settings w.kept.domain in
    let m = d.max_pulses.1 in
    either (λ (r : Answer × List ℕ × List ℕ). Sound (stamp_of (l.serial + 1) r.0.lane)) (eqb l.phase 1)
    (idle_with_sound (cleared_of l.burst) w busy (cleared_within w.kept.held))
    (idle_with_sound (end_burst_of l.burst ook).0 w busy (ended_within (omega (arith, m)) ook w.kept.held))

pub close_sound : {l : Lane} (ook fsk : List ℕ) → Sound l → Sound (closed l ook fsk).0.lane
unfolding closed
close_sound {l} ook fsk h =
    by_refusal (λ (r : Answer × List ℕ × List ℕ). Sound r.0.lane) (close_refusal l (length ook) (length fsk))
    (λ q. closes_sound ook fsk q h)
    (λ k q. h)

-- the records of a sound lane have its serial
pub own_records : {l : Lane} → Sound l → stamp_of l.serial l ≡ l
unfolding stamp_of new_lane idle_lane no_burst
own_records unopened = refl
own_records {l} (within w) =
    ap (λ (n : ℕ). with_burst l (with_serials n l.serial l.burst)) (sym w.own_ook) ∙ ap (λ (n : ℕ). with_burst l (with_serials l.burst.out_ook.serial n l.burst)) (sym w.own_fsk)
  where
    with_burst : Lane → Burst → Lane
    with_burst l b = record { opened = l.opened; settings = l.settings; phase = l.phase; last = l.last; x_prev = l.x_prev; lead = l.lead; ring = l.ring; burst = b; serial = l.serial }

reached_sound : {l : Lane} → Reached l → Sound l
reached_sound new = unopened
reached_sound (opening r p) = open_sound p (reached_sound r)
reached_sound (beginning r b ook fsk) = begin_sound b ook fsk (reached_sound r)
reached_sound (stepping r s ook fsk) = step_sound s ook fsk (reached_sound r)
reached_sound (closing r ook fsk) = close_sound ook fsk (reached_sound r)

-- every lane that calls hand back passes the check
pub reached_ok : {l : Lane} → Reached l → lane_ok l ≡ true
reached_ok r = sound_ok (reached_sound r)

-- where the lane passes its check, the first refusal is another one than 4
not_four : (s l p n i f r : Bool) → l ≡ true → first_failed s l p n i f r ≡ Err refusal.Lane → ⊥
unfolding first_failed
not_four s l p n i f r q e = grind arith

-- no list of calls meets refusal 4; an opening has no refusal but 3 and 13
pub begin_not_four : {l : Lane} → Reached l → (b : BeginArgs) (ook fsk : ℕ) → begin_refusal l b ook fsk ≡ Err refusal.Lane → ⊥
unfolding begin_refusal
begin_not_four {l} r b ook fsk = not_four (not (eqb l.opened 0)) (lane_ok l) (eqb l.phase 0) (serial_left l.serial) (index_ok b.index) (begin_floats_ok b) (room_ok l.settings ook fsk) (reached_ok r)

pub step_not_four : {l : Lane} → Reached l → (s : StepArgs) (ook fsk : ℕ) → step_refusal l s ook fsk ≡ Err refusal.Lane → ⊥
unfolding step_refusal
step_not_four {l} r s ook fsk = not_four true (lane_ok l) (not (eqb l.phase 0)) true (index_ok s.index && follows_of l.last s.index) (step_floats_ok s) (room_ok l.settings ook fsk) (reached_ok r)

pub close_not_four : {l : Lane} → Reached l → (ook fsk : ℕ) → close_refusal l ook fsk ≡ Err refusal.Lane → ⊥
unfolding close_refusal
close_not_four {l} r ook fsk = not_four true (lane_ok l) (not (eqb l.phase 0)) true true true (room_ok l.settings ook fsk) (reached_ok r)
