-- What the refusals of demand 2's definitions say of a call, and what the calls answer where it is refused or accepted.
use mathlib.Core.Path.{◌≡◌, refl}
use mathlib.Core.Bool.{true, false, not, ◌&&◌, ◌||◌}
use mathlib.Core.List.{List}
use Prim.Native.Nat.{ℕ, ◌*◌, ◌≤◌}
use lib.Dec.{leb, eqb}
use borrow.Author.Tests.{leb-true, eqb-false, not-true}
use lib.ListN.{length}
use Rattle.std.specs.Prelude.{⊤, Result, Ok, is_ok}
use Rattle.shared.specs.declared.Settings.{Settings}
use Rattle.shared.proofs.Tests.{both_true}
use Rattle.refusals.specs.declared.Refusal.{Refusal}
use Rattle.refusals.proofs.Domain.{InDomain, settings_tell}
use Rattle.refusals.specs.Domain.{index_ok, room_ok}
use Rattle.refusals.proofs.Order.{none_failed, is_passed, not_passed}
use Rattle.lane.specs.declared.Answer.{Answer}
use Rattle.lane.specs.declared.Lane.{Lane}
use Rattle.lane.specs.declared.BeginArgs.{BeginArgs}
use Rattle.lane.specs.declared.StepArgs.{StepArgs}
use Rattle.refusals.specs.Serial.{serial_left}
use Rattle.lane.proofs.Refusals.{opened_tells, lane_passes, by_refusal}
use Rattle.lane.specs.Refusals.{lane_ok, begin_floats_ok, step_floats_ok, follows_of, open_refusal, begin_refusal, step_refusal, close_refusal}
use Rattle.lane.specs.Idle.{idle_lane}
use Rattle.lane.specs.Begin.{lead_lane}
use Rattle.lane.specs.Advance.{advance_of}
use Rattle.lane.specs.Close.{close_of}
use Rattle.lane.specs.Serial.{stamped, stamped_with}
use Rattle.lane.specs.Step.{unless_refused, stay, opened, begun, stepped, closed}

-- ---- what a call that is not refused tells
pub begin_tells : (l : Lane) (b : BeginArgs) (ook fsk : ℕ) → begin_refusal l b ook fsk ≡ Ok tt → InDomain l.settings × (2 * l.settings.max_pulses ≤ ook)
unfolding begin_refusal
begin_tells l b ook fsk h =
    let t = none_failed (not (eqb l.opened 0)) (lane_ok l) (eqb l.phase 0) (serial_left l.serial) (index_ok b.index) (begin_floats_ok b) (room_ok l.settings ook fsk) h in
    let had = opened_tells l.opened l.phase l.settings (lane_passes l t.lane_ok).had (rw (not-true (eqb l.opened 0) t.settings_ok)) in (
      settings_tell l.settings had,
      leb-true (2 * l.settings.max_pulses) ook (both_true (leb (2 * l.settings.max_pulses) ook) (eqb l.settings.mode 0 || leb (2 * l.settings.max_pulses) fsk) t.room_ok).0,
    )

pub step_tells : (l : Lane) (s : StepArgs) (ook fsk : ℕ) → step_refusal l s ook fsk ≡ Ok tt → l.phase ≡ 0 → ⊥
unfolding step_refusal
step_tells l s ook fsk h =
    let t = none_failed true (lane_ok l) (not (eqb l.phase 0)) true (index_ok s.index && follows_of l.last s.index) (step_floats_ok s) (room_ok l.settings ook fsk) h in
    eqb-false l.phase 0 (not-true (eqb l.phase 0) t.phase_ok)

pub close_tells : (l : Lane) (ook fsk : ℕ) → close_refusal l ook fsk ≡ Ok tt → l.phase ≡ 0 → ⊥
unfolding close_refusal
close_tells l ook fsk h =
    let t = none_failed true (lane_ok l) (not (eqb l.phase 0)) true true true (room_ok l.settings ook fsk) h in
    eqb-false l.phase 0 (not-true (eqb l.phase 0) t.phase_ok)

-- ---- what the calls answer

-- what is refused answers as a refusal does
pub when_refused : {A : Type 0} (P : A → Type 0) (k : Result ⊤ Refusal) (a : A) (r : Refusal → A) → is_ok k ≡ false → ((n : Refusal) → P (r n)) → P (unless_refused k a r)
when_refused P k a r h f = by_refusal P k (λ q. absurd (not_passed k h q)) (λ n q. f n)

module _ (l : Lane) (p : Settings) where
  pub open_accepted : is_ok (open_refusal l p) ≡ true → opened l p ≡ stamped l (stay (idle_lane 1 p))
  unfolding opened
  open_accepted h = rw (is_passed _ h) refl

  pub open_refused : is_ok (open_refusal l p) ≡ false → (opened l p).lane ≡ l
  unfolding opened
  open_refused h = when_refused (λ (a : Answer). a.lane ≡ l) (open_refusal l p) _ _ h (λ n. refl)

module _ (l : Lane) (b : BeginArgs) (ook fsk : List ℕ) where
  pub begin_accepted : is_ok (begin_refusal l b (length ook) (length fsk)) ≡ true → begun l b ook fsk ≡ stamped l (stay (lead_lane l b))
  unfolding begun
  begin_accepted h = rw (is_passed _ h) refl

  pub begin_refused : is_ok (begin_refusal l b (length ook) (length fsk)) ≡ false → (begun l b ook fsk).lane ≡ l
  unfolding begun
  begin_refused h = when_refused (λ (a : Answer). a.lane ≡ l) (begin_refusal l b (length ook) (length fsk)) _ _ h (λ n. refl)

module _ (l : Lane) (s : StepArgs) (ook fsk : List ℕ) where
  pub step_accepted : is_ok (step_refusal l s (length ook) (length fsk)) ≡ true → stepped l s ook fsk ≡ stamped_with l (advance_of l s ook fsk)
  unfolding stepped
  step_accepted h = rw (is_passed _ h) refl

  pub step_refused : is_ok (step_refusal l s (length ook) (length fsk)) ≡ false → (stepped l s ook fsk).0.lane ≡ l
  unfolding stepped
  step_refused h = when_refused (λ (a : Answer × List ℕ × List ℕ). a.0.lane ≡ l) (step_refusal l s (length ook) (length fsk)) _ _ h (λ n. refl)

module _ (l : Lane) (ook fsk : List ℕ) where
  pub close_accepted : is_ok (close_refusal l (length ook) (length fsk)) ≡ true → closed l ook fsk ≡ stamped_with l (close_of l ook fsk)
  unfolding closed
  close_accepted h = rw (is_passed _ h) refl

  pub close_refused : is_ok (close_refusal l (length ook) (length fsk)) ≡ false → (closed l ook fsk).0.lane ≡ l
  unfolding closed
  close_refused h = when_refused (λ (a : Answer × List ℕ × List ℕ). a.0.lane ≡ l) (close_refusal l (length ook) (length fsk)) _ _ h (λ n. refl)
