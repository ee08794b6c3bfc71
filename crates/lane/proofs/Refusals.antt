-- Laws of the definitions in specs/Refusals.
use Prim.Native.Nat.{ℕ, ◌+◌, ◌-◌, ◌<◌, ◌≤◌}
use mathlib.Core.Bool.{Bool, true, false, cond, not, ◌&&◌}
use mathlib.Core.Path.{◌≡◌, refl, ap, sym, ◌∙◌}
use native.Mathlib.Omega.{arith}
use borrow.Author.Tests.{eqb-true, eqb-false, eq-eqb, ne_eqb, ltb-true, leb-true}
use lib.Dec.{leb, eqb}
use Rattle.std.specs.Prelude.{⊤, Option, Some, None, Result, Ok, Err}
use Rattle.std.specs.Option.{SomeIff, option_eq}
use Rattle.domain.specs.Limits.{spent_serial, max_serial}
use Rattle.shared.specs.declared.Settings.{Settings}
use Rattle.refusals.specs.Domain.{settings_ok, unset_ok, index_ok, room_ok}
use Rattle.refusals.specs.declared.Refusal.{Refusal}
use Rattle.refusals.specs.declared.Refusal.TheVariants as refusal
use Rattle.refusals.specs.Serial.{serial_ok, serial_left}
use Rattle.refusals.specs.State.{burst_ok, lead_ok, cand_ok}
use Rattle.shared.proofs.Tests.{both_true, six_true}
use Rattle.refusals.proofs.Order.{passed, none_failed}
use Rattle.lane.specs.declared.BeginArgs.{BeginArgs}
use Rattle.lane.specs.declared.Lane.{Lane}
use Rattle.lane.specs.Refusals.{opened_ok, lane_ok, follows_of, begin_floats_ok, open_refusal, begin_refusal, close_refusal, Passes}
use Rattle.lane.specs.Step.{unless_refused}

-- so a lane that had settings, or is not idle, has them in the domain
pub opened_tells : (had phase : ℕ) (p : Settings) → opened_ok had phase p ≡ true → (eqb had 0 && eqb phase 0) ≡ false → settings_ok p ≡ true
unfolding opened_ok
opened_tells had phase p = go (eqb had 0) (eqb phase 0)
  where
    go : (none idle : Bool) → cond none (idle && unset_ok p) (eqb had 1 && settings_ok p) ≡ true → (none && idle) ≡ false → settings_ok p ≡ true
    go true true h e = cc
    go true false h e = cc
    go false idle h e = (both_true (eqb had 1) (settings_ok p) h).1

-- as the code asks it, without the sum
follows_back : (last index : ℕ) → (index ≡ 0 → ⊥) → eqb (index - 1) last ≡ follows_of last index
unfolding follows_of
follows_back last index h = go (eqb (index - 1) last) refl where
  go : (b : Bool) → eqb (index - 1) last ≡ b → b ≡ eqb index (last + 1)
  go true q = sym (eq-eqb index (last + 1) (omega (arith, eqb-true (index - 1) last q, h)))
  go false q = sym (ne_eqb index (last + 1) (λ e. eqb-false (index - 1) last q (omega arith)))

pub follows_by : (last index : ℕ) (before : Option ℕ) → SomeIff before (1 ≤ index) (index - 1) → option_eq eqb before (Some last) ≡ follows_of last index
unfolding follows_of
follows_by last index (Some n) h = ap (λ (k : ℕ). eqb k last) h.1 ∙ follows_back last index (λ z. omega (arith, z, h.0))
follows_by last index None h = sym (ne_eqb index (last + 1) (λ q. h (omega arith)))

pub lane_passes : (l : Lane) → lane_ok l ≡ true → Passes l
unfolding lane_ok
lane_passes l h =
    let had : Bool = opened_ok l.opened l.phase l.settings in
    let named : Bool = leb l.phase 2 in
    let within : Bool = burst_ok l.settings.max_pulses l.burst in
    let filled : Bool = lead_ok l.phase l.settings.min_steps l.lead in
    let waits : Bool = cand_ok l.phase l.settings.min_steps l.burst.frame in
    let near : Bool = index_ok l.last in
    let k = both_true (had && named && within && filled && waits && near) (serial_ok l.serial) h in
    let t = six_true had named within filled waits near k.0 in
    record { had = t.0; named = t.1; within = t.2; filled = t.3; waits = t.4; near = t.5; counted = k.1 }

pub passes_lane : (l : Lane) → Passes l → lane_ok l ≡ true
unfolding lane_ok
passes_lane l p = simp (p.had, p.named, p.within, p.filled, p.waits, p.near, p.counted)

-- ---- what a call gives, by whether it is refused
pub by_refusal : {A : Type 0} (P : A → Type 0) (k : Result ⊤ Refusal) {a : A} {r : Refusal → A} → (k ≡ Ok tt → P a) → ((n : Refusal) → k ≡ Err n → P (r n)) → P (unless_refused k a r)
by_refusal P (Ok u) h g = h refl
by_refusal P (Err n) h g = g n refl

-- ---- an accepted call finds a serial that can be raised

pub open_left : (l : Lane) (p : Settings) → open_refusal l p ≡ Ok tt → l.serial < spent_serial
unfolding open_refusal
open_left l p e =
    let a = passed refusal.Settings (settings_ok p) _ e in
    ltb-true l.serial spent_serial (passed refusal.Serial (serial_left l.serial) _ a.1).0

pub begin_left : (l : Lane) (b : BeginArgs) (ook fsk : ℕ) → begin_refusal l b ook fsk ≡ Ok tt → l.serial < spent_serial
unfolding begin_refusal
begin_left l b ook fsk e =
    ltb-true l.serial spent_serial
    (none_failed (not (eqb l.opened 0)) (lane_ok l) (eqb l.phase 0) (serial_left l.serial) (index_ok b.index) (begin_floats_ok b) (room_ok l.settings ook fsk) e).serial_ok

pub close_left : (l : Lane) (ook fsk : ℕ) → close_refusal l ook fsk ≡ Ok tt → l.serial ≤ max_serial
unfolding close_refusal
close_left l ook fsk e =
    let t = none_failed true (lane_ok l) (not (eqb l.phase 0)) true true true (room_ok l.settings ook fsk) e in
    leb-true l.serial max_serial (lane_passes l t.lane_ok).counted
