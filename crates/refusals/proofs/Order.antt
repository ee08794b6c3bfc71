-- Where no check refuses, every check passed.
use mathlib.Core.Bool.{Bool, true, false}
use mathlib.Core.Path.{◌≡◌, refl}
use native.Mathlib.Omega.{arith}
use Rattle.std.specs.Prelude.{⊤, Result, Ok, Err, is_ok}
use Rattle.refusals.specs.declared.Refusal.{Refusal}
use Rattle.refusals.specs.declared.Refusal.TheVariants as refusal
use Rattle.refusals.specs.Order.{check, first_failed}

pub passed : (k : Refusal) (ok : Bool) (rest : Result ⊤ Refusal) → check k ok rest ≡ Ok tt → (ok ≡ true) × (rest ≡ Ok tt)
passed k true rest e = (refl, e)
passed k false rest e = let z : ⊥ = grind arith in elim z [ ]

pub is_passed : (k : Result ⊤ Refusal) → is_ok k ≡ true → k ≡ Ok tt
is_passed (Ok u) h = refl
is_passed (Err r) h = grind arith

pub not_passed : (k : Result ⊤ Refusal) → is_ok k ≡ false → k ≡ Ok tt → ⊥
not_passed (Ok u) h e = grind arith
not_passed (Err r) h e = grind arith

-- a call that no check refuses passes each of them
pub record AllPassed (settings lane phase serial index floats room : Bool) : Type 0 where
  pub settings_ok : settings ≡ true
  pub lane_ok : lane ≡ true
  pub phase_ok : phase ≡ true
  pub serial_ok : serial ≡ true
  pub index_ok : index ≡ true
  pub floats_ok : floats ≡ true
  pub room_ok : room ≡ true

pub none_failed : (settings lane phase serial index floats room : Bool) → first_failed settings lane phase serial index floats room ≡ Ok tt → AllPassed settings lane phase serial index floats room
unfolding first_failed
none_failed s l p n i f r e =
    let a = passed refusal.Settings s _ e in
    let b = passed refusal.Lane l _ a.1 in
    let c = passed refusal.Phase p _ b.1 in
    let m = passed refusal.Serial n _ c.1 in
    let d = passed refusal.Index i _ m.1 in
    let g = passed refusal.Float f _ d.1 in
    record { settings_ok = a.0; lane_ok = b.0; phase_ok = c.0; serial_ok = m.0; index_ok = d.0; floats_ok = g.0; room_ok = (passed refusal.Room r _ g.1).0 }

-- and a call that passes each of them is not refused
pub none_refuses : first_failed true true true true true true true ≡ Ok tt
unfolding first_failed
none_refuses = refl
