-- A value against zero, as the tests of the code tell it.
use Rattle.std.proofs.Common.{◌≡◌, ℕ, ◌+◌, ◌*◌, ◌<◌, true, false, ltb, ℤ, ap, ◌∙◌, add-zero, zero-mul, mul-one, arith, ltb-true}
use lib.Ieee.{fin, up, down, lt, of_bits}
use Rattle.ieee.specs.Constants.{zero32}

-- ---- against zero
pub lt_neg : (m : ℕ) (e : ℤ) → lt (fin true m e) zero32 ≡ ltb 0 (m * up e)
unfolding lt of_bits
lt_neg m e = ap (λ (x : ℕ). ltb 0 (m * up e * 1 + x)) (zero-mul (down e)) ∙ ap (ltb 0) (add-zero (m * up e * 1) ∙ mul-one (m * up e))

pub lt_plus : (m : ℕ) (e : ℤ) → lt (fin false m e) zero32 ≡ ltb (m * up e * 1) 0
unfolding lt of_bits
lt_plus m e = ap (λ (x : ℕ). ltb (m * up e * 1) x) (zero-mul (down e))

pub never : (a : ℕ) → ltb a 0 ≡ true → ⊥
never a e = let h : a < 0 = ltb-true a 0 e in omega arith
