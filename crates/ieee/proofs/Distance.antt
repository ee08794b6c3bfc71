-- Distances of numbers with their signs.
use Rattle.std.proofs.Common.{◌≡◌, ℕ, ◌+◌, ◌-◌, ◌*◌, Bool, true, false, sym, refl, ap, ◌∙◌, mul_comm, add-mul}
use native.Mathlib.Nat.{mul-sub}
use Rattle.ieee.specs.Units.{apart, distance}

-- of one sign
pub distance_same : (s : Bool) (a b : ℕ) → distance s a s b ≡ apart a b
distance_same true a b = refl
distance_same false a b = refl

-- what holds of the distance of one sign and of two holds of each
pub by_sign : (P : ℕ → Type 0) (s t : Bool) (a b : ℕ) → P (apart a b) → P (a + b) → P (distance s a t b)
by_sign P true true a b p q = p
by_sign P true false a b p q = q
by_sign P false true a b p q = q
by_sign P false false a b p q = p

-- in another unit
sub_scale : (t a b : ℕ) → a * t - b * t ≡ (a - b) * t
sub_scale t a b = simp mul_comm (sym (mul-sub t a b))

pub apart_scale : (t a b : ℕ) → apart (a * t) (b * t) ≡ apart a b * t
apart_scale t a b = ap (λ (x : ℕ). x + (b * t - a * t)) (sub_scale t a b) ∙ ap (λ (x : ℕ). (a - b) * t + x) (sub_scale t b a) ∙ sym (add-mul (a - b) (b - a) t)
