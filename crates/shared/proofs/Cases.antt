-- Laws of a test: what holds of both arms, or of each with its outcome, and the flag that a test gives.
use Rattle.std.proofs.Common.{◌≡◌, ◌≤◌, Bool, true, false, cond, refl, arith}
use Rattle.shared.specs.Counts.{bit}

-- of either arm what holds of both
pub either : {A : Type 0} (P : A → Type 0) (b : Bool) {x y : A} → P x → P y → P (cond b x y)
either P true p q = p
either P false p q = q

-- a test with its outcome in either arm
pub by_test : {A : Type 0} (P : A → Type 0) (b : Bool) {x y : A} → (b ≡ true → P x) → (b ≡ false → P y) → P (cond b x y)
by_test P true f g = f refl
by_test P false f g = g refl

pub bit_flag : (b : Bool) → bit b ≤ 1
bit_flag true = omega arith
bit_flag false = omega arith
