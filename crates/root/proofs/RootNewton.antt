-- Newton's step from g, (g + n / g) / 2: it is never below the root of n, and it is near the root where g is, by the square of g's distance over 2 g.
use mathlib.Core.Path.{◌≡◌, refl, sym, ap, ◌∙◌, subst}
use Prim.Native.Nat.{ℕ, suc, ◌+◌, ◌-◌, ◌*◌, ◌/◌, ◌≤◌, ◌<◌}
use native.Mathlib.Nat.{le_of_lt, le_dest, lt_of_not-le, lt-suc_self, add_assoc, add_comm, add_left_comm, mul_comm, mul-add, add-mul, two-mul, mul_assoc, mul-le-mul, mul-le-mul_right, div-lt_iff_lt-mul}
use native.Mathlib.Decide.{dec_le}
use native.Mathlib.Omega.{arith}

-- ---- two numbers, their squares and their product

square_apart : (a d : ℕ) → (a + d) * (a + d) + a * a ≡ 2 * (a * (a + d)) + d * d
square_apart a d = simp (two-mul, mul-add, add-mul, mul_comm, add_assoc, add_comm, add_left_comm) refl

-- for two numbers at most w apart
record Apart (w a b : ℕ) : Type 0 where
  below : 2 * (a * b) ≤ b * b + a * a
  above : b * b + a * a ≤ 2 * (a * b) + w * w

apart : (w a b : ℕ) → a ≤ b + w → b ≤ a + w → Apart w a b
apart w a b h k = either (dec_le a b)
  where
    from : (a d : ℕ) → d ≤ w → Apart w a (a + d)
    from a d l =
        let e = square_apart a d in
        let m : d * d ≤ w * w = mul-le-mul l l in
        record { below = omega arith; above = omega arith }

    swapped : Apart w b a → Apart w a b
    swapped s =
        let e : b * a ≡ a * b = mul_comm b a in
        let l = s.below in
        let m = s.above in
        record { below = omega arith; above = omega arith }

    either : Dec (a ≤ b) → Apart w a b
    either (yes l) =
        let e = (le_dest l).1 in
        subst (Apart w a) e (from a (le_dest l).0 (omega arith))
    either (no f) =
        let l = le_of_lt (lt_of_not-le f) in
        let e = (le_dest l).1 in
        swapped (subst (Apart w b) e (from b (le_dest l).0 (omega arith)))

-- ---- a step

abbrev pub step : ℕ → ℕ → ℕ
step n g = (g + n / g) / 2

-- n / g is below 2 z - g, and (2 z - g) g is at most z z
pub step_above : (n g : ℕ) → 0 < g → n < (step n g + 1) * (step n g + 1)
step_above n g p =
    let z = step n g + 1 in
    let q : n < suc (n / g) * g = (div-lt_iff_lt-mul p).0 (lt-suc_self (n / g)) in
    let l : suc (n / g) + g ≤ 2 * z = omega arith in
    let m : (suc (n / g) + g) * g ≤ 2 * z * g = mul-le-mul_right g l in
    let e : (suc (n / g) + g) * g ≡ suc (n / g) * g + g * g = add-mul (suc (n / g)) g g in
    let f : 2 * z * g ≡ 2 * (z * g) = mul_assoc 2 z g in
    let b = (apart (z + g) g z (omega arith) (omega arith)).below in
    let c : g * z ≡ z * g = mul_comm g z in
    omega arith

-- from a number g at most w from y, the next above the root
pub step_near : (n y g w m : ℕ) → 0 < g → n < y * y → g ≤ y + w → y ≤ g + w → w * w ≤ 2 * m * g → g ≤ 2 * (y + m) → step n g < y + m
step_near n y g w m p h k l near small =
    let s = 2 * (y + m) - g in
    let t : s + g ≡ 2 * (y + m) = omega arith in
    let e : s * g + g * g ≡ 2 * (y + m) * g = sym (add-mul s g g) ∙ ap (λ (x : ℕ). x * g) t in
    let f : 2 * (y + m) * g ≡ 2 * (g * y) + 2 * m * g = spread in
    let a = (apart w g y k l).above in
    let b : n < s * g = omega arith in
    let q : n / g < s = (div-lt_iff_lt-mul p).1 b in
    omega arith
  where
    spread : 2 * (y + m) * g ≡ 2 * (g * y) + 2 * m * g
    spread = ap (λ (x : ℕ). x * g) (mul-add 2 y m) ∙ add-mul (2 * y) (2 * m) g ∙ ap (λ (x : ℕ). x + 2 * m * g) (mul_assoc 2 y g ∙ ap (λ (x : ℕ). 2 * x) (mul_comm y g))
