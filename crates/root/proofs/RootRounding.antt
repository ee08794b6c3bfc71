-- The third step of the root (`rounding_step`): from 25 digits, whether there is more, and a power of two, what every operation of the format would round to.
use mathlib.Core.Path.{◌≡◌, refl, sym, ap, ◌∙◌}
use mathlib.Core.Bool.{Bool, true, false}
use Prim.Native.Nat.{ℕ, zero, suc, ◌+◌, ◌-◌, ◌*◌, ◌/◌, ◌%◌, ◌^◌, ◌≤◌, ◌<◌, compare}
use native.Mathlib.Nat.{le_trans, le_of_eq, lt_of_lt_of_le, lt_of_le_of_lt, mul_assoc, mul_comm, mul_left_comm, mul-pos, mul-le-mul_right, mul-lt-mul_of_pos_right, add-mul, one-mul, zero-mul, zero-add, suc-mul, zero-lt-suc, le-div_iff_mul-le, div-lt_iff_lt-mul, div-add-mod', div-div-eq-div-mul, mod-lt}
use native.Mathlib.Omega.{arith}
use borrow.Author.Tests.{ltb-true, ltb-false}
use lib.Dec.{ltb}
use lib.Pow.{pow-add, pow_pos}
use lib.Ieee.{binary32, size, nearest, units, round}
use lib.Ieee.Fits.{round_is}
use lib.Ieee.Nearest.{closest, closest_same}
use Rattle.root.specs.Root.{dropped, round_exact}
use Rattle.root.specs.RootSteps.{RoundingStep}
use Rattle.ieee.proofs.Values.{size_is, compare_lt, compare_eq, compare_gt}
use Rattle.root.proofs.RootAssembled.{round_exact_is}

module _ (r p a c : ℕ) (lo : 2 ^ 24 ≤ r) (hi : r < 2 ^ 25) (some : 0 < c) (whole : a / c ≡ r) where
  parts : r * c + a % c ≡ a
  parts = ap (λ (x : ℕ). x * c + a % c) (sym whole) ∙ div-add-mod' a c

  -- ---- half of a / c, to the nearest whole number: what is dropped is the last digit of r, and what a / c has beyond r

  half : a / (c * 2) ≡ r / 2
  half = sym (div-div-eq-div-mul a c 2) ∙ ap (λ (x : ℕ). x / 2) whole

  left : a % (c * 2) ≡ r % 2 * c + a % c
  left =
      let h = r / 2 in
      let whole_halves : h * (c * 2) + a % (c * 2) ≡ a = ap (λ (x : ℕ). x * (c * 2) + a % (c * 2)) (sym half) ∙ div-add-mod' a (c * 2) in
      let digits : r ≡ h * 2 + r % 2 = omega arith in
      let split : r * c ≡ h * 2 * c + r % 2 * c = ap (λ (x : ℕ). x * c) digits ∙ add-mul (h * 2) (r % 2) c in
      let same : h * 2 * c ≡ h * (c * 2) = mul_assoc h 2 c ∙ ap (λ (x : ℕ). h * x) (mul_comm 2 c) in
      let sum = parts in
      omega arith

  nearest_half : (more : Bool) → ltb (r * c) a ≡ more → closest a (c * 2) ≡ nearest (r / 2) (dropped (r % 2) more)
  nearest_half more m = ap (λ (x : ℕ). nearest x (compare (a % (c * 2) * 2) (c * 2))) half ∙ ap (nearest (r / 2)) (by_digit (r % 2) refl more m)
    where
      part : a % c < c
      part = mod-lt a some

      by_digit : (d : ℕ) → r % 2 ≡ d → (b : Bool) → ltb (r * c) a ≡ b → compare (a % (c * 2) * 2) (c * 2) ≡ dropped d b
      by_digit zero e b t =
          let l : a % (c * 2) ≡ a % c = left ∙ ap (λ (x : ℕ). x * c + a % c) e ∙ ap (λ (x : ℕ). x + a % c) (zero-mul c) ∙ zero-add (a % c) in
          let h = part in
          compare_lt (a % (c * 2) * 2) (c * 2) (omega arith)
      by_digit (suc d) e b t = one b t
        where
          l : a % (c * 2) ≡ c + a % c
          l =
              let o : r % 2 ≡ 1 = omega arith in
              left ∙ ap (λ (x : ℕ). x * c + a % c) o ∙ ap (λ (x : ℕ). x + a % c) (one-mul c)

          one : (b : Bool) → ltb (r * c) a ≡ b → compare (a % (c * 2) * 2) (c * 2) ≡ dropped (suc d) b
          one true t =
              let g : r * c < a = ltb-true (r * c) a t in
              let sum = parts in
              let is = l in
              compare_gt (a % (c * 2) * 2) (c * 2) (omega arith)
          one false t =
              let g : a ≤ r * c = ltb-false (r * c) a t in
              let sum = parts in
              let is = l in
              compare_eq (a % (c * 2) * 2) (c * 2) (omega arith)

  -- ---- a / c * 2 ^ p / 2 ^ 100 in units of the format's smallest value: p + 74 digits, of which it keeps 24

  abbrev n : ℕ
  n = a * 2 ^ p * 2 ^ 149

  abbrev den : ℕ
  den = c * 2 ^ 100

  n_is : n ≡ a * 2 ^ (p + 149)
  n_is = mul_assoc a (2 ^ p) (2 ^ 149) ∙ ap (λ (x : ℕ). a * x) (sym (pow-add 2 p 149))

  scaled_den : (i k : ℕ) → i + 100 ≡ k + (p + 149) → 2 ^ i * den ≡ 2 ^ k * c * 2 ^ (p + 149)
  scaled_den i k e =
      mul_left_comm (2 ^ i) c (2 ^ 100)
      ∙ ap (λ (x : ℕ). c * x) (sym (pow-add 2 i 100) ∙ ap (λ (x : ℕ). 2 ^ x) e ∙ pow-add 2 k (p + 149))
      ∙ sym (mul_assoc c (2 ^ k) (2 ^ (p + 149)))
      ∙ ap (λ (x : ℕ). x * 2 ^ (p + 149)) (mul_comm c (2 ^ k))

  least : 2 ^ (p + 73) ≤ n / den
  least =
      let m : 2 ^ 24 * c ≤ r * c = mul-le-mul_right c lo in
      let sum = parts in
      let l : 2 ^ 24 * c ≤ a = omega arith in
      (le-div_iff_mul-le (mul-pos some (pow_pos 100))).1
      (le_trans (le_of_eq (scaled_den (p + 73) 24 (omega arith))) (le_trans (mul-le-mul_right (2 ^ (p + 149)) l) (le_of_eq (sym n_is))))

  most : n / den < 2 ^ (p + 74)
  most =
      let m : suc r * c ≤ 2 ^ 25 * c = mul-le-mul_right c hi in
      let e : suc r * c ≡ r * c + c = suc-mul r c in
      let sum = parts in
      let part : a % c < c = mod-lt a some in
      let l : a < 2 ^ 25 * c = omega arith in
      (div-lt_iff_lt-mul (mul-pos some (pow_pos 100))).1
      (lt_of_le_of_lt (le_of_eq n_is) (lt_of_lt_of_le (mul-lt-mul_of_pos_right l (pow_pos (p + 149))) (le_of_eq (sym (scaled_den (p + 74) 25 (omega arith))))))

  dropped_is : size (n / den) - 24 ≡ p + 50
  dropped_is =
      let e : size (n / den) ≡ p + 74 = size_is (n / den) (p + 73) (p + 74) least most (omega arith) in
      omega arith

  same_half : n * (c * 2) ≡ a * (den * 2 ^ (p + 50))
  same_half =
      let e : p + 149 + 1 ≡ 100 + (p + 50) = omega arith in
      ap (λ (x : ℕ). x * (c * 2)) n_is
      ∙ mul_assoc a (2 ^ (p + 149)) (c * 2)
      ∙ ap (λ (x : ℕ). a * x)
      (mul_left_comm (2 ^ (p + 149)) c 2
      ∙ ap (λ (x : ℕ). c * x) (sym (pow-add 2 (p + 149) 1) ∙ ap (λ (x : ℕ). 2 ^ x) e ∙ pow-add 2 100 (p + 50))
      ∙ sym (mul_assoc c (2 ^ 100) (2 ^ (p + 50))))

  rounded : (more : Bool) → ltb (r * c) a ≡ more → round_exact r more p ≡ round binary32 false (a * 2 ^ p) (c * 2 ^ 100)
  rounded more m =
      let k = p + 50 in
      round_exact_is r more p
      ∙ sym
      (round_is binary32 false (a * 2 ^ p) (c * 2 ^ 100)
      ∙ ap (λ (z : ℕ). units binary32 false (closest n (den * 2 ^ z)) z) dropped_is
      ∙ ap (λ (x : ℕ). units binary32 false x k) (closest_same n (den * 2 ^ k) a (c * 2) (mul-pos (mul-pos some (pow_pos 100)) (pow_pos k)) (mul-pos some (zero-lt-suc 1)) same_half ∙ nearest_half more m))

pub rounding_step : RoundingStep round_exact
rounding_step r more p a c lo hi some whole m = rounded r p a c lo hi some whole more m
