-- The 24 digits that are kept: from the root r of n, an even n from 2 ^ 48 to 2 ^ 50 - 2 ^ 26, the number q with (2q - 1)² < n < (2q + 1)². So the root of n, which is twice
-- that of n / 4, is never half way between two whole numbers of half its size: there is no tie.
use mathlib.Core.Path.{◌≡◌, refl, ap, ◌∙◌, subst}
use mathlib.Core.Bool.{Bool, true, false, not}
use Prim.Native.Nat.{ℕ, zero, suc, ◌+◌, ◌-◌, ◌*◌, ◌/◌, ◌%◌, ◌^◌, ◌≤◌, ◌<◌}
use native.Mathlib.Nat.{le_of_lt, lt_of_not-le, lt_of_lt_of_le, lt_of_le_of_lt, not-le_of_lt, mul-le-mul, mul-le-mul_left, mul_right_comm, add-mul, one-mul, mul-lt-mul_of_pos_right}
use native.Mathlib.Omega.{arith}
use lib.Dec.{T, ltb, ltb→lt, nltb→le}
use lib.Ieee.{nearest}
use Rattle.root.specs.Root.{IsRoot, dropped}
use Rattle.table.proofs.Laws.{root_le}

pub sq_lt : (a b : ℕ) → a < b → a * a < b * b
sq_lt a b h =
    let p : 0 < b = omega arith in
    lt_of_le_of_lt (mul-le-mul_left a (le_of_lt h)) (mul-lt-mul_of_pos_right h p)

odd_square : (h r : ℕ) → r ≡ h * 2 + 1 → r * r ≡ h * r * 2 + r
odd_square h r e = ap (λ (x : ℕ). x * r) e ∙ add-mul (h * 2) 1 r ∙ ap (λ (x : ℕ). h * 2 * r + x) (one-mul r) ∙ ap (λ (x : ℕ). x + r) (mul_right_comm h 2 r)

-- twice q is within one of the root of n
pub record Kept (n q : ℕ) : Type 0 where
  pub least : 2 ^ 23 ≤ q
  pub most : q < 2 ^ 24
  pub above : (2 * q - 1) * (2 * q - 1) < n
  pub below : n < (2 * q + 1) * (2 * q + 1)

module _ (n : ℕ) (lo : 2 ^ 48 ≤ n) (hi : n + 2 ^ 26 ≤ 2 ^ 50) (even : n % 2 ≡ 0) (r : ℕ) (is : IsRoot n r) where
  pub r_lo : 2 ^ 24 ≤ r
  r_lo = root_le n (2 ^ 24) r lo is.1

  pub r_hi : r < 2 ^ 25 - 1
  r_hi = lt_of_not-le (λ (g : 2 ^ 25 - 1 ≤ r).
      let m : (2 ^ 25 - 1) * (2 ^ 25 - 1) ≤ r * r = mul-le-mul g g in
      let i : r * r ≤ n = is.0 in
      let z : n + 2 ^ 26 < (2 ^ 25 - 1) * (2 ^ 25 - 1) + 2 ^ 26 = omega arith in
      not-le_of_lt z (omega arith))

  -- an odd root is not exact
  no_tie : (d : ℕ) → r % 2 ≡ suc d → n ≤ r * r → ⊥
  no_tie d o h =
      let e : r ≡ r / 2 * 2 + 1 = omega arith in
      let s : r * r ≡ r / 2 * r * 2 + r = odd_square (r / 2) r e in
      let i : r * r ≤ n = is.0 in
      omega arith

  pub kept : Kept n (nearest (r / 2) (dropped (r % 2) (ltb (r * r) n)))
  kept = go (r % 2) refl (ltb (r * r) n) (ltb→lt (r * r) n) (nltb→le (r * r) n)
    where
      go : (d : ℕ) → r % 2 ≡ d → (b : Bool) → (T b → r * r < n) → (T (not b) → n ≤ r * r) → Kept n (nearest (r / 2) (dropped d b))
      go zero e b y z =
          let q = r / 2 in
          let two : r ≡ 2 * q = omega arith in
          let l = r_lo in
          let h = r_hi in
          let s : (2 * q - 1) * (2 * q - 1) < r * r = sq_lt (2 * q - 1) r (omega arith) in
          let b' : n < (r + 1) * (r + 1) = is.1 in
          record {
            least = omega arith;
            most = omega arith;
            above = lt_of_lt_of_le s is.0;
            below = subst (λ (x : ℕ). n < (x + 1) * (x + 1)) two b';
          }
      go (suc d) e true y z =
          let q = suc (r / 2) in
          let two : r ≡ 2 * q - 1 = omega arith in
          let up : r + 1 < 2 * q + 1 = omega arith in
          let l = r_lo in
          let h = r_hi in
          record {
            least = omega arith;
            most = omega arith;
            above = subst (λ (x : ℕ). x * x < n) two (y tt);
            below = lt_of_lt_of_le is.1 (le_of_lt (sq_lt (r + 1) (2 * q + 1) up));
          }
      go (suc d) e false y z = absurd (no_tie d e (z tt))
