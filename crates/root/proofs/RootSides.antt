-- Of the numbers a * 2 ^ j with a below 2 ^ 24, q * 2 ^ k is the nearest to the root of n * 4 ^ k, where q is the number kept of n (`Kept`): the root lies on its side of the middle
-- between it and any other. The middle is half their sum, and a number is compared with the root by its square.
use mathlib.Core.Path.{◌≡◌, sym, ap, ◌∙◌, subst}
use mathlib.Core.Logic.{◌⊎◌, inl, inr}
use Prim.Native.Nat.{ℕ, suc, ◌+◌, ◌-◌, ◌*◌, ◌^◌, ◌≤◌, ◌<◌}
use native.Mathlib.Nat.{le_trans, le_of_eq, le_of_lt, lt_of_lt_of_le, lt_of_le_of_lt, lt_irrefl, mul-le-mul, mul-le-mul_right, mul_assoc, mul-mul-mul_comm, mul-lt-mul_of_pos_right, lt_of_mul-lt-mul_right, mul-pos, add-mul, eq-or-lt_of_le}
use native.Mathlib.Omega.{arith}
use lib.Pow.{pow-add, pow_pos, pow_mono, shl_lt}
use Rattle.ieee.proofs.Values.{by_order}
use Rattle.root.proofs.RootDigits.{Kept, sq_lt}

module _ (q k a j : ℕ) (most : a < 2 ^ 24) where
  -- where j is no less than k, both are whole numbers of 2 ^ k
  grouped : k ≤ j → a * 2 ^ j ≡ a * 2 ^ (j - k) * 2 ^ k
  grouped h =
      let e : j ≡ j - k + k = omega arith in
      ap (λ (x : ℕ). a * 2 ^ x) e ∙ ap (λ (x : ℕ). a * x) (pow-add 2 (j - k) k) ∙ sym (mul_assoc a (2 ^ (j - k)) (2 ^ k))

  -- and where it is less, a * 2 ^ j is below 2 ^ 23 * 2 ^ k
  smaller : j < k → a * 2 ^ j < 2 ^ 23 * 2 ^ k
  smaller h =
      let e : 24 + j ≤ 23 + k = omega arith in
      lt_of_lt_of_le (shl_lt 24 j most) (le_trans (pow_mono e) (le_of_eq (pow-add 2 23 k)))

  pub next_up : 2 ^ 23 ≤ q → q * 2 ^ k < a * 2 ^ j → suc q * 2 ^ k ≤ a * 2 ^ j
  next_up l h =
      by_order k j
      (λ y.
      let e = grouped y in
      le_trans (mul-le-mul_right (2 ^ k) (lt_of_mul-lt-mul_right (2 ^ k) (subst (λ (x : ℕ). q * 2 ^ k < x) e h))) (le_of_eq (sym e)))
      (λ z. absurd (lt_irrefl (q * 2 ^ k) (lt_of_lt_of_le h (le_trans (le_of_lt (smaller z)) (mul-le-mul_right (2 ^ k) l)))))

  pub next_down : 2 ^ 23 < q → a * 2 ^ j < q * 2 ^ k → a * 2 ^ j ≤ (q - 1) * 2 ^ k
  next_down l h =
      let before : 2 ^ 23 ≤ q - 1 = omega arith in
      by_order k j
      (λ y.
      let e = grouped y in
      let c : a * 2 ^ (j - k) < q = lt_of_mul-lt-mul_right (2 ^ k) (subst (λ (x : ℕ). x < q * 2 ^ k) e h) in
      let d : a * 2 ^ (j - k) ≤ q - 1 = omega arith in
      le_trans (le_of_eq e) (mul-le-mul_right (2 ^ k) d))
      (λ z. le_trans (le_of_lt (smaller z)) (mul-le-mul_right (2 ^ k) before))

-- a number is nearer to the root of u than z is: u is on its side of the middle, squared
abbrev pub Nearer : ℕ → ℕ → ℕ → Type 0
Nearer u y z = (z < y → (y + z) * (y + z) < 4 * u) × (y < z → 4 * u < (y + z) * (y + z))

square_scaled : (c k : ℕ) → (c * 2 ^ k) * (c * 2 ^ k) ≡ c * c * (2 ^ k * 2 ^ k)
square_scaled c k = mul-mul-mul_comm c (2 ^ k) c (2 ^ k)

module _ (n q k z : ℕ) (lo : 2 ^ 48 ≤ n) (kept : Kept n q) where
  pos : 0 < 2 ^ k * 2 ^ k
  pos = mul-pos (pow_pos k) (pow_pos k)

  over : suc q * 2 ^ k ≤ z → n * (2 ^ k * 2 ^ k) < (q * 2 ^ k + z) * (q * 2 ^ k + z)
  over h =
      let c : 2 * q + 1 ≡ q + suc q = omega arith in
      let s : (2 * q + 1) * 2 ^ k ≡ q * 2 ^ k + suc q * 2 ^ k = ap (λ (x : ℕ). x * 2 ^ k) c ∙ add-mul q (suc q) (2 ^ k) in
      let m : (2 * q + 1) * 2 ^ k ≤ q * 2 ^ k + z = omega arith in
      lt_of_lt_of_le (mul-lt-mul_of_pos_right kept.below pos) (le_trans (le_of_eq (sym (square_scaled (2 * q + 1) k))) (mul-le-mul m m))

  under : z ≤ (q - 1) * 2 ^ k → (q * 2 ^ k + z) * (q * 2 ^ k + z) < n * (2 ^ k * 2 ^ k)
  under h =
      let l = kept.least in
      let c : 2 * q - 1 ≡ q + (q - 1) = omega arith in
      let s : (2 * q - 1) * 2 ^ k ≡ q * 2 ^ k + (q - 1) * 2 ^ k = ap (λ (x : ℕ). x * 2 ^ k) c ∙ add-mul q (q - 1) (2 ^ k) in
      let m : q * 2 ^ k + z ≤ (2 * q - 1) * 2 ^ k = omega arith in
      lt_of_le_of_lt (mul-le-mul m m) (lt_of_le_of_lt (le_of_eq (square_scaled (2 * q - 1) k)) (mul-lt-mul_of_pos_right kept.above pos))

  -- at the least q, 2 ^ 23, the next number down is half as far, and the root is no less than q
  least_under : 2 ^ 23 ≡ q → z < q * 2 ^ k → (q * 2 ^ k + z) * (q * 2 ^ k + z) < n * (2 ^ k * 2 ^ k)
  least_under e h =
      let c : 2 * q ≡ q + q = omega arith in
      let s : 2 * q * 2 ^ k ≡ q * 2 ^ k + q * 2 ^ k = ap (λ (x : ℕ). x * 2 ^ k) c ∙ add-mul q q (2 ^ k) in
      let m : q * 2 ^ k + z < 2 * q * 2 ^ k = omega arith in
      let g : 2 * q * (2 * q) ≤ n = subst (λ (x : ℕ). 2 * x * (2 * x) ≤ n) e lo in
      lt_of_lt_of_le (sq_lt (q * 2 ^ k + z) (2 * q * 2 ^ k) m) (le_trans (le_of_eq (square_scaled (2 * q) k)) (mul-le-mul_right (2 ^ k * 2 ^ k) g))

pub nearer : (n q k a j : ℕ) → 2 ^ 48 ≤ n → Kept n q → a < 2 ^ 24 → (u : ℕ) → 4 * u ≡ n * (2 ^ k * 2 ^ k) → Nearer u (q * 2 ^ k) (a * 2 ^ j)
nearer n q k a j lo kept most u e = (
  λ l. subst (λ (x : ℕ). (q * 2 ^ k + a * 2 ^ j) * (q * 2 ^ k + a * 2 ^ j) < x) (sym e) (left (eq-or-lt_of_le kept.least) l),
  λ l. subst (λ (x : ℕ). x < (q * 2 ^ k + a * 2 ^ j) * (q * 2 ^ k + a * 2 ^ j)) (sym e) (over n q k (a * 2 ^ j) lo kept (next_up q k a j most kept.least l)),
)
  where
    left : (2 ^ 23 ≡ q) ⊎ (2 ^ 23 < q) → a * 2 ^ j < q * 2 ^ k → (q * 2 ^ k + a * 2 ^ j) * (q * 2 ^ k + a * 2 ^ j) < n * (2 ^ k * 2 ^ k)
    left (inl f) l = least_under n q k (a * 2 ^ j) lo kept f l
    left (inr g) l = under n q k (a * 2 ^ j) lo kept (next_down q k a j most g l)
