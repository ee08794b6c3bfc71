-- An operand v = a * 2 ^ k, for an a of at most 24 binary digits, brought by a power of 4 to 2 ^ 48 or more and below 2 ^ 50: nothing is lost.
use mathlib.Core.Path.{◌≡◌, refl, sym, ap, ◌∙◌, subst}
use mathlib.Core.Logic.{◌⊎◌, inl, inr}
use Prim.Native.Nat.{ℕ, zero, suc, ◌+◌, ◌-◌, ◌*◌, ◌/◌, ◌%◌, ◌^◌, ◌≤◌, ◌<◌}
use native.Mathlib.Nat.{le_trans, le_of_eq, mul_assoc, mul-le-mul_right, mul-div_cancel, pow-suc, suc-mul, suc-add, eq-or-lt_of_le, mul-mod_left}
use native.Mathlib.Omega.{arith}
use lib.Pow.{pow-add, pow_pos, pow_mono, shl_lt}
use lib.Ieee.{size}
use Rattle.root.specs.Root.{power, brought}
use Rattle.ieee.proofs.Values.{size_is}

pub four_pow : (p : ℕ) → 4 ^ p ≡ 2 ^ (p + p)
four_pow zero = refl
four_pow (suc p) =
    let e : suc p + suc p ≡ suc (suc (p + p)) = omega arith in
    pow-suc 4 p ∙ ap (λ (x : ℕ). x * 4) (four_pow p) ∙ sym (mul_assoc (2 ^ (p + p)) 2 2) ∙ ap (λ (x : ℕ). x * 2) (sym (pow-suc 2 (p + p))) ∙ sym (pow-suc 2 (suc (p + p))) ∙ ap (λ (x : ℕ). 2 ^ x) (sym e)

-- j is the place of a's highest digit
module _ (a j k : ℕ) (lo : 2 ^ j ≤ a) (hi : a < 2 ^ suc j) (small : j < 24) where
  shifted_lo : (t : ℕ) → 2 ^ (j + t) ≤ a * 2 ^ t
  shifted_lo t = le_trans (le_of_eq (pow-add 2 j t)) (mul-le-mul_right (2 ^ t) lo)

  shifted_hi : (t : ℕ) → a * 2 ^ t + 2 ^ t ≤ 2 ^ (suc j + t)
  shifted_hi t =
      let e : suc a * 2 ^ t ≡ a * 2 ^ t + 2 ^ t = suc-mul a (2 ^ t) in
      let h : suc a * 2 ^ t ≤ 2 ^ suc j * 2 ^ t = mul-le-mul_right (2 ^ t) hi in
      let p : 2 ^ (suc j + t) ≡ 2 ^ suc j * 2 ^ t = pow-add 2 (suc j) t in
      omega arith

  size_shifted : size (a * 2 ^ k) ≡ suc (j + k)
  size_shifted = size_is (a * 2 ^ k) (j + k) (suc (j + k)) (shifted_lo k) (subst (λ (x : ℕ). a * 2 ^ k < 2 ^ x) (suc-add j k) (shl_lt (suc j) k hi)) refl

  -- the power of a * 2 ^ k
  abbrev pub pw : ℕ
  pw = (j + k + 2) / 2

  pub power_is : power (a * 2 ^ k) ≡ pw
  power_is =
      let e : suc (j + k) + 1 ≡ j + k + 2 = omega arith in
      ap (λ (x : ℕ). (x + 1) / 2) size_shifted ∙ ap (λ (x : ℕ). x / 2) e

  -- how far a is moved up
  abbrev pub sh : ℕ
  sh = 50 + k - (pw + pw)

  sh_eq : k + 50 ≡ sh + (pw + pw)
  sh_eq = omega arith

  moved : a * 2 ^ k * 4 ^ 25 ≡ a * 2 ^ sh * 4 ^ pw
  moved =
      mul_assoc a (2 ^ k) (2 ^ 50)
      ∙ ap (λ (x : ℕ). a * x) (sym (pow-add 2 k 50) ∙ ap (λ (x : ℕ). 2 ^ x) sh_eq ∙ pow-add 2 sh (pw + pw) ∙ ap (λ (x : ℕ). 2 ^ sh * x) (sym (four_pow pw)))
      ∙ sym (mul_assoc a (2 ^ sh) (4 ^ pw))

  pub brought_is : brought (a * 2 ^ k) ≡ a * 2 ^ sh
  brought_is =
      ap (λ (x : ℕ). a * 2 ^ k * 4 ^ 25 / 4 ^ x) power_is
      ∙ ap (λ (x : ℕ). x / 4 ^ pw) moved
      ∙ mul-div_cancel (a * 2 ^ sh) (subst (λ (x : ℕ). 0 < x) (sym (four_pow pw)) (pow_pos (pw + pw)))

  -- a power of 4 was taken out, and none of v was lost
  pub brought_exact : brought (a * 2 ^ k) * 4 ^ power (a * 2 ^ k) ≡ a * 2 ^ k * 4 ^ 25
  brought_exact = ap (λ (x : ℕ). x * 4 ^ power (a * 2 ^ k)) brought_is ∙ ap (λ (x : ℕ). a * 2 ^ sh * 4 ^ x) power_is ∙ sym moved

  pub brought_lo : 2 ^ 48 ≤ a * 2 ^ sh
  brought_lo =
      let h : 48 ≤ j + sh = omega arith in
      le_trans (pow_mono h) (shifted_lo sh)

  pub brought_hi : a * 2 ^ sh + 2 ^ 26 ≤ 2 ^ 50
  brought_hi = go (eq-or-lt_of_le at_most)
    where
      at_most : j + sh ≤ 49
      at_most = omega arith

      go : (j + sh ≡ 49) ⊎ (j + sh < 49) → a * 2 ^ sh + 2 ^ 26 ≤ 2 ^ 50
      go (inl e) =
          let f : suc j + sh ≡ 50 = omega arith in
          let g : 26 ≤ sh = omega arith in
          let l : 2 ^ 26 ≤ 2 ^ sh = pow_mono g in
          let h : a * 2 ^ sh + 2 ^ sh ≤ 2 ^ 50 = subst (λ (x : ℕ). a * 2 ^ sh + 2 ^ sh ≤ 2 ^ x) f (shifted_hi sh) in
          omega arith
      go (inr l) =
          let f : suc j + sh ≤ 49 = omega arith in
          let g : a * 2 ^ sh + 2 ^ sh ≤ 2 ^ 49 = le_trans (shifted_hi sh) (pow_mono f) in
          omega arith

  pub brought_even : a * 2 ^ sh % 2 ≡ 0
  brought_even =
      let h : sh ≡ suc (sh - 1) = omega arith in
      let e : a * 2 ^ sh ≡ a * 2 ^ (sh - 1) * 2 = ap (λ (x : ℕ). a * 2 ^ x) h ∙ ap (λ (x : ℕ). a * x) (pow-suc 2 (sh - 1)) ∙ sym (mul_assoc a (2 ^ (sh - 1)) 2) in
      ap (λ (x : ℕ). x % 2) e ∙ mul-mod_left (a * 2 ^ (sh - 1)) 2
