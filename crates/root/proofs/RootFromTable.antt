-- From the table's 8 digits, which are within 2 ^ 17 of the root, one step of Newton's comes within 2 ^ 9 above it, and a second one to the root or the next number (`RootNewton.antt`).
use mathlib.Core.Path.{◌≡◌, refl, sym, ap, ◌∙◌, subst}
use Prim.Native.Nat.{ℕ, ◌+◌, ◌-◌, ◌*◌, ◌/◌, ◌^◌, ◌≤◌, ◌<◌}
use native.Mathlib.Nat.{le_trans, add_assoc, mul_comm, mul-add, add-mul, two-mul, mul-one, one-mul, mul_assoc, mul-le-mul, mul-mul-mul_comm, div-div-eq-div-mul}
use native.Mathlib.Omega.{arith}
use Rattle.table.specs.Rule.{Rule, entry_of}
use Rattle.table.proofs.Laws.{root_le, entry_is}
use Rattle.root.specs.Root.{IsRoot, InRange, whole_root}
use Rattle.root.proofs.RootWhole.{whole_root_is}
use Rattle.root.proofs.RootNewton.{step, step_above, step_near}

-- the first step from (t + 1) * 2 ^ 17, as the code works it out, by a division of 32 bits
abbrev pub guess : ℕ → ℕ → ℕ
guess n t = (t + 1) * 65536 + n / 262144 / (t + 1)

-- what the code goes by, with the table's digits t
pub record Newton (n t : ℕ) : Type 0 where
  pub digits : t ≤ 255
  pub guess_least : 0 < guess n t
  pub guess_most : guess n t < 2 ^ 26
  pub square_most : step n (guess n t) * step n (guess n t) ≤ 2 ^ 50
  pub as_it_is : step n (guess n t) * step n (guess n t) ≤ n → IsRoot n (step n (guess n t))
  pub one_less : n < step n (guess n t) * step n (guess n t) → IsRoot n (step n (guess n t) - 1)

next_square : (a : ℕ) → (a + 1) * (a + 1) ≡ a * a + 2 * a + 1
next_square a = simp (two-mul, mul-add, add-mul, mul-one, one-mul, add_assoc) refl

module _ (n t : ℕ) (within : InRange n) (e : t ≡ entry_of (n / 2 ^ 40)) where
  abbrev r : ℕ
  r = whole_root 25 n

  is : IsRoot n r
  is = whole_root_is 25 n within.1

  rule : Rule (n / 2 ^ 40) t
  rule =
      let a = within.0 in
      let b = within.1 in
      subst (Rule (n / 2 ^ 40)) (sym e) (entry_is (n / 2 ^ 40) (omega arith) (omega arith))

  r_least : 2 ^ 24 ≤ r
  r_least = root_le n (2 ^ 24) r within.0 is.1

  r_most : r ≤ 2 ^ 25 - 1
  r_most = root_le n r (2 ^ 25 - 1) is.0 within.1

  t_least : 128 ≤ t
  t_least = root_le (64 * (n / 2 ^ 40)) 128 t (let a = within.0 in omega arith) rule.1

  t_most : t ≤ 255
  t_most = root_le (64 * (n / 2 ^ 40)) t 255 rule.0 (let b = within.1 in omega arith)

  -- the root lies from t to t + 2, in units of 2 ^ 17
  at_least : t * 2 ^ 17 ≤ r
  at_least =
      let q : t * 2 ^ 17 * (t * 2 ^ 17) ≡ t * t * 2 ^ 34 = mul-mul-mul_comm t (2 ^ 17) t (2 ^ 17) in
      let a = rule.0 in
      root_le n (t * 2 ^ 17) r (omega arith) is.1

  at_most : r + 1 ≤ (t + 2) * 2 ^ 17
  at_most =
      let u = (t + 2) * 2 ^ 17 - 1 in
      let two : t + 1 + 1 ≡ t + 2 = omega arith in
      let a : (t + 2) * (t + 2) ≡ (t + 1) * (t + 1) + 2 * (t + 1) + 1 = subst (λ (x : ℕ). x * x ≡ (t + 1) * (t + 1) + 2 * (t + 1) + 1) two (next_square (t + 1)) in
      let q : (t + 2) * 2 ^ 17 * ((t + 2) * 2 ^ 17) ≡ (t + 2) * (t + 2) * 2 ^ 34 = mul-mul-mul_comm (t + 2) (2 ^ 17) (t + 2) (2 ^ 17) in
      let b = rule.1 in
      let l = t_least in
      let f : n < (t + 2) * 2 ^ 17 * ((t + 2) * 2 ^ 17) = omega arith in
      let v : (t + 2) * 2 ^ 17 ≡ u + 1 = omega arith in
      let k : r ≤ u = root_le n r u is.0 (subst (λ (x : ℕ). n < x * x) v f) in
      omega arith

  abbrev g₀ : ℕ
  g₀ = (t + 1) * 2 ^ 17

  abbrev g₁ : ℕ
  g₁ = guess n t

  g₁_is : g₁ ≡ step n g₀
  g₁_is =
      let a : g₀ ≡ (t + 1) * 65536 * 2 = sym (mul_assoc (t + 1) 65536 2) in
      let b : n / g₀ / 2 ≡ n / 262144 / (t + 1) =
      div-div-eq-div-mul n g₀ 2 ∙ ap (λ (x : ℕ). n / x) (mul_assoc (t + 1) (2 ^ 17) 2 ∙ mul_comm (t + 1) 262144) ∙ sym (div-div-eq-div-mul n 262144 (t + 1)) in
      omega arith

  after_one : (r ≤ g₁) × (g₁ ≤ r + 2 ^ 9)
  after_one =
      let a = at_least in
      let b = at_most in
      let l = t_least in
      let up : n < (step n g₀ + 1) * (step n g₀ + 1) = step_above n g₀ (omega arith) in
      let near : step n g₀ < r + 1 + 2 ^ 9 = step_near n (r + 1) g₀ (2 ^ 17) (2 ^ 9) (omega arith) is.1 (omega arith) (omega arith) (omega arith) (omega arith) in
      let q = g₁_is in
      let k : r ≤ step n g₀ = root_le n r (step n g₀) is.0 up in
      (omega arith, omega arith)

  g₁_least : 0 < g₁
  g₁_least = omega (arith, after_one, r_least)

  g₁_most : g₁ < 2 ^ 26
  g₁_most = omega (arith, after_one, r_most)

  -- the second step
  abbrev h : ℕ
  h = step n g₁

  h_most : h ≤ r + 1
  h_most =
      let a = after_one in
      let l = r_least in
      let near : h < r + 1 + 1 = step_near n (r + 1) g₁ (2 ^ 9) 1 (omega arith) is.1 (omega arith) (omega arith) (omega arith) (omega arith) in
      omega arith

  square_most : h * h ≤ 2 ^ 50
  square_most =
      let l : h ≤ 2 ^ 25 = omega (arith, h_most, r_most) in
      mul-le-mul l l

  one_less : n < h * h → IsRoot n (h - 1)
  one_less s =
      let l : h - 1 ≤ r = omega (arith, h_most) in
      let k : r ≤ h = root_le n r h is.0 (step_above n g₁ g₁_least) in
      let v : h ≡ h - 1 + 1 = omega (arith, r_least) in
      (le_trans (mul-le-mul l l) is.0, subst (λ (x : ℕ). n < x * x) v s)

  pub newton : Newton n t
  newton = record {
    digits = t_most;
    guess_least = g₁_least;
    guess_most = g₁_most;
    square_most = square_most;
    as_it_is = λ s. (s, step_above n g₁ g₁_least);
    one_less = one_less;
  }
