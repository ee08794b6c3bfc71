-- The second step of the root (`exact_result`): every f32 that is finite and above zero, a subnormal too, is brought by one power of 4, and by no other, to 2 ^ 48 or more and below 2 ^ 50;
-- and the root of what it is brought to is the largest whole number whose square is at most that.
use mathlib.Core.Path.{◌≡◌, refl, sym, ap, ◌∙◌, subst}
use mathlib.Core.Logic.{⊎_elim}
use mathlib.Core.Bool.{false}
use Prim.Native.Nat.{ℕ, suc, ◌+◌, ◌-◌, ◌*◌, ◌^◌, ◌≤◌, ◌<◌}
use native.Mathlib.Nat.{eq-or-lt_of_le, mul_assoc, mul_right_comm, mul-le-mul_left, eq_of_mul-eq-mul_right, pow-suc, le_trans, le_of_eq}
use native.Mathlib.Omega.{arith}
use lib.Dec.{T}
use lib.Pow.{pow-add, pow_pos}
use lib.Ieee.{Float, binary32, fits}
use lib.Ieee.Exact.{HasValue}
use lib.Ieee.Positive.{num, den, den_pos, positive, value→cross}
use Rattle.root.specs.Root.{InRange, whole_root, brought, power, exact_of, scaled}
use Rattle.root.specs.RootSteps.{BroughtTo, ExactResult}
use Rattle.ieee.proofs.Values.{by_order, rescale}
use Rattle.root.proofs.RootWhole.{whole_root_is}
use Rattle.table.proofs.Laws.{root_le}
use Rattle.root.proofs.RootValue.{twice}
use Rattle.root.proofs.RootBrought.{four_pow}
use Rattle.root.proofs.RootSteps.{Ready, ready, in_25, operand}

-- ---- one power of 4

four_pos : (a : ℕ) → 0 < 4 ^ a
four_pos a = subst (λ (x : ℕ). 0 < x) (sym (four_pow a)) (pow_pos (a + a))

-- for a smaller a, m * 4 ^ a is below n * 4 ^ b, since m is below four times n
apart : (m n a b : ℕ) → InRange m → InRange n → a < b → m * 4 ^ a ≡ n * 4 ^ b → ⊥
apart m n a b h l less e =
    let d : b ≡ suc (b - suc a) + a = omega arith in
    let s : 4 ^ b ≡ 4 ^ suc (b - suc a) * 4 ^ a = ap (λ (x : ℕ). 4 ^ x) d ∙ pow-add 4 (suc (b - suc a)) a in
    let f : m * 4 ^ a ≡ n * 4 ^ suc (b - suc a) * 4 ^ a = e ∙ ap (λ (x : ℕ). n * x) s ∙ sym (mul_assoc n (4 ^ suc (b - suc a)) (4 ^ a)) in
    let g : m ≡ n * 4 ^ suc (b - suc a) = eq_of_mul-eq-mul_right (4 ^ a) (four_pos a) m (n * 4 ^ suc (b - suc a)) f in
    let p : 0 < 4 ^ (b - suc a) = four_pos (b - suc a) in
    let q : 4 ^ suc (b - suc a) ≡ 4 ^ (b - suc a) * 4 = pow-suc 4 (b - suc a) in
    let r : 4 ≤ 4 ^ suc (b - suc a) = omega arith in
    let t : n * 4 ≤ n * 4 ^ suc (b - suc a) = mul-le-mul_left n r in
    too_large m n h l (le_trans t (le_of_eq (sym g)))
  where
    too_large : (m n : ℕ) → InRange m → InRange n → n * 4 ≤ m → ⊥
    too_large m n h l t = omega arith

pub one_power : (m n a b : ℕ) → InRange m → InRange n → m * 4 ^ a ≡ n * 4 ^ b → (m ≡ n) × (a ≡ b)
one_power m n a b h l e =
    by_order a b
    (λ o.
    ⊎_elim
    (λ (f : a ≡ b). (eq_of_mul-eq-mul_right (4 ^ b) (four_pos b) m n (ap (λ (x : ℕ). m * 4 ^ x) (sym f) ∙ e), f))
    (λ (g : a < b). absurd (apart m n a b h l g e))
    (eq-or-lt_of_le o))
    (λ g. absurd (apart n m b a l h g (sym e)))

-- two fractions of one number, crosswise
pub crosswise : (x : Float) (a b c d : ℕ) → HasValue x false a b → HasValue x false c d → a * d ≡ c * b
crosswise x a b c d v w =
    let z = den x in
    eq_of_mul-eq-mul_right z (den_pos x) (a * d) (c * b)
    (mul_right_comm a d z ∙ ap (λ (y : ℕ). y * d) (sym (value→cross x a b v)) ∙ mul_right_comm (num x) b d ∙ ap (λ (y : ℕ). y * b) (value→cross x c d w) ∙ mul_right_comm c z b)

-- ---- the law

-- of m * 2 ^ (j + 1) of 4 ^ -75
module _ (x : Float) (m j : ℕ) (value : HasValue x false (m * 2 ^ j) (2 ^ 149)) (ok : Ready (m * 2 ^ suc j)) where
  abbrev v : ℕ
  v = m * 2 ^ suc j

  abbrev n : ℕ
  n = brought v

  in_range : InRange n
  in_range = let h = ok.hi in (ok.lo, omega arith)

  -- nothing is lost: x is n * 4 ^ power / 4 ^ 100
  exact : m * 2 ^ j * 4 ^ 100 ≡ n * 4 ^ power v * 2 ^ 149
  exact =
      let u = m * 2 ^ j in
      sym (ap (λ (y : ℕ). y * 2 ^ 149) (ok.exact ∙ ap (λ (y : ℕ). y * 4 ^ 25) (sym (twice m j)) ∙ mul_assoc u 2 (4 ^ 25)) ∙ mul_assoc u (2 * 4 ^ 25) (2 ^ 149))

  brought_to : BroughtTo x n (power v) 100
  brought_to = (in_range, rescale x false (m * 2 ^ j) (2 ^ 149) (n * 4 ^ power v) (4 ^ 100) (pow_pos 149) exact value)

  only_one : (a p k : ℕ) → BroughtTo x a p k → (a ≡ n) × (p + 100 ≡ power v + k)
  only_one a p k h =
      one_power a n (p + 100) (power v + k) h.0 in_range
      (ap (λ (y : ℕ). a * y) (pow-add 4 p 100)
      ∙ sym (mul_assoc a (4 ^ p) (4 ^ 100))
      ∙ crosswise x (a * 4 ^ p) (4 ^ k) (n * 4 ^ power v) (4 ^ 100) h.1 brought_to.1
      ∙ mul_assoc n (4 ^ power v) (4 ^ k)
      ∙ ap (λ (y : ℕ). n * y) (sym (pow-add 4 (power v) k)))

  result : ExactResult x (exact_of v)
  unfolding exact_of
  result =
      let i = whole_root_is 25 n (in_25 v ok) in
      record {
        n = n;
        brought = brought_to;
        only = only_one;
        at_most = i.0;
        largest = λ s h. root_le n s (whole_root 25 n) h i.1;
        less = refl;
      }

pub exact_result : (x : Float) → T (fits binary32 x) → T (positive x) → ExactResult x (exact_of (scaled x))
exact_result x f t =
    let o = operand x f t in
    subst (λ (v : ℕ). ExactResult x (exact_of v)) (sym o.quarters) (result x o.m o.j o.value (ready o.m (suc o.j) o.some o.short))
