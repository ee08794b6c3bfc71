-- The root of a positive f32 is the nearest f32 to the exact root, and there is never a tie (`nearest_root`).
use mathlib.Core.Path.{◌≡◌, sym, ap, ◌∙◌, subst}
use mathlib.Core.Logic.{⊎_elim}
use mathlib.Core.Bool.{false}
use Prim.Native.Nat.{ℕ, suc, ◌+◌, ◌*◌, ◌/◌, ◌%◌, ◌^◌, ◌≤◌, ◌<◌}
use native.Mathlib.Nat.{eq-or-lt_of_le, le_of_lt, lt_of_lt_of_le, mul_assoc, mul_comm}
use native.Mathlib.Omega.{arith}
use lib.Dec.{T, ltb}
use lib.Pow.{pow-add, pow_mono, shl_lt}
use lib.Ieee.{Float, binary32, units, nearest, fits}
use lib.Ieee.Exact.{HasValue, units_val}
use lib.Ieee.Positive.{positive}
use Rattle.root.specs.Root.{whole_root, brought, power, dropped, exact_of, round_exact_of, sqrt_of}
use Rattle.ieee.specs.Units.{in_units}
use Rattle.root.specs.RootNearest.{OnSide, NearestRoot}
use Rattle.ieee.proofs.Values.{by_order, value_unique, value_is_finite}
use Rattle.ieee.proofs.Short.{short, in_units_lem}
use Rattle.root.proofs.RootWhole.{whole_root_is}
use Rattle.root.proofs.RootBrought.{four_pow}
use Rattle.root.proofs.RootDigits.{Kept, kept}
use Rattle.root.proofs.RootSides.{nearer}
use Rattle.ieee.proofs.Pack.{units_fit}
use Rattle.root.proofs.RootAssembled.{round_exact_is}
use Rattle.root.proofs.RootValue.{twice}
use Rattle.root.proofs.RootSpecial.{positive_left, root_left}
use Rattle.root.proofs.RootSteps.{Ready, ready, in_25, operand, power_most}

-- ---- the root of m * 2 ^ j units

module _ (m j : ℕ) (p : 0 < m) (small : m < 2 ^ 24) (within : m * 2 ^ j < 2 ^ 277) where
  abbrev v : ℕ
  v = m * 2 ^ suc j

  abbrev n : ℕ
  n = brought v

  abbrev r : ℕ
  r = whole_root 25 n

  abbrev q : ℕ
  q = nearest (r / 2) (dropped (r % 2) (ltb (r * r) n))

  abbrev k : ℕ
  k = power v + 50

  ok : Ready v
  ok = ready m (suc j) p small

  keeps : Kept n q
  keeps = kept n ok.lo ok.hi ok.even r (whole_root_is 25 n (in_25 v ok))

  k_le : k ≤ 253
  k_le =
      let h = power_most m j within in
      omega arith

  result : round_exact_of (exact_of v) ≡ units binary32 false q k
  unfolding exact_of
  result = round_exact_is r (ltb (r * r) n) (power v)

  -- four times the operand, as the middles' squares are measured
  scale : 4 * (m * 2 ^ j * 2 ^ 149) ≡ n * (2 ^ k * 2 ^ k)
  scale =
      let u = m * 2 ^ j in
      mul_comm 4 (u * 2 ^ 149)
      ∙ mul_assoc u (2 ^ 149) 4
      ∙ sym (mul_assoc (u * 2) (4 ^ 25) (4 ^ 50) ∙ mul_assoc u 2 (4 ^ 75))
      ∙ ap (λ (x : ℕ). x * 4 ^ 25 * 4 ^ 50) (twice m j)
      ∙ ap (λ (x : ℕ). x * 4 ^ 50) (sym ok.exact)
      ∙ mul_assoc n (4 ^ power v) (4 ^ 50)
      ∙ ap (λ (x : ℕ). n * x) (sym (pow-add 4 (power v) 50) ∙ four_pow k ∙ pow-add 2 k k)

  q_within : q * 2 ^ k < 2 ^ 277
  q_within =
      lt_of_lt_of_le (shl_lt 24 k keeps.most) (pow_mono (more k k_le))
    where
      more : (x : ℕ) → x ≤ 253 → 24 + x ≤ 277
      more x h = omega arith

  y_value : HasValue (round_exact_of (exact_of v)) false (q * 2 ^ k) (2 ^ 149)
  y_value = subst (λ (x : Float). HasValue x false (q * 2 ^ k) (2 ^ 149)) (sym result) (units_val binary32 false q k q_within)

  root_nearest : (x : Float) → in_units binary32 x ≡ m * 2 ^ j → NearestRoot x (round_exact_of (exact_of v))
  root_nearest x e =
      let y = round_exact_of (exact_of v) in
      let i : in_units binary32 y ≡ q * 2 ^ k = in_units_lem binary32 y false (q * 2 ^ k) y_value in
      record {
        held = subst (λ (x : Float). T (fits binary32 x)) (sym result) (units_fit binary32 false q k (le_of_lt keeps.most));
        plain = subst (λ (u : ℕ). HasValue y false u (2 ^ 149)) (sym i) y_value;
        nearest = λ z f t.
            let s = short binary32 z f t in
            subst (λ (u : ℕ). OnSide u (in_units binary32 y) (in_units binary32 z)) (sym e)
            (subst (λ (u : ℕ). OnSide (m * 2 ^ j) u (in_units binary32 z)) (sym i)
            (subst (λ (u : ℕ). OnSide (m * 2 ^ j) (q * 2 ^ k) u) (sym s.size_is)
            (nearer n q k s.m s.j ok.lo keeps s.small (m * 2 ^ j * 2 ^ 149) scale)));
      }

-- ---- the law

-- for every f32 that is finite and above zero
pub nearest_root : (x : Float) → T (fits binary32 x) → T (positive x) → NearestRoot x (sqrt_of x)
nearest_root x f t =
    let o = operand x f t in
    subst (λ (y : Float). NearestRoot x y)
    (sym (root_left x (positive_left x t) ∙ ap (λ (v : ℕ). round_exact_of (exact_of v)) o.quarters))
    (root_nearest o.m o.j o.some o.short o.within x o.in_units_lem)

-- only one number is such: of two, each would be strictly the nearer
pub root_unique : (x y z : Float) → NearestRoot x y → NearestRoot x z → y ≡ z
root_unique x y z a b =
    let u = in_units binary32 y in
    let v = in_units binary32 z in
    let p = a.nearest z b.held (value_is_finite z false v (2 ^ 149) b.plain) in
    let q = b.nearest y a.held (value_is_finite y false u (2 ^ 149) a.plain) in
    let e : u ≡ v = same u v (4 * (in_units binary32 x * 2 ^ 149)) p.0 p.1 q.0 q.1 in
    value_unique binary32 y z false v a.held b.held (subst (λ (n : ℕ). HasValue y false n (2 ^ 149)) e a.plain) b.plain
  where
    flip : (u v : ℕ) → (u + v) * (u + v) ≡ (v + u) * (v + u)
    flip u v = let e : u + v ≡ v + u = omega arith in ap (λ (n : ℕ). n * n) e

    same : (u v w : ℕ) → (v < u → (u + v) * (u + v) < w) → (u < v → w < (u + v) * (u + v)) → (u < v → (v + u) * (v + u) < w) → (v < u → w < (v + u) * (v + u)) → u ≡ v
    same u v w a b c d =
        by_order u v
        (λ l. ⊎_elim (λ (e : u ≡ v). e) (λ (h : u < v). absurd (clash ((v + u) * (v + u)) ((u + v) * (u + v)) (flip v u) (c h) (b h))) (eq-or-lt_of_le l))
        (λ g. absurd (clash ((u + v) * (u + v)) ((v + u) * (v + u)) (flip u v) (a g) (d g)))
      where
        clash : (i j : ℕ) → i ≡ j → i < w → w < j → ⊥
        clash i j e l h = omega arith
