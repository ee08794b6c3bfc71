-- What `round_of` is at an f64's fields e and t, in the three ranges of e that the code tells apart.
use Rattle.std.proofs.Common.{◌≡◌, ℕ, zero, suc, ◌+◌, ◌-◌, ◌*◌, ◌/◌, ◌%◌, ◌^◌, ◌<◌, ◌≤◌, Bool, true, false, cond, not, T, ltb, leb, sym, refl, ap, ◌∙◌, subst, ⊎_elim, lt_of_lt_of_le, le_of_lt, mul_assoc, div-lt_iff_lt-mul, eq-or-lt_of_le, arith, pow_pos, pow_mono, pow-add, shl_lt}
use native.Mathlib.Nat.{div-eq_of_lt}
use lib.Ieee.{Float, nan, inf, Format, binary64, prec, emax, low, size, odd, units, round, neg, fits, is_nan, of_fields, to_bits}
use lib.Ieee.Fits.{round_is}
use lib.Ieee.Exact.{HasValue}
use lib.Ieee.Nearest.{closest}
use Rattle.ieee.specs.Rounding.{round_of, half_up}
use Rattle.ieee.proofs.Values.{value_is_finite}
use Rattle.ieee.proofs.Short.{in_units_lem}
use Rattle.ieee.proofs.HalfUp.{half_up_same, round_of_at, round_of_own}
use Rattle.ieee.proofs.Fields.{with_leading, value_finite, value_zero, value_top, by_fields, top_plain}

pub round_of_nan : round_of nan ≡ nan
unfolding round_of
round_of_nan = refl

round_of_inf : (s : Bool) → round_of (inf s) ≡ inf s
unfolding round_of
round_of_inf s = refl

-- ---- the other sign
neg_odd : (d : ℕ) (s : Bool) (q k l : ℕ) → neg (odd d s q k l) ≡ odd d (not s) q k l
unfolding neg odd
neg_odd d s zero k l = refl
neg_odd d s (suc q) k l = refl

neg_units : (f : Format) (s : Bool) (q k : ℕ) → neg (units f s q k) ≡ units f (not s) q k
unfolding units
neg_units f s q k = go (ltb (q * 2 ^ k) (2 ^ (low f + suc (emax f))))
  where
    go : (b : Bool) → neg (cond b (odd (suc (prec f)) s q k (low f)) (inf s)) ≡ cond b (odd (suc (prec f)) (not s) q k (low f)) (inf (not s))
    go true = neg_odd (suc (prec f)) s q k (low f)
    go false = unfold neg in refl

pub neg_round : (f : Format) (s : Bool) (a c : ℕ) → neg (round f s a c) ≡ round f (not s) a c
neg_round f s a c =
    let n = a * 2 ^ low f in
    let k = size (n / c) - prec f in
    ap neg (round_is f s a c) ∙ neg_units f s (closest n (c * 2 ^ k)) k ∙ sym (round_is f (not s) a c)

-- ---- below a half
half_none : (a : ℕ) → a < 2 ^ 1073 → half_up a (2 ^ 1074) ≡ 0
half_none a h = div-eq_of_lt (go a (2 ^ 1073) h)
  where
    go : (a p : ℕ) → a < p → 2 * a + 2 * p < 2 * (2 * p)
    go a p h = omega arith

pub whole_none : (s : Bool) (e t : ℕ) → e < 1022 → t < 2 ^ 52 → round_of (of_fields binary64 s e t) ≡ round binary64 s 0 1
whole_none s zero t h k =
    round_of_at (of_fields binary64 s 0 t) s t (2 ^ 1074) (pow_pos 1074) (value_zero binary64 s t) ∙ ap (λ (n : ℕ). round binary64 s n 1) (half_none t (lt_of_lt_of_le k (pow_mono r)))
  where
    r : 52 ≤ 1073
    r = omega arith
whole_none s (suc x) t h k =
    let p : 0 < suc x = omega arith in
    let l : suc x < 2047 = omega arith in
    let r : 53 + (suc x - 1) ≤ 1073 = omega arith in
    round_of_at (of_fields binary64 s (suc x) t) s ((2 ^ 52 + t) * 2 ^ (suc x - 1)) (2 ^ 1074) (pow_pos 1074) (value_finite binary64 s (suc x) t p l)
    ∙ ap (λ (n : ℕ). round binary64 s n 1) (half_none ((2 ^ 52 + t) * 2 ^ (suc x - 1)) (lt_of_lt_of_le (shl_lt 53 (suc x - 1) (with_leading binary64 t k)) (pow_mono r)))

-- ---- with a fraction
pub whole_some : (s : Bool) (e t : ℕ) → 1022 ≤ e → e < 1075 → t < 2 ^ 52 → round_of (of_fields binary64 s e t) ≡ round binary64 s (half_up (2 ^ 52 + t) (2 ^ (1075 - e))) 1
whole_some s e t h k l =
    let p : 0 < e = omega arith in
    let q : e < 2047 = omega arith in
    let x : e - 1 + (1075 - e) ≡ 1074 = omega arith in
    let D = 2 ^ 52 + t in
    round_of_at (of_fields binary64 s e t) s (D * 2 ^ (e - 1)) (2 ^ 1074) (pow_pos 1074) (value_finite binary64 s e t p q)
    ∙ ap (λ (n : ℕ). round binary64 s n 1)
    (half_up_same (D * 2 ^ (e - 1)) (2 ^ 1074) D (2 ^ (1075 - e)) (pow_pos 1074) (pow_pos (1075 - e))
    (mul_assoc D (2 ^ (e - 1)) (2 ^ (1075 - e)) ∙ ap (λ (z : ℕ). D * z) (sym (pow-add 2 (e - 1) (1075 - e)) ∙ ap (λ (z : ℕ). 2 ^ z) x)))

pub half_up_le : (t u : ℕ) → t < 2 ^ 52 → 2 ≤ u → half_up (2 ^ 52 + t) u ≤ 2 ^ 53
half_up_le t u h k = le_of_lt ((div-lt_iff_lt-mul (twice u k)).1 (far t u h k))
  where
    twice : (u : ℕ) → 2 ≤ u → 0 < 2 * u
    twice u k = omega arith

    far : (t u : ℕ) → t < 2 ^ 52 → 2 ≤ u → 2 * (2 ^ 52 + t) + u < 2 ^ 53 * (2 * u)
    far t u h k = omega arith

whole_finite : (s : Bool) (e t : ℕ) → 1075 ≤ e → e < 2047 → T (fits binary64 (of_fields binary64 s e t)) → round_of (of_fields binary64 s e t) ≡ of_fields binary64 s e t
whole_finite s e t h k f =
    let x = of_fields binary64 s e t in
    let D = 2 ^ 52 + t in
    let p : 0 < e = omega arith in
    let split : e - 1 ≡ e - 1075 + 1074 = omega arith in
    let v : HasValue x s (D * 2 ^ (e - 1)) (2 ^ 1074) = value_finite binary64 s e t p k in
    round_of_own x f (value_is_finite x s (D * 2 ^ (e - 1)) (2 ^ 1074) v) (D * 2 ^ (e - 1075))
    (in_units_lem binary64 x s (D * 2 ^ (e - 1)) v ∙ ap (λ (z : ℕ). D * z) (ap (λ (z : ℕ). 2 ^ z) split ∙ pow-add 2 (e - 1075) 1074) ∙ sym (mul_assoc D (2 ^ (e - 1075)) (2 ^ 1074)))

pub whole_already : (x : Float) → T (fits binary64 x) → T (not (is_nan x)) → 1075 ≤ to_bits binary64 x % 2 ^ 63 / 2 ^ 52 → round_of x ≡ x
whole_already x f n h =
    let b = to_bits binary64 x in
    let E = b % 2 ^ 63 / 2 ^ 52 in
    let t = b % 2 ^ 52 in
    let s = leb (2 ^ 63) b in
    let is : of_fields binary64 s E t ≡ x = by_fields x s f refl in
    let hi : E ≤ 2047 = omega arith in
    ⊎_elim
    (λ (q : E ≡ 2047).
    let i : x ≡ inf s = sym is ∙ ap (λ (z : ℕ). of_fields binary64 s z t) q ∙ ap (λ (z : ℕ). of_fields binary64 s 2047 z) (top_plain x f n q) ∙ value_top binary64 s in
    ap round_of i ∙ round_of_inf s ∙ sym i)
    (λ (q : E < 2047).
    ap round_of (sym is) ∙ whole_finite s E t h q (subst (λ (z : Float). T (fits binary64 z)) (sym is) f) ∙ is)
    (eq-or-lt_of_le hi)

-- the power that `whole_fields` divides by
pub power_range : (e u : ℕ) → 1022 ≤ e → e < 1075 → u ≡ 2 ^ (1075 - e) → (2 ≤ u) × (u ≤ 2 ^ 53)
power_range e u h k i =
    let a : 1 ≤ 1075 - e = omega arith in
    let b : 1075 - e ≤ 53 = omega arith in
    (subst (λ (x : ℕ). 2 ≤ x) (sym i) (pow_mono a), subst (λ (x : ℕ). x ≤ 2 ^ 53) (sym i) (pow_mono b))
