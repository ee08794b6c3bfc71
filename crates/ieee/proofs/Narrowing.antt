-- What `narrow_of` is at an f64's fields E and T, in the three ranges of E that the code tells apart.
use Rattle.std.proofs.Common.{◌≡◌, ℕ, zero, suc, ◌+◌, ◌-◌, ◌*◌, ◌/◌, ◌%◌, ◌^◌, ◌<◌, ◌≤◌, Bool, cond, sym, refl, ap, ◌∙◌, subst, inl, inr, ⊎_elim, le_trans, le_of_eq, lt_of_lt_of_le, lt_of_le_of_lt, mul-le-mul_right, mod-eq_of_lt, mul_assoc, div-lt_iff_lt-mul, eq-or-lt_of_le, mul-le-mul_left, mul-pos, one-mul, le-div_iff_mul-le, zero-add, arith, pow_pos, pow_mono, pow-add, shl_lt, shr_lt}
use Prim.Native.Nat.{compare}
use native.Mathlib.Nat.{div-eq_of_lt}
use lib.Pow.{pow-lt}
use lib.Ieee.{inf, binary32, binary64, size, nearest, units, round, of_bits, of_fields}
use lib.Ieee.Digits.{size-le}
use lib.Ieee.Fits.{round_is, nearest-le}
use lib.Ieee.Nearest.{closest, closest_same, nearest-ge}
use Rattle.ieee.specs.Rounding.{narrow_of}
use Rattle.ieee.proofs.Values.{by_order, size_is, compare_lt}
use Rattle.ieee.proofs.Pack.{pack, units_over, inf_bits}
use Rattle.ieee.proofs.Fields.{with_leading, value_finite, value_zero, value_top, narrow_of_at, narrow_of_inf}

-- ---- the digits D of a normal f64, at the exponent's field E
module _ (D E : ℕ) (lo : 2 ^ 52 ≤ D) (hi : D < 2 ^ 53) (pos : 0 < E) where
  -- in units of binary32's smallest value the number is n / 2 ^ 1074
  n_is : D * 2 ^ (E - 1) * 2 ^ 149 ≡ D * 2 ^ (E + 148)
  n_is = mul_assoc D (2 ^ (E - 1)) (2 ^ 149) ∙ ap (λ (x : ℕ). D * x) (sym (pow-add 2 (E - 1) 149)) ∙ ap (λ (x : ℕ). D * 2 ^ x) (omega arith)

  n_hi : D * 2 ^ (E - 1) * 2 ^ 149 < 2 ^ (53 + (E + 148))
  n_hi = subst (λ (x : ℕ). x < 2 ^ (53 + (E + 148))) (sym n_is) (shl_lt 53 (E + 148) hi)

  n_lo : 2 ^ (52 + (E + 148)) ≤ D * 2 ^ (E - 1) * 2 ^ 149
  n_lo = subst (λ (x : ℕ). 2 ^ (52 + (E + 148)) ≤ x) (sym n_is) (le_trans (le_of_eq (pow-add 2 52 (E + 148))) (mul-le-mul_right (2 ^ (E + 148)) lo))

  drop_normal : 897 ≤ E → size (D * 2 ^ (E - 1) * 2 ^ 149 / 2 ^ 1074) ≡ E - 873
  drop_normal h =
      let n = D * 2 ^ (E - 1) * 2 ^ 149 in
      let a : 2 ^ (E - 874) * 2 ^ 1074 ≤ n = le_trans (le_of_eq (sym (pow-add 2 (E - 874) 1074))) (le_trans (pow_mono (same_lo h)) n_lo) in
      let b : n < 2 ^ (E - 873) * 2 ^ 1074 = lt_of_lt_of_le n_hi (le_trans (pow_mono (same_hi h)) (le_of_eq (pow-add 2 (E - 873) 1074))) in
      size_is (n / 2 ^ 1074) (E - 874) (E - 873) ((le-div_iff_mul-le (pow_pos 1074)).1 a) ((div-lt_iff_lt-mul (pow_pos 1074)).1 b) (omega arith)
    where
      same_lo : 897 ≤ E → E - 874 + 1074 ≤ 52 + (E + 148)
      same_lo h = omega arith

      same_hi : 897 ≤ E → 53 + (E + 148) ≤ E - 873 + 1074
      same_hi h = omega arith

  drop_below : E < 897 → size (D * 2 ^ (E - 1) * 2 ^ 149 / 2 ^ 1074) ≤ 24
  drop_below h =
      let n = D * 2 ^ (E - 1) * 2 ^ 149 in
      let r : 53 + (E + 148) ≤ 24 + 1074 = omega arith in
      size-le (n / 2 ^ 1074) 24 ((div-lt_iff_lt-mul (pow_pos 1074)).1 (lt_of_lt_of_le n_hi (le_trans (pow_mono r) (le_of_eq (pow-add 2 24 1074)))))

  drop_is : size (D * 2 ^ (E - 1) * 2 ^ 149 / 2 ^ 1074) - 24 ≡ E - 897
  drop_is = by_order 897 E (λ h. omega (arith, drop_normal h)) (λ h. omega (arith, drop_below h))

  cross : D * 2 ^ (E - 1) * 2 ^ 149 * 2 ^ (29 + (897 - E)) ≡ D * (2 ^ 1074 * 2 ^ (E - 897))
  cross =
      ap (λ (x : ℕ). x * 2 ^ (29 + (897 - E))) n_is
      ∙ mul_assoc D (2 ^ (E + 148)) (2 ^ (29 + (897 - E)))
      ∙ ap (λ (x : ℕ). D * x) (sym (pow-add 2 (E + 148) (29 + (897 - E))))
      ∙ ap (λ (x : ℕ). D * 2 ^ x) (omega arith)
      ∙ ap (λ (x : ℕ). D * x) (pow-add 2 1074 (E - 897))

  pub round_at : (s : Bool) → round binary32 s (D * 2 ^ (E - 1)) (2 ^ 1074) ≡ units binary32 s (closest D (2 ^ (29 + (897 - E)))) (E - 897)
  round_at s =
      let n = D * 2 ^ (E - 1) * 2 ^ 149 in
      round_is binary32 s (D * 2 ^ (E - 1)) (2 ^ 1074)
      ∙ ap (λ (k : ℕ). units binary32 s (closest n (2 ^ 1074 * 2 ^ k)) k) drop_is
      ∙ ap (λ (q : ℕ). units binary32 s q (E - 897))
      (closest_same n (2 ^ 1074 * 2 ^ (E - 897)) D (2 ^ (29 + (897 - E))) (mul-pos (pow_pos 1074) (pow_pos (E - 897))) (pow_pos (29 + (897 - E))) cross)

  pub kept_hi : closest D (2 ^ (29 + (897 - E))) ≤ 2 ^ 24
  kept_hi =
      let u = 2 ^ (29 + (897 - E)) in
      let r : 53 ≤ 24 + (29 + (897 - E)) = omega arith in
      le_trans (nearest-le (D / u) (compare (D % u * 2) u)) (shr_lt 24 (29 + (897 - E)) (lt_of_lt_of_le hi (pow_mono r)))

  pub kept_lo : 897 ≤ E → 2 ^ 23 ≤ closest D (2 ^ (29 + (897 - E)))
  kept_lo h =
      let u = 2 ^ (29 + (897 - E)) in
      let r : 29 + (897 - E) ≡ 29 = omega arith in
      le_trans ((le-div_iff_mul-le (pow_pos (29 + (897 - E)))).1 (subst (λ (k : ℕ). 2 ^ 23 * 2 ^ k ≤ D) (sym r) lo)) (nearest-ge (D / u) (compare (D % u * 2) u))

  pub narrow_digits : (s : Bool) → E ≤ 1150 → of_bits binary32 (cond s (2 ^ 31) 0 + ((E - 897) * 2 ^ 23 + closest D (2 ^ (29 + (897 - E))))) ≡ round binary32 s (D * 2 ^ (E - 1)) (2 ^ 1074)
  narrow_digits s h = pack s (closest D (2 ^ (29 + (897 - E)))) (E - 897) kept_hi (by_order 897 E (λ g. inr (kept_lo g)) (λ l. inl (omega arith))) (omega arith) ∙ sym (round_at s)

  pub narrow_over : (s : Bool) → 1150 < E → round binary32 s (D * 2 ^ (E - 1)) (2 ^ 1074) ≡ inf s
  narrow_over s h =
      let a : 897 ≤ E = omega arith in
      let r : 254 ≤ E - 897 = omega arith in
      round_at s
      ∙ units_over binary32 s (closest D (2 ^ (29 + (897 - E)))) (E - 897)
      (le_trans (le_of_eq (pow-add 2 23 254)) (le_trans (mul-le-mul_right (2 ^ 254) (kept_lo a)) (mul_le_mul_left' (closest D (2 ^ (29 + (897 - E)))) (pow_mono r))))
    where
      mul_le_mul_left' : (k : ℕ) {a b : ℕ} → a ≤ b → k * a ≤ k * b
      mul_le_mul_left' k h = mul-le-mul_left k h

-- ---- too small: below half of the smallest value
pub narrow_tiny : (s : Bool) (a : ℕ) → a < 2 ^ 924 → of_bits binary32 (cond s (2 ^ 31) 0 + 0) ≡ round binary32 s a (2 ^ 1074)
narrow_tiny s a h =
    let n = a * 2 ^ 149 in
    let d = 2 ^ 1074 in
    let l2 : n * 2 < d = lt_of_le_of_lt (le_of_eq (mul_assoc a (2 ^ 149) 2)) (shl_lt 924 150 h) in
    let l : n < d = half n d l2 in
    let z : size (n / d) - 24 ≡ 0 = none (size (n / d)) (size-le (n / d) 0 (subst (λ (x : ℕ). x < 2 ^ 0) (sym (div-eq_of_lt l)) (pow_pos 0))) in
    pack s 0 0 (lit_le) (inl refl) (lit_le')
    ∙ sym
    (round_is binary32 s a d
    ∙ ap (λ (k : ℕ). units binary32 s (closest n (d * 2 ^ k)) k) z
    ∙ ap (λ (x : ℕ). units binary32 s (nearest x (compare (n % d * 2) d)) 0) (div-eq_of_lt l)
    ∙ ap (λ (x : ℕ). units binary32 s (nearest 0 (compare (x * 2) d)) 0) (mod-eq_of_lt l)
    ∙ ap (λ o. units binary32 s (nearest 0 o) 0) (compare_lt (n * 2) d l2))
  where
    half : (n d : ℕ) → n * 2 < d → n < d
    half n d h = omega arith

    none : (z : ℕ) → z ≤ 0 → z - 24 ≡ 0
    none z h = omega arith

    lit_le : 0 ≤ 2 ^ 24
    lit_le = omega arith

    lit_le' : 0 ≤ 253
    lit_le' = omega arith

-- ---- by the fields
digits_lo : (t : ℕ) → 2 ^ 52 ≤ 2 ^ 52 + t
digits_lo t = omega arith

pub mag_tiny : (s : Bool) (e t : ℕ) → e < 872 → t < 2 ^ 52 → of_bits binary32 (cond s (2 ^ 31) 0 + 0) ≡ narrow_of (of_fields binary64 s e t)
mag_tiny s zero t h k = narrow_tiny s t (lt_of_lt_of_le k (pow_mono r)) ∙ sym (narrow_of_at (of_fields binary64 s 0 t) s t (2 ^ 1074) (pow_pos 1074) (value_zero binary64 s t))
  where
    r : 52 ≤ 924
    r = omega arith
mag_tiny s (suc x) t h k =
    let p : 0 < suc x = omega arith in
    let l : suc x < 2047 = omega arith in
    let r : 53 + (suc x - 1) ≤ 924 = omega arith in
    narrow_tiny s ((2 ^ 52 + t) * 2 ^ (suc x - 1)) (lt_of_lt_of_le (shl_lt 53 (suc x - 1) (with_leading binary64 t k)) (pow_mono r))
    ∙ sym (narrow_of_at (of_fields binary64 s (suc x) t) s ((2 ^ 52 + t) * 2 ^ (suc x - 1)) (2 ^ 1074) (pow_pos 1074) (value_finite binary64 s (suc x) t p l))

pub mag_over : (s : Bool) (e t : ℕ) → 1150 < e → e ≤ 2047 → t < 2 ^ 52 → (e ≡ 2047 → t ≡ 0) → of_bits binary32 (cond s (2 ^ 31) 0 + 255 * 2 ^ 23) ≡ narrow_of (of_fields binary64 s e t)
mag_over s e t h k l z =
    ⊎_elim
    (λ (q : e ≡ 2047).
    inf_bits s ∙ sym (ap (λ (x : ℕ). narrow_of (of_fields binary64 s x t)) q ∙ ap (λ (x : ℕ). narrow_of (of_fields binary64 s 2047 x)) (z q) ∙ ap narrow_of (value_top binary64 s) ∙ narrow_of_inf s))
    (λ (q : e < 2047).
    let p : 0 < e = omega arith in
    inf_bits s
    ∙ sym
    (narrow_of_at (of_fields binary64 s e t) s ((2 ^ 52 + t) * 2 ^ (e - 1)) (2 ^ 1074) (pow_pos 1074) (value_finite binary64 s e t p q)
    ∙ narrow_over (2 ^ 52 + t) e (digits_lo t) (with_leading binary64 t l) p s h))
    (eq-or-lt_of_le k)

mag_digits : (s : Bool) (e t : ℕ) → 0 < e → e ≤ 1150 → t < 2 ^ 52
    → of_bits binary32 (cond s (2 ^ 31) 0 + ((e - 897) * 2 ^ 23 + closest (2 ^ 52 + t) (2 ^ (29 + (897 - e))))) ≡ narrow_of (of_fields binary64 s e t)
mag_digits s e t p h l =
    let q : e < 2047 = omega arith in
    narrow_digits (2 ^ 52 + t) e (digits_lo t) (with_leading binary64 t l) p s h
    ∙ sym (narrow_of_at (of_fields binary64 s e t) s ((2 ^ 52 + t) * 2 ^ (e - 1)) (2 ^ 1074) (pow_pos 1074) (value_finite binary64 s e t p q))

mag_low : (s : Bool) (e t : ℕ) → 872 ≤ e → e < 897 → t < 2 ^ 52 → of_bits binary32 (cond s (2 ^ 31) 0 + closest (2 ^ 52 + t) (2 ^ (926 - e))) ≡ narrow_of (of_fields binary64 s e t)
mag_low s e t h k l =
    let a : 0 < e = omega arith in
    let b : e ≤ 1150 = omega arith in
    let x : e - 897 ≡ 0 = omega arith in
    let y : 29 + (897 - e) ≡ 926 - e = omega arith in
    sym (ap (λ (z : ℕ). of_bits binary32 (cond s (2 ^ 31) 0 + z)) (ap (λ (z : ℕ). z * 2 ^ 23 + closest (2 ^ 52 + t) (2 ^ (29 + (897 - e)))) x ∙ zero-add (closest (2 ^ 52 + t) (2 ^ (29 + (897 - e)))) ∙ ap (λ (z : ℕ). closest (2 ^ 52 + t) (2 ^ z)) y))
    ∙ mag_digits s e t a b l

mag_normal : (s : Bool) (e t : ℕ) → 897 ≤ e → e ≤ 1150 → t < 2 ^ 52 → of_bits binary32 (cond s (2 ^ 31) 0 + ((e - 897) * 2 ^ 23 + closest (2 ^ 52 + t) (2 ^ 29))) ≡ narrow_of (of_fields binary64 s e t)
mag_normal s e t h k l =
    let a : 0 < e = omega arith in
    let y : 29 + (897 - e) ≡ 29 = omega arith in
    sym (ap (λ (z : ℕ). of_bits binary32 (cond s (2 ^ 31) 0 + ((e - 897) * 2 ^ 23 + closest (2 ^ 52 + t) (2 ^ z)))) y) ∙ mag_digits s e t a k l

-- what is kept has at most 24 digits, and 2 ^ 24 itself
closest_hi : (t sh : ℕ) → t < 2 ^ 52 → 29 ≤ sh → closest (2 ^ 52 + t) (2 ^ sh) ≤ 2 ^ 24
closest_hi t sh l h =
    let u = 2 ^ sh in
    let D = 2 ^ 52 + t in
    let r : 53 ≤ 24 + sh = omega arith in
    le_trans (nearest-le (D / u) (compare (D % u * 2) u)) (shr_lt 24 sh (lt_of_lt_of_le (with_leading binary64 t l) (pow_mono r)))

-- ---- what `narrow_fields` asks, of either sign, with r for the digits kept

abbrev pub Narrowed : ℕ → ℕ → ℕ → Type 0
Narrowed e t b = (s : Bool) → of_bits binary32 (cond s (2 ^ 31) 0 + b) ≡ narrow_of (of_fields binary64 s e t)

pub low_result : (e t u r : ℕ) → 872 ≤ e → e < 897 → t < 2 ^ 52 → u ≡ 2 ^ (926 - e) → r ≡ closest (2 ^ 52 + t) u → Narrowed e t r × (r ≤ 2 ^ 24)
low_result e t u r h k l i j =
    let q : r ≡ closest (2 ^ 52 + t) (2 ^ (926 - e)) = j ∙ ap (closest (2 ^ 52 + t)) i in
    (λ s. ap (λ (x : ℕ). of_bits binary32 (cond s (2 ^ 31) 0 + x)) q ∙ mag_low s e t h k l, subst (λ (x : ℕ). x ≤ 2 ^ 24) (sym q) (closest_hi t (926 - e) l (omega arith)))

pub normal_result : (e t r : ℕ) → 897 ≤ e → e ≤ 1150 → t < 2 ^ 52 → r ≡ closest (2 ^ 52 + t) (2 ^ 29) → Narrowed e t ((e - 897) * 2 ^ 23 + r) × (r ≤ 2 ^ 24)
normal_result e t r h k l i = (
  λ s. ap (λ (x : ℕ). of_bits binary32 (cond s (2 ^ 31) 0 + ((e - 897) * 2 ^ 23 + x))) i ∙ mag_normal s e t h k l,
  subst (λ (x : ℕ). x ≤ 2 ^ 24) (sym i) (closest_hi t 29 l (omega arith)),
)

-- `1 << j` at u64
pub one_shl : (j : ℕ) → j < 64 → 1 * 2 ^ j % 2 ^ 64 ≡ 2 ^ j
one_shl j h = ap (λ (x : ℕ). x % 2 ^ 64) (one-mul (2 ^ j)) ∙ mod-eq_of_lt (pow-lt h)
