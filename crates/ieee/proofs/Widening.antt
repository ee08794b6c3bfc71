-- `widen_of` changes no number of binary32 (`widen_keeps`), since a number that the wider format holds is its own rounding there. By the fields of the patterns: `wider`.
use Rattle.std.proofs.Common.{◌≡◌, ℕ, suc, ◌+◌, ◌-◌, ◌*◌, ◌^◌, ◌<◌, Bool, T, sym, refl, ap, ◌∙◌, subst, lt_of_lt_of_le, mul_assoc, add-mul, mul-one, arith, pow_pos, pow_mono, pow-add, shl_lt}
use native.Mathlib.Nat.{pow-succ'}
use lib.Ieee.{Float, nan, inf, fin, binary32, binary64, up, down, round, fits, of_fields}
use lib.Ieee.Fits.{down_pos, round-fits, fits_widens}
use lib.Ieee.Exact.{HasValue, round_exact}
use Rattle.ieee.specs.Rounding.{widen_of}
use Rattle.ieee.specs.RoundingNearest.{Wider}
use Rattle.ieee.proofs.Values.{value_unique, rescale}
use Rattle.ieee.proofs.Short.{short}
use Rattle.ieee.proofs.Fields.{value_finite, value_zero, fields_fit}

own_rounding : (x : Float) → T (fits binary64 x) → widen_of x ≡ x
unfolding widen_of
own_rounding nan h = refl
own_rounding (inf s) h = refl
own_rounding (fin s m e) h =
    let a = short binary64 (fin s m e) h tt in
    let r = round binary64 s (m * up e) (down e) in
    let u = a.m * 2 ^ a.j in
    value_unique binary64 r (fin s m e) s u (round-fits binary64 s (m * up e) (down e)) h
    (rescale r s (m * up e) (down e) u (2 ^ 1074) (down_pos e) a.exact (round_exact binary64 s (m * up e) (down e) a.m a.j (down_pos e) a.small a.within a.exact))
    (refl, a.exact)

pub widen_keeps : (x : Float) → T (fits binary32 x) → widen_of x ≡ x
widen_keeps x h = own_rounding x (fits_widens x h)

-- ---- by the fields: q * 2 ^ i of binary32's smallest values, where q and k zeros are the digits of binary64, the leading one counted
module _ (x : Float) (s : Bool) (q i k E t : ℕ) (digits : 2 ^ 52 + t ≡ q * 2 ^ k) (place : i + 1074 ≡ k + (E - 1) + 149) where
  same_size : q * 2 ^ i * 2 ^ 1074 ≡ (2 ^ 52 + t) * 2 ^ (E - 1) * 2 ^ 149
  same_size =
      mul_assoc q (2 ^ i) (2 ^ 1074)
      ∙ ap (λ (z : ℕ). q * z) (sym (pow-add 2 i 1074))
      ∙ ap (λ (z : ℕ). q * 2 ^ z) place
      ∙ ap (λ (z : ℕ). q * z) (pow-add 2 (k + (E - 1)) 149 ∙ ap (λ (z : ℕ). z * 2 ^ 149) (pow-add 2 k (E - 1)))
      ∙ sym (mul_assoc q (2 ^ k * 2 ^ (E - 1)) (2 ^ 149))
      ∙ ap (λ (z : ℕ). z * 2 ^ 149) (sym (mul_assoc q (2 ^ k) (2 ^ (E - 1))))
      ∙ ap (λ (z : ℕ). z * 2 ^ (E - 1) * 2 ^ 149) (sym digits)

  by_value : T (fits binary32 x) → HasValue x s (q * 2 ^ i) (2 ^ 149) → 0 < E → E < 2047 → t < 2 ^ 52 → widen_of x ≡ of_fields binary64 s E t
  by_value f v p h l =
      widen_keeps x f
      ∙ value_unique binary64 x (of_fields binary64 s E t) s ((2 ^ 52 + t) * 2 ^ (E - 1)) (fits_widens x f) (fields_fit binary64 s E t h l)
      (rescale x s (q * 2 ^ i) (2 ^ 149) ((2 ^ 52 + t) * 2 ^ (E - 1)) (2 ^ 1074) (pow_pos 149) same_size v) (value_finite binary64 s E t p h)

zero_same : (s : Bool) → of_fields binary32 s 0 0 ≡ of_fields binary64 s 0 0
unfolding of_fields
zero_same s = refl

normal_fields : (s : Bool) (e t : ℕ) → 0 < e → e < 255 → t < 2 ^ 23 → widen_of (of_fields binary32 s e t) ≡ of_fields binary64 s (896 + e) (t * 2 ^ 29)
normal_fields s e t p h l =
    by_value (of_fields binary32 s e t) s (2 ^ 23 + t) (e - 1) 29 (896 + e) (t * 2 ^ 29) (omega arith) (omega arith) (fields_fit binary32 s e t h l) (value_finite binary32 s e t p h) (omega arith) (omega arith) (omega arith)

-- the digits from the leading one on, 2 ^ j + d, moved up by 52 - j places
module _ (s : Bool) (j d : ℕ) (h : j < 23) (k : d < 2 ^ j) where
  whole : j + (52 - j) ≡ 52
  whole = omega arith

  digits_moved : 2 ^ 52 + d * 2 ^ (52 - j) ≡ (2 ^ j + d) * 2 ^ (52 - j)
  digits_moved = sym (add-mul (2 ^ j) d (2 ^ (52 - j)) ∙ ap (λ (z : ℕ). z + d * 2 ^ (52 - j)) (sym (pow-add 2 j (52 - j)) ∙ ap (λ (z : ℕ). 2 ^ z) whole))

  below_leading : d * 2 ^ (52 - j) < 2 ^ 52
  below_leading = subst (λ (z : ℕ). d * 2 ^ (52 - j) < 2 ^ z) whole (shl_lt j (52 - j) k)

  in_field : 2 ^ j + d < 2 ^ 23
  in_field = lt_of_lt_of_le (twice (2 ^ j) (2 ^ suc j) d k (pow-succ' 2 j)) (pow_mono h)
    where
      twice : (a b d : ℕ) → d < a → b ≡ 2 * a → a + d < b
      twice a b d l e = omega arith

  subnormal_fields : widen_of (of_fields binary32 s 0 (2 ^ j + d)) ≡ of_fields binary64 s (874 + j) (d * 2 ^ (52 - j))
  subnormal_fields =
      let x = of_fields binary32 s 0 (2 ^ j + d) in
      by_value x s (2 ^ j + d) 0 (52 - j) (874 + j) (d * 2 ^ (52 - j)) digits_moved (omega arith) (fields_fit binary32 s 0 (2 ^ j + d) (omega arith) in_field)
      (subst (λ (z : ℕ). HasValue x s z (2 ^ 149)) (sym (mul-one (2 ^ j + d))) (value_zero binary32 s (2 ^ j + d)))
      (omega arith) (omega arith) below_leading

pub wider : Wider widen_of
wider = record {
  keeps = widen_keeps;
  no_number = unfold widen_of in refl;
  infinity = λ s. (unfold widen_of in refl);
  zero = λ s. widen_keeps (of_fields binary32 s 0 0) (fields_fit binary32 s 0 0 (omega arith) (omega arith)) ∙ zero_same s;
  subnormal = subnormal_fields;
  normal = normal_fields;
}
