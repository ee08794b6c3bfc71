-- A value by its exponent's field e and its digits' field t, at either width: the fraction that it equals. And `narrow_of` by any fraction that a value equals.
use Rattle.std.proofs.Common.{◌≡◌, ℕ, zero, suc, ◌+◌, ◌-◌, ◌*◌, ◌/◌, ◌%◌, ◌^◌, ◌<◌, ◌≤◌, Bool, true, false, cond, not, ◌&&◌, T, eqb, leb, sym, refl, ap, ◌∙◌, subst, lt_of_lt_of_le, le_of_lt, lt_irrefl, mod-eq_of_lt, mul-one, arith, eqb→eq, pow_mono, shl_lt, ne_eqb}
use borrow.Author.Tests.{lt-leb}
use lib.Ieee.{Float, nan, inf, fin, Format, binary32, binary64, prec, emax, low, hid, ones, top, up, down, odd, round, of_bits, of_fields, to_bits, fits, is_nan, nan_bits}
use lib.Ieee.Fits.{down_pos, eq→eqb, odd-fits}
use lib.Ieee.Bits.{of_bits-to_bits, nan_bits_is}
use lib.Ieee.Exact.{HasValue, odd_sign}
use lib.Ieee.Scale.{round_same}
use Rattle.ieee.specs.Rounding.{narrow_of}

pub of_bits_fields : (f : Format) (b : ℕ) → of_bits f b ≡ of_fields f (leb (top f) b) (b % top f / hid f) (b % hid f)
unfolding of_bits
of_bits_fields f b = refl

-- a pattern with the sign clear
pub plus_fields : (f : Format) (b : ℕ) → b < top f → of_bits f b ≡ of_fields f false (b / hid f) (b % hid f)
plus_fields f b h =
    of_bits_fields f b
    ∙ ap (λ (s : Bool). of_fields f s (b % top f / hid f) (b % hid f)) (lt-leb (top f) b h)
    ∙ ap (λ (x : ℕ). of_fields f false (x / hid f) (b % hid f)) (mod-eq_of_lt h)

finite_is : (f : Format) (s : Bool) (x t : ℕ) → suc x < ones f → of_fields f s (suc x) t ≡ odd (prec f) s (hid f + t) x (low f)
unfolding of_fields
finite_is f s x t h =
    ap (λ (b : Bool). cond b (cond (eqb t 0) (inf s) nan) (odd (prec f) s (hid f + t) x (low f)))
    (ne_eqb (suc x) (ones f) (λ (e : suc x ≡ ones f). lt_irrefl (suc x) (subst (λ (y : ℕ). suc x < y) (sym e) h)))

zero_is : (f : Format) (s : Bool) (t : ℕ) → of_fields f s 0 t ≡ odd (prec f) s t 0 (low f)
unfolding of_fields
zero_is f s t = refl

pub value_finite : (f : Format) (s : Bool) (e t : ℕ) → 0 < e → e < ones f → HasValue (of_fields f s e t) s ((hid f + t) * 2 ^ (e - 1)) (2 ^ low f)
value_finite f s zero t p h = absurd (lt_irrefl 0 p)
value_finite f s (suc x) t p h =
    let e : suc x - 1 ≡ x = omega arith in
    subst (λ (k : ℕ). HasValue (of_fields f s (suc x) t) s ((hid f + t) * 2 ^ k) (2 ^ low f)) (sym e)
    (subst (λ (y : Float). HasValue y s ((hid f + t) * 2 ^ x) (2 ^ low f)) (sym (finite_is f s x t h)) (odd_sign (prec f) s (hid f + t) x (low f)))

pub value_zero : (f : Format) (s : Bool) (t : ℕ) → HasValue (of_fields f s 0 t) s t (2 ^ low f)
value_zero f s t =
    subst (λ (y : Float). HasValue y s t (2 ^ low f)) (sym (zero_is f s t))
    (subst (λ (k : ℕ). HasValue (odd (prec f) s t 0 (low f)) s k (2 ^ low f)) (mul-one t) (odd_sign (prec f) s t 0 (low f)))

-- ---- fields below an infinity's are a number that the format holds
pub with_leading : (f : Format) (t : ℕ) → t < hid f → hid f + t < 2 ^ prec f
with_leading binary32 t h = omega arith
with_leading binary64 t h = omega arith

without_leading : (f : Format) (t : ℕ) → t < hid f → t < 2 ^ prec f
without_leading binary32 t h = omega arith
without_leading binary64 t h = omega arith

below_top : (f : Format) (x : ℕ) → suc x < ones f → prec f + x ≤ low f + suc (emax f)
below_top binary32 x h = omega arith
below_top binary64 x h = omega arith

zero_below_top : (f : Format) → prec f + 0 ≤ low f + suc (emax f)
zero_below_top binary32 = omega arith
zero_below_top binary64 = omega arith

pub fields_fit : (f : Format) (s : Bool) (e t : ℕ) → e < ones f → t < hid f → T (fits f (of_fields f s e t))
fields_fit f s zero t h k =
    let d = without_leading f t k in
    subst (λ (y : Float). T (fits f y)) (sym (zero_is f s t)) (odd-fits f (prec f) s t 0 d (le_of_lt d) (lt_of_lt_of_le (shl_lt (prec f) 0 d) (pow_mono (zero_below_top f))))
fields_fit f s (suc x) t h k =
    let d = with_leading f t k in
    subst (λ (y : Float). T (fits f y)) (sym (finite_is f s x t h))
    (odd-fits f (prec f) s (hid f + t) x d (le_of_lt d) (lt_of_lt_of_le (shl_lt (prec f) x d) (pow_mono (below_top f x h))))

pub value_top : (f : Format) (s : Bool) → of_fields f s (ones f) 0 ≡ inf s
unfolding of_fields
value_top binary32 s = refl
value_top binary64 s = refl

pub narrow_of_at : (x : Float) (s : Bool) (a c : ℕ) → 0 < c → HasValue x s a c → narrow_of x ≡ round binary32 s a c
unfolding narrow_of
narrow_of_at nan s a c C v = absurd v
narrow_of_at (inf t) s a c C v = absurd v
narrow_of_at (fin t m e) s a c C v = ap (λ (b : Bool). round binary32 b (m * up e) (down e)) v.0 ∙ round_same binary32 s (m * up e) (down e) a c (down_pos e) C v.1

pub narrow_of_inf : (s : Bool) → narrow_of (inf s) ≡ inf s
unfolding narrow_of
narrow_of_inf s = refl

pub narrow_of_nan : narrow_of nan ≡ nan
unfolding narrow_of
narrow_of_nan = refl

-- ---- a value by the fields of its pattern
pub by_fields : (x : Float) (s : Bool) → T (fits binary64 x) → leb (2 ^ 63) (to_bits binary64 x) ≡ s → of_fields binary64 s (to_bits binary64 x % 2 ^ 63 / 2 ^ 52) (to_bits binary64 x % 2 ^ 52) ≡ x
by_fields x s h e =
    let b = to_bits binary64 x in
    ap (λ (t : Bool). of_fields binary64 t (b % 2 ^ 63 / 2 ^ 52) (b % 2 ^ 52)) (sym e) ∙ sym (of_bits_fields binary64 b) ∙ of_bits-to_bits binary64 x h

-- where x is no NaN, an exponent's field of all ones has no digits
pub top_plain : (x : Float) → T (fits binary64 x) → T (not (is_nan x)) → to_bits binary64 x % 2 ^ 63 / 2 ^ 52 ≡ 2047 → to_bits binary64 x % 2 ^ 52 ≡ 0
unfolding nan_bits
top_plain x h n e =
    let b = to_bits binary64 x in
    go (eqb (b % 2 ^ 63 / 2 ^ 52) 2047) (eqb (b % 2 ^ 52) 0) (eqb→eq (b % 2 ^ 52) 0) (eq→eqb e)
    (subst (λ (t : Bool). T (not t)) (sym (nan_bits_is binary64 b ∙ ap is_nan (of_bits-to_bits binary64 x h))) n)
  where
    go : (p q : Bool) → (T q → to_bits binary64 x % 2 ^ 52 ≡ 0) → T p → T (not (p && not q)) → to_bits binary64 x % 2 ^ 52 ≡ 0
    go true true z t u = z tt
    go true false z t u = absurd u
    go false q z t u = absurd t
