-- The magnitude by bit pattern: the same digits with the sign's left out.
use Rattle.std.proofs.Common.{◌≡◌, ℕ, zero, suc, ◌+◌, ◌/◌, ◌%◌, ◌<◌, Bool, true, false, cond, not, T, eqb, leb, sym, refl, ap, ◌∙◌, subst, arith}
use borrow.Author.Tests.{lt-leb}
use lib.Ieee.{Float, nan, inf, fin, Format, binary32, binary64, prec, low, hid, ones, top, odd, fits, of_fields, of_bits, to_bits, is_nan, nan_bits}
use lib.Ieee.Bits.{of_bits-to_bits, nan_bits_is}
use Rattle.std.specs.Float.{float_with_sign}
use Rattle.ieee.proofs.Nan.{told}
use Rattle.arith.specs.Leaves.{abs_of}

abs_odd : (d : ℕ) (s : Bool) (q k l : ℕ) → odd d false q k l ≡ abs_of (odd d s q k l)
unfolding odd abs_of
abs_odd d s zero k l = refl
abs_odd d s (suc q) k l = refl

abs_fields : (f : Format) (s : Bool) (x t : ℕ) → of_fields f false x t ≡ abs_of (of_fields f s x t)
unfolding of_fields
abs_fields f s zero t = abs_odd (prec f) s t 0 (low f)
abs_fields f s (suc x) t = go (eqb (suc x) (ones f)) (eqb t 0)
  where
    infinite : inf false ≡ abs_of (inf s)
    infinite = unfold abs_of in refl

    none : nan ≡ abs_of nan
    none = unfold abs_of in refl

    go : (p q : Bool) → cond p (cond q (inf false) nan) (odd (prec f) false (hid f + t) x (low f)) ≡ abs_of (cond p (cond q (inf s) nan) (odd (prec f) s (hid f + t) x (low f)))
    go true true = infinite
    go true false = none
    go false q = abs_odd (prec f) s (hid f + t) x (low f)

below_top : (f : Format) (b : ℕ) → b % top f < top f
below_top binary32 b = omega arith
below_top binary64 b = omega arith

same_digits : (f : Format) (b : ℕ) → b % top f % hid f ≡ b % hid f
same_digits binary32 b = omega arith
same_digits binary64 b = omega arith

same_rest : (f : Format) (b : ℕ) → b % top f % top f ≡ b % top f
same_rest binary32 b = omega arith
same_rest binary64 b = omega arith

bits_abs : (f : Format) (x : Float) → T (fits f x) → of_bits f (to_bits f x % top f) ≡ abs_of x
unfolding of_bits
bits_abs f x h =
    let b = to_bits f x in
    ap (λ (s : Bool). of_fields f s (b % top f % top f / hid f) (b % top f % hid f)) (lt-leb (top f) (b % top f) (below_top f b))
    ∙ ap (λ (n : ℕ). of_fields f false (n / hid f) (b % top f % hid f)) (same_rest f b)
    ∙ ap (of_fields f false (b % top f / hid f)) (same_digits f b)
    ∙ abs_fields f (leb (top f) b) (b % top f / hid f) (b % hid f)
    ∙ ap abs_of (of_bits-to_bits f x h)

-- no number's pattern is a NaN's, with its sign or without
plain_abs : (f : Format) (x : Float) → T (fits f x) → T (not (is_nan x)) → T (not (nan_bits f (to_bits f x % top f)))
unfolding is_nan abs_of
plain_abs f x h n = subst (λ (b : Bool). T (not b)) (sym (nan_bits_is f (to_bits f x % top f) ∙ ap is_nan (bits_abs f x h))) (go x n)
  where
    go : (y : Float) → T (not (is_nan y)) → T (not (is_nan (abs_of y)))
    go nan m = m
    go (inf s) m = tt
    go (fin s a e) m = tt

-- std's magnitude
pub is_magnitude : (x : Float) → float_with_sign false x ≡ abs_of x
unfolding float_with_sign abs_of
is_magnitude nan = refl
is_magnitude (inf s) = refl
is_magnitude (fin s m e) = refl

pub abs_nan : (x : Float) → x ≡ nan → x ≡ abs_of x
unfolding abs_of
abs_nan x e = e ∙ sym (ap abs_of e)

-- the same of a value that its format holds, as owning it tells
pub abs_bits : (f : Format) (x : Float) → fits f x ≡ true → of_bits f (to_bits f x % top f) ≡ abs_of x
abs_bits f x g = bits_abs f x (told g)

pub abs_plain : (f : Format) (x : Float) → fits f x ≡ true → T (not (is_nan x)) → T (not (nan_bits f (to_bits f x % top f)))
abs_plain f x g = plain_abs f x (told g)
