-- The one NaN, at either width: the tests that find it, the division that makes it, and the bit patterns that are read as it.
use Rattle.std.proofs.Common.{◌≡◌, ℕ, ◌*◌, ◌%◌, ◌<◌, ◌≤◌, Bool, true, false, not, T, sym, refl, ap, ◌∙◌, subst, true≢false, le-ltb, lt-ltb}
use lib.Ieee.{Float, nan, inf, fin, Format, binary32, binary64, hid, ones, top, div, ne, is_nan, nan_bits, of_bits, to_bits}
use lib.Ieee.Bits.{nan_bits_is, nan_bits_above}
use lib.Ieee.Compare.{differs_from_itself, nan_differs}

-- a test that came out true, as a fact: of a float that is owned, that its format holds it (`told c.good.0.1`)
pub told : {b : Bool} → b ≡ true → T b
told e = subst T (sym e) tt

-- ---- the code's test, `is_nan`
pub told_nan : (x : Float) → is_nan x ≡ true → x ≡ nan
unfolding is_nan
told_nan nan e = refl
told_nan (inf s) e = absurd (told e)
told_nan (fin s m d) e = absurd (told e)

-- ---- the test x != x
pub is_nan_lem : (x : Float) → ne x x ≡ true → x ≡ nan
is_nan_lem x e = differs_from_itself x (told e)

pub no_nan : (x : Float) → ne x x ≡ false → T (not (is_nan x))
unfolding is_nan
no_nan nan e = absurd (true≢false (sym nan_differs ∙ e))
no_nan (inf s) e = tt
no_nan (fin s m d) e = tt

pub nan_true : (x : Float) → ne x x ≡ true → is_nan x ≡ true
nan_true x h = ap is_nan (is_nan_lem x h) ∙ (unfold is_nan in refl)

pub nan_false : (x : Float) → ne x x ≡ false → is_nan x ≡ false
unfolding is_nan
nan_false nan h = absurd (true≢false (sym nan_differs ∙ h))
nan_false (inf s) h = refl
nan_false (fin s m e) h = refl

-- ---- 0 / 0
pub zero_by_zero : (f : Format) → div f (of_bits f 0) (of_bits f 0) ≡ nan
unfolding div of_bits
zero_by_zero binary32 = refl
zero_by_zero binary64 = refl

-- ---- patterns: those above an infinity's, the sign left out, are the NaN's
pub nan_read : (f : Format) (n : ℕ) → ones f * hid f < n % top f → of_bits f n ≡ nan
nan_read f n h = told_nan (of_bits f n) (sym (nan_bits_is f n) ∙ nan_bits_above f n ∙ lt-ltb (ones f * hid f) (n % top f) h)

pub plain_read : (f : Format) (n : ℕ) → n % top f ≤ ones f * hid f → T (not (nan_bits f n))
plain_read f n h = subst (λ (b : Bool). T (not b)) (sym (nan_bits_above f n ∙ le-ltb (ones f * hid f) (n % top f) h)) tt

pub nan_written32 : to_bits binary32 nan ≡ 0x7fc0_0000
unfolding to_bits
nan_written32 = refl

pub nan_written64 : to_bits binary64 nan ≡ 0x7ff8_0000_0000_0000
unfolding to_bits
nan_written64 = refl
