-- A value by the fraction that it equals (`HasValue`): its bit pattern, and that a format holds one such value of a sign. How many digits a number has. What `compare` answers.
use Rattle.std.proofs.Common.{◌≡◌, ℕ, suc, ◌+◌, ◌-◌, ◌*◌, ◌/◌, ◌%◌, ◌^◌, ◌<◌, ◌≤◌, Bool, true, false, cond, not, T, eqb, leb, sym, refl, ap, ◌∙◌, subst, lt_of_lt_of_le, mod-lt, le_antisymm, lt_of_not-le, mul_right_comm, not-le_of_lt, mul-div_cancel, add-one, arith, le→leb, eqb→eq, leb→le, pow_mono}
use Prim.Native.Nat.{compare, Ordering}
use native.Mathlib.Nat.{eq_of_mul-eq-mul_right}
use lib.Dec.{is_le, compare_is_eq, nleb→lt, eqb_refl}
use lib.Ieee.{Float, nan, inf, fin, Format, prec, low, hid, top, up, down, size, nearest, binary32, nan_bits, fits, of_bits, to_bits}
use lib.Ieee.Digits.{size-lt, size-le}
use lib.Ieee.Fits.{down_pos}
use lib.Ieee.Bits.{of_bits-to_bits}
use lib.Ieee.Nearest.{closest}
use lib.Ieee.Exact.{HasValue}
use lib.Ieee.Scale.{finite}
use Rattle.ieee.proofs.Nan.{plain_read}

-- ---- digits
pub size_gt : (n j : ℕ) → 2 ^ j ≤ n → j < size n
size_gt n j h = lt_of_not-le (λ (g : size n ≤ j). not-le_of_lt (lt_of_lt_of_le (size-lt n) (pow_mono g)) h)

pub size_is : (n j z : ℕ) → 2 ^ j ≤ n → n < 2 ^ z → z ≡ suc j → size n ≡ z
size_is n j z a b e = le_antisymm (size-le n z b) (subst (λ (x : ℕ). x ≤ size n) (sym e) (size_gt n j a))

-- ---- order
pub by_order : {A : Type 0} (x y : ℕ) → (x ≤ y → A) → (y < x → A) → A
by_order {A} x y f g = go (leb x y) (leb→le x y) (nleb→lt x y)
  where
    go : (b : Bool) → (T b → x ≤ y) → (T (not b) → y < x) → A
    go true l h = f (l tt)
    go false l h = g (h tt)

-- ---- compare
pub compare_lt : (a b : ℕ) → a < b → compare a b ≡ Ordering.lt
compare_lt a b h = go (compare a b) (le→leb a b (omega arith)) (eqb→eq a b)
  where
    no : a ≡ b → ⊥
    no e = omega arith

    go : (o : Ordering) → T (is_le o) → (T (compare_is_eq o) → a ≡ b) → o ≡ Ordering.lt
    go Ordering.lt t e = refl
    go Ordering.eq t e = absurd (no (e tt))
    go Ordering.gt t e = absurd t

pub compare_gt : (a b : ℕ) → b < a → compare a b ≡ Ordering.gt
compare_gt a b h = go (compare a b) (leb→le a b)
  where
    no : a ≤ b → ⊥
    no e = omega arith

    go : (o : Ordering) → (T (is_le o) → a ≤ b) → o ≡ Ordering.gt
    go Ordering.lt t = absurd (no (t tt))
    go Ordering.eq t = absurd (no (t tt))
    go Ordering.gt t = refl

pub compare_eq : (a b : ℕ) → a ≡ b → compare a b ≡ Ordering.eq
compare_eq a b h = go (compare a b) (subst (λ (x : ℕ). T (eqb a x)) h (eqb_refl a))
  where
    go : (o : Ordering) → T (compare_is_eq o) → o ≡ Ordering.eq
    go Ordering.lt t = absurd t
    go Ordering.eq t = refl
    go Ordering.gt t = absurd t

-- ---- the pattern of a value of n smallest values
pub bits_of_value : (f : Format) (x : Float) (s : Bool) (n : ℕ) → HasValue x s n (2 ^ low f) → to_bits f x ≡ cond s (top f) 0 + (size n - prec f) * hid f + n / 2 ^ (size n - prec f)
unfolding to_bits
bits_of_value f nan s n v = absurd v
bits_of_value f (inf t) s n v = absurd v
bits_of_value f (fin t m e) s n v =
    let d : m * up e * 2 ^ low f / down e ≡ n = ap (λ (x : ℕ). x / down e) v.1 ∙ mul-div_cancel n (down_pos e) in
    ap (λ (x : ℕ). cond t (top f) 0 + (size x - prec f) * hid f + x / 2 ^ (size x - prec f)) d
    ∙ ap (λ (b : Bool). cond b (top f) 0 + (size n - prec f) * hid f + n / 2 ^ (size n - prec f)) v.0

pub value_unique : (f : Format) (x y : Float) (s : Bool) (n : ℕ) → T (fits f x) → T (fits f y) → HasValue x s n (2 ^ low f) → HasValue y s n (2 ^ low f) → x ≡ y
value_unique f x y s n p q v w = sym (of_bits-to_bits f x p) ∙ ap (of_bits f) (bits_of_value f x s n v ∙ sym (bits_of_value f y s n w)) ∙ of_bits-to_bits f y q

-- ---- `closest` by the two tests of the code
less : (r u : ℕ) → r < u → r < u - r → r * 2 < u
less r u l h = omega arith

more : (r u : ℕ) → r < u → u - r < r → u < r * 2
more r u l h = omega arith

same : (r u : ℕ) → r < u → u - r ≤ r → r ≤ u - r → r * 2 ≡ u
same r u l h k = omega arith

pub closest_below : (v u : ℕ) → 0 < u → v % u < u - v % u → v / u ≡ closest v u
closest_below v u p h = sym (ap (nearest (v / u)) (compare_lt (v % u * 2) u (less (v % u) u (mod-lt v p) h)))

pub closest_above : (v u : ℕ) → 0 < u → u - v % u < v % u → v / u + 1 ≡ closest v u
closest_above v u p h = add-one (v / u) ∙ sym (ap (nearest (v / u)) (compare_gt (v % u * 2) u (more (v % u) u (mod-lt v p) h)))

pub closest_tie : (v u : ℕ) → 0 < u → u - v % u ≤ v % u → v % u ≤ u - v % u → v / u + v / u % 2 ≡ closest v u
closest_tie v u p h k = sym (ap (nearest (v / u)) (compare_eq (v % u * 2) u (same (v % u) u (mod-lt v p) h k)))

-- ---- a pattern that is no NaN's, with either sign
pub plain_bits_plus : (r : ℕ) → r ≤ 0x7f80_0000 → T (not (nan_bits binary32 r))
plain_bits_plus r h = plain_read binary32 r (omega arith)

pub plain_bits_minus : (r : ℕ) → r ≤ 0x7f80_0000 → T (not (nan_bits binary32 (2 ^ 31 + r)))
plain_bits_minus r h = plain_read binary32 (2 ^ 31 + r) (omega arith)

-- ---- the same value by another fraction
pub rescale : (x : Float) (s : Bool) (a b c d : ℕ) → 0 < b → a * d ≡ c * b → HasValue x s a b → HasValue x s c d
rescale nan s a b c d p h v = v
rescale (inf t) s a b c d p h v = v
rescale (fin t m e) s a b c d p h v = (
  v.0,
  eq_of_mul-eq-mul_right b p (m * up e * d) (c * down e)
      (mul_right_comm (m * up e) d b ∙ ap (λ (x : ℕ). x * d) v.1 ∙ mul_right_comm a (down e) d ∙ ap (λ (x : ℕ). x * down e) h ∙ mul_right_comm c b (down e)),
)

pub value_is_finite : (x : Float) (s : Bool) (a c : ℕ) → HasValue x s a c → T (finite x)
value_is_finite nan s a c v = absurd v
value_is_finite (inf t) s a c v = absurd v
value_is_finite (fin t m e) s a c v = tt
