-- Special operands: zeros, plus infinity, NaN and negatives. The first step of the root answers these and no others (`special_step`).
use mathlib.Core.Path.{◌≡◌, refl, sym, ap, ◌∙◌, subst}
use mathlib.Core.Logic.{⊎_elim}
use mathlib.Core.Bool.{Bool, true, false, ◌&&◌, ◌||◌, beq, cond}
use Rattle.std.specs.Prelude.{Option, None, Some, IsSome, is_some}
use Rattle.std.proofs.Common.{true≢false}
use Rattle.std.specs.Option.{unwrap_or}
use Prim.Native.Nat.{ℕ, zero, suc, ◌+◌, ◌-◌, ◌*◌, ◌/◌, ◌%◌, ◌^◌, ◌≤◌, ◌<◌}
use native.Mathlib.Nat.{mul-pos, zero-mul, zero-lt-suc, eq-or-lt_of_le}
use native.Mathlib.Omega.{arith}
use lib.Dec.{T, leb, ltb, eqb, le→leb, lt→ltb, ltb→lt, eqb→eq}
use lib.Pow.{pow_pos}
use lib.IntN.{ℤ}
use lib.Ieee.{Float, nan, inf, fin, binary32, up, down, lt, eq, is_nan, of_fields, of_bits}
use lib.Ieee.Bits.{is_true}
use lib.Ieee.Exact.{HasValue}
use lib.Ieee.Fits.{up_pos, and_l}
use lib.Ieee.Positive.{positive}
use Rattle.ieee.specs.Constants.{zero32}
use Rattle.root.specs.Root.{special_of, exact_of, scaled, round_exact_of, sqrt_of}
use Rattle.root.specs.RootSteps.{IsSpecial, a_zero, plus_infinity, no_number, negative, SpecialStep}
use Rattle.root.specs.RootNearest.{SpecialRoots}
use Rattle.ieee.proofs.Fields.{of_bits_fields, value_zero, value_finite}
use Rattle.root.proofs.RootValue.{nothing_left}
use Rattle.ieee.proofs.Signs.{lt_neg, lt_plus, never}

-- ---- zeros: what equals +0 has no digits, of either sign

eq_zero : (s : Bool) (m : ℕ) (e : ℤ) → T (eq (fin s m e) zero32) → m * up e * 1 ≡ 0 * down e
unfolding eq of_bits
eq_zero s m e t = eqb→eq (m * up e * 1) (0 * down e) (and_l (eqb (m * up e * 1) (0 * down e)) (beq s false || eqb (m * up e * 1) 0) t)

pub zero_answer : (x : Float) → T (eq x zero32) → special_of x ≡ Some x
unfolding special_of
zero_answer nan t = absurd (unfold eq in t)
zero_answer (inf s) t = absurd (unfold eq of_bits in t)
zero_answer (fin s zero e) t = refl
zero_answer (fin s (suc m) e) t = absurd (no (suc m * up e) (0 * down e) (mul-pos (zero-lt-suc m) (up_pos e)) (zero-mul (down e)) (eq_zero s (suc m) e t))
  where
    no : (a b : ℕ) → 0 < a → b ≡ 0 → a * 1 ≡ b → ⊥
    no a b p z h = omega arith

of_either_sign : (s : Bool) → (beq s false || true) ≡ true
of_either_sign true = refl
of_either_sign false = refl

pub zero_told : (s : Bool) (e : ℤ) → eq (fin s 0 e) zero32 ≡ true
unfolding eq of_bits
zero_told s e = go s (0 * up e) (0 * down e) (zero-mul (up e)) (zero-mul (down e))
  where
    go : (s : Bool) (a b : ℕ) → a ≡ 0 → b ≡ 0 → eqb (a * 1) b && (beq s false || eqb (a * 1) 0) ≡ true
    go s a b h k = ap (λ (x : ℕ). eqb (x * 1) b && (beq s false || eqb (x * 1) 0)) h ∙ ap (λ (x : ℕ). eqb 0 x && (beq s false || true)) k ∙ of_either_sign s

-- ---- plus infinity, a NaN

pub infinity_is : (x : Float) → T (eq x (inf false)) → x ≡ inf false
unfolding eq
infinity_is nan t = absurd t
infinity_is (inf true) t = absurd t
infinity_is (inf false) t = refl
infinity_is (fin s m e) t = absurd t

nan_is : (x : Float) → T (is_nan x) → x ≡ nan
unfolding is_nan
nan_is nan t = refl
nan_is (inf s) t = absurd t
nan_is (fin s m e) t = absurd t

-- ---- negatives

pub negative_answer : (x : Float) → T (lt x zero32) → special_of x ≡ Some nan
unfolding special_of
negative_answer nan t = refl
negative_answer (inf true) t = refl
negative_answer (inf false) t = absurd (unfold lt of_bits in t)
negative_answer (fin true zero e) t = absurd (no_less (0 * up e) (zero-mul (up e)) (ltb→lt 0 (0 * up e) (subst T (lt_neg 0 e) t)))
  where
    no_less : (a : ℕ) → a ≡ 0 → 0 < a → ⊥
    no_less a e h = omega arith
negative_answer (fin true (suc m) e) t = refl
negative_answer (fin false m e) t = absurd (never (m * up e * 1) (is_true (ltb (m * up e * 1) 0) (subst T (lt_plus m e) t)))

negative_told : (m : ℕ) (e : ℤ) → T (lt (fin true (suc m) e) zero32)
negative_told m e = subst T (sym (lt_neg (suc m) e)) (lt→ltb 0 (suc m * up e) (mul-pos (zero-lt-suc m) (up_pos e)))

-- ---- the first step

every : (x : Float) → IsSpecial x → IsSome (special_of x)
every x (a_zero t) = ap is_some (zero_answer x t)
every x (plus_infinity t) = ap (λ (y : Float). is_some (special_of y)) (infinity_is x t) ∙ (unfold special_of in refl)
every x (no_number t) = ap (λ (y : Float). is_some (special_of y)) (nan_is x t) ∙ (unfold special_of in refl)
every x (negative t) = ap is_some (negative_answer x t)

no_other : (x : Float) → IsSome (special_of x) → IsSpecial x
unfolding special_of
no_other nan t = no_number (unfold is_nan in tt)
no_other (inf true) t = negative (unfold lt of_bits in tt)
no_other (inf false) t = plus_infinity (unfold eq in tt)
no_other (fin s zero e) t = a_zero (subst T (sym (zero_told s e)) tt)
no_other (fin true (suc m) e) t = negative (negative_told m e)
no_other (fin false (suc m) e) t = absurd (true≢false (sym t))

left : (x : Float) → special_of x ≡ None → T (positive x)
unfolding special_of
left nan h = absurd (true≢false (ap is_some h))
left (inf true) h = absurd (true≢false (ap is_some h))
left (inf false) h = absurd (true≢false (ap is_some h))
left (fin s zero e) h = absurd (true≢false (ap is_some h))
left (fin true (suc m) e) h = absurd (true≢false (ap is_some h))
left (fin false (suc m) e) h = lt→ltb 0 (suc m) (zero-lt-suc m)

pub special_step : SpecialStep special_of
special_step = record {
  a_zero = zero_answer;
  plus_infinity = unfold special_of in refl;
  no_number = unfold special_of in refl;
  negative = negative_answer;
  every = every;
  no_other = no_other;
  left = left;
}

-- what is none of these is left
pub none_of_these : (x : Float) → (IsSpecial x → ⊥) → special_of x ≡ None
none_of_these x n = go (special_of x) refl
  where
    go : (o : Option Float) → special_of x ≡ o → special_of x ≡ None
    go None h = h
    go (Some r) h = absurd (n (no_other x (ap is_some h)))

-- and so is every finite number above zero
pub positive_left : (x : Float) → T (positive x) → special_of x ≡ None
unfolding special_of
positive_left nan t = absurd t
positive_left (inf s) t = absurd t
positive_left (fin true m e) t = absurd t
positive_left (fin false zero e) t = absurd t
positive_left (fin false (suc m) e) t = refl

-- ---- the steps in a row

pub root_answered : (x r : Float) → special_of x ≡ Some r → sqrt_of x ≡ r
unfolding sqrt_of
root_answered x r h = ap (λ (o : Option Float). unwrap_or o (round_exact_of (exact_of (scaled x)))) h

pub root_left : (x : Float) → special_of x ≡ None → sqrt_of x ≡ round_exact_of (exact_of (scaled x))
unfolding sqrt_of
root_left x h = ap (λ (o : Option Float). unwrap_or o (round_exact_of (exact_of (scaled x)))) h

pub special_roots : SpecialRoots sqrt_of
special_roots = record {
  no_number = root_answered nan nan special_step.no_number;
  infinity = root_answered (inf false) (inf false) special_step.plus_infinity;
  zero = λ s e. root_answered (fin s 0 e) (fin s 0 e) (special_step.a_zero (fin s 0 e) (subst T (sym (zero_told s e)) tt));
  negative = λ x t. root_answered x nan (special_step.negative x t);
}

-- ---- by the pattern: those above -0's

below_zero : (t : Bool) (m : ℕ) (e : ℤ) (u : ℕ) → 0 < u → t ≡ true → m * up e * 2 ^ 149 ≡ u * down e → special_of (fin t m e) ≡ Some nan
unfolding special_of
below_zero t zero e u p f h = absurd (nothing_left e u p h)
below_zero t (suc m) e u p f h = ap (λ (s : Bool). special_of (fin s (suc m) e)) f

negative_value : (x : Float) (u : ℕ) → 0 < u → HasValue x true u (2 ^ 149) → special_of x ≡ Some nan
negative_value nan u p h = absurd h
negative_value (inf t) u p h = absurd h
negative_value (fin t m e) u p h = below_zero t m e u p h.0 h.1

-- by the fields: a subnormal, a number, an infinity or a NaN
at_top : (t : ℕ) → special_of (of_fields binary32 true 255 t) ≡ Some nan
unfolding of_fields
at_top t = go (eqb t 0)
  where
    go : (b : Bool) → special_of (cond b (inf true) nan) ≡ Some nan
    go true = unfold special_of in refl
    go false = unfold special_of in refl

negative_fields : (f t : ℕ) → f ≤ 255 → (f ≡ 0 → 0 < t) → special_of (of_fields binary32 true f t) ≡ Some nan
negative_fields zero t h p = negative_value (of_fields binary32 true 0 t) t (p refl) (value_zero binary32 true t)
negative_fields (suc f) t h p =
    ⊎_elim (λ (e : suc f ≡ 255). ap (λ (x : ℕ). special_of (of_fields binary32 true x t)) e ∙ at_top t)
    (λ (l : suc f < 255). negative_value (of_fields binary32 true (suc f) t) ((8388608 + t) * 2 ^ (suc f - 1)) (mul-pos (lead t) (pow_pos (suc f - 1))) (value_finite binary32 true (suc f) t (zero-lt-suc f) l))
    (eq-or-lt_of_le h)
  where
    lead : (t : ℕ) → 0 < 8388608 + t
    lead t = omega arith

pub negative_root : (b : ℕ) → 2147483648 < b → b < 2 ^ 32 → sqrt_of (of_bits binary32 b) ≡ nan
negative_root b h k =
    let l : 2147483648 ≤ b = omega arith in
    root_answered (of_bits binary32 b) nan
    (ap special_of (of_bits_fields binary32 b ∙ ap (λ (s : Bool). of_fields binary32 s (b % 2147483648 / 8388608) (b % 8388608)) (is_true (leb 2147483648 b) (le→leb 2147483648 b l)))
    ∙ negative_fields (b % 2147483648 / 8388608) (b % 8388608) (omega arith) (λ e. omega arith))
