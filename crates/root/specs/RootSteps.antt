-- What each step of the square root has to do by itself, in the standard's order: special operands, the exact result, the rounding. It is said without saying how it is done. Definitions only.
use Rattle.std.specs.Prelude.{ℕ, ◌+◌, ◌*◌, ◌/◌, ◌^◌, ◌≤◌, ◌<◌, ◌≡◌, Bool, false, T, ltb, Float, Option, None, Some, IsSome}
use Rattle.std.specs.Float.{nan, inf, binary32}
use Rattle.std.specs.Float.Ieee.{is_nan, eq, lt, round}
use Rattle.std.specs.Float.Ieee.Exact.{HasValue}
use Rattle.std.specs.Float.Ieee.Positive.{positive}
use Rattle.root.specs.declared.Exact.{Exact}
use Rattle.ieee.specs.Constants.{zero32}
use Rattle.root.specs.Root.{InRange}

-- ---- special operands

-- Zeros, plus infinity, NaN and negatives, as the standard tells them: isNaN (5.7.2), and comparison, by which -0 equals +0 and minus infinity is below it (5.11).
pub data IsSpecial (x : Float) : Type 0 where
  a_zero : T (eq x zero32) → IsSpecial x
  plus_infinity : T (eq x (inf false)) → IsSpecial x
  no_number : T (is_nan x) → IsSpecial x
  negative : T (lt x zero32) → IsSpecial x

-- The first step answers these and no others. A zero (6.3) and plus infinity (6.1) are their own roots; a NaN (6.2) and what is below zero (7.2) have a NaN. What is left for the second step is finite and above zero.
pub record SpecialStep (answer : Float → Option Float) : Type 0 where
  pub a_zero : (x : Float) → T (eq x zero32) → answer x ≡ Some x
  pub plus_infinity : answer (inf false) ≡ Some (inf false)
  pub no_number : answer nan ≡ Some nan
  pub negative : (x : Float) → T (lt x zero32) → answer x ≡ Some nan
  pub every : (x : Float) → IsSpecial x → IsSome (answer x)
  pub no_other : (x : Float) → IsSome (answer x) → IsSpecial x
  pub left : (x : Float) → answer x ≡ None → T (positive x)

-- ---- the exact result

-- x is n * 4 ^ p / 4 ^ k, for an n of 2 ^ 48 or more and below 2 ^ 50
abbrev pub BroughtTo : Float → ℕ → ℕ → ℕ → Type 0
BroughtTo x n p k = InRange n × HasValue x false (n * 4 ^ p) (4 ^ k)

-- The second step, for a finite x above zero: by a power of 4 it is brought to n in the range, and by no other power of 4, smaller or larger than 1, to any number there (`only`);
-- `root` is the largest whole number whose square is at most n, and `more` says whether that square is less.
-- So the root of x is that of n, times 2 ^ power / 2 ^ 100.
pub record ExactResult (x : Float) (e : Exact) : Type 0 where
  pub n : ℕ
  pub brought : BroughtTo x n e.power 100
  pub only : (m p k : ℕ) → BroughtTo x m p k → (m ≡ n) × (p + 100 ≡ e.power + k)
  pub at_most : e.root * e.root ≤ n
  pub largest : (s : ℕ) → s * s ≤ n → s ≤ e.root
  pub less : e.more ≡ ltb (e.root * e.root) n

-- ---- the rounding

-- The third step, from the 25 digits r, whether there is more, and the power p alone. A number a / c has the whole part r, and is above r where there is more and r itself where not:
-- whatever number of these it is, times 2 ^ p / 2 ^ 100 it is rounded as every operation of the format rounds (`round` of lib.Ieee; 4.3.1, roundTiesToEven).
abbrev pub RoundingStep : (ℕ → Bool → ℕ → Float) → Type 0
RoundingStep rounded = (r : ℕ) (more : Bool) (p a c : ℕ) → 2 ^ 24 ≤ r → r < 2 ^ 25 → 0 < c → a / c ≡ r → ltb (r * c) a ≡ more → rounded r more p ≡ round binary32 false (a * 2 ^ p) (c * 2 ^ 100)
