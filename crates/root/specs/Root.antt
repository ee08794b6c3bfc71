-- The square root of an f32, after IEEE 754-2019, 5.4.1 (squareRoot) with 4.3.1 (roundTiesToEven), in whole numbers that antt computes. Definitions only.
-- The steps are the standard's, in its order: special operands, then the exact result, then the rounding. What each has to do by itself is said in RootSteps.antt.
use Prim.Native.Nat.{ℕ, zero, suc, ◌+◌, ◌*◌, ◌/◌, ◌%◌, ◌^◌, ◌≤◌, ◌<◌, Ordering}
use Rattle.std.specs.Prelude.{Bool, true, false, cond, leb, ltb, Float, Option, None, Some}
use Rattle.std.specs.Option.{unwrap_or}
use Rattle.root.specs.declared.Exact.{Exact}
use Rattle.std.specs.Float.{nan, inf, fin, binary32}
use Rattle.std.specs.Float.Ieee.{up, down, size, nearest, units}

-- ---- special operands

-- What is answered with no root taken: a NaN by a NaN (6.2), a zero by itself, with its sign (6.3), plus infinity by itself (6.1), and what is below zero, for which the operation is invalid, by a NaN (7.2).
-- Nothing is answered for a finite number above zero.
unfoldable pub special_of : Float → Option Float
special_of nan = Some nan
special_of (fin s zero e) = Some (fin s zero e)
special_of (inf false) = Some (inf false)
special_of (inf true) = Some nan
special_of (fin true (suc m) e) = Some nan
special_of (fin false (suc m) e) = None

-- ---- the exact result

-- The operand as a whole number v of 4 ^ -75: so the root of the operand is that of v, times 2 ^ -75. The smallest f32 above 0 is 2 of them.
abbrev pub scaled : Float → ℕ
scaled nan = 0
scaled (inf s) = 0
scaled (fin s m e) = m * up e * 4 ^ 75 / down e

-- how many digits v has to the base 4
abbrev pub power : ℕ → ℕ
power v = (size v + 1) / 2

-- the numbers of 25 digits to the base 4: 2 ^ 48 or more, and below 2 ^ 50
abbrev pub InRange : ℕ → Type 0
InRange n = (2 ^ 48 ≤ n) × (n < 2 ^ 50)

-- v brought there by a power of 4. So the root of v is that of this number, times 2 ^ power v / 2 ^ 25.
abbrev pub brought : ℕ → ℕ
brought v = v * 4 ^ 25 / 4 ^ power v

-- r is the largest whole number whose square is at most n
abbrev pub IsRoot : ℕ → ℕ → Type 0
IsRoot n r = (r * r ≤ n) × (n < (r + 1) * (r + 1))

-- That number, for an n of at most k digits to the base 4: a digit of n gives a binary digit of the root.
unfoldable pub whole_root : ℕ → ℕ → ℕ
whole_root zero n = 0
whole_root (suc k) n = let r = 2 * whole_root k (n / 4) in cond (leb ((r + 1) * (r + 1)) n) (r + 1) r

-- The exact root of v * 4 ^ -75: 25 digits, whether there is more, and the power.
unfoldable pub exact_of : ℕ → Exact
unfolding size whole_root
exact_of v =
    let n = brought v in
    let r = whole_root 25 n in
    record { root = r; more = ltb (r * r) n; power = power v }

-- ---- the rounding

-- Of the root's 25 digits an f32 keeps 24. What is dropped is the last digit, and what the root has beyond it, if it has more: how that compares with half a unit of the last place kept.
abbrev pub dropped : ℕ → Bool → Ordering
dropped zero more = Ordering.lt
dropped (suc d) false = Ordering.eq
dropped (suc d) true = Ordering.gt

-- The f32 nearest to the exact root, ties to even, from the root's 25 digits r, whether it has more, and the power p.
-- The exact root is r and a part of one, times 2 ^ p / 2 ^ 100, and in units of 2 ^ -149, an f32's smallest, times 2 ^ (p + 49).
unfoldable pub round_exact : ℕ → Bool → ℕ → Float
unfolding units
round_exact r more p = units binary32 false (nearest (r / 2) (dropped (r % 2) more)) (p + 50)

-- ---- the operation: the special answer, and where there is none the rounding of the exact result
abbrev pub round_exact_of : Exact → Float
round_exact_of e = round_exact e.root e.more e.power

unfoldable pub sqrt_of : Float → Float
unfolding special_of exact_of round_exact
sqrt_of x = unwrap_or (special_of x) (round_exact_of (exact_of (scaled x)))
