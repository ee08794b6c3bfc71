-- A finite number by its sign and its size, counted in a format's smallest value, of which each number of the format is a whole number of times; and how far apart two lie. Definitions only.
-- The theorems that a result is the nearest are stated by these, so that they do not depend on how the result is found.
use Rattle.std.specs.Prelude.{ℕ, ◌+◌, ◌-◌, ◌*◌, ◌/◌, ◌^◌, Bool, false, cond, Float}
use Rattle.std.specs.Bool.{beq}
use Rattle.std.specs.Float.{nan, inf, fin, Format}
use Rattle.std.specs.Float.Ieee.{low, up, down}

-- the size in units of 2 ^ -149 (binary32) or 2 ^ -1074 (binary64)
abbrev pub in_units : Format → Float → ℕ
in_units f nan = 0
in_units f (inf s) = 0
in_units f (fin s m e) = m * up e * 2 ^ low f / down e

-- isSignMinus (5.7.2); a NaN has no sign here
abbrev pub sign_of : Float → Bool
sign_of nan = false
sign_of (inf s) = s
sign_of (fin s m e) = s

-- how far apart two sizes are
abbrev pub apart : ℕ → ℕ → ℕ
apart a b = a - b + (b - a)

-- how far apart ±a and ±b are, a negative one having the sign true
abbrev pub distance : Bool → ℕ → Bool → ℕ → ℕ
distance s a t b = cond (beq s t) (apart a b) (a + b)
