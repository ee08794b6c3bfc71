-- Rounding to a whole number and to another format, after IEEE 754-2019, computed on whole numbers. `fin s m e` is m * 2 ^ e, that is m * up e / down e, negative where s is true.
-- That the results are the nearest is stated in RoundingNearest.antt and proved of these definitions.
use Rattle.std.specs.Prelude.{ℕ, ◌+◌, ◌*◌, ◌/◌, Float}
use Rattle.std.specs.Float.{nan, inf, fin, Format, binary32, binary64}
use Rattle.std.specs.Float.Ieee.{up, down, round}

-- the whole number nearest to a / b, the upper one of two that are as near
abbrev pub half_up : ℕ → ℕ → ℕ
half_up a b = (2 * a + b) / (2 * b)

-- roundToIntegralTiesToAway (5.3.1, 5.9; roundTiesToAway, 4.3.1) at binary64: `libm::round`. The sign stays, also that of a zero (6.3). The outer `round` only writes the whole number as a float.
unfoldable pub round_of : Float → Float
unfolding round
round_of nan = nan
round_of (inf s) = inf s
round_of (fin s m e) = round binary64 s (half_up (m * up e) (down e)) 1

-- convertFormat (5.4.2) to the format f with roundTiesToEven (4.3.1): subnormals are kept, an overflow gives the infinity of the same sign (7.4)
abbrev pub convert_to : Format → Float → Float
convert_to f nan = nan
convert_to f (inf s) = inf s
convert_to f (fin s m e) = round f s (m * up e) (down e)

unfoldable pub narrow_of : Float → Float
unfolding round
narrow_of x = convert_to binary32 x

-- to the wider format, which changes no number of binary32 (`Wider` in RoundingNearest.antt)
unfoldable pub widen_of : Float → Float
unfolding round
widen_of x = convert_to binary64 x
