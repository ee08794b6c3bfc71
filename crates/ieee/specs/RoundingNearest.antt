-- What the two roundings have to be, said without saying how they are found; only one number is such (`integral_unique`, `single_unique`). And what widening has to be (`Wider`). Definitions only.
-- Sizes are counted in units of 2 ^ -1074, an f64's smallest value: each f64 and each f32 is a whole number of them.
use Rattle.std.specs.Prelude.{◌≡◌, ℕ, ◌+◌, ◌-◌, ◌*◌, ◌%◌, ◌^◌, ◌<◌, ◌≤◌, Bool, T, ◌⊎◌, to_bits, Float}
use Rattle.std.specs.Float.{nan, inf, binary32, binary64}
use Rattle.std.specs.Float.Ieee.{fits, of_fields}
use Rattle.std.specs.Float.Ieee.Scale.{finite}
use Rattle.std.specs.Float.Ieee.Exact.{HasValue}
use Rattle.ieee.specs.Units.{in_units, sign_of, distance}

-- how far x is from the whole number ±k
abbrev pub to_whole : Float → Bool → ℕ → ℕ
to_whole x s k = distance (sign_of x) (in_units binary64 x) s (k * 2 ^ 1074)

-- how far x is from z
abbrev pub to_number : Float → Float → ℕ
to_number x z = distance (sign_of x) (in_units binary64 x) (sign_of z) (in_units binary64 z)

-- y is the whole number nearest to x, with x's sign, and of two that are as near the one farther from zero (IEEE 754-2019, 5.9 and 4.3.1, roundTiesToAway)
pub record NearestIntegral (x y : Float) : Type 0 where
  pub held : T (fits binary64 y)
  pub size : ℕ
  pub whole : HasValue y (sign_of x) size 1
  pub nearest : (s : Bool) (k : ℕ) → to_whole x (sign_of x) size ≤ to_whole x s k
  pub away : (s : Bool) (k : ℕ) → to_whole x (sign_of x) size ≡ to_whole x s k → k ≤ size
  -- a whole number is its own, and from 2 ^ 52 on there is no other
  pub own : (k : ℕ) → in_units binary64 x ≡ k * 2 ^ 1074 → y ≡ x
  pub large : 2 ^ 52 * 2 ^ 1074 ≤ in_units binary64 x → y ≡ x

-- 2 ^ 128 - 2 ^ 103: half way from the largest f32 to 2 ^ 128, where the next would be
abbrev pub limit32 : ℕ
limit32 = (2 ^ 128 - 2 ^ 103) * 2 ^ 1074

-- y is the f32 nearest to x, and at a tie the one whose last digit is even (4.3.1, roundTiesToEven); an infinity from the limit on, and only there
pub record NearestSingle (x y : Float) : Type 0 where
  pub held : T (fits binary32 y)
  pub sign : sign_of y ≡ sign_of x
  pub within : in_units binary64 x < limit32 → T (finite y)
  pub beyond : limit32 ≤ in_units binary64 x → y ≡ inf (sign_of x)
  pub nearest : T (finite y) → (z : Float) → T (fits binary32 z) → T (finite z) → to_number x y ≤ to_number x z
  pub even : T (finite y) → (z : Float) → T (fits binary32 z) → T (finite z) → to_number x y ≡ to_number x z
      → (in_units binary64 z ≡ in_units binary64 y) ⊎ (to_bits binary32 y % 2 ≡ 0)

-- convertFormat to a wider format is exact (5.4.2): each number of binary32 stays the number that it is, zeros and infinities keep their sign, and a NaN stays a NaN.
-- By the fields of the two patterns (3.4): the exponent's field e goes from the bias 127 to the bias 1023, 896 more, and 29 zeros follow the 23 digits t.
-- A subnormal number, 2 ^ j + d times 2 ^ -149, becomes a normal one: its leading digit, worth 2 ^ (j - 149), goes to the place that is not written, and the field is 1023 + j - 149.
pub record Wider (wide : Float → Float) : Type 0 where
  pub keeps : (x : Float) → T (fits binary32 x) → wide x ≡ x
  pub no_number : wide nan ≡ nan
  pub infinity : (s : Bool) → wide (inf s) ≡ inf s
  pub zero : (s : Bool) → wide (of_fields binary32 s 0 0) ≡ of_fields binary64 s 0 0
  pub subnormal : (s : Bool) (j d : ℕ) → j < 23 → d < 2 ^ j → wide (of_fields binary32 s 0 (2 ^ j + d)) ≡ of_fields binary64 s (874 + j) (d * 2 ^ (52 - j))
  pub normal : (s : Bool) (e t : ℕ) → 0 < e → e < 255 → t < 2 ^ 23 → wide (of_fields binary32 s e t) ≡ of_fields binary64 s (896 + e) (t * 2 ^ 29)
