-- What a square root has to be, said without saying how it is found: IEEE 754-2019, 4.3.1, the number of the format nearest to the exact root; only one is such (`root_unique`). Definitions only.
use Rattle.std.specs.Prelude.{ℕ, ◌+◌, ◌*◌, ◌^◌, ◌<◌, ◌≡◌, Bool, false, ℤ, T, Float}
use Rattle.std.specs.Float.{nan, inf, fin, binary32}
use Rattle.std.specs.Float.Ieee.{fits, lt}
use Rattle.std.specs.Float.Ieee.Scale.{finite}
use Rattle.std.specs.Float.Ieee.Exact.{HasValue}
use Rattle.ieee.specs.Constants.{zero32}
use Rattle.ieee.specs.Units.{in_units}

-- For numbers of x, y and z units: the root of x lies strictly on y's side of the middle between y and z. In units the root of x is that of x * 2 ^ 149, and the middle is (y + z) / 2.
-- Both are squared, and multiplied by 4.
abbrev pub OnSide : ℕ → ℕ → ℕ → Type 0
OnSide x y z = (z < y → (y + z) * (y + z) < 4 * (x * 2 ^ 149)) × (y < z → 4 * (x * 2 ^ 149) < (y + z) * (y + z))

-- y is the f32 nearest to the root of x, which is never half way between two of them. A negative z is farther off than 0 is.
pub record NearestRoot (x y : Float) : Type 0 where
  pub held : T (fits binary32 y)
  pub plain : HasValue y false (in_units binary32 y) (2 ^ 149)
  pub nearest : (z : Float) → T (fits binary32 z) → T (finite z) → OnSide (in_units binary32 x) (in_units binary32 y) (in_units binary32 z)

-- the operands whose root is no rounded number: a NaN, plus infinity, the zeros with their sign (6.3), and what is below zero, for which the operation is invalid (7.2)
pub record SpecialRoots (root : Float → Float) : Type 0 where
  pub no_number : root nan ≡ nan
  pub infinity : root (inf false) ≡ inf false
  pub zero : (s : Bool) (e : ℤ) → root (fin s 0 e) ≡ fin s 0 e
  pub negative : (x : Float) → T (lt x zero32) → root x ≡ nan
