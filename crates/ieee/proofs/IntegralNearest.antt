-- `round_of` gives the whole number nearest to a finite f64, a tie away from zero (`nearest_integral`).
use Rattle.std.proofs.Common.{◌≡◌, ℕ, ◌+◌, ◌*◌, ◌^◌, ◌<◌, ◌≤◌, T, sym, ◌∙◌, subst, le_trans, le_antisymm, arith, pow_pos}
use lib.Ieee.Back.{whole_unique}
use lib.Ieee.Exact.{HasValue}
use lib.Ieee.{Float, binary64, fits}
use lib.Ieee.Scale.{finite}
use Rattle.ieee.specs.Units.{in_units, sign_of, apart, distance}
use Rattle.ieee.specs.Rounding.{half_up, round_of}
use Rattle.ieee.specs.RoundingNearest.{NearestIntegral, to_whole}
use Rattle.ieee.proofs.Distance.{distance_same, by_sign}
use Rattle.ieee.proofs.HalfUp.{half_near, half_away, half_zero, half_cross, round_of_value, round_of_fits, round_of_own, round_of_large}

-- for every finite f64
pub nearest_integral : (x : Float) → T (fits binary64 x) → T (finite x) → NearestIntegral x (round_of x)
nearest_integral x f t =
    let c = 2 ^ 1074 in
    let C : 0 < c = pow_pos 1074 in
    let s = sign_of x in
    let u = in_units binary64 x in
    let n = half_up u c in
    let d : distance s u s (n * c) ≡ apart u (n * c) = distance_same s u (n * c) in
    record {
      held = round_of_fits x f t;
      size = n;
      whole = round_of_value x f t;
      nearest = λ r k. subst (λ (z : ℕ). z ≤ distance s u r (k * c)) (sym d) (by_sign (λ (z : ℕ). apart u (n * c) ≤ z) s r u (k * c) (half_near u c C k) (le_trans (half_zero u c C) (first u (k * c))));
      away = λ r k q. by_sign (λ (z : ℕ). apart u (n * c) ≡ z → k ≤ n) s r u (k * c) (half_away u c C k) (half_cross u c C k) (sym d ∙ q);
      own = round_of_own x f t;
      large = round_of_large x f t;
    }
  where
    first : (a b : ℕ) → a ≤ a + b
    first a b = omega arith

-- only one number is such
pub integral_unique : (x y z : Float) → NearestIntegral x y → NearestIntegral x z → y ≡ z
integral_unique x y z a b =
    let e : to_whole x (sign_of x) a.size ≡ to_whole x (sign_of x) b.size = le_antisymm (a.nearest (sign_of x) b.size) (b.nearest (sign_of x) a.size) in
    let n : a.size ≡ b.size = le_antisymm (b.away (sign_of x) a.size (sym e)) (a.away (sign_of x) b.size e) in
    whole_unique binary64 y z (sign_of x) b.size a.held b.held (subst (λ (k : ℕ). HasValue y (sign_of x) k 1) n a.whole) b.whole
