-- The first number whose next one has a square above n is the largest whose square is not.
use mathlib.Core.Path.{subst}
use Prim.Native.Nat.{ℕ, zero, suc, ◌+◌, ◌*◌, ◌≤◌, ◌<◌}
use native.Mathlib.Numerals.{add-one}
use native.Mathlib.Omega.{arith}
use Rattle.std.specs.Prelude.{Option, Some, None, MatchOption}
use Rattle.std.specs.Option.{unwrap_or}
use Rattle.table.specs.Rule.{IsLargest}

below : (n r : ℕ) → ((k : ℕ) → k < r → (k + 1) * (k + 1) ≤ n) → r * r ≤ n
below n zero h = omega arith
below n (suc k) h = subst (λ (x : ℕ). x * x ≤ n) (add-one k) (h k (omega arith))

pub first_over : (n : ℕ) (r : Option ℕ) → n < 256 * 256
    → MatchOption r ((k : ℕ) → 0 ≤ k → k < 255 → (k + 1) * (k + 1) ≤ n) (λ i. (0 ≤ i) × (i < 255) × (n < (i + 1) * (i + 1)) × ((k : ℕ) → 0 ≤ k → k < i → (k + 1) * (k + 1) ≤ n)) → IsLargest n (unwrap_or r 255)
first_over n None l h = (below n 255 (λ k u. h k (omega arith) u), l)
first_over n (Some i) l h = (below n i (λ k u. h.3 k (omega arith) u), h.2)

-- a number whose square is above another is above 0
pub over_zero : (k n : ℕ) → n < k * k → 0 < k
over_zero zero n h = omega (arith, h)
over_zero (suc k) n h = omega arith
