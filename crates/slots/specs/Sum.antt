-- R-1: "where no width was stopped at its ceiling, the widths from first pulse to last add up to the last pulse's rounded end boundary".
use Rattle.std.specs.Prelude.{List, [], ◌∷◌, ℕ, ◌+◌, ◌-◌, ◌^◌, ◌≤◌, Float}
use Rattle.arith.specs.Carry.{bound_of, rounded_of}

unfoldable pub sum : List ℕ → ℕ
sum [] = 0
sum (n ∷ ns) = n + sum ns

-- the boundary of the last of the edges es, in their order after one whose boundary is before
unfoldable pub last_bound : Float → ℕ → List Float → ℕ
last_bound origin before [] = before
last_bound origin before (e ∷ es) = last_bound origin (bound_of origin before e) es

-- no width was stopped: each difference of neighbouring rounded boundaries is at most 2^32 - 1
unfoldable pub Unstopped : Float → ℕ → List Float → Type 0
Unstopped origin before [] = Unit {0}
Unstopped origin before (e ∷ es) = (rounded_of (bound_of origin before e) - rounded_of before ≤ 2 ^ 32 - 1) × Unstopped origin (bound_of origin before e) es
