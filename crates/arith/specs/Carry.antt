-- Widths that add up: R-1 of document 02. Boundaries are whole numbers of 64ths of a step, counted from the first pulse's edge.
use Rattle.std.specs.Prelude.{ℕ, ◌+◌, ◌-◌, ◌/◌, ◌%◌, ◌^◌, min, max, cond, ℤ, pos, ◌==◌, Float}
use Rattle.std.proofs.Math.IntN.{sub_ℕ}
use Rattle.std.specs.Float.{binary64}
use Rattle.std.specs.Float.Ieee.{sub, mul}
use Rattle.domain.specs.Limits.{max_bound}
use Rattle.arith.specs.declared.Steps.{Steps}
use Rattle.arith.specs.declared.Carried.{Carried}
use Rattle.arith.specs.Leaves.{run_fix, nearest_in, width_of}

-- "the edge's f64 difference from the first pulse's edge in 64ths of a step, to the nearest whole 64th with ties away from zero, and
-- never below the boundary before"; "A larger difference counts as 2^47, NaN as 0". Times 64 is exact, or too large. A boundary is never below 0, so what a negative
-- difference is rounded to does not matter.
unfoldable pub bound_of : Float → ℕ → Float → ℕ
bound_of origin before t = max before (min (nearest_in 64 (mul binary64 (sub binary64 t origin) run_fix)) max_bound)

-- a boundary "rounded to whole steps with ties up"
abbrev pub rounded_of : ℕ → ℕ
rounded_of b = (b + 32) / 64

-- "the later boundary less 64 times its rounded value, -32 to 31"
abbrev pub remainder_of : ℕ → ℤ
remainder_of b = sub_ℕ ((b + 32) % 64) 32

-- "A width is the difference of its two boundaries, each rounded"; "a width stops at 2^32 - 1"
abbrev pub between_of : ℕ → ℕ → Steps
between_of before b = record { 0 = min (rounded_of b - rounded_of before) (2 ^ 32 - 1) }

-- the width that ends at the edge t, its remainder, and the boundary of t
unfoldable pub carried_at : Float → ℕ → Float → Carried
carried_at origin before t =
    let b : ℕ = bound_of origin before t in
    record { width = between_of before b; remainder = remainder_of b; bound = b }

-- the width from edge a to edge b in either mode: with carry (1) by boundaries, without it as the Rust takes it
unfoldable pub width_by : ℕ → Float → ℕ → Float → Float → Carried
width_by carry origin before a b = cond (carry == 1) (carried_at origin before b) (record { width = width_of a b; remainder = pos 0; bound = before })
