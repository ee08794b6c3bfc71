-- What follows min_steps in `Params::new` (lead_len stands in arith).
use Rattle.std.specs.Prelude.{ℕ, ◌/◌, min, max}

-- FSK_CAND is 8
abbrev pub fsk_min_of : ℕ → ℕ
fsk_min_of m = min (max (m / 2) 2) 8

-- RING - REFINE_BACK is 26
abbrev pub refine_at_of : ℕ → ℕ
refine_at_of m = min m 26
