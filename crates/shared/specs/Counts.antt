-- Whole numbers of 32 bits as the Rust adds them, and the float constants that several parts use.
use Rattle.std.specs.Prelude.{ℕ, ◌+◌, ◌-◌, ◌%◌, ◌^◌, min, Bool, cond}
use Rattle.arith.specs.declared.C32.{C32}
use Rattle.ieee.specs.Constants.{zero32}

-- u32::saturating_add
unfoldable pub sat_add_of : ℕ → ℕ → ℕ
sat_add_of x y = min (x + y) (2 ^ 32 - 1)

-- `n + 1` of a u32 that is not checked: it wraps
unfoldable pub inc : ℕ → ℕ
inc n = (n + 1) % 2 ^ 32

-- u32::from of a bool
abbrev pub bit : Bool → ℕ
bit b = cond b 1 0

-- [0.0; 2]
abbrev pub zero_c32 : C32
zero_c32 = record { re = zero32; im = zero32 }
