-- `lane_sqrt`: the square root of an f32 by bit pattern (document 01, "Commands"; IEEE 754-2019, 5.4.1).
use Rattle.std.specs.Prelude.{ℕ, ◌%◌, ◌^◌, ◌<◌, ◌≡◌}
use Rattle.std.specs.Float.{binary32}
use Rattle.std.specs.Float.Ieee.{of_bits, to_bits}
use Rattle.root.specs.Root.{sqrt_of}

abbrev pub lane_sqrt_of : ℕ → ℕ
lane_sqrt_of bits = to_bits binary32 (sqrt_of (of_bits binary32 bits))

-- document 01 on the special operands: -0 gives -0, plus infinity itself, a NaN or any other negative 7fc00000
pub record SpecialPatterns (root : ℕ → ℕ) : Type 0 where
  pub minus_zero : root 0x8000_0000 ≡ 0x8000_0000
  pub infinity : root 0x7f80_0000 ≡ 0x7f80_0000
  pub no_number : (b : ℕ) → 0x7f80_0000 < b % 0x8000_0000 → root b ≡ 0x7fc0_0000
  pub negative : (b : ℕ) → 0x8000_0000 < b → b < 2 ^ 32 → root b ≡ 0x7fc0_0000
