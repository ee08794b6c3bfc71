-- Laws of the definitions in specs/Counts.
use Rattle.std.proofs.Common.{◌≡◌, ℕ, ◌+◌, ◌^◌, ◌<◌, mod-eq_of_lt}
use Rattle.shared.specs.Counts.{inc}

-- below the limit of a u32 nothing wraps
pub inc_exact : (n : ℕ) → n + 1 < 2 ^ 32 → inc n ≡ n + 1
unfolding inc
inc_exact n h = mod-eq_of_lt h
