-- The digits of a float's bits, one after another from the eighth down.
use Prim.Native.Nat.{ℕ, zero, suc, ◌-◌, ◌*◌, ◌/◌, ◌%◌, ◌^◌, ◌<◌, ◌≤◌}
use mathlib.Core.Path.{◌≡◌, refl}
use mathlib.Core.List.{[], ◌∷◌, ◌++◌}
use native.Mathlib.Omega.{arith}
use native.Mathlib.Nat.{not-suc-le-zero, div-one}
use lib.ListN.{take}
use Rattle.lines.specs.Line.{glyph, hex8}

pub hex_turn : (n k : ℕ) → 0 < k → k ≤ 8 → take (8 - k) (hex8 n) ++ (glyph (n / 2 ^ (4 * (k - 1)) % 16) ∷ []) ≡ take (8 - (k - 1)) (hex8 n)
unfolding hex8
hex_turn n zero h g = absurd (not-suc-le-zero h)
hex_turn n (suc zero) h g = simp div-one
hex_turn n (suc (suc zero)) h g = refl
hex_turn n (suc (suc (suc zero))) h g = refl
hex_turn n (suc (suc (suc (suc zero)))) h g = refl
hex_turn n (suc (suc (suc (suc (suc zero))))) h g = refl
hex_turn n (suc (suc (suc (suc (suc (suc zero)))))) h g = refl
hex_turn n (suc (suc (suc (suc (suc (suc (suc zero))))))) h g = refl
hex_turn n (suc (suc (suc (suc (suc (suc (suc (suc zero)))))))) h g = refl
hex_turn n (suc (suc (suc (suc (suc (suc (suc (suc (suc k))))))))) h g = absurd (omega arith)

pub hex_all : (n k : ℕ) → k ≤ 0 → take (8 - k) (hex8 n) ≡ hex8 n
unfolding hex8
hex_all n zero h = refl
hex_all n (suc k) h = absurd (not-suc-le-zero h)
