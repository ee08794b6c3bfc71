-- The operand of the second step, from its value alone.
use mathlib.Core.Path.{◌≡◌, sym, ap, ◌∙◌, subst}
use mathlib.Core.Bool.{Bool}
use Prim.Native.Nat.{ℕ, suc, ◌*◌, ◌/◌, ◌^◌, ◌<◌}
use native.Mathlib.Nat.{lt_irrefl, mul_assoc, mul_right_comm, mul-div_cancel, mul-pos, zero-mul, pow-suc}
use lib.IntN.{ℤ}
use lib.Ieee.{Float, nan, inf, fin, up, down}
use lib.Ieee.Exact.{HasValue}
use lib.Ieee.Fits.{down_pos}
use Rattle.root.specs.Root.{scaled}

pub twice : (m j : ℕ) → m * 2 ^ j * 2 ≡ m * 2 ^ suc j
twice m j = mul_assoc m (2 ^ j) 2 ∙ ap (λ (x : ℕ). m * x) (sym (pow-suc 2 j))

-- u units of 2 ^ -149 are 2 * u of 4 ^ -75
scaled_fin : (s : Bool) (m : ℕ) (e : ℤ) (u : ℕ) → m * up e * 2 ^ 149 ≡ u * down e → scaled (fin s m e) ≡ u * 2
scaled_fin s m e u h =
    ap (λ (x : ℕ). x / down e) (sym (mul_assoc (m * up e) (2 ^ 149) 2) ∙ ap (λ (x : ℕ). x * 2) h ∙ mul_right_comm u (down e) 2)
    ∙ mul-div_cancel (u * 2) (down_pos e)

pub scaled_is : (x : Float) (s : Bool) (u : ℕ) → HasValue x s u (2 ^ 149) → scaled x ≡ u * 2
scaled_is nan s u h = absurd h
scaled_is (inf t) s u h = absurd h
scaled_is (fin t m e) s u h = scaled_fin t m e u h.1

pub nothing_left : (e : ℤ) (u : ℕ) → 0 < u → 0 * up e * 2 ^ 149 ≡ u * down e → ⊥
nothing_left e u p h =
    lt_irrefl 0 (subst (λ (x : ℕ). 0 < x) (sym h ∙ ap (λ (x : ℕ). x * 2 ^ 149) (zero-mul (up e))) (mul-pos p (down_pos e)))
