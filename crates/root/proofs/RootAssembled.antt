-- The pattern that `round_exact` puts together, for each way the digits are rounded.
use mathlib.Core.Path.{◌≡◌, refl, sym, ap, ◌∙◌}
use mathlib.Core.Logic.{inr}
use mathlib.Core.Bool.{Bool, true, false}
use Prim.Native.Nat.{ℕ, zero, suc, ◌+◌, ◌*◌, ◌/◌, ◌%◌, ◌^◌, ◌≤◌}
use native.Mathlib.Nat.{zero-add}
use native.Mathlib.Omega.{arith}
use lib.Ieee.{binary32, of_bits, nearest, units}
use Rattle.root.specs.Root.{round_exact, dropped}
use Rattle.ieee.proofs.Pack.{pack}

pub round_exact_is : (r : ℕ) (more : Bool) (p : ℕ) → round_exact r more p ≡ units binary32 false (nearest (r / 2) (dropped (r % 2) more)) (p + 50)
unfolding round_exact
round_exact_is r more p = refl

pub assembled : (r : ℕ) (more : Bool) (p q : ℕ) → nearest (r / 2) (dropped (r % 2) more) ≡ q → 2 ^ 23 ≤ q → q ≤ 2 ^ 24 → p ≤ 200
    → of_bits binary32 ((p + 50) * 8388608 + q) ≡ round_exact r more p
assembled r more p q e lo hi h =
    ap (of_bits binary32) (sym (zero-add ((p + 50) * 8388608 + q))) ∙ pack false q (p + 50) hi (inr lo) (omega arith) ∙ sym (round_exact_is r more p ∙ ap (λ (x : ℕ). units binary32 false x (p + 50)) e)

-- half of r, up at a last digit of 1 where there is more; and where there is no more, to the even one
up : (r d : ℕ) → r % 2 ≡ d → nearest (r / 2) (dropped d true) ≡ (r + 1) / 2
up r zero e = omega arith
up r (suc d) e = omega arith

to_even : (r d : ℕ) → r % 2 ≡ d → nearest (r / 2) (dropped d false) ≡ (r + r / 2 % 2) / 2
to_even r zero e = omega arith
to_even r (suc d) e = omega arith

pub with_more : (r : ℕ) (more : Bool) → more ≡ true → nearest (r / 2) (dropped (r % 2) more) ≡ (r + 1) / 2
with_more r more m = ap (λ (b : Bool). nearest (r / 2) (dropped (r % 2) b)) m ∙ up r (r % 2) refl

pub with_none : (r : ℕ) (more : Bool) → more ≡ false → nearest (r / 2) (dropped (r % 2) more) ≡ (r + r / 2 % 2) / 2
with_none r more m = ap (λ (b : Bool). nearest (r / 2) (dropped (r % 2) b)) m ∙ to_even r (r % 2) refl
