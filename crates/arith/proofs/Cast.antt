-- An integer cast of `round_of` is the whole number that it gives, held to the range.
use Rattle.std.proofs.Common.{◌≡◌, ℕ, ◌-◌, ◌*◌, ◌/◌, ◌^◌, min, Bool, true, cond, T, sym, refl, ap, ◌∙◌, subst, mul-one, mul-div_cancel, pow_pos}
use lib.Ieee.{Float, nan, inf, fin, binary64, up, down, fits, to_unsigned}
use lib.Ieee.Fits.{down_pos}
use lib.Ieee.Exact.{HasValue}
use Rattle.ieee.specs.Units.{in_units}
use Rattle.ieee.specs.Rounding.{round_of, half_up}
use Rattle.ieee.proofs.Nan.{told}
use Rattle.arith.specs.Leaves.{nearest_in}
use Rattle.ieee.proofs.Short.{in_units_exact}
use Rattle.ieee.proofs.HalfUp.{half_up_same, round_of_value}

cut : (w : ℕ) (y : Float) (s : Bool) (n : ℕ) → HasValue y s n 1 → to_unsigned w y ≡ cond s 0 (min n (2 ^ w - 1))
unfolding to_unsigned
cut w nan s n v = absurd v
cut w (inf t) s n v = absurd v
cut w (fin t m e) s n v =
    let q : m * up e / down e ≡ n = ap (λ (x : ℕ). x / down e) (sym (mul-one (m * up e)) ∙ v.1) ∙ mul-div_cancel n (down_pos e) in
    ap (λ (b : Bool). cond b 0 (min (m * up e / down e) (2 ^ w - 1))) v.0 ∙ ap (λ (x : ℕ). cond s 0 (min x (2 ^ w - 1))) q

cast_round_of : (w : ℕ) (x : Float) → T (fits binary64 x) → to_unsigned w (round_of x) ≡ nearest_in w x
unfolding nearest_in
cast_round_of w nan t = unfold round_of to_unsigned in refl
cast_round_of w (inf s) t = unfold round_of to_unsigned in refl
cast_round_of w (fin s m e) t =
    let x = fin s m e in
    let u = in_units binary64 x in
    let h : half_up u (2 ^ 1074) ≡ half_up (m * up e) (down e) = half_up_same u (2 ^ 1074) (m * up e) (down e) (pow_pos 1074) (down_pos e) (sym (in_units_exact binary64 x t tt).1) in
    cut w (round_of x) s (half_up (m * up e) (down e)) (subst (λ (n : ℕ). HasValue (round_of x) s n 1) h (round_of_value x t tt))

-- the two calls, one after the other, of a number that its format holds
pub cast_of_round : (w : ℕ) (x : Float) {y : Float} {n : ℕ} → fits binary64 x ≡ true → y ≡ round_of x → n ≡ to_unsigned w y → n ≡ nearest_in w x
cast_of_round w x g r n = n ∙ ap (to_unsigned w) r ∙ cast_round_of w x (told g)
