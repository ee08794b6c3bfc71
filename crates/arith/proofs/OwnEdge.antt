-- A number less itself is a zero, or a NaN where it is an infinity or a NaN, and is rounded to 0. So the first pulse's edge has the
-- boundary 0 (`own_edge`), and what begins where it ends has no width (`no_width`).
use Rattle.std.proofs.Common.{◌≡◌, ℕ, suc, ◌+◌, ◌-◌, ◌*◌, ◌^◌, ◌<◌, min, max, Bool, true, false, sym, refl, ap, ◌∙◌, mul-pos, zero-mul, arith, pow_pos, le-ltb}
use native.Mathlib.Nat.{eq_of_mul-eq-mul_right, div-eq_of_lt}
use lib.Ieee.{Float, nan, inf, fin, prec, emax, low, binary64, up, down, round, add, sub, sum, mul, neg, of_bits, unlike}
use lib.Ieee.Fits.{down_pos}
use lib.Ieee.Exact.{HasValue, round_exact}
use Rattle.arith.specs.Leaves.{run_fix, nearest_in, width_of}
use Rattle.ieee.specs.Rounding.{half_up}
use Rattle.arith.specs.Carry.{bound_of}

-- a zero or a NaN
pub Flat : Float → Type 0
Flat nan = Unit {0}
Flat (inf s) = ⊥
Flat (fin s m e) = m * up e ≡ 0

pub round_flat : (s : Bool) (n den : ℕ) → n ≡ 0 → 0 < den → Flat (round binary64 s n den)
unfolding Flat
round_flat s n den q h = go (round binary64 s n den) (round_exact binary64 s n den 0 0 h (pow_pos (prec binary64)) (pow_pos (low binary64 + suc (emax binary64))) (ap (λ (k : ℕ). k * 2 ^ low binary64) q ∙ zero-mul (2 ^ low binary64) ∙ sym (zero-mul den)))
  where
    go : (x : Float) → HasValue x s n den → Flat x
    go nan v = absurd v
    go (inf t) v = absurd v
    go (fin t m e) v = eq_of_mul-eq-mul_right den h (m * up e) 0 (v.1 ∙ ap (λ (k : ℕ). k * down e) q ∙ zero-mul (down e) ∙ sym (zero-mul den))

sub_flat : (x : Float) → Flat (sub binary64 x x)
unfolding sub add neg sum Flat
sub_flat nan = tt
sub_flat (inf true) = tt
sub_flat (inf false) = tt
sub_flat (fin true m e) =
    let a = m * up e * down e in
    rw (le-ltb a a (omega arith)) (round_flat false (a - a) (down e * down e) (omega arith) (mul-pos (down_pos e) (down_pos e)))
sub_flat (fin false m e) =
    let a = m * up e * down e in
    rw (le-ltb a a (omega arith)) (round_flat false (a - a) (down e * down e) (omega arith) (mul-pos (down_pos e) (down_pos e)))

mul_flat : (x : Float) → Flat x → Flat (mul binary64 x run_fix)
unfolding mul of_bits Flat
mul_flat nan h = tt
mul_flat (inf s) h = absurd h
mul_flat (fin s m e) h = round_flat (unlike s false) (m * up e * 64) (down e * 1) (ap (λ (k : ℕ). k * 64) h) (omega (arith, down_pos e))

pub nearest_flat : (w : ℕ) (x : Float) → Flat x → nearest_in w x ≡ 0
unfolding nearest_in Flat
nearest_flat w nan h = refl
nearest_flat w (inf s) h = absurd h
nearest_flat w (fin true m e) h = refl
nearest_flat w (fin false m e) h =
    let l : 2 * 0 + down e < 2 * down e = omega (arith, down_pos e) in
    ap (λ (n : ℕ). min (half_up n (down e)) (2 ^ w - 1)) h ∙ ap (λ (n : ℕ). min n (2 ^ w - 1)) (div-eq_of_lt l) ∙ none (2 ^ w - 1)
  where
    none : (k : ℕ) → min 0 k ≡ 0
    none k = omega arith

pub own_edge : (t : Float) → bound_of t 0 t ≡ 0
unfolding bound_of
own_edge t = ap (λ (n : ℕ). max 0 (min n (2 ^ 47))) (nearest_flat 64 _ (mul_flat (sub binary64 t t) (sub_flat t)))

pub no_width : (x : Float) → (width_of x x).0 ≡ 0
no_width x = nearest_flat 32 _ (sub_flat x)
