-- A finite number of a format is m * 2 ^ j of the format's smallest value, with m of no more digits than the format keeps: `in_units` loses nothing.
use Rattle.std.proofs.Common.{◌≡◌, ℕ, zero, suc, ◌+◌, ◌-◌, ◌*◌, ◌/◌, ◌%◌, ◌^◌, ◌<◌, ◌≤◌, Bool, ◌&&◌, T, eqb, ltb, leb, ℤ, pos, negsuc, sym, refl, ap, ◌∙◌, subst, le_of_suc-le-suc, mul_assoc, lt_of_mul-lt-mul_right, mul-lt-mul_of_pos_right, lt_of_not-le, zero-mul, mul-one, mul_right_comm, not-le_of_lt, mul-div_cancel, arith, ltb→lt, leb→le, pow_pos, pow-add}
use native.Mathlib.Nat.{zero-div}
use lib.Pow.{pow-lt}
use lib.Ieee.{Float, nan, inf, fin, Format, prec, emax, low, up, down, fits}
use lib.Ieee.Fits.{and_l, and_r, down_pos}
use lib.Ieee.Exact.{HasValue}
use lib.Ieee.Scale.{finite, overflow}
use lib.Ieee.Positive.{num, den}
use Rattle.ieee.specs.Units.{in_units, sign_of}

pow_le_back : (a l : ℕ) → 2 ^ a ≤ 2 ^ l → a ≤ l
pow_le_back a l h = le_of_suc-le-suc (lt_of_not-le (λ (g : suc l ≤ a). not-le_of_lt (pow-lt g) h))

place : (l : ℕ) (e : ℤ) → down e ≤ 2 ^ l → (j : ℕ) × ((m : ℕ) → m * up e * 2 ^ l ≡ m * 2 ^ j * down e)
place l (pos a) h = (a + l, λ m. mul_assoc m (2 ^ a) (2 ^ l) ∙ ap (λ (x : ℕ). m * x) (sym (pow-add 2 a l)) ∙ sym (mul-one (m * 2 ^ (a + l))))
place l (negsuc a) h =
    let g : suc a ≤ l = pow_le_back (suc a) l h in
    let e : l ≡ l - suc a + suc a = omega arith in
    (l - suc a, λ m. ap (λ (x : ℕ). x * 2 ^ l) (mul-one m) ∙ ap (λ (x : ℕ). m * 2 ^ x) e ∙ ap (λ (x : ℕ). m * x) (pow-add 2 (l - suc a) (suc a)) ∙ sym (mul_assoc m (2 ^ (l - suc a)) (2 ^ suc a)))

pub record Short (f : Format) (x : Float) : Type 0 where
  pub m : ℕ
  pub j : ℕ
  pub small : m < 2 ^ prec f
  pub within : m * 2 ^ j < overflow f
  pub exact : num x * 2 ^ low f ≡ m * 2 ^ j * den x
  pub size_is : in_units f x ≡ m * 2 ^ j

-- the value of a number from its units
pub in_units_lem : (f : Format) (x : Float) (s : Bool) (u : ℕ) → HasValue x s u (2 ^ low f) → in_units f x ≡ u
in_units_lem f nan s u h = absurd h
in_units_lem f (inf t) s u h = absurd h
in_units_lem f (fin t m e) s u h = ap (λ (x : ℕ). x / down e) h.1 ∙ mul-div_cancel u (down_pos e)

short_fin : (f : Format) (s : Bool) (m : ℕ) (e : ℤ) → m < 2 ^ prec f → down e ≤ 2 ^ low f → m * up e < 2 ^ suc (emax f) * down e → Short f (fin s m e)
short_fin f s m e a b c =
    let l = low f in
    let t = suc (emax f) in
    let p = place l e b in
    let v : m * up e * 2 ^ l ≡ m * 2 ^ p.0 * down e = p.1 m in
    let w : m * up e * 2 ^ l < 2 ^ t * down e * 2 ^ l = mul-lt-mul_of_pos_right c (pow_pos l) in
    let g : 2 ^ t * down e * 2 ^ l ≡ 2 ^ (l + t) * down e = mul_right_comm (2 ^ t) (down e) (2 ^ l) ∙ ap (λ (x : ℕ). x * down e) (sym (pow-add 2 t l) ∙ ap (λ (x : ℕ). 2 ^ x) (swap t l)) in
    record {
      m = m;
      j = p.0;
      small = a;
      within = lt_of_mul-lt-mul_right (down e) (subst (λ (x : ℕ). m * 2 ^ p.0 * down e < x) g (subst (λ (x : ℕ). x < 2 ^ t * down e * 2 ^ l) v w));
      exact = v;
      size_is = in_units_lem f (fin s m e) s (m * 2 ^ p.0) (refl, v);
    }
  where
    swap : (a b : ℕ) → a + b ≡ b + a
    swap a b = omega arith

pub short : (f : Format) (x : Float) → T (fits f x) → T (finite x) → Short f x
unfolding fits
short f nan h t = absurd t
short f (inf s) h t = absurd t
short f (fin s zero e) h t = record {
  m = 0;
  j = 0;
  small = pow_pos (prec f);
  within = pow_pos (low f + suc (emax f));
  exact = ap (λ (x : ℕ). x * 2 ^ low f) (zero-mul (up e)) ∙ zero-mul (2 ^ low f) ∙ sym (zero-mul (down e));
  size_is = ap (λ (x : ℕ). x / down e) (ap (λ (x : ℕ). x * 2 ^ low f) (zero-mul (up e)) ∙ zero-mul (2 ^ low f)) ∙ zero-div (down e);
}
short f (fin s (suc m) e) h t =
    let A = eqb (suc m % 2) 1 in
    let B = ltb (suc m) (2 ^ prec f) in
    let C = leb (down e) (2 ^ low f) in
    let D = ltb (suc m * up e) (2 ^ suc (emax f) * down e) in
    short_fin f s (suc m) e
    (ltb→lt (suc m) (2 ^ prec f) (and_r A B (and_l (A && B) C (and_l (A && B && C) D h))))
    (leb→le (down e) (2 ^ low f) (and_r (A && B) C (and_l (A && B && C) D h)))
    (ltb→lt (suc m * up e) (2 ^ suc (emax f) * down e) (and_r (A && B && C) D h))

-- the number of units is the value
signed : (f : Format) (x : Float) → T (finite x) → (u : ℕ) → num x * 2 ^ low f ≡ u * den x → HasValue x (sign_of x) u (2 ^ low f)
signed f nan t u e = absurd t
signed f (inf s) t u e = absurd t
signed f (fin s m d) t u e = (refl, e)

pub in_units_exact : (f : Format) (x : Float) → T (fits f x) → T (finite x) → HasValue x (sign_of x) (in_units f x) (2 ^ low f)
in_units_exact f x h t = let s = short f x h t in subst (λ (u : ℕ). HasValue x (sign_of x) u (2 ^ low f)) (sym s.size_is) (signed f x t (s.m * 2 ^ s.j) s.exact)
