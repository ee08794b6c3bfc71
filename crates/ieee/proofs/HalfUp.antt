-- `half_up`, the whole number nearest to a fraction, a tie up; and `round_of` by it: from any fraction that its operand equals, it gives exactly that whole number.
use Rattle.std.proofs.Common.{◌≡◌, ℕ, zero, suc, ◌+◌, ◌-◌, ◌*◌, ◌^◌, ◌<◌, ◌≤◌, Bool, T, ◌⊎◌, sym, ap, ◌∙◌, subst, inl, inr, ⊎_elim, le_trans, le_of_eq, lt_of_lt_of_le, le_of_lt, lt_irrefl, mul-le-mul_right, mod-lt, mul_assoc, suc-mul, mul_comm, div-lt_iff_lt-mul, add-mul, eq-or-lt_of_le, div-add-mod', zero-mul, mul-one, mul_left_comm, arith, pow_pos, pow_mono, pow-add, shl_lt}
use lib.Ieee.{Float, nan, inf, fin, binary64, up, down, fits, round}
use lib.Ieee.Fits.{down_pos, round-fits}
use lib.Ieee.Back.{round_whole, whole_unique}
use lib.Ieee.Exact.{HasValue, round_exact}
use lib.Ieee.Nearest.{div_same}
use lib.Ieee.Scale.{finite}
use Rattle.ieee.specs.Units.{in_units, sign_of, apart}
use Rattle.ieee.specs.Rounding.{half_up, round_of}
use Rattle.ieee.proofs.Values.{by_order, rescale}
use Rattle.ieee.proofs.Short.{short, in_units_exact}

-- ---- equal fractions
pub half_up_same : (a b c d : ℕ) → 0 < b → 0 < d → a * d ≡ c * b → half_up a b ≡ half_up c d
half_up_same a b c d B D e = div_same (2 * a + b) (2 * b) (2 * c + d) (2 * d) (twice b B) (twice d D) cross
  where
    twice : (x : ℕ) → 0 < x → 0 < 2 * x
    twice x h = omega arith

    l : (2 * a + b) * (2 * d) ≡ 4 * (a * d) + 2 * (b * d)
    l = add-mul (2 * a) b (2 * d) ∙ ap (λ (x : ℕ). x + b * (2 * d)) (mul_assoc 2 a (2 * d) ∙ ap (λ (x : ℕ). 2 * x) (mul_left_comm a 2 d)) ∙ ap (λ (x : ℕ). 2 * (2 * (a * d)) + x) (mul_left_comm b 2 d) ∙ omega arith

    r : (2 * c + d) * (2 * b) ≡ 4 * (c * b) + 2 * (d * b)
    r = add-mul (2 * c) d (2 * b) ∙ ap (λ (x : ℕ). x + d * (2 * b)) (mul_assoc 2 c (2 * b) ∙ ap (λ (x : ℕ). 2 * x) (mul_left_comm c 2 b)) ∙ ap (λ (x : ℕ). 2 * (2 * (c * b)) + x) (mul_left_comm d 2 b) ∙ omega arith

    cross : (2 * a + b) * (2 * d) ≡ (2 * c + d) * (2 * b)
    cross = l ∙ ap (λ (x : ℕ). 4 * x + 2 * (b * d)) e ∙ ap (λ (x : ℕ). 4 * (c * b) + 2 * x) (mul_comm b d) ∙ sym r

-- ---- `half_up a c` among the multiples of c
module _ (a c : ℕ) (C : 0 < c) where
  abbrev n : ℕ
  n = half_up a c

  two_c : 0 < 2 * c
  two_c = omega arith

  low_side : 2 * (n * c) ≤ 2 * a + c
  low_side =
      let e = div-add-mod' (2 * a + c) (2 * c) in
      let l : n * (2 * c) ≡ 2 * (n * c) = mul_left_comm n 2 c in
      omega arith

  high_side : 2 * a < 2 * (n * c) + c
  high_side =
      let e = div-add-mod' (2 * a + c) (2 * c) in
      let r = mod-lt (2 * a + c) two_c in
      let l : n * (2 * c) ≡ 2 * (n * c) = mul_left_comm n 2 c in
      omega arith

  up_one : (j k : ℕ) → j < k → j * c + c ≤ k * c
  up_one j k h = le_trans (le_of_eq (sym (suc-mul j c))) (mul-le-mul_right c h)

  -- a whole number k is n, or a whole step or more to one side of it
  place : (k : ℕ) → ((k * c + c ≤ n * c) × (k < n)) ⊎ ((k ≡ n) ⊎ (n * c + c ≤ k * c))
  place k =
      by_order k n
      (λ l. ⊎_elim (λ (e : k ≡ n). inr (inl e)) (λ (h : k < n). inl (up_one k n h, h)) (eq-or-lt_of_le l))
      (λ g. inr (inr (up_one n k g)))

  pub half_near : (k : ℕ) → apart a (n * c) ≤ apart a (k * c)
  half_near k =
      let l = low_side in
      let h = high_side in
      ⊎_elim (λ (q : (k * c + c ≤ n * c) × (k < n)). let g = q.0 in omega arith)
      (λ (q : (k ≡ n) ⊎ (n * c + c ≤ k * c)).
      ⊎_elim (λ (e : k ≡ n). le_of_eq (ap (λ (x : ℕ). apart a (x * c)) (sym e))) (λ (g : n * c + c ≤ k * c). omega arith) q)
      (place k)

  pub half_away : (k : ℕ) → apart a (n * c) ≡ apart a (k * c) → k ≤ n
  half_away k e =
      let l = low_side in
      let h = high_side in
      ⊎_elim (λ (q : (k * c + c ≤ n * c) × (k < n)). le_of_lt q.1)
      (λ (q : (k ≡ n) ⊎ (n * c + c ≤ k * c)).
      ⊎_elim (λ (i : k ≡ n). le_of_eq i) (λ (g : n * c + c ≤ k * c). absurd (far l h g)) q)
      (place k)
    where
      far : 2 * (n * c) ≤ 2 * a + c → 2 * a < 2 * (n * c) + c → n * c + c ≤ k * c → ⊥
      far l h g = omega arith

  -- no farther than zero
  pub half_zero : apart a (n * c) ≤ a
  half_zero = let g : apart a (n * c) ≤ apart a (0 * c) = half_near 0 in let z : 0 * c ≡ 0 = zero-mul c in omega arith

  pub half_cross : (k : ℕ) → apart a (n * c) ≡ a + k * c → k ≤ n
  half_cross zero e = omega arith
  half_cross (suc k) e = let z = half_zero in let s : suc k * c ≡ k * c + c = suc-mul k c in absurd (no z s)
    where
      no : apart a (n * c) ≤ a → suc k * c ≡ k * c + c → ⊥
      no z s = omega arith

  -- a whole number of times c
  pub half_own : (k : ℕ) → a ≡ k * c → n ≡ k
  half_own k e =
      let l = low_side in
      let h = high_side in
      ⊎_elim (λ (q : (k * c + c ≤ n * c) × (k < n)). absurd (over l q.0))
      (λ (q : (k ≡ n) ⊎ (n * c + c ≤ k * c)).
      ⊎_elim (λ (i : k ≡ n). sym i) (λ (g : n * c + c ≤ k * c). absurd (under h g)) q)
      (place k)
    where
      over : 2 * (n * c) ≤ 2 * a + c → k * c + c ≤ n * c → ⊥
      over l g = omega arith

      under : 2 * a < 2 * (n * c) + c → n * c + c ≤ k * c → ⊥
      under h g = omega arith

-- ---- `round_of`
pub round_of_at : (x : Float) (s : Bool) (a c : ℕ) → 0 < c → HasValue x s a c → round_of x ≡ round binary64 s (half_up a c) 1
unfolding round_of
round_of_at nan s a c C v = absurd v
round_of_at (inf t) s a c C v = absurd v
round_of_at (fin t m e) s a c C v =
    ap (λ (b : Bool). round binary64 b (half_up (m * up e) (down e)) 1) v.0 ∙ ap (λ (n : ℕ). round binary64 s n 1) (half_up_same (m * up e) (down e) a c (down_pos e) C v.1)

-- an f64 holds the whole number

-- the whole number has no more digits than the f64
small : (a c : ℕ) → 0 < c → 2 * a < 2 ^ 53 * c → half_up a c ≤ 2 ^ 53
small a c C h = le_of_lt ((div-lt_iff_lt-mul (twice c C)).1 (more a c C h))
  where
    twice : (c : ℕ) → 0 < c → 0 < 2 * c
    twice c C = omega arith

    more : (a c : ℕ) → 0 < c → 2 * a < 2 ^ 53 * c → 2 * a + c < 2 ^ 53 * (2 * c)
    more a c C h = omega arith

over : (m j : ℕ) → 1074 ≤ j → m * 2 ^ j ≡ m * 2 ^ (j - 1074) * 2 ^ 1074
over m j h = ap (λ (x : ℕ). m * 2 ^ x) (back j h) ∙ ap (λ (x : ℕ). m * x) (pow-add 2 (j - 1074) 1074) ∙ sym (mul_assoc m (2 ^ (j - 1074)) (2 ^ 1074))
  where
    back : (j : ℕ) → 1074 ≤ j → j ≡ j - 1074 + 1074
    back j h = omega arith

whole_value : (s : Bool) (m j : ℕ) → m < 2 ^ 53 → m * 2 ^ j < 2 ^ 2098 → HasValue (round binary64 s (half_up (m * 2 ^ j) (2 ^ 1074)) 1) s (half_up (m * 2 ^ j) (2 ^ 1074)) 1
whole_value s m j M W = by_order 1074 j large fraction
  where
    a : ℕ
    a = m * 2 ^ j

    large : 1074 ≤ j → HasValue (round binary64 s (half_up a (2 ^ 1074)) 1) s (half_up a (2 ^ 1074)) 1
    large h =
        let e : half_up a (2 ^ 1074) ≡ m * 2 ^ (j - 1074) = half_own a (2 ^ 1074) (pow_pos 1074) (m * 2 ^ (j - 1074)) (over m j h) in
        subst (λ (n : ℕ). HasValue (round binary64 s n 1) s n 1) (sym e)
        (round_exact binary64 s (m * 2 ^ (j - 1074)) 1 m j (pow_pos 0) M W (sym (over m j h) ∙ sym (mul-one a)))

    fraction : j < 1074 → HasValue (round binary64 s (half_up a (2 ^ 1074)) 1) s (half_up a (2 ^ 1074)) 1
    fraction h = round_whole binary64 s (half_up a (2 ^ 1074)) (small a (2 ^ 1074) (pow_pos 1074) (lt_of_lt_of_le (twice a (2 ^ (53 + j)) (shl_lt 53 j M)) room))
      where
        twice : (a p : ℕ) → a < p → 2 * a < 2 * p
        twice a p h = omega arith

        room : 2 * 2 ^ (53 + j) ≤ 2 ^ 53 * 2 ^ 1074
        room = le_trans (le_of_eq (sym (pow-add 2 1 (53 + j)))) (le_trans (pow_mono (fit j h)) (le_of_eq (pow-add 2 53 1074)))
          where
            fit : (j : ℕ) → j < 1074 → 1 + (53 + j) ≤ 53 + 1074
            fit j h = omega arith

-- the result of a finite f64
pub round_of_value : (x : Float) → T (fits binary64 x) → T (finite x) → HasValue (round_of x) (sign_of x) (half_up (in_units binary64 x) (2 ^ 1074)) 1
round_of_value x f t =
    let h = short binary64 x f t in
    let s = sign_of x in
    subst (λ (y : Float). HasValue y s (half_up (in_units binary64 x) (2 ^ 1074)) 1) (sym (round_of_at x s (in_units binary64 x) (2 ^ 1074) (pow_pos 1074) (in_units_exact binary64 x f t)))
    (subst (λ (u : ℕ). HasValue (round binary64 s (half_up u (2 ^ 1074)) 1) s (half_up u (2 ^ 1074)) 1) (sym h.size_is) (whole_value s h.m h.j h.small h.within))

pub round_of_fits : (x : Float) → T (fits binary64 x) → T (finite x) → T (fits binary64 (round_of x))
round_of_fits x f t =
    let u = in_units binary64 x in
    subst (λ (y : Float). T (fits binary64 y)) (sym (round_of_at x (sign_of x) u (2 ^ 1074) (pow_pos 1074) (in_units_exact binary64 x f t))) (round-fits binary64 (sign_of x) (half_up u (2 ^ 1074)) 1)

-- a whole number is its own
pub round_of_own : (x : Float) → T (fits binary64 x) → T (finite x) → (k : ℕ) → in_units binary64 x ≡ k * 2 ^ 1074 → round_of x ≡ x
round_of_own x f t k q =
    let s = sign_of x in
    let u = in_units binary64 x in
    whole_unique binary64 (round_of x) x s k (round_of_fits x f t) f
    (subst (λ (z : ℕ). HasValue (round_of x) s z 1) (half_own u (2 ^ 1074) (pow_pos 1074) k q) (round_of_value x f t))
    (rescale x s u (2 ^ 1074) k 1 (pow_pos 1074) (mul-one u ∙ q) (in_units_exact binary64 x f t))

-- with 2 ^ 52 or more there is no fraction left
pub round_of_large : (x : Float) → T (fits binary64 x) → T (finite x) → 2 ^ 52 * 2 ^ 1074 ≤ in_units binary64 x → round_of x ≡ x
round_of_large x f t h =
    let a = short binary64 x f t in
    by_order 1074 a.j
    (λ l. round_of_own x f t (a.m * 2 ^ (a.j - 1074)) (a.size_is ∙ over a.m a.j l))
    (λ g.
    absurd
    (lt_irrefl (in_units binary64 x)
    (lt_of_lt_of_le (subst (λ (u : ℕ). u < 2 ^ (53 + a.j)) (sym a.size_is) (shl_lt 53 a.j a.small))
    (le_trans (pow_mono (short_of a.j g)) (le_trans (le_of_eq (pow-add 2 52 1074)) h)))))
  where
    short_of : (j : ℕ) → j < 1074 → 53 + j ≤ 52 + 1074
    short_of j h = omega arith
