-- `narrow_of` gives the f32 nearest to a finite f64, a tie to the even one, and an infinity from half way past the largest on (`nearest_single`).
use Rattle.std.proofs.Common.{◌≡◌, ℕ, zero, suc, ◌+◌, ◌-◌, ◌*◌, ◌%◌, ◌^◌, ◌<◌, ◌≤◌, Bool, true, false, cond, T, ◌⊎◌, sym, refl, ap, ◌∙◌, subst, inl, inr, ⊎_elim, le_trans, mul-le-mul_right, zero-lt-suc, mul_assoc, le_antisymm, lt_of_not-le, mul-one, le_of_mul-le-mul_right, arith, pow_pos}
use native.Mathlib.Nat.{eq_of_mul-eq-mul_right}
use lib.Ieee.{Float, nan, inf, fin, binary32, binary64, fits, neg, le, round, units, to_bits}
use lib.Ieee.Fits.{round_is, round-fits}
use lib.Ieee.Exact.{HasValue, units_val}
use lib.Ieee.Order.{drop, kept, round_mono}
use lib.Ieee.Scale.{finite, grid}
use Rattle.ieee.specs.Units.{in_units, sign_of, apart, distance}
use Rattle.ieee.specs.Rounding.{narrow_of}
use Rattle.ieee.specs.RoundingNearest.{NearestSingle, limit32, to_number}
use Rattle.ieee.proofs.Distance.{distance_same, by_sign, apart_scale}
use Rattle.ieee.proofs.Short.{short, in_units_lem, in_units_exact}
use Rattle.ieee.proofs.Near.{Rival, round_near, round_tie, kept_most, kept_least}
use Rattle.ieee.proofs.Pack.{units_fit, units_over, bits_of_units}
use Rattle.ieee.proofs.Fields.{narrow_of_at}
use Rattle.ieee.proofs.Integral.{neg_round}
use Rattle.ieee.proofs.Values.{by_order, rescale, value_is_finite, value_unique}

sign_of_value : (x : Float) (s : Bool) (a c : ℕ) → HasValue x s a c → sign_of x ≡ s
sign_of_value nan s a c v = absurd v
sign_of_value (inf t) s a c v = absurd v
sign_of_value (fin t m e) s a c v = v.0

-- g units of binary32 are g * 2 ^ 925 of binary64
in_64 : (x : Float) (s : Bool) (g : ℕ) → HasValue x s g (2 ^ 149) → in_units binary64 x ≡ g * 2 ^ 925
in_64 x s g v = in_units_lem binary64 x s (g * 2 ^ 925) (rescale x s g (2 ^ 149) (g * 2 ^ 925) (2 ^ 1074) (pow_pos 149) (sym (mul_assoc g (2 ^ 925) (2 ^ 149))) v)

some : (d w : ℕ) → (0 < d → 2 ^ 23 ≤ w) → (d ≡ 0) ⊎ (2 ^ 23 ≤ w)
some zero w k = inl refl
some (suc d) w k = inr (k (zero-lt-suc d))

even_pattern : (s : Bool) (d w : ℕ) → w % 2 ≡ 0 → (cond s (2 ^ 31) 0 + (d * 2 ^ 23 + w)) % 2 ≡ 0
even_pattern true d w h = omega arith
even_pattern false d w h = omega arith

odd_pattern : (s : Bool) (d w : ℕ) → w % 2 ≡ 1 → (cond s (2 ^ 31) 0 + (d * 2 ^ 23 + w)) % 2 ≡ 1
odd_pattern true d w h = omega arith
odd_pattern false d w h = omega arith

-- t is half the distance of the largest f32 from 2 ^ 128: what is nearer to 2 ^ 128 or more lies t or more past the largest
past : (t u g : ℕ) → u < (2 ^ 25 - 1) * t → 2 ^ 25 * t ≤ g → apart u g ≤ apart u ((2 ^ 25 - 2) * t) → ⊥
past t u g h k l = omega arith

-- ---- u units of binary64 with the sign s, rounded
module _ (s : Bool) (u : ℕ) where
  abbrev y : Float
  y = round binary32 s u (2 ^ 1074)

  abbrev g : ℕ
  g = grid binary32 u (2 ^ 1074)

  abbrev d : ℕ
  d = drop 24 (u * 2 ^ 149) (2 ^ 1074)

  abbrev w : ℕ
  w = kept 24 (u * 2 ^ 149) (2 ^ 1074)

  y_is : y ≡ units binary32 s w d
  y_is = round_is binary32 s u (2 ^ 1074)

  value : g < 2 ^ 277 → HasValue y s g (2 ^ 149)
  value h = subst (λ (z : Float). HasValue z s g (2 ^ 149)) (sym y_is) (units_val binary32 s w d h)

  over : 2 ^ 277 ≤ g → y ≡ inf s
  over h = y_is ∙ units_over binary32 s w d h

  under : T (finite y) → g < 2 ^ 277
  under t = by_order (2 ^ 277) g (λ h. absurd (subst (λ (z : Float). T (finite z)) (over h) t)) (λ l. l)

  sign_is : sign_of y ≡ s
  sign_is = by_order (2 ^ 277) g (λ h. ap sign_of (over h)) (λ l. sign_of_value y s g (2 ^ 149) (value l))

  -- ---- nearness, in units of binary64
  apart_is : (v : ℕ) → apart (u * 2 ^ 149) (v * 2 ^ 1074) ≡ apart u (v * 2 ^ 925) * 2 ^ 149
  apart_is v = ap (apart (u * 2 ^ 149)) (sym (mul_assoc v (2 ^ 925) (2 ^ 149))) ∙ apart_scale (2 ^ 149) u (v * 2 ^ 925)

  near : (q k : ℕ) → q < 2 ^ 24 → apart u (g * 2 ^ 925) ≤ apart u (q * 2 ^ k * 2 ^ 925)
  near q k Q =
      le_of_mul-le-mul_right
      (subst (λ (x : ℕ). x ≤ apart u (q * 2 ^ k * 2 ^ 925) * 2 ^ 149) (apart_is g)
      (subst (λ (x : ℕ). apart (u * 2 ^ 149) (g * 2 ^ 1074) ≤ x) (apart_is (q * 2 ^ k)) (round_near binary32 u (2 ^ 1074) (pow_pos 1074) q k Q)))
      (pow_pos 149)

  near_zero : apart u (g * 2 ^ 925) ≤ u
  near_zero = le_trans (near 0 0 (zero-lt-suc 16777215)) (only u)
    where
      only : (u : ℕ) → apart u 0 ≤ u
      only u = omega arith

  tie : (q k : ℕ) → q < 2 ^ 24 → apart u (g * 2 ^ 925) ≡ apart u (q * 2 ^ k * 2 ^ 925) → (q * 2 ^ k ≡ g) ⊎ Rival 24 d w (q * 2 ^ k)
  tie q k Q e = round_tie binary32 u (2 ^ 1074) (pow_pos 1074) q k Q (apart_is g ∙ ap (λ (x : ℕ). x * 2 ^ 149) e ∙ sym (apart_is (q * 2 ^ k)))

  -- ---- the ends
  in_range : u < limit32 → g < 2 ^ 277
  in_range h = lt_of_not-le (λ (k : 2 ^ 277 ≤ g). past (2 ^ 1177) u (g * 2 ^ 925) h (more g k) (near (2 ^ 24 - 1) 253 (last)))
    where
      last : 2 ^ 24 - 1 < 2 ^ 24
      last = omega arith

      more : (g : ℕ) → 2 ^ 277 ≤ g → 2 ^ 25 * 2 ^ 1177 ≤ g * 2 ^ 925
      more g k = mul-le-mul_right (2 ^ 925) k

  plain : u < limit32 → T (finite y)
  plain h = value_is_finite y s g (2 ^ 149) (value (in_range h))

  -- ---- against a z of q * 2 ^ k units of binary32 with the sign t
  dist_y : T (finite y) → distance s u (sign_of y) (in_units binary64 y) ≡ apart u (g * 2 ^ 925)
  dist_y h =
      ap (λ (r : Bool). distance s u r (in_units binary64 y)) sign_is
      ∙ ap (λ (v : ℕ). distance s u s v) (in_64 y s g (value (under h)))
      ∙ distance_same s u (g * 2 ^ 925)

  none_nearer : (t : Bool) (q k : ℕ) → q < 2 ^ 24 → apart u (g * 2 ^ 925) ≤ distance s u t (q * 2 ^ k * 2 ^ 925)
  none_nearer t q k Q = by_sign (λ (v : ℕ). apart u (g * 2 ^ 925) ≤ v) s t u (q * 2 ^ k * 2 ^ 925) (near q k Q) (le_trans near_zero (first u (q * 2 ^ k * 2 ^ 925)))
    where
      first : (a b : ℕ) → a ≤ a + b
      first a b = omega arith

  tie_even : (t : Bool) (q k : ℕ) → q < 2 ^ 24 → apart u (g * 2 ^ 925) ≡ distance s u t (q * 2 ^ k * 2 ^ 925) → (q * 2 ^ k * 2 ^ 925 ≡ g * 2 ^ 925) ⊎ (w % 2 ≡ 0)
  tie_even t q k Q =
      by_sign (λ (v : ℕ). apart u (g * 2 ^ 925) ≡ v → (z ≡ g * 2 ^ 925) ⊎ (w % 2 ≡ 0)) s t u z
      (λ e. ⊎_elim (λ i. inl (ap (λ (x : ℕ). x * 2 ^ 925) i)) (λ i. inr i.even) (tie q k Q e))
      (λ e.
      let n = near_zero in
      let o : z ≡ 0 = nothing u z (apart u (g * 2 ^ 925)) n e in
      ⊎_elim (λ (i : 0 ≡ g). inl (o ∙ ap (λ (x : ℕ). x * 2 ^ 925) i)) (λ i. inr i.even) (tie 0 0 (zero-lt-suc 16777215) (at_zero u z (apart u (g * 2 ^ 925)) n e)))
    where
      z : ℕ
      z = q * 2 ^ k * 2 ^ 925

      nothing : (u z a : ℕ) → a ≤ u → a ≡ u + z → z ≡ 0
      nothing u z a n e = omega arith

      at_zero : (u z a : ℕ) → a ≤ u → a ≡ u + z → a ≡ apart u 0
      at_zero u z a n e = omega arith

  even_bits : T (finite y) → w % 2 ≡ 0 → to_bits binary32 y % 2 ≡ 0
  even_bits t h =
      ap (λ (x : ℕ). x % 2) (ap (to_bits binary32) y_is ∙ bits_of_units s w d (kept_most binary32 u (2 ^ 1074) (pow_pos 1074)) (some d w (kept_least binary32 u (2 ^ 1074) (pow_pos 1074))) (under t))
      ∙ even_pattern s d w h

  -- a rival's pattern is odd
  odd_bits : (z : Float) (v : ℕ) → T (fits binary32 z) → HasValue z s v (2 ^ 149) → v < 2 ^ 277 → Rival 24 d w v → to_bits binary32 z % 2 ≡ 1
  odd_bits z v f i l r =
      let m : r.h * 2 ^ d < 2 ^ 277 = subst (λ (x : ℕ). x < 2 ^ 277) r.is l in
      let e : z ≡ units binary32 s r.h d =
      value_unique binary32 z (units binary32 s r.h d) s (r.h * 2 ^ d) f (units_fit binary32 s r.h d r.most) (subst (λ (x : ℕ). HasValue z s x (2 ^ 149)) r.is i) (units_val binary32 s r.h d m) in
      ap (λ (x : ℕ). x % 2) (ap (to_bits binary32) e ∙ bits_of_units s r.h d r.most (some d r.h r.least) m) ∙ odd_pattern s d r.h r.odd

  -- what is as near as y and has an even pattern where y is another is y
  one_only : (z : Float) → T (fits binary32 z) → T (finite z) → sign_of z ≡ s → T (finite y) → apart u (g * 2 ^ 925) ≡ apart u (in_units binary64 z) → (in_units binary64 y ≡ in_units binary64 z) ⊎ (to_bits binary32 z % 2 ≡ 0) → z ≡ y
  one_only z f t n h e o =
      let a = short binary32 z f t in
      let q = a.m * 2 ^ a.j in
      let v : HasValue z s q (2 ^ 149) = subst (λ (x : ℕ). HasValue z s x (2 ^ 149)) a.size_is (subst (λ (b : Bool). HasValue z b (in_units binary32 z) (2 ^ 149)) n (in_units_exact binary32 z f t)) in
      let i : in_units binary64 z ≡ q * 2 ^ 925 = in_64 z s q v in
      let same : q ≡ g → z ≡ y = λ j. value_unique binary32 z y s g f (round-fits binary32 s u (2 ^ 1074)) (subst (λ (x : ℕ). HasValue z s x (2 ^ 149)) j v) (value (under h)) in
      ⊎_elim same
      (λ r. ⊎_elim
      (λ j. same (eq_of_mul-eq-mul_right (2 ^ 925) (pow_pos 925) q g (sym i ∙ sym j ∙ in_64 y s g (value (under h)))))
      (λ j. absurd (never (to_bits binary32 z) (odd_bits z q f v a.within r) j))
      o)
      (tie a.m a.j a.small (e ∙ ap (apart u) i))
    where
      never : (b : ℕ) → b % 2 ≡ 1 → b % 2 ≡ 0 → ⊥
      never b x y = omega arith

-- ---- the limit and above
top_le : (z : Float) → T (le (inf false) z) → z ≡ inf false
unfolding le
top_le nan t = absurd t
top_le (inf true) t = absurd t
top_le (inf false) t = refl
top_le (fin s m e) t = absurd t

at_limit : round binary32 false (2 ^ 128 - 2 ^ 103) 1 ≡ inf false
unfolding round
at_limit = refl

past_above : (u : ℕ) → limit32 ≤ u → round binary32 false u (2 ^ 1074) ≡ inf false
past_above u h =
    top_le (round binary32 false u (2 ^ 1074))
    (subst (λ (x : Float). T (le x (round binary32 false u (2 ^ 1074)))) at_limit
    (round_mono binary32 (2 ^ 128 - 2 ^ 103) 1 u (2 ^ 1074) (pow_pos 0) (pow_pos 1074) (subst (λ (x : ℕ). limit32 ≤ x) (sym (mul-one u)) h)))

past_limit : (s : Bool) (u : ℕ) → limit32 ≤ u → round binary32 s u (2 ^ 1074) ≡ inf s
past_limit false u h = past_above u h
past_limit true u h = sym (neg_round binary32 false u (2 ^ 1074)) ∙ ap neg (past_above u h) ∙ (unfold neg in refl)

-- ---- the law, for every finite f64
pub nearest_single : (x : Float) → T (fits binary64 x) → T (finite x) → NearestSingle x (narrow_of x)
nearest_single x f t =
    let s = sign_of x in
    let u = in_units binary64 x in
    let r = round binary32 s u (2 ^ 1074) in
    let e : narrow_of x ≡ r = narrow_of_at x s u (2 ^ 1074) (pow_pos 1074) (in_units_exact binary64 x f t) in
    subst (λ (z : Float). NearestSingle x z) (sym e)
    (record {
      held = round-fits binary32 s u (2 ^ 1074);
      sign = sign_is s u;
      within = plain s u;
      beyond = past_limit s u;
      nearest = λ h z i k.
          let a = short binary32 z i k in
          subst (λ (v : ℕ). v ≤ distance s u (sign_of z) (in_units binary64 z)) (sym (dist_y s u h))
          (subst (λ (v : ℕ). apart u (g s u * 2 ^ 925) ≤ distance s u (sign_of z) v) (sym (units_of z i k)) (none_nearer s u (sign_of z) a.m a.j a.small));
      even = λ h z i k q.
          let a = short binary32 z i k in
          ⊎_elim (λ j. inl (units_of z i k ∙ j ∙ sym (in_64 r s (g s u) (value s u (under s u h))))) (λ j. inr (even_bits s u h j))
          (tie_even s u (sign_of z) a.m a.j a.small (sym (dist_y s u h) ∙ q ∙ ap (λ (v : ℕ). distance s u (sign_of z) v) (units_of z i k)));
    })
  where
    units_of : (z : Float) (i : T (fits binary32 z)) (k : T (finite z)) → in_units binary64 z ≡ (short binary32 z i k).m * 2 ^ (short binary32 z i k).j * 2 ^ 925
    units_of z i k = in_64 z (sign_of z) (in_units binary32 z) (in_units_exact binary32 z i k) ∙ ap (λ (v : ℕ). v * 2 ^ 925) (short binary32 z i k).size_is

-- only one number is such
pub single_unique : (x y : Float) → T (fits binary64 x) → T (finite x) → NearestSingle x y → y ≡ narrow_of x
single_unique x y f t a = by_order limit32 u (λ h. a.beyond h ∙ sym (r.beyond h)) (λ l. in_limit (a.within l) (r.within l))
  where
    u : ℕ
    u = in_units binary64 x

    s : Bool
    s = sign_of x

    r : NearestSingle x (narrow_of x)
    r = nearest_single x f t

    e : narrow_of x ≡ round binary32 s u (2 ^ 1074)
    e = narrow_of_at x s u (2 ^ 1074) (pow_pos 1074) (in_units_exact binary64 x f t)

    in_limit : T (finite y) → T (finite (narrow_of x)) → y ≡ narrow_of x
    in_limit h k =
        let l : to_number x y ≡ to_number x (narrow_of x) = le_antisymm (a.nearest h (narrow_of x) r.held k) (r.nearest k y a.held h) in
        let j : T (finite (round binary32 s u (2 ^ 1074))) = subst (λ (z : Float). T (finite z)) e k in
        let d : to_number x y ≡ apart u (in_units binary64 y) = ap (λ (b : Bool). distance s u b (in_units binary64 y)) a.sign ∙ distance_same s u (in_units binary64 y) in
        one_only s u y a.held h a.sign j (sym (sym d ∙ l ∙ ap (to_number x) e ∙ dist_y s u j))
        (⊎_elim (λ i. inl (ap (in_units binary64) (sym e) ∙ i)) (λ i. inr i) (a.even h (narrow_of x) r.held k l))
        ∙ sym e
