-- What `round` keeps is nearest: no value of the format, q * 2 ^ k of its smallest values with q of at most its digits, is nearer to the fraction; and at a tie it is even.
-- Counted in smallest values: the fraction a / c is n / c of them, n = a * 2 ^ low, and the result is `grid f a c` of them.
use Rattle.std.proofs.Common.{◌≡◌, ℕ, suc, ◌+◌, ◌-◌, ◌*◌, ◌/◌, ◌%◌, ◌^◌, ◌<◌, ◌≤◌, ◌⊎◌, sym, ap, ◌∙◌, subst, inl, inr, ⊎_elim, le_trans, le_of_eq, lt_of_lt_of_le, le_of_lt, lt_irrefl, mul-le-mul_right, mod-lt, mul_assoc, suc-mul, mul_comm, eq-or-lt_of_le, mul-lt-mul_of_pos_right, mul-pos, div-add-mod', le-div_iff_mul-le, arith, pow_pos, pow_mono, pow-add, shl_lt}
use Prim.Native.Nat.{compare}
use native.Mathlib.Nat.{div-div-eq-div-mul, eq_of_mul-eq-mul_right}
use lib.Ieee.{Format, prec, low, size, nearest}
use lib.Ieee.Digits.{size_reaches}
use lib.Ieee.Fits.{two, two-le_pos, nearest-le, kept-lt}
use lib.Ieee.Nearest.{closest, nearest-ge}
use lib.Ieee.Order.{drop, kept}
use lib.Ieee.Scale.{grid}
use Rattle.ieee.specs.Units.{apart}
use Rattle.ieee.proofs.Values.{by_order, compare_lt, compare_eq, compare_gt}

-- ---- among the multiples of u
-- `closest n u` by the remainder r: the whole part w, or the next, or the even one of the two
Kept : ℕ → ℕ → ℕ → ℕ → Type 0
Kept q w r u = ((q ≡ w) × (r * 2 ≤ u)) ⊎ ((q ≡ suc w) × (u ≤ r * 2))

kept_is : (n u : ℕ) → Kept (closest n u) (n / u) (n % u) u
unfolding Kept
kept_is n u =
    by_order (n % u * 2) u
    (λ h. ⊎_elim at_eq (λ (k : n % u * 2 < u). inl (ap (nearest (n / u)) (compare_lt (n % u * 2) u k), h)) (eq-or-lt_of_le h))
    (λ h. inr (ap (nearest (n / u)) (compare_gt (n % u * 2) u h), le_of_lt h))
  where
    even : (w : ℕ) → (w + w % 2 ≡ w) ⊎ (w + w % 2 ≡ suc w)
    even w = by_order (w % 2) 0 (λ p. inl (omega arith)) (λ p. inr (omega arith))

    at_eq : n % u * 2 ≡ u → ((closest n u ≡ n / u) × (n % u * 2 ≤ u)) ⊎ ((closest n u ≡ suc (n / u)) × (u ≤ n % u * 2))
    at_eq e =
        let o : closest n u ≡ n / u + n / u % 2 = ap (nearest (n / u)) (compare_eq (n % u * 2) u e) in
        ⊎_elim (λ h. inl (o ∙ h, le_of_eq e)) (λ h. inr (o ∙ h, le_of_eq (sym e))) (even (n / u))

-- with p = w * u, the multiples of u are p or less, or p + u or more
far : (n p r u qu hu : ℕ) → p + r ≡ n → r < u → ((qu ≡ p) × (r * 2 ≤ u)) ⊎ ((qu ≡ p + u) × (u ≤ r * 2)) → (hu ≤ p) ⊎ (p + u ≤ hu) → apart n qu ≤ apart n hu
far n p r u qu hu e l (inl q) (inl h) = let a = q.0 in let b = q.1 in omega arith
far n p r u qu hu e l (inl q) (inr h) = let a = q.0 in let b = q.1 in omega arith
far n p r u qu hu e l (inr q) (inl h) = let a = q.0 in let b = q.1 in omega arith
far n p r u qu hu e l (inr q) (inr h) = let a = q.0 in let b = q.1 in omega arith

times : (q w r u : ℕ) → Kept q w r u → ((q * u ≡ w * u) × (r * 2 ≤ u)) ⊎ ((q * u ≡ w * u + u) × (u ≤ r * 2))
unfolding Kept
times q w r u (inl h) = inl (ap (λ (x : ℕ). x * u) h.0, h.1)
times q w r u (inr h) = inr (ap (λ (x : ℕ). x * u) h.0 ∙ suc-mul w u, h.1)

sides : (h w u : ℕ) → (h * u ≤ w * u) ⊎ (w * u + u ≤ h * u)
sides h w u = by_order h w (λ l. inl (mul-le-mul_right u l)) (λ g. inr (le_trans (le_of_eq (sym (suc-mul w u))) (mul-le-mul_right u g)))

pub closest_near : (n u h : ℕ) → 0 < u → apart n (closest n u * u) ≤ apart n (h * u)
closest_near n u h U =
    far n (n / u * u) (n % u) u (closest n u * u) (h * u) (div-add-mod' n u) (mod-lt n U) (times (closest n u) (n / u) (n % u) u (kept_is n u)) (sides h (n / u) u)

-- where another multiple of u is as near, it is a tie
level : (n p r u qu hu : ℕ) → p + r ≡ n → r < u → ((qu ≡ p) × (r * 2 ≤ u)) ⊎ ((qu ≡ p + u) × (u ≤ r * 2)) → (hu ≤ p) ⊎ (p + u ≤ hu) → apart n qu ≡ apart n hu → (hu ≡ qu) ⊎ (r * 2 ≡ u)
level n p r u qu hu e l (inl q) (inl h) s = let a = q.0 in let b = q.1 in inl (omega arith)
level n p r u qu hu e l (inl q) (inr h) s = let a = q.0 in let b = q.1 in inr (omega arith)
level n p r u qu hu e l (inr q) (inl h) s = let a = q.0 in let b = q.1 in inr (omega arith)
level n p r u qu hu e l (inr q) (inr h) s = let a = q.0 in let b = q.1 in inl (omega arith)

pub closest_level : (n u h : ℕ) → 0 < u → apart n (closest n u * u) ≡ apart n (h * u) → (h * u ≡ closest n u * u) ⊎ (n % u * 2 ≡ u)
closest_level n u h U =
    level n (n / u * u) (n % u) u (closest n u * u) (h * u) (div-add-mod' n u) (mod-lt n U) (times (closest n u) (n / u) (n % u) u (kept_is n u)) (sides h (n / u) u)

-- at a tie the even one is kept
pub closest_even : (n u : ℕ) → n % u * 2 ≡ u → closest n u % 2 ≡ 0
closest_even n u e = ap (λ (x : ℕ). x % 2) (ap (nearest (n / u)) (compare_eq (n % u * 2) u e)) ∙ even (n / u)
  where
    even : (w : ℕ) → (w + w % 2) % 2 ≡ 0
    even w = omega arith

-- and the other of the two is odd
at_tie : (n p r u qu hu : ℕ) → p + r ≡ n → r * 2 ≡ u → ((qu ≡ p) × (r * 2 ≤ u)) ⊎ ((qu ≡ p + u) × (u ≤ r * 2)) → (hu ≤ p) ⊎ (p + u ≤ hu) → apart n qu ≡ apart n hu → (hu ≡ p) ⊎ (hu ≡ p + u)
at_tie n p r u qu hu e l (inl q) (inl h) s = let a = q.0 in inl (omega arith)
at_tie n p r u qu hu e l (inl q) (inr h) s = let a = q.0 in inr (omega arith)
at_tie n p r u qu hu e l (inr q) (inl h) s = let a = q.0 in inl (omega arith)
at_tie n p r u qu hu e l (inr q) (inr h) s = let a = q.0 in inr (omega arith)

other_odd : (h w q : ℕ) → (h ≡ w) ⊎ (h ≡ suc w) → q ≡ w + w % 2 → (h ≡ q) ⊎ ((h % 2 ≡ 1) × (w ≤ h) × (h ≤ suc w))
other_odd h w q (inl e) i = by_order (w % 2) 0 (λ p. inl (omega arith)) (λ p. inr (omega arith))
other_odd h w q (inr e) i = by_order (w % 2) 0 (λ p. inr (omega arith)) (λ p. inl (omega arith))

closest_other : (n u h : ℕ) → 0 < u → n % u * 2 ≡ u → apart n (closest n u * u) ≡ apart n (h * u) → (h ≡ closest n u) ⊎ ((h % 2 ≡ 1) × (n / u ≤ h) × (h ≤ suc (n / u)))
closest_other n u h U e s =
    other_odd h (n / u) (closest n u)
    (⊎_elim (λ i. inl (eq_of_mul-eq-mul_right u U h (n / u) i)) (λ i. inr (eq_of_mul-eq-mul_right u U h (suc (n / u)) (i ∙ sym (suc-mul (n / u) u))))
    (at_tie n (n / u * u) (n % u) u (closest n u * u) (h * u) (div-add-mod' n u) e (times (closest n u) (n / u) (n % u) u (kept_is n u)) (sides h (n / u) u) s))
    (ap (nearest (n / u)) (compare_eq (n % u * 2) u e))

-- v smallest values are as near as the w * 2 ^ d that are kept, and others: w is even, and v the odd multiple beside it
pub record Rival (p d w v : ℕ) : Type 0 where
  pub even : w % 2 ≡ 0
  pub h : ℕ
  pub is : v ≡ h * 2 ^ d
  pub odd : h % 2 ≡ 1
  pub most : h ≤ 2 ^ p
  pub least : 0 < d → 2 ^ (p - 1) ≤ h

-- ---- among the format's values: a / c is n / c of the smallest value, and w * 2 ^ d of them are kept
module _ (f : Format) (a c : ℕ) (C : 0 < c) where
  abbrev n : ℕ
  n = a * 2 ^ low f

  abbrev p : ℕ
  p = prec f

  abbrev d : ℕ
  d = drop (prec f) (a * 2 ^ low f) c

  abbrev w : ℕ
  w = kept (prec f) (a * 2 ^ low f) c

  shift : (x y : ℕ) → x * 2 ^ y * c ≡ x * (c * 2 ^ y)
  shift x y = mul_assoc x (2 ^ y) c ∙ ap (λ (z : ℕ). x * z) (mul_comm (2 ^ y) c)

  near : (h : ℕ) → apart n (w * 2 ^ d * c) ≤ apart n (h * (c * 2 ^ d))
  near h = subst (λ (x : ℕ). apart n x ≤ apart n (h * (c * 2 ^ d))) (sym (shift w d)) (closest_near n (c * 2 ^ d) h (mul-pos C (pow_pos d)))

  -- with 2 ^ k for a unit that is no smaller, a multiple of the result's unit
  over_unit : (q k : ℕ) → d ≤ k → q * 2 ^ k ≡ q * 2 ^ (k - d) * 2 ^ d
  over_unit q k l = ap (λ (x : ℕ). q * 2 ^ x) (back l) ∙ ap (λ (x : ℕ). q * x) (pow-add 2 (k - d) d) ∙ sym (mul_assoc q (2 ^ (k - d)) (2 ^ d))
    where
      back : d ≤ k → k ≡ k - d + d
      back l = omega arith

  multiple : (q k : ℕ) → d ≤ k → q * 2 ^ k * c ≡ q * 2 ^ (k - d) * (c * 2 ^ d)
  multiple q k l = ap (λ (x : ℕ). x * c) (over_unit q k l) ∙ shift (q * 2 ^ (k - d)) d

  -- with a smaller one, below the least number of p digits and the result's unit, which is no more than the fraction
  bound : (q k : ℕ) → q < 2 ^ p → k < d → q * 2 ^ k * c < 2 ^ (p - 1) * (c * 2 ^ d)
  bound q k Q l =
      lt_of_lt_of_le (mul-lt-mul_of_pos_right (lt_of_lt_of_le (shl_lt p k Q) (pow_mono (room (two-le_pos p (two f)) l))) C)
      (le_of_eq (ap (λ (x : ℕ). x * c) (pow-add 2 (p - 1) d) ∙ shift (2 ^ (p - 1)) d))
    where
      room : 0 < p → k < d → p + k ≤ p - 1 + d
      room h l = omega arith

  reach : 0 < d → 2 ^ (p - 1) * (c * 2 ^ d) ≤ n
  reach h =
      le_trans (le_of_eq (sym (shift (2 ^ (p - 1)) d) ∙ ap (λ (x : ℕ). x * c) (sym (pow-add 2 (p - 1) d))))
      ((le-div_iff_mul-le C).0 (size_reaches (n / c) (p - 1 + d) (in_use (size (n / c)) p (two-le_pos p (two f)) h)))
    where
      in_use : (z p : ℕ) → 0 < p → 0 < z - p → p - 1 + (z - p) < z
      in_use z p P h = omega arith

  farther : (q k : ℕ) → q < 2 ^ p → k < d → apart n (w * 2 ^ d * c) < apart n (q * 2 ^ k * c)
  farther q k Q l = below (w * 2 ^ d * c) (2 ^ (p - 1) * (c * 2 ^ d)) (q * 2 ^ k * c) n (near (2 ^ (p - 1))) (bound q k Q l) (reach (pos l))
    where
      pos : k < d → 0 < d
      pos h = omega arith

      below : (x y z m : ℕ) → apart m x ≤ apart m y → z < y → y ≤ m → apart m x < apart m z
      below x y z m h k l = omega arith

  pub round_near : (q k : ℕ) → q < 2 ^ p → apart n (grid f a c * c) ≤ apart n (q * 2 ^ k * c)
  round_near q k Q =
      by_order d k
      (λ l. subst (λ (x : ℕ). apart n (w * 2 ^ d * c) ≤ apart n x) (sym (multiple q k l)) (near (q * 2 ^ (k - d))))
      (λ g. le_of_lt (farther q k Q g))

  abbrev u : ℕ
  u = c * 2 ^ d

  U : 0 < u
  U = mul-pos C (pow_pos d)

  -- the whole part has at most p digits, and p where some are dropped
  whole_most : n / u < 2 ^ p
  whole_most = subst (λ (x : ℕ). x < 2 ^ p) (div-div-eq-div-mul n c (2 ^ d)) (kept-lt p (n / c))

  whole_least : 0 < d → 2 ^ (p - 1) ≤ n / u
  whole_least h = (le-div_iff_mul-le U).1 (reach h)

  -- where another is as near
  pub round_tie : (q k : ℕ) → q < 2 ^ p → apart n (grid f a c * c) ≡ apart n (q * 2 ^ k * c) → (q * 2 ^ k ≡ grid f a c) ⊎ Rival p d w (q * 2 ^ k)
  round_tie q k Q e =
      by_order d k tied
      (λ g. absurd (lt_irrefl (apart n (w * 2 ^ d * c)) (subst (λ (x : ℕ). apart n (w * 2 ^ d * c) < x) (sym e) (farther q k Q g))))
    where
      h : ℕ
      h = q * 2 ^ (k - d)

      found : d ≤ k → n % u * 2 ≡ u → (h ≡ w) ⊎ ((h % 2 ≡ 1) × (n / u ≤ h) × (h ≤ suc (n / u))) → (q * 2 ^ k ≡ w * 2 ^ d) ⊎ Rival p d w (q * 2 ^ k)
      found l i (inl s) = inl (over_unit q k l ∙ ap (λ (x : ℕ). x * 2 ^ d) s)
      found l i (inr s) =
          inr
          (record {
            even = closest_even n u i;
            h = h;
            is = over_unit q k l;
            odd = s.0;
            most = le_trans s.2 whole_most;
            least = λ m. le_trans (whole_least m) s.1;
          })

      tied : d ≤ k → (q * 2 ^ k ≡ w * 2 ^ d) ⊎ Rival p d w (q * 2 ^ k)
      tied l =
          let s : apart n (w * u) ≡ apart n (h * u) = ap (apart n) (sym (shift w d)) ∙ e ∙ ap (apart n) (multiple q k l) in
          ⊎_elim (λ i. inl (over_unit q k l ∙ ap (λ (x : ℕ). x * 2 ^ d) (eq_of_mul-eq-mul_right u U h w i))) (λ i. found l i (closest_other n u h U i s)) (closest_level n u h U s)

  pub kept_most : w ≤ 2 ^ p
  kept_most = le_trans (nearest-le (n / u) (compare (n % u * 2) u)) whole_most

  pub kept_least : 0 < d → 2 ^ (p - 1) ≤ w
  kept_least h = le_trans (whole_least h) (nearest-ge (n / u) (compare (n % u * 2) u))
