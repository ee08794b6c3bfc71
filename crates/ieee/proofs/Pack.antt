-- The bit pattern of q * 2 ^ k smallest values of binary32: the exponent's field and the digits are k * 2 ^ 23 + q, a carry out of the digits and the overflow to an infinity included.
use Rattle.std.proofs.Common.{◌≡◌, ℕ, suc, ◌+◌, ◌-◌, ◌*◌, ◌/◌, ◌^◌, ◌<◌, ◌≤◌, Bool, true, false, cond, T, ltb, ◌⊎◌, sym, refl, ap, ◌∙◌, subst, inl, inr, ⊎_elim, le_trans, le_of_eq, le_refl, lt_of_lt_of_le, lt_of_le_of_lt, add_assoc, lt_irrefl, mul-le-mul_right, mul_assoc, eq-or-lt_of_le, mul-one, div-one, mul-div_cancel, arith, ltb→lt, pow_pos, pow_mono, pow-add, shl_lt}
use native.Mathlib.Nat.{pow-succ'}
use lib.Pow.{pow-lt}
use lib.Ieee.{inf, Format, binary32, prec, emax, low, size, odd, units, fits, of_bits, to_bits}
use lib.Ieee.Digits.{size-le}
use lib.Ieee.Fits.{odd-fits, inf-fits}
use lib.Ieee.Bits.{of_bits-to_bits}
use lib.Ieee.Exact.{units_val}
use Rattle.ieee.proofs.Values.{by_order, size_is, bits_of_value}

-- the digits that are kept and the field
abbrev word : ℕ → ℕ
word n = (size n - 24) * 2 ^ 23 + n / 2 ^ (size n - 24)

at_drop : (n k : ℕ) → size n - 24 ≡ k → word n ≡ k * 2 ^ 23 + n / 2 ^ k
at_drop n k e = ap (λ (x : ℕ). x * 2 ^ 23 + n / 2 ^ x) e

small : (q : ℕ) → q < 2 ^ 24 → word (q * 2 ^ 0) ≡ 0 * 2 ^ 23 + q
small q h =
    let n = q * 2 ^ 0 in
    let e : n ≡ q = mul-one q in
    let z : size n ≤ 24 = size-le n 24 (subst (λ (x : ℕ). x < 2 ^ 24) (sym e) h) in
    at_drop n 0 (omega arith) ∙ ap (λ (x : ℕ). 0 * 2 ^ 23 + x) (div-one n ∙ e)

normal : (q k : ℕ) → 2 ^ 23 ≤ q → q < 2 ^ 24 → word (q * 2 ^ k) ≡ k * 2 ^ 23 + q
normal q k a b =
    let n = q * 2 ^ k in
    let z : size n ≡ 24 + k =
    size_is n (23 + k) (24 + k) (le_trans (le_of_eq (pow-add 2 23 k)) (mul-le-mul_right (2 ^ k) a)) (shl_lt 24 k b) (omega arith) in
    at_drop n k (omega arith) ∙ ap (λ (x : ℕ). k * 2 ^ 23 + x) (mul-div_cancel q (pow_pos k))

carried : (k : ℕ) → word (2 ^ 24 * 2 ^ k) ≡ k * 2 ^ 23 + 2 ^ 24
carried k =
    let n = 2 ^ 24 * 2 ^ k in
    let z : size n ≡ 25 + k = size_is n (24 + k) (25 + k) (le_of_eq (pow-add 2 24 k)) (shl_lt 25 k lt_lit) (omega arith) in
    let d : n / 2 ^ suc k ≡ 2 ^ 23 = ap (λ (x : ℕ). x / 2 ^ suc k) (mul_assoc (2 ^ 23) 2 (2 ^ k) ∙ ap (λ (x : ℕ). 2 ^ 23 * x) (sym (pow-succ' 2 k))) ∙ mul-div_cancel (2 ^ 23) (pow_pos (suc k)) in
    at_drop n (suc k) (omega arith) ∙ ap (λ (x : ℕ). suc k * 2 ^ 23 + x) d ∙ omega arith
  where
    lt_lit : 2 ^ 24 < 2 ^ 25
    lt_lit = pow-lt (le_refl 25)

word_is : (q k : ℕ) → q ≤ 2 ^ 24 → (k ≡ 0) ⊎ (2 ^ 23 ≤ q) → word (q * 2 ^ k) ≡ k * 2 ^ 23 + q
word_is q k a (inr b) = ⊎_elim (λ (e : q ≡ 2 ^ 24). subst (λ (x : ℕ). word (x * 2 ^ k) ≡ k * 2 ^ 23 + x) (sym e) (carried k)) (λ (l : q < 2 ^ 24). normal q k b l) (eq-or-lt_of_le a)
word_is q k a (inl z) =
    ⊎_elim (λ (e : q ≡ 2 ^ 24). subst (λ (x : ℕ). word (x * 2 ^ k) ≡ k * 2 ^ 23 + x) (sym e) (carried k))
    (λ (l : q < 2 ^ 24). subst (λ (x : ℕ). word (q * 2 ^ x) ≡ x * 2 ^ 23 + q) (sym z) (small q l)) (eq-or-lt_of_le a)

-- ---- `units`
pub units_fit : (f : Format) (s : Bool) (q k : ℕ) → q ≤ 2 ^ prec f → T (fits f (units f s q k))
unfolding units
units_fit f s q k a = go (ltb (q * 2 ^ k) (2 ^ (low f + suc (emax f)))) (ltb→lt (q * 2 ^ k) (2 ^ (low f + suc (emax f))))
  where
    go : (b : Bool) → (T b → q * 2 ^ k < 2 ^ (low f + suc (emax f))) → T (fits f (cond b (odd (suc (prec f)) s q k (low f)) (inf s)))
    go true h = odd-fits f (suc (prec f)) s q k (lt_of_le_of_lt a (pow-lt (le_refl (suc (prec f))))) a (h tt)
    go false h = inf-fits f s

pub units_over : (f : Format) (s : Bool) (q k : ℕ) → 2 ^ (low f + suc (emax f)) ≤ q * 2 ^ k → units f s q k ≡ inf s
unfolding units
units_over f s q k h = go (ltb (q * 2 ^ k) (2 ^ (low f + suc (emax f)))) (ltb→lt (q * 2 ^ k) (2 ^ (low f + suc (emax f))))
  where
    no : q * 2 ^ k < 2 ^ (low f + suc (emax f)) → ⊥
    no l = lt_irrefl (q * 2 ^ k) (lt_of_lt_of_le l h)

    go : (b : Bool) → (T b → q * 2 ^ k < 2 ^ (low f + suc (emax f))) → cond b (odd (suc (prec f)) s q k (low f)) (inf s) ≡ inf s
    go true l = absurd (no (l tt))
    go false l = refl

pub inf_bits : (s : Bool) → of_bits binary32 (cond s (2 ^ 31) 0 + 255 * 2 ^ 23) ≡ inf s
unfolding of_bits
inf_bits true = refl
inf_bits false = refl

pub bits_of_units : (s : Bool) (q k : ℕ) → q ≤ 2 ^ 24 → (k ≡ 0) ⊎ (2 ^ 23 ≤ q) → q * 2 ^ k < 2 ^ 277 → to_bits binary32 (units binary32 s q k) ≡ cond s (2 ^ 31) 0 + (k * 2 ^ 23 + q)
bits_of_units s q k a b l =
    let n = q * 2 ^ k in
    bits_of_value binary32 (units binary32 s q k) s n (units_val binary32 s q k l)
    ∙ add_assoc (cond s (2 ^ 31) 0) ((size n - 24) * 2 ^ 23) (n / 2 ^ (size n - 24))
    ∙ ap (λ (x : ℕ). cond s (2 ^ 31) 0 + x) (word_is q k a b)

pub pack : (s : Bool) (q k : ℕ) → q ≤ 2 ^ 24 → (k ≡ 0) ⊎ (2 ^ 23 ≤ q) → k ≤ 253 → of_bits binary32 (cond s (2 ^ 31) 0 + (k * 2 ^ 23 + q)) ≡ units binary32 s q k
pack s q k a b c = by_order (2 ^ 277) (q * 2 ^ k) over under
  where
    under : q * 2 ^ k < 2 ^ 277 → of_bits binary32 (cond s (2 ^ 31) 0 + (k * 2 ^ 23 + q)) ≡ units binary32 s q k
    under l = ap (of_bits binary32) (sym (bits_of_units s q k a b l)) ∙ of_bits-to_bits binary32 (units binary32 s q k) (units_fit binary32 s q k a)

    -- only 2 ^ 24 * 2 ^ 253 overflows
    no_less : q < 2 ^ 24 → 2 ^ 277 ≤ q * 2 ^ k → ⊥
    no_less l h = let r : 24 + k ≤ 277 = omega arith in lt_irrefl (2 ^ 277) (lt_of_le_of_lt h (lt_of_lt_of_le (shl_lt 24 k l) (pow_mono r)))

    no_lower : q ≡ 2 ^ 24 → k < 253 → 2 ^ 277 ≤ q * 2 ^ k → ⊥
    no_lower e l h =
        let r : 24 + k < 277 = omega arith in
        lt_irrefl (2 ^ 277)
        (lt_of_le_of_lt h (lt_of_le_of_lt (le_of_eq (ap (λ (x : ℕ). x * 2 ^ k) e ∙ sym (pow-add 2 24 k))) (pow-lt r)))

    over : 2 ^ 277 ≤ q * 2 ^ k → of_bits binary32 (cond s (2 ^ 31) 0 + (k * 2 ^ 23 + q)) ≡ units binary32 s q k
    over h =
        ⊎_elim
        (λ (e : q ≡ 2 ^ 24).
        ⊎_elim
        (λ (g : k ≡ 253). ap (λ (x : ℕ). of_bits binary32 (cond s (2 ^ 31) 0 + x)) (omega arith) ∙ inf_bits s ∙ sym (units_over binary32 s q k h))
        (λ (g : k < 253). absurd (no_lower e g h))
        (eq-or-lt_of_le c))
        (λ (l : q < 2 ^ 24). absurd (no_less l h))
        (eq-or-lt_of_le a)
