-- What the functions of the square root need of one another, from the files beside this one.
use mathlib.Core.Path.{◌≡◌, refl, sym, ap, ◌∙◌, subst}
use mathlib.Core.Bool.{false, true, not}
use Prim.Native.Nat.{ℕ, suc, ◌+◌, ◌-◌, ◌*◌, ◌/◌, ◌%◌, ◌^◌, ◌≤◌, ◌<◌}
use native.Mathlib.Nat.{le_trans, le_of_eq, lt_of_not-le, lt_of_lt_of_le, not-le_of_lt, mod-eq_of_lt, mul-pos, mul_assoc, mul-lt-mul_of_pos_right, zero-lt-suc, zero-add, one-mul, pow-suc, le-div_iff_mul-le, div-lt_iff_lt-mul}
use native.Mathlib.Omega.{arith}
use lib.Dec.{T, ltb}
use lib.Pow.{pow-add, pow_pos, pow_mono}
use lib.Count.{count_leading_zeros, leading_top}
use lib.Ieee.{Float, nan, inf, fin, binary32, size, fits, is_nan, of_fields, of_bits, to_bits}
use lib.Ieee.Digits.{size-lt, size-le, size_reaches}
use lib.Ieee.Exact.{HasValue}
use lib.Ieee.Positive.{num, den, positive, positive-finite, value_pos, first_pos}
use Rattle.root.specs.declared.Exact.{Exact}
use Rattle.root.specs.Root.{IsRoot, whole_root, brought, power, exact_of, scaled}
use Rattle.ieee.specs.Units.{in_units}
use Rattle.ieee.proofs.Values.{size_gt, bits_of_value}
use Rattle.ieee.proofs.Short.{short}
use Rattle.root.proofs.RootWhole.{whole_root_is}
use Rattle.table.proofs.Laws.{root_unique}
use Rattle.root.proofs.RootBrought as B
use Rattle.root.proofs.RootDigits.{r_lo, r_hi}
use Rattle.ieee.proofs.Fields.{plus_fields, value_zero, value_finite}
use Rattle.root.proofs.RootValue.{twice, scaled_is}

-- ---- the number that an operand is brought to

pub record Ready (v : ℕ) : Type 0 where
  pub lo : 2 ^ 48 ≤ brought v
  pub hi : brought v + 2 ^ 26 ≤ 2 ^ 50
  pub even : brought v % 2 ≡ 0
  pub exact : brought v * 4 ^ power v ≡ v * 4 ^ 25

-- the place of the highest digit
top_place : (a j : ℕ) → 2 ^ j ≤ a → a < 2 ^ 24 → j < 24
top_place a j l h = lt_of_not-le (λ (g : 24 ≤ j). not-le_of_lt h (le_trans (pow_mono g) l))

module _ (a k : ℕ) (p : 0 < a) (h : a < 2 ^ 24) where
  in_word : a < 2 ^ 32
  in_word = omega arith

  top : (j : ℕ) × (count_leading_zeros 32 a + suc j ≡ 32) × (2 ^ j ≤ a) × (a < 2 ^ suc j)
  top = leading_top 32 a p in_word

  below24 : top.0 < 24
  below24 = top_place a top.0 top.2 h

  pub ready : Ready (a * 2 ^ k)
  ready =
      let j = top.0 in
      let e = B.brought_is a j k top.2 top.3 below24 in
      record {
        lo = subst (λ (x : ℕ). 2 ^ 48 ≤ x) (sym e) (B.brought_lo a j k top.2 top.3 below24);
        hi = subst (λ (x : ℕ). x + 2 ^ 26 ≤ 2 ^ 50) (sym e) (B.brought_hi a j k top.2 top.3 below24);
        even = subst (λ (x : ℕ). x % 2 ≡ 0) (sym e) (B.brought_even a j k top.2 top.3 below24);
        exact = B.brought_exact a j k top.2 top.3 below24;
      }

  -- as the code has them
  abbrev pub code_power : ℕ
  code_power = (32 - count_leading_zeros 32 a + k + 1) / 2

  abbrev pub code_brought : ℕ
  code_brought = (a * 2 ^ (50 + k - (code_power + code_power))) % 2 ^ 64

  same_power : code_power ≡ (top.0 + k + 2) / 2
  same_power =
      let e = top.1 in
      omega arith

  pub code_power_is : code_power ≡ power (a * 2 ^ k)
  code_power_is = same_power ∙ sym (B.power_is a top.0 k top.2 top.3 below24)

  pub code_brought_is : code_brought ≡ brought (a * 2 ^ k)
  code_brought_is =
      let j = top.0 in
      let e = B.brought_is a j k top.2 top.3 below24 in
      let r = ready.hi in
      let f : a * 2 ^ (50 + k - (code_power + code_power)) ≡ brought (a * 2 ^ k) = ap (λ (x : ℕ). a * 2 ^ (50 + k - (x + x))) same_power ∙ sym e in
      let l : brought (a * 2 ^ k) < 2 ^ 64 = omega arith in
      ap (λ (x : ℕ). x % 2 ^ 64) f ∙ mod-eq_of_lt l

-- ---- the exact root

abbrev make : ℕ → ℕ → ℕ → Exact
make r n p = record { root = r; more = ltb (r * r) n; power = p }

exact_of_is : (v : ℕ) → exact_of v ≡ make (whole_root 25 (brought v)) (brought v) (power v)
unfolding exact_of
exact_of_is v = refl

pub in_25 : (v : ℕ) → Ready v → brought v < 4 ^ 25
in_25 v d = let h = d.hi in omega arith

pub exact_is : (v r n p : ℕ) → Ready v → n ≡ brought v → p ≡ power v → IsRoot n r → make r n p ≡ exact_of v
exact_is v r n p d e f i =
    let w : r ≡ whole_root 25 (brought v) = root_unique (brought v) r (whole_root 25 (brought v)) (subst (λ (x : ℕ). IsRoot x r) e i) (whole_root_is 25 (brought v) (in_25 v d)) in
    ap (λ (x : ℕ). make r x p) e ∙ ap (λ (x : ℕ). make r (brought v) x) f ∙ ap (λ (x : ℕ). make x (brought v) (power v)) w ∙ sym (exact_of_is v)

pub root_range : (v : ℕ) → Ready v → (2 ^ 24 ≤ (exact_of v).root) × ((exact_of v).root < 2 ^ 25 - 1)
unfolding exact_of
root_range v d =
    let i = whole_root_is 25 (brought v) (in_25 v d) in
    (r_lo (brought v) d.lo d.hi d.even (whole_root 25 (brought v)) i, r_hi (brought v) d.lo d.hi d.even (whole_root 25 (brought v)) i)

pub power_of : (v : ℕ) → (exact_of v).power ≡ power v
unfolding exact_of
power_of v = refl

-- ---- a finite number above zero: m * 2 ^ j of an f32's smallest value, and so m * 2 ^ (j + 1) of 4 ^ -75

pub record Operand (x : Float) : Type 0 where
  pub m : ℕ
  pub j : ℕ
  pub some : 0 < m
  pub short : m < 2 ^ 24
  pub within : m * 2 ^ j < 2 ^ 277
  pub value : HasValue x false (m * 2 ^ j) (2 ^ 149)
  pub in_units_lem : in_units binary32 x ≡ m * 2 ^ j
  pub quarters : scaled x ≡ m * 2 ^ suc j

signed : (x : Float) → T (positive x) → (u : ℕ) → num x * 2 ^ 149 ≡ u * den x → HasValue x false u (2 ^ 149)
signed nan t u e = absurd t
signed (inf s) t u e = absurd t
signed (fin true m d) t u e = absurd t
signed (fin false m d) t u e = (refl, e)

pub operand : (x : Float) → T (fits binary32 x) → T (positive x) → Operand x
operand x f t =
    let s = short binary32 x f (positive-finite x t) in
    let u = s.m * 2 ^ s.j in
    let h = signed x t u s.exact in
    record {
      m = s.m;
      j = s.j;
      some = first_pos s.m (2 ^ s.j) (value_pos x u (2 ^ 149) t (pow_pos 149) h);
      short = s.small;
      within = s.within;
      value = h;
      in_units_lem = s.size_is;
      quarters = scaled_is x false u h ∙ twice s.m s.j;
    }

-- the power of 4 stays small
pub power_most : (m j : ℕ) → m * 2 ^ j < 2 ^ 277 → power (m * 2 ^ suc j) ≤ 139
power_most m j h =
    half (size (m * 2 ^ suc j)) (size-le (m * 2 ^ suc j) 278 (subst (λ (x : ℕ). x < 2 ^ 278) (twice m j) (mul-lt-mul_of_pos_right h (zero-lt-suc 1))))
  where
    half : (s : ℕ) → s ≤ 278 → (s + 1) / 2 ≤ 139
    half s h = omega arith

-- what the third step asks of the second's result
pub exact_range : (x : Float) → T (fits binary32 x) → T (positive x) → (e : Exact) → e ≡ exact_of (scaled x) → (2 ^ 24 ≤ e.root) × (e.root < 2 ^ 25) × (e.power ≤ 200)
exact_range x f t e i =
    let o = operand x f t in
    let v = o.m * 2 ^ suc o.j in
    let s = root_range v (ready o.m (suc o.j) o.some o.short) in
    let q = subst (λ (p : ℕ). p ≤ 139) (sym (power_of v)) (power_most o.m o.j o.within) in
    subst (λ (y : Exact). (2 ^ 24 ≤ y.root) × (y.root < 2 ^ 25) × (y.power ≤ 200)) (sym (i ∙ ap exact_of o.quarters)) (s.0, omega arith, omega arith)

-- ---- its pattern

pub positive_plain : (x : Float) → T (positive x) → T (not (is_nan x))
unfolding is_nan
positive_plain nan t = absurd t
positive_plain (inf s) t = tt
positive_plain (fin s m e) t = tt

-- by the digits n of the number: the exponent's field counts those beyond 24
pattern_range : (n : ℕ) → 0 < n → n < 2 ^ 277 → (0 < (size n - 24) * 8388608 + n / 2 ^ (size n - 24)) × ((size n - 24) * 8388608 + n / 2 ^ (size n - 24) < 2139095040)
pattern_range n p h =
    let z = size n in
    let d = z - 24 in
    let some : 0 < z = size_gt n 0 p in
    let low : 1 * 2 ^ d ≤ n = le_trans (le_of_eq (one-mul (2 ^ d))) (size_reaches n d (less z some)) in
    let high : n < 2 ^ 24 * 2 ^ d = lt_of_lt_of_le (size-lt n) (le_trans (pow_mono (over z)) (le_of_eq (pow-add 2 24 d))) in
    ends d (n / 2 ^ d) (most z (size-le n 277 h)) ((le-div_iff_mul-le (pow_pos d)).1 low) ((div-lt_iff_lt-mul (pow_pos d)).1 high)
  where
    less : (z : ℕ) → 0 < z → z - 24 < z
    less z h = omega arith

    over : (z : ℕ) → z ≤ 24 + (z - 24)
    over z = omega arith

    most : (z : ℕ) → z ≤ 277 → z - 24 ≤ 253
    most z h = omega arith

    ends : (d q : ℕ) → d ≤ 253 → 1 ≤ q → q < 2 ^ 24 → (0 < d * 8388608 + q) × (d * 8388608 + q < 2139095040)
    ends d q a b c = (omega arith, omega arith)

pub positive_bits : (x : Float) → T (fits binary32 x) → T (positive x) → (0 < to_bits binary32 x) × (to_bits binary32 x < 2139095040)
positive_bits x f t =
    let o = operand x f t in
    let n = o.m * 2 ^ o.j in
    subst (λ (b : ℕ). (0 < b) × (b < 2139095040)) (sym (bits_of_value binary32 x false n o.value ∙ ap (λ (y : ℕ). y + n / 2 ^ (size n - 24)) (zero-add ((size n - 24) * 8388608))))
    (pattern_range n (mul-pos o.some (pow_pos o.j)) o.within)

-- ---- a pattern read: the number a * 2 ^ k of 4 ^ -75

pub record Reading (b a k : ℕ) : Type 0 where
  pub u : ℕ
  pub value : HasValue (of_bits binary32 b) false u (2 ^ 149)
  pub twice : u * 2 ≡ a * 2 ^ k
  pub some : 0 < a
  pub short : a < 2 ^ 24
  pub small : k < 255

-- by the fields of the pattern
by_fields : (b u : ℕ) → b < 2139095040 → HasValue (of_fields binary32 false (b / 8388608) (b % 8388608)) false u (2 ^ 149) → HasValue (of_bits binary32 b) false u (2 ^ 149)
by_fields b u h v = subst (λ (x : Float). HasValue x false u (2 ^ 149)) (sym (plus_fields binary32 b (omega arith))) v

pub read_low : (b : ℕ) → 0 < b → b / 8388608 ≡ 0 → Reading b (b % 8388608) 1
read_low b p e = record {
  u = b % 8388608;
  value = by_fields b (b % 8388608) (omega arith) (subst (λ (x : ℕ). HasValue (of_fields binary32 false x (b % 8388608)) false (b % 8388608) (2 ^ 149)) (sym e) (value_zero binary32 false (b % 8388608)));
  twice = refl;
  some = omega arith;
  short = omega arith;
  small = omega arith;
}

pub read_high : (b : ℕ) → (b / 8388608 ≡ 0 → ⊥) → b < 2139095040 → Reading b (b % 8388608 + 8388608) (b / 8388608)
read_high b n h =
    let l : 0 < b / 8388608 = omega arith in
    let f : b / 8388608 ≡ suc (b / 8388608 - 1) = omega arith in
    let g : 8388608 + b % 8388608 ≡ b % 8388608 + 8388608 = omega arith in
    record {
      u = (8388608 + b % 8388608) * 2 ^ (b / 8388608 - 1);
      value = by_fields b ((8388608 + b % 8388608) * 2 ^ (b / 8388608 - 1)) h (value_finite binary32 false (b / 8388608) (b % 8388608) l (omega arith));
      twice = mul_assoc (8388608 + b % 8388608) (2 ^ (b / 8388608 - 1)) 2 ∙ ap (λ (x : ℕ). (8388608 + b % 8388608) * x) (sym (pow-suc 2 (b / 8388608 - 1)) ∙ ap (λ (x : ℕ). 2 ^ x) (sym f)) ∙ ap (λ (x : ℕ). x * 2 ^ (b / 8388608)) g;
      some = omega arith;
      short = omega arith;
      small = omega arith;
    }

pub read_scaled : {b a k : ℕ} → Reading b a k → scaled (of_bits binary32 b) ≡ a * 2 ^ k
read_scaled {b} {a} {k} r = scaled_is (of_bits binary32 b) false r.u r.value ∙ r.twice
