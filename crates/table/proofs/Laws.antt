-- The entry of i is the one number that the rule allows.
use mathlib.Core.Path.{◌≡◌, refl, sym, subst}
use mathlib.Core.Bool.{Bool, true, false, not, ◌&&◌, cond}
use Prim.Native.Nat.{ℕ, zero, suc, ◌+◌, ◌*◌, ◌≤◌, ◌<◌}
use native.Mathlib.Nat.{le_trans, le_antisymm, le_of_suc-le-suc, lt_of_not-le, not-le_of_lt, mul-le-mul}
use native.Mathlib.Numerals.{add-one}
use native.Mathlib.Omega.{arith}
use lib.Dec.{T, leb, ltb, leb→le, ltb→lt, nleb→lt, le→leb, lt→ltb}
use Rattle.table.specs.Rule.{IsLargest, Rule, first_of, largest, rule_of, entry_of}

-- ---- the largest whole number whose square is at most n

-- a number with a square at most n is at most one whose next has a square above n
pub root_le : (n r s : ℕ) → r * r ≤ n → n < (s + 1) * (s + 1) → r ≤ s
root_le n r s a b =
    le_of_suc-le-suc (lt_of_not-le (λ (g : suc s ≤ r).
    let g' : s + 1 ≤ r = omega arith in
    not-le_of_lt b (le_trans (mul-le-mul g' g') a)))

-- so there is one such number
pub root_unique : (n r s : ℕ) → IsLargest n r → IsLargest n s → r ≡ s
root_unique n r s a b = le_antisymm (root_le n r s a.0 b.1) (root_le n s r b.0 a.1)

-- and `largest` finds it
largest_is : (k n : ℕ) → n < (k + 1) * (k + 1) → IsLargest n (largest k n)
unfolding largest
largest_is zero n h = (omega arith, h)
largest_is (suc k) n h = go (leb (suc k * suc k) n) (leb→le (suc k * suc k) n) (nleb→lt (suc k * suc k) n) (largest_is k n)
  where
    go : (b : Bool) → (T b → suc k * suc k ≤ n) → (T (not b) → n < suc k * suc k) → (n < (k + 1) * (k + 1) → IsLargest n (largest k n)) → IsLargest n (first_of b (suc k) (largest k n))
    go true y z r = (y tt, h)
    go false y z r = r (subst (λ (x : ℕ). n < x * x) (sym (add-one k)) (z tt))

-- ---- the table

-- the rule's own number
pub rule_is : (i : ℕ) → i < 1024 → Rule i (rule_of i)
rule_is i h = largest_is 255 (64 * i) (omega arith)

-- The rule holds at every entry.
pub entry_is : (i : ℕ) → 256 ≤ i → i < 1024 → Rule i (entry_of i)
unfolding entry_of
entry_is i a b = go (leb 256 i) (ltb i 1024) (le→leb 256 i a) (lt→ltb i 1024 b)
  where
    go : (x y : Bool) → T x → T y → Rule i (cond (x && y) (rule_of i) 0)
    go true true s t = rule_is i b
    go true false s t = absurd t
    go false y s t = absurd s

-- It allows no other number.
pub entry_unique : (i r : ℕ) → 256 ≤ i → i < 1024 → Rule i r → r ≡ entry_of i
entry_unique i r a b h = root_unique (64 * i) r (entry_of i) h (entry_is i a b)

-- Elsewhere there is 0.
pub entry_none : (i : ℕ) → (256 ≤ i → i < 1024 → ⊥) → entry_of i ≡ 0
unfolding entry_of
entry_none i h = go (leb 256 i) (ltb i 1024) (leb→le 256 i) (ltb→lt i 1024)
  where
    go : (x y : Bool) → (T x → 256 ≤ i) → (T y → i < 1024) → cond (x && y) (rule_of i) 0 ≡ 0
    go true true s t = absurd (h (s tt) (t tt))
    go true false s t = refl
    go false y s t = refl
