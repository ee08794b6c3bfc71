-- Laws of the definitions in specs/Resolve.
use Rattle.std.proofs.Common.{◌≡◌, ℕ, suc, ◌+◌, ◌-◌, ◌<◌, ◌≤◌, Bool, true, false, cond, List, get_or, ◌∙◌, sym, arith}
use mathlib.Core.Path.{refl, subst}
use native.Mathlib.Decide.{dec_lt}
use Prim.Native.Nat.{zero}
use lib.Ieee.{Float, nan}
use Rattle.std.specs.Prelude.{Option, Some, None, MatchOption}
use Rattle.std.specs.Option.{unwrap_or}
use Rattle.fsk.specs.Resolve.{past_of, first_past_of}

-- `find` over the numbers below n gives the definition's first candidate past the threshold
module _ (up : Bool) (thr : Float) (cs : List Float) (other : ℕ) where
  abbrev pub Past : Bool → ℕ → Type 0
  Past b k = past_of up (get_or cs k nan) thr ≡ b

  none_past : (n j : ℕ) → ((k : ℕ) → j ≤ k → k < j + n → Past false k) → first_past_of up thr cs other n j ≡ other
  unfolding first_past_of
  none_past zero j h = refl
  none_past (suc n) j h = let e : past_of up (get_or cs j nan) thr ≡ false = h j (omega arith) (omega arith) in rw e (none_past n (j + 1) (λ k l u. h k (omega arith) (omega arith)))

  some_past : (n j i : ℕ) → j ≤ i → i < j + n → Past true i → ((k : ℕ) → j ≤ k → k < i → Past false k) → first_past_of up thr cs other n j ≡ i
  unfolding first_past_of
  some_past zero j i l u t h = absurd (omega (arith, l, u))
  some_past (suc n) j i l u t h = go (dec_lt j i) (λ d. some_past n (j + 1) i (omega (arith, d)) (omega (arith, u)) t (λ k a b. h k (omega (arith, a)) b))
    where
      go : Dec (j < i) → (j < i → first_past_of up thr cs other n (j + 1) ≡ i) → first_past_of up thr cs other (suc n) j ≡ i
      go (yes d) on = let e : past_of up (get_or cs j nan) thr ≡ false = h j (omega arith) d in rw e (on d)
      go (no d) on = let q : i ≡ j = omega (arith, d, l) in let e : past_of up (get_or cs j nan) thr ≡ true = subst (Past true) q t in rw e (sym q)

  pub found_first : (n : ℕ) (r : Option ℕ) → MatchOption r ((k : ℕ) → 0 ≤ k → k < n → Past false k) (λ i. (0 ≤ i) × (i < n) × Past true i × ((k : ℕ) → 0 ≤ k → k < i → Past false k)) → unwrap_or r other ≡ first_past_of up thr cs other n 0
  found_first n None h = sym (none_past n 0 (λ k l u. h k l (omega (arith, u))))
  found_first n (Some i) h = sym (some_past n 0 i h.0 (omega (arith, h.1)) h.2 h.3)
