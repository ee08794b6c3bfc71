-- What `find` over a range from its end says: nothing after the number found passes the test. And the last rise by it.
use Prim.Native.Nat.{ℕ, zero, suc, ◌+◌, ◌-◌, ◌≤◌, ◌<◌}
use mathlib.Core.List.{List, [], ◌∷◌}
use mathlib.Core.Path.{◌≡◌, refl, sym, ap, ◌∙◌, subst}
use native.Mathlib.Omega.{arith}
use native.Mathlib.Decide.{dec_lt}
use lib.ListN.{length, get_or}
use denote.Ref.{Bor}
use denote.Param.Members.{Mut}
use Rattle.std.specs.Prelude.{Bool, false, Option, Some, None, MatchOption}
use Rattle.std.specs.Option.{unwrap_or}
use Rattle.std.specs.declared.iter.Rev.{Rev}
use Rattle.std.specs.declared.ops.Range.{Range}
use Rattle.std.specs.Fn.{CalledAt}
use Rattle.std.specs.Iterator.{YieldsThen}
use Rattle.std.specs.Iterator.Adapters.{rev_source, rev_steps}
use Rattle.std.specs.List.{FoldsTo}
use Rattle.fit.specs.Slots.{last_rise_below, last_rise}
use Rattle.fit.proofs.Passes.{last_here, last_lower, last_none}

-- the `next_back_gives` of a range of numbers
abbrev pub steps_back : Range ℕ → Option ℕ → Range ℕ → Type 0
steps_back s r t = (t.start ≡ s.start) × MatchOption r ((s.end - s.start ≡ 0) × (t.end ≡ s.end)) (λ x. (0 < s.end - s.start) × (x ≡ t.end) × (s.end ≡ t.end + 1))

module _ (No : ℕ → Type 0) where
  abbrev pub After : ℕ → ℕ → Option ℕ → Type 0
  After a b r = MatchOption r ((k : ℕ) → a ≤ k → k < b → No k) (λ i. (a ≤ i) × (i < b) × ((k : ℕ) → i < k → k < b → No k))

  one_less : (a b x : ℕ) (r : Option ℕ) → b ≡ x + 1 → No x → After a x r → After a b r
  one_less a b x None e n h = λ k l u. go k (dec_lt k x) l u
    where
      go : (k : ℕ) → Dec (k < x) → a ≤ k → k < b → No k
      go k (yes d) l u = h k l d
      go k (no d) l u = subst No {x = x} {y = k} (omega (arith, d)) n
  one_less a b x (Some i) e n h = (h.0, omega (arith, h.1), λ k l u. go k (dec_lt k x) l u)
    where
      go : (k : ℕ) → Dec (k < x) → i < k → k < b → No k
      go k (yes d) l u = h.2 k l d
      go k (no d) l u = subst No {x = x} {y = k} (omega (arith, d)) n

  stop : (s u : Range ℕ) (r : Option ℕ) → steps_back s r u → After s.start s.end r
  stop s u None y = λ k l h. absurd (omega (arith, y.1.0))
  stop s u (Some i) y = (omega (arith, y.1), omega (arith, y.1), λ k l h. absurd (omega (arith, y.1)))

  pub last_from : {F : Type 0} {g : Mut F (Bor ℕ × Unit {0}) Bool} (xs : List ℕ) (s u : Rev (Range ℕ)) (f j : F) (r : Option ℕ) → YieldsThen (rev_steps steps_back) s xs r u
      → FoldsTo (λ p x q. CalledAt g p x false q) f xs j → ((x : ℕ) (q : F) → CalledAt g f x false q → (q ≡ f) × No x) → After (rev_source s).start (rev_source s).end r
  last_from [] s u f j r (t, e, y) c pass = subst (λ (t : Rev (Range ℕ)). After (rev_source t).start (rev_source t).end r) (sym e) (stop (rev_source t) (rev_source u) r y)
  last_from {F} {g} (x ∷ xs) s u f j r (t, (m, st, ys), e) (q, here, c) pass =
      let n : (q ≡ f) × No x = pass x q here in
      let h : After (rev_source m).start (rev_source m).end r = last_from {F = F} {g = g} xs m u f j r (t, ys, e) (subst (λ p. FoldsTo (λ p x q. CalledAt g p x false q) p xs j) n.0 c) pass in
      let low : After (rev_source s).start (rev_source m).end r = subst (λ (a : ℕ). After a (rev_source m).end r) st.0 h in
      one_less _ _ x r (st.1.2 ∙ ap (λ (k : ℕ). k + 1) (sym st.1.1)) n.1 (subst (λ (b : ℕ). After (rev_source s).start b r) (sym st.1.1) low)

-- ---- the last rise
module _ (slots : List ℕ) where
  abbrev pub Flat : ℕ → Type 0
  Flat k = get_or slots k 0 ≤ get_or slots (k - 1) 0

  at_rise : (n i : ℕ) → 0 < i → i < n → get_or slots (i - 1) 0 < get_or slots i 0 → ((k : ℕ) → i < k → k < n → Flat k) → i ≡ last_rise_below slots n
  at_rise zero i p h l up = absurd (omega arith)
  at_rise (suc m) i p h l up = go (dec_lt i m) (λ d. at_rise m i p d l (λ k a b. up k a (omega arith)))
    where
      go : Dec (i < m) → (i < m → i ≡ last_rise_below slots m) → i ≡ last_rise_below slots (suc m)
      go (yes d) before = before d ∙ last_lower slots (suc m) m (m - 1) (omega arith) refl (omega arith) (up m d (omega arith))
      go (no d) before = last_here slots (suc m) i (i - 1) (omega (arith, d)) refl (omega arith) l

  no_rise : (n : ℕ) → ((k : ℕ) → 1 ≤ k → k < n → Flat k) → 0 ≡ last_rise_below slots n
  no_rise zero up = last_none slots 0 (omega arith)
  no_rise (suc m) up = go (dec_lt 0 m) (no_rise m (λ k a b. up k a (omega arith)))
    where
      go : Dec (0 < m) → 0 ≡ last_rise_below slots m → 0 ≡ last_rise_below slots (suc m)
      go (yes d) before = before ∙ last_lower slots (suc m) m (m - 1) (omega arith) refl (omega arith) (up m d (omega arith))
      go (no d) before = last_none slots (suc m) (omega (arith, d))

  pub found_last : (r : Option ℕ) (v : ℕ) → v ≡ unwrap_or r 0 → After Flat 1 (length slots) r → (0 < v → get_or slots (v - 1) 0 < get_or slots v 0) → v ≡ last_rise slots
  unfolding last_rise
  found_last None v e h t = e ∙ no_rise (length slots) h
  found_last (Some i) v e h t = e ∙ at_rise (length slots) i (omega arith) (h.1) (subst (λ (k : ℕ). get_or slots (k - 1) 0 < get_or slots k 0) e (t (omega arith))) h.2
