-- The loop of `try_transitions` over the slots: its start, a turn and its end; `transitions` by it; and what a call of either gives.
use Prim.Native.Nat.{ℕ, zero, suc, ◌+◌, ◌-◌, ◌<◌, ◌≤◌}
use mathlib.Core.Bool.{Bool, true, false, cond}
use mathlib.Core.List.{List, [], ◌∷◌}
use mathlib.Core.Path.{◌≡◌, refl, sym, ap, ◌∙◌, subst}
use native.Mathlib.Omega.{arith}
use native.Mathlib.Numerals.{add-one}
use lib.ListN.{length, drop, get_or, drop_of_length-le}
use lib.Seq.{drop-cons}
use lib.Dec.{ltb}
use borrow.Author.Tests.{lt-ltb, le-ltb}
use lib.Ieee.{Float}
use Rattle.std.specs.List.{FoldsTo}
use Rattle.std.specs.Prelude.{Option, Some, None, option_and_then}
use Rattle.std.specs.Option.{IsSome, IsSomeAnd, unwrap_or}
use Rattle.fit.specs.Slots.{time_of, fix, last_rise_below, also, times, fold, CallableInFold, IsSomeOf, TryFoldsTo}

-- ---- the transitions from the slot i on
module _ (ends : List ℕ) (i before : ℕ) (h : i < length ends) where
  next_slot : times before (drop i ends) ≡ also (ltb before (get_or ends i 0)) (time_of (fix (get_or ends i 0))) (times (get_or ends i 0) (drop (i + 1) ends))
  unfolding times
  next_slot = rw (drop-cons ends i 0 h, add-one i) refl

  next_rise : ltb before (get_or ends i 0) ≡ true → times before (drop i ends) ≡ time_of (fix (get_or ends i 0)) ∷ times (get_or ends i 0) (drop (i + 1) ends)
  next_rise e = next_slot ∙ ap (λ (b : Bool). also b (time_of (fix (get_or ends i 0))) (times (get_or ends i 0) (drop (i + 1) ends))) e

  next_flat : ltb before (get_or ends i 0) ≡ false → times before (drop i ends) ≡ times (get_or ends i 0) (drop (i + 1) ends)
  next_flat e = next_slot ∙ ap (λ (b : Bool). also b (time_of (fix (get_or ends i 0))) (times (get_or ends i 0) (drop (i + 1) ends))) e

-- the invariant, where C says that the calls may be made and E what they give: each call that is left may be made, and what the calls
-- that are left give the whole gives
pub record Left {S R : Type 0} (C : S → List Float → Type 0) (E : S → List Float → R → Type 0) (first : S) (ends : List ℕ) (i before : ℕ) (s : S) : Type 0 where
  pub callable : C s (times before (drop i ends))
  pub same : (r : R) → E s (times before (drop i ends)) r → E first (times 0 ends) r

pub left_start : {S R : Type 0} (C : S → List Float → Type 0) (E : S → List Float → R → Type 0) (first : S) (ends : List ℕ) → C first (times 0 ends) → Left C E first ends 0 0 first
left_start C E first ends h = record { callable = h; same = λ r g. g }

module _ {S R : Type 0} {C : S → List Float → Type 0} {E : S → List Float → R → Type 0} {first : S} {ends : List ℕ} {i before : ℕ} {s : S} (g : Left C E first ends i before s) where
  calls : i < length ends → before < get_or ends i 0 → C s (time_of (fix (get_or ends i 0)) ∷ times (get_or ends i 0) (drop (i + 1) ends))
  calls h l = subst (C s) (next_rise ends i before h (lt-ltb _ _ l)) g.callable

  gives : i < length ends → before < get_or ends i 0 → (r : R) → E s (time_of (fix (get_or ends i 0)) ∷ times (get_or ends i 0) (drop (i + 1) ends)) r → E first (times 0 ends) r
  gives h l r f = g.same r (subst (λ (xs : List Float). E s xs r) (sym (next_rise ends i before h (lt-ltb _ _ l))) f)

  pub left_flat : i < length ends → get_or ends i 0 ≤ before → Left C E first ends (i + 1) (get_or ends i 0) s
  left_flat h l =
      let e : times before (drop i ends) ≡ times (get_or ends i 0) (drop (i + 1) ends) = next_flat ends i before h (le-ltb _ _ l) in
      record { callable = subst (C s) e g.callable; same = λ r f. g.same r (subst (λ (xs : List Float). E s xs r) (sym e) f) }

  pub left_end : (r : R) → length ends ≤ i → E s [] r → E first (times 0 ends) r
  unfolding times
  left_end r h f = g.same r (subst (λ (xs : List ℕ). E s (times before xs) r) (sym (drop_of_length-le ends h)) f)

module _ {S R : Type 0} {pre : S → Float → Type 0} {some : S → Float → S → Type 0} {E : S → List Float → R → Type 0} {first : S} {ends : List ℕ} {i before : ℕ} {s : S} (g : Left (CallableInFold pre some) E first ends i before s) {x : Float} (h : i < length ends) (l : before < get_or ends i 0) (e : x ≡ time_of (fix (get_or ends i 0))) where
  pub left_call : pre s x
  left_call = rw e (calls g h l).0

module _ {S : Type 0} {pre : S → Float → Type 0} {post : S → Float → Option S → Type 0} {first : S} {ends : List ℕ} {i before : ℕ} {s : S} (g : Left (CallableInFold pre (IsSomeOf post)) (TryFoldsTo post) first ends i before s) {x : Float} (h : i < length ends) (l : before < get_or ends i 0) (e : x ≡ time_of (fix (get_or ends i 0))) where
  at_slot : (o : Option S) → post s x o → post s (time_of (fix (get_or ends i 0))) o
  at_slot o p = subst (λ (z : Float). post s z o) e p

  pub left_try : (r : S) → post s x (Some r) → Left (CallableInFold pre (IsSomeOf post)) (TryFoldsTo post) first ends (i + 1) (get_or ends i 0) r
  left_try r p = record { callable = (calls g h l).1 r (at_slot (Some r) p); same = λ last f. gives g h l last (Some r, at_slot (Some r) p, f) }

  pub left_stop : post s x None → TryFoldsTo post first (times 0 ends) None
  left_stop p = gives g h l None (None, at_slot None p, refl)

-- ---- `transitions` by `try_transitions`: what its step gives is never none
pub always_callable : {S : Type 0} {pre pre' : S → Float → Type 0} {post some : S → Float → S → Type 0} → ((s : S) (x : Float) (r : S) → some s x r → post s x r) → ((s : S) (x : Float) → pre s x → pre' s x)
    → (s : S) (xs : List Float) → CallableInFold pre post s xs → CallableInFold pre' some s xs
always_callable same may s [] h = tt
always_callable same may s (x ∷ xs) h = (may s x h.0, λ r p. always_callable same may r xs (h.1 r (same s x r p)))

module _ {S : Type 0} {post' : S → Float → Option S → Type 0} where
  pub always_some : ((s : S) (x : Float) (o : Option S) → post' s x o → IsSome o) → (s : S) (xs : List Float) (o : Option S) → TryFoldsTo post' s xs o → IsSome o
  always_some is s [] o e = subst IsSome (sym e) refl
  always_some is s (x ∷ xs) o (None, p, e) = let z : ◌≡◌ {A = Bool} false true = is s x None p in absurd (mathlib.Core.Bool.true≢false (sym z))
  always_some is s (x ∷ xs) o (Some m, p, e) = always_some is m xs o e

  pub always_folded : {post : S → Float → S → Type 0} → ((s : S) (x : Float) (o : Option S) → post' s x o → IsSomeAnd o (post s x)) → (s : S) (xs : List Float) (o : Option S) → TryFoldsTo post' s xs o
      → (v : S) → o ≡ Some v → FoldsTo post s xs v
  always_folded same s [] o e v d = ap (λ (q : Option S). unwrap_or q s) (sym e ∙ d)
  always_folded same s (x ∷ xs) o (None, p, e) v d = absurd (same s x None p)
  always_folded same s (x ∷ xs) o (Some m, p, e) v d = (m, same s x (Some m) p, always_folded same m xs o e v d)

-- ---- a call of `transitions` or `try_transitions` whose step is a function
pub callable : {S : Type 0} (pre : S → Float → Type 0) (post : S → Float → S → Type 0) → ((s : S) (x : Float) → pre s x) → (s : S) (xs : List Float) → CallableInFold pre post s xs
callable pre post h s [] = tt
callable pre post h s (x ∷ xs) = (h s x, λ r p. callable pre post h r xs)

pub folded : {S : Type 0} (post : S → Float → S → Type 0) (f : S → Float → S) → ((s : S) (x : Float) (r : S) → post s x r → r ≡ f s x)
    → (s : S) (xs : List Float) (r : S) → FoldsTo post s xs r → r ≡ fold f s xs
unfolding fold
folded post f h s [] r e = sym e
folded post f h s (x ∷ xs) r (q, p, e) = folded post f h q xs r e ∙ ap (λ z. fold f z xs) (h s x q p)

module _ {S : Type 0} (f : S → Float → Option S) where
  abbrev on : Option S → Float → Option S
  on o x = option_and_then (λ s. f s x) o

  none_on : (xs : List Float) → fold on None xs ≡ None
  unfolding fold
  none_on [] = refl
  none_on (x ∷ xs) = none_on xs

  pub tried : (post : S → Float → Option S → Type 0) → ((s : S) (x : Float) (r : Option S) → post s x r → r ≡ f s x)
      → (s : S) (xs : List Float) (r : Option S) → TryFoldsTo post s xs r → r ≡ fold on (Some s) xs
  unfolding fold
  tried post h s [] r e = e
  tried post h s (x ∷ xs) r (None, p, e) = e ∙ sym (none_on xs) ∙ ap (λ (o : Option S). fold on o xs) (h s x None p)
  tried post h s (x ∷ xs) r (Some q, p, e) = tried post h q xs r e ∙ ap (λ (o : Option S). fold on o xs) (h s x (Some q) p)

-- ---- the last rise, from the end
module _ (slots : List ℕ) where
  pub last_here : (n i k : ℕ) → i ≡ n - 1 → k ≡ i - 1 → 1 < n → get_or slots k 0 < get_or slots i 0 → i ≡ last_rise_below slots n
  unfolding last_rise_below
  last_here zero i k p q h l = omega arith
  last_here (suc zero) i k p q h l = omega arith
  last_here (suc (suc j)) i k p q h l =
      let u : i ≡ suc j = omega arith in
      let v : k ≡ j = omega arith in
      let e : ltb (get_or slots j 0) (get_or slots (suc j) 0) ≡ true = subst (λ (z : ℕ). ltb (get_or slots j 0) (get_or slots z 0) ≡ true) u (subst (λ (z : ℕ). ltb (get_or slots z 0) (get_or slots i 0) ≡ true) v (lt-ltb _ _ l)) in
      u ∙ sym (rw e refl)

  pub last_lower : (n i k : ℕ) → i ≡ n - 1 → k ≡ i - 1 → 1 < n → get_or slots i 0 ≤ get_or slots k 0 → last_rise_below slots i ≡ last_rise_below slots n
  unfolding last_rise_below
  last_lower zero i k p q h l = omega arith
  last_lower (suc zero) i k p q h l = omega arith
  last_lower (suc (suc j)) i k p q h l =
      let u : i ≡ suc j = omega arith in
      let v : k ≡ j = omega arith in
      let e : ltb (get_or slots j 0) (get_or slots (suc j) 0) ≡ false = subst (λ (z : ℕ). ltb (get_or slots j 0) (get_or slots z 0) ≡ false) u (subst (λ (z : ℕ). ltb (get_or slots z 0) (get_or slots i 0) ≡ false) v (le-ltb _ _ l)) in
      ap (last_rise_below slots) u ∙ sym (rw e refl)

  pub last_none : (n : ℕ) → n ≤ 1 → 0 ≡ last_rise_below slots n
  unfolding last_rise_below
  last_none zero h = refl
  last_none (suc zero) h = go (ltb 0 (get_or slots 0 0))
    where
      go : (b : Bool) → ◌≡◌ {A = ℕ} 0 (cond b 0 0)
      go true = refl
      go false = refl
  last_none (suc (suc j)) h = omega arith
