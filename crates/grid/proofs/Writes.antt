-- A loop that writes a width over each slot: a turn and its end.
use Prim.Native.Nat.{ℕ, suc, ◌+◌, ◌<◌, ◌≤◌}
use mathlib.Core.List.{List, [], ◌∷◌, ◌++◌, append-nil}
use mathlib.Core.Path.{◌≡◌, refl, sym, ◌∙◌}
use native.Mathlib.Omega.{arith}
use native.Mathlib.Numerals.{add-one}
use lib.ListN.{length, take, drop, get_or, set, length-set, drop_of_length-le}
use lib.Seq.{drop-cons, take-suc-set, drop-set-lt, append_snoc, take_all}

-- the invariant, where f s is what is written from the state s on: what was written and what is left to write is the whole
pub record Written {S : Type 0} (f : S → List ℕ → List ℕ) (s₀ : S) (l₀ l : List ℕ) (s : S) (i : ℕ) : Type 0 where
  pub same : take i l ++ f s (drop i l) ≡ f s₀ l₀
  pub long : length l ≡ length l₀

module _ {S : Type 0} {f : S → List ℕ → List ℕ} {s₀ s : S} {l₀ l : List ℕ} {i : ℕ} (g : Written f s₀ l₀ l s i) where
  -- next is the state after a slot, out the width between two states
  pub write_turn : (next : S → ℕ → S) (out : S → S → ℕ) → ((v : ℕ) (vs : List ℕ) → f s (v ∷ vs) ≡ out s (next s v) ∷ f (next s v) vs)
      → {w : ℕ} {r : S} → i < length l₀ → r ≡ next s (get_or l i 0) → w ≡ out s r → Written f s₀ l₀ (set l i w) r (i + 1)
  write_turn next out step {w} {r} less er ew =
      let h : i < length l = rw g.long less in
      let k : i < i + 1 = omega arith in
      let turn : take i l ++ f s (drop i l) ≡ take i l ++ w ∷ f r (drop (suc i) l) = rw (drop-cons l i 0 h, step (get_or l i 0) (drop (suc i) l), ← er, ← ew) in
      record {
        same = rw (drop-set-lt (i + 1) l i w k, add-one i, take-suc-set l i w h) (append_snoc (take i l) w (f r (drop (suc i) l)) ∙ sym turn ∙ g.same);
        long = simp length-set g.long;
      }

  pub write_end : f s [] ≡ [] → length l₀ ≤ i → l ≡ f s₀ l₀
  write_end stop least =
      let h : length l ≤ i = rw g.long least in
      sym (rw (drop_of_length-le l h, stop, take_all i l h) (append-nil l)) ∙ g.same
