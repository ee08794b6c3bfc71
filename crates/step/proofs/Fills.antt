-- A loop that fills an array of n places with the elements of a list t, place by place: a turn, and its end.
use Prim.Native.Nat.{ℕ, ◌+◌, ◌<◌, ◌≤◌}
use mathlib.Core.Path.{◌≡◌, refl, ap, sym, ◌∙◌}
use mathlib.Core.List.{List, [], ◌∷◌, ◌++◌}
use native.Mathlib.Omega.{arith}
use native.Mathlib.Numerals.{add-one}
use lib.ListN.{length, take, get_or, set, length-set}
use lib.Seq.{take-suc, take-suc-set, take_all}

-- the invariant: the first i places are those of t
pub record Filled {A : Type 0} (n : ℕ) (t r : List A) (i : ℕ) : Type 0 where
  pub same : take i r ≡ take i t
  pub long : length r ≡ n
  pub all : length t ≡ n
  pub within : i ≤ n

pub fill_start : {A : Type 0} {n : ℕ} {t r : List A} → length r ≡ n → length t ≡ n → Filled n t r 0
fill_start h k = record { same = refl; long = h; all = k; within = omega arith }

module _ {A : Type 0} {n : ℕ} {t r : List A} {i : ℕ} (g : Filled n t r i) where
  pub fill_turn : (d : A) {v : A} → i < n → v ≡ get_or t i d → Filled n t (set r i v) (i + 1)
  fill_turn d {v} h e =
      record {
        same =
            rw (add-one i, take-suc-set r i v (omega (arith, h, g.long)), take-suc t i d (omega (arith, h, g.all)))
            (ap (λ (x : List A). x ++ (v ∷ [])) g.same ∙ ap (λ (x : A). take i t ++ (x ∷ [])) e);
        long = simp length-set g.long;
        all = g.all;
        within = omega arith;
      }

  pub fill_end : n ≤ i → r ≡ t
  fill_end h = sym (take_all i r (omega (arith, h, g.long))) ∙ g.same ∙ take_all i t (omega (arith, h, g.all))
