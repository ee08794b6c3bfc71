-- One edge more is one slot more: the width from the last edge and its boundary on. And what stands at the head of a buffer while slots are written after it.
use mathlib.Core.Path.{◌≡◌, refl, sym, ap, ◌∙◌}
use mathlib.Core.List.{List, [], ◌∷◌, ◌++◌, append_assoc}
use Prim.Native.Nat.{ℕ, suc, ◌<◌}
use native.Mathlib.Omega.{arith}
use lib.ListN.{length, length-append, set}
use lib.Ieee.{Float}
use Rattle.arith.specs.declared.Carried.{Carried}
use Rattle.arith.specs.Carry.{width_by}
use Rattle.slots.specs.Slots.{slots_from}

-- ---- one edge more
-- the boundary and the edge that the next width starts from
unfoldable pub bound_from : ℕ → Float → ℕ → Float → List Float → ℕ
bound_from carry origin before a [] = before
bound_from carry origin before a (b ∷ es) = bound_from carry origin (width_by carry origin before a b).bound b es

unfoldable pub last_or : Float → List Float → Float
last_or a [] = a
last_or a (b ∷ es) = last_or b es

pub last_snoc : (a : Float) (es : List Float) (e : Float) → last_or a (es ++ (e ∷ [])) ≡ e
unfolding last_or
last_snoc a [] e = refl
last_snoc a (b ∷ es) e = last_snoc b es e

module _ (carry : ℕ) (origin : Float) where
  -- what the next edge e gives
  abbrev pub next_of : ℕ → Float → List Float → Float → Carried
  next_of before a es e = width_by carry origin (bound_from carry origin before a es) (last_or a es) e

  pub bound_snoc : (before : ℕ) (a : Float) (es : List Float) (e : Float) → bound_from carry origin before a (es ++ (e ∷ [])) ≡ (next_of before a es e).bound
  unfolding bound_from last_or
  bound_snoc before a [] e = refl
  bound_snoc before a (b ∷ es) e = bound_snoc (width_by carry origin before a b).bound b es e

  pub slots_append : (before : ℕ) (a : Float) (es fs : List Float)
      → slots_from carry origin before a (es ++ fs) ≡ slots_from carry origin before a es ++ slots_from carry origin (bound_from carry origin before a es) (last_or a es) fs
  unfolding slots_from bound_from last_or
  slots_append before a [] fs = refl
  slots_append before a (b ∷ es) fs = ap {B = List ℕ} (λ l. (width_by carry origin before a b).width.0 ∷ l) (slots_append (width_by carry origin before a b).bound b es fs)

  pub slots_snoc : (before : ℕ) (a : Float) (es : List Float) (e : Float) → slots_from carry origin before a (es ++ (e ∷ [])) ≡ slots_from carry origin before a es ++ ((next_of before a es e).width.0 ∷ [])
  unfolding slots_from
  slots_snoc before a es e = slots_append before a es (e ∷ [])

  pub slots_length : (before : ℕ) (a : Float) (es : List Float) → length (slots_from carry origin before a es) ≡ length es
  unfolding slots_from
  slots_length before a [] = refl
  slots_length before a (b ∷ es) = ap suc (slots_length (width_by carry origin before a b).bound b es)

-- ---- slots at the head of a buffer
pub record Heads (xs ook : List ℕ) : Type 0 where
  pub rest : List ℕ
  pub split : ook ≡ xs ++ rest

set_past : (xs ys : List ℕ) (v : ℕ) → set (xs ++ ys) (length xs) v ≡ xs ++ set ys 0 v
set_past [] ys v = refl
set_past (x ∷ xs) ys v = ap {B = List ℕ} (λ l. x ∷ l) (set_past xs ys v)

-- the slot after them is written: they stay
pub heads_stay : (xs ook : List ℕ) (v : ℕ) → Heads xs ook → Heads xs (set ook (length xs) v)
heads_stay xs ook v H = record { rest = set H.rest 0 v; split = ap (λ (l : List ℕ). set l (length xs) v) H.split ∙ set_past xs H.rest v }

-- and it is one more of them, where the buffer has it
pub heads_more : (xs ook : List ℕ) (v : ℕ) → length xs < length ook → Heads xs ook → Heads (xs ++ (v ∷ [])) (set ook (length xs) v)
heads_more xs ook v l H = go H.rest H.split
  where
    go : (ys : List ℕ) → ook ≡ xs ++ ys → Heads (xs ++ (v ∷ [])) (set ook (length xs) v)
    go [] q = absurd (omega (arith, ap length q, length-append xs []))
    go (y ∷ ys) q = record { rest = ys; split = ap (λ (l : List ℕ). set l (length xs) v) q ∙ set_past xs (y ∷ ys) v ∙ sym (append_assoc xs (v ∷ []) ys) }

pub heads_less : (xs ys ook : List ℕ) → Heads (xs ++ ys) ook → Heads xs ook
heads_less xs ys ook H = record { rest = ys ++ H.rest; split = H.split ∙ append_assoc xs ys H.rest }
