-- The rule tested at every entry of a list is the rule at the entry of each number: one law, by induction over the list.
use mathlib.Core.Path.{◌≡◌, sym, ◌∙◌, subst}
use mathlib.Core.Bool.{Bool, true, false, ◌&&◌}
use mathlib.Core.Logic.{◌⊎◌, inl, inr}
use mathlib.Core.List.{List, [], ◌∷◌}
use Prim.Native.Nat.{ℕ, zero, suc, ◌+◌, ◌-◌, ◌*◌, ◌≤◌, ◌<◌}
use native.Mathlib.Nat.{not-suc-le-zero, le_of_suc-le-suc}
use native.Mathlib.Omega.{arith}
use lib.Dec.{T, leb, ltb, leb→le, ltb→lt}
use lib.ListN.{length}
use Rattle.std.specs.Prelude.{slice_index_or}
use Rattle.table.specs.Rule.{Rule, entry_of, is_ruled, all_ruled}
use Rattle.table.proofs.Laws.{entry_unique, entry_none}

both_left : (a b : Bool) → T (a && b) → T a
both_left true b t = tt
both_left false b t = absurd t

both_right : (a b : Bool) → T (a && b) → T b
both_right true b t = t
both_right false b t = absurd t

-- the test at one entry
ruled : (i r : ℕ) → T (is_ruled i r) → Rule i r
ruled i r t = (
  leb→le (r * r) (64 * i) (both_left (leb (r * r) (64 * i)) (ltb (64 * i) ((r + 1) * (r + 1))) t),
  ltb→lt (64 * i) ((r + 1) * (r + 1)) (both_right (leb (r * r) (64 * i)) (ltb (64 * i) ((r + 1) * (r + 1))) t),
)

lifted : (rs : List ℕ) (i k d : ℕ) → T (all_ruled i rs) → k < length rs → Rule (i + k) (slice_index_or rs k d)
unfolding all_ruled
lifted [] i k d t h = absurd (not-suc-le-zero h)
lifted (r ∷ rs) i zero d t h = subst (λ (x : ℕ). Rule x r) (omega arith) (ruled i r (both_left (is_ruled i r) (all_ruled (suc i) rs) t))
lifted (r ∷ rs) i (suc k) d t h =
    subst (λ (x : ℕ). Rule x (slice_index_or rs k d)) (omega arith)
    (lifted rs (suc i) k d (both_right (is_ruled i r) (all_ruled (suc i) rs) t) (le_of_suc-le-suc h))

pub entry_at : (rs : List ℕ) (i d : ℕ) {n : ℕ} → n ≡ slice_index_or rs (i - 256) d → T (all_ruled 256 rs) → length rs ≡ 768 → 256 ≤ i → i < 1024 → n ≡ entry_of i
entry_at rs i d {n} e t l a b =
    let k : i - 256 < length rs = omega arith in
    let o : 256 + (i - 256) ≡ i = omega arith in
    let h : Rule i (slice_index_or rs (i - 256) d) = subst (λ (x : ℕ). Rule x (slice_index_or rs (i - 256) d)) o (lifted rs 256 (i - 256) d t k) in
    e ∙ entry_unique i (slice_index_or rs (i - 256) d) a b h

pub entry_outside : (i : ℕ) → (i < 256) ⊎ ((256 ≤ i) × (1024 ≤ i)) → 0 ≡ entry_of i
entry_outside i (inl h) = sym (entry_none i (λ a b. omega arith))
entry_outside i (inr h) = sym (entry_none i (λ a b. omega (arith, h.1)))
