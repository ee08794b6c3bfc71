-- Laws of the definitions in specs/Cut.
use Rattle.std.proofs.Common.{◌≡◌, ℕ, suc, ◌+◌, ◌-◌, ◌*◌, ◌<◌, ◌≤◌, true, false, cond, List, get_or, ◌∙◌, arith}
use lib.Ieee.{Float, le}
use Rattle.frame_end.specs.declared.Kept.{Kept}
use Rattle.frame_end.specs.Cut.{gap_at_of, keep_next_of, keep_from}

-- one turn of the loop, and its end
module _ (ook : List ℕ) (n total : ℕ) (limit : Float) where
  pub kept_turn : (k : ℕ) (s : Kept) → k < total → keep_from ook n limit (total - k) k s ≡ cond (le limit s.t) s (keep_from ook n limit (total - (k + 1)) (k + 1) (keep_next_of s k (get_or ook (2 * k) 0) (gap_at_of ook n k)))
  unfolding keep_from
  kept_turn k s h = let e : total - k ≡ suc (total - (k + 1)) = omega arith in rw e

  pub kept_over : (k : ℕ) (s : Kept) → k < total → le limit s.t ≡ true → keep_from ook n limit (total - k) k s ≡ s
  kept_over k s h q = kept_turn k s h ∙ rw q

  pub kept_next : (k : ℕ) (s s' : Kept) (pulse gap : ℕ) → k < total → le limit s.t ≡ false → pulse ≡ get_or ook (2 * k) 0 → gap ≡ gap_at_of ook n k → s' ≡ keep_next_of s k pulse gap → keep_from ook n limit (total - k) k s ≡ keep_from ook n limit (total - (k + 1)) (k + 1) s'
  kept_next k s s' pulse gap h q e₁ e₂ e₃ = kept_turn k s h ∙ rw (q, e₃, e₁, e₂)

  pub kept_end : (k : ℕ) (s : Kept) → total ≤ k → keep_from ook n limit (total - k) k s ≡ s
  unfolding keep_from
  kept_end k s h = let e : total - k ≡ 0 = omega arith in rw e
