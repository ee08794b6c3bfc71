-- What the moves of the buffer leave in it.
use Rattle.std.proofs.Common.{ℕ, ◌+◌, ◌-◌, ◌≤◌, ◌≡◌, List, length, take, drop, ap, sym, ◌∙◌, arith, length-drop}
use Rattle.std.specs.List.{copy_within}
use Rattle.std.proofs.lemmas.List.{drop-take}
use Rattle.std.proofs.lemmas.List.Edits.{take-paste}

module _ (l : List ℕ) (from end : ℕ) (low : from ≤ end) (high : end ≤ length l) where
  -- the part from `from` on, moved to the front
  pub moved : take (end - from) (copy_within l from end 0) ≡ drop from (take end l)
  moved =
      let e : from + (end - from) ≡ end = omega (arith, low) in
      let zero : 0 + (end - from) ≡ end - from = omega arith in
      ap (λ (n : ℕ). take n (copy_within l from end 0)) (sym zero)
      ∙ take-paste l 0 (drop from l) (end - from) (omega arith) (omega (arith, low, high, length-drop from l))
      ∙ sym (drop-take from (end - from) l)
      ∙ ap (λ (n : ℕ). drop from (take n l)) e
