-- What the program prints is the table in the code: its entries are what `table::first_digits` gives, by that function's contract.
use mathlib.Core.Path.{◌≡◌, refl, ap, ◌∙◌}
use mathlib.Core.List.{List, ◌++◌}
use Prim.Native.Nat.{ℕ, zero, suc, ◌+◌, ◌≤◌, ◌<◌}
use native.Mathlib.Omega.{arith}
use Rattle.table.specs.Rule.{rule_of, entry_of}
use Rattle.table.proofs.Laws.{rule_is, entry_unique}
use Rattle.roots.specs.Text.{line, lines_of, printed}

same_lines : (k i : ℕ) → 256 ≤ i → i + k ≤ 1024 → lines_of rule_of k i ≡ lines_of entry_of k i
unfolding lines_of
same_lines zero i a b = refl
same_lines (suc k) i a b =
    let h : i < 1024 = omega arith in
    ap (λ (n : ℕ). line n ++ lines_of rule_of k (suc i)) (entry_unique i (rule_of i) a h (rule_is i h))
    ∙ ap (λ (l : List ℕ). line (entry_of i) ++ l) (same_lines k (suc i) (omega arith) (omega arith))

pub prints_the_table : printed ≡ lines_of entry_of 768 256
prints_the_table = same_lines 768 256 (omega arith) (omega arith)
