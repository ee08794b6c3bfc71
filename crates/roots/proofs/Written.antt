-- A turn of the loop that writes the lines: the line of i after those of the numbers below it.
use mathlib.Core.Path.{◌≡◌, ap, ◌∙◌}
use mathlib.Core.List.{List, ◌++◌, append_assoc}
use Prim.Native.Nat.{ℕ, zero, suc, ◌+◌, ◌-◌, ◌≤◌}
use Rattle.std.proofs.lemmas.List.{append-nil}
use native.Mathlib.Nat.{add-zero}
use native.Mathlib.Omega.{arith}
use Rattle.table.specs.Rule.{rule_of}
use Rattle.roots.specs.Text.{line, lines_of}

one_more : (f : ℕ → ℕ) (k i : ℕ) → lines_of f k i ++ line (f (i + k)) ≡ lines_of f (suc k) i
unfolding lines_of
one_more f zero i = simp (add-zero, append-nil)
one_more f (suc k) i =
    let e : i + suc k ≡ suc i + k = omega arith in
    append_assoc (line (f i)) (lines_of f k (suc i)) (line (f (i + suc k)))
    ∙ ap (λ (l : List ℕ). line (f i) ++ l) (ap (λ (n : ℕ). lines_of f k (suc i) ++ line (f n)) e ∙ one_more f k (suc i))

pub turn : (i n : ℕ) → 256 ≤ i → n ≡ rule_of i → lines_of rule_of (i - 256) 256 ++ line n ≡ lines_of rule_of (i + 1 - 256) 256
turn i n h e =
    let here : i ≡ 256 + (i - 256) = omega arith in
    let onward : suc (i - 256) ≡ i + 1 - 256 = omega arith in
    ap (λ (m : ℕ). lines_of rule_of (i - 256) 256 ++ line m) (e ∙ ap rule_of here)
    ∙ one_more rule_of (i - 256) 256 ∙ ap (λ (k : ℕ). lines_of rule_of k 256) onward
