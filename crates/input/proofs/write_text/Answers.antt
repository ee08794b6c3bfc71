use Rattle.std.proofs.Common.{ℕ, List, ◌++◌, ◌+◌, ◌-◌, ◌≤◌, ◌≡◌, length, take, drop, arith, ap, sym, ◌∙◌, subst, length-drop}
use Rattle.std.proofs.lemmas.List.{take_rest}
use Rattle.std.specs.Io.KnownBytes.{Appends}
use Rattle.std.proofs.KnownBytes.{Appends-trans}
use Rattle.input.proofs.Laws.{came_after}
use Rattle.input.proofs.write_text.Goals as goal

-- what was written before and what a write takes of the rest
on : (done n : ℕ) (x : List ℕ) → done ≤ length x → take done x ++ take n (take (length x - done) (drop done x)) ≡ take (done + n) x
on done n x h = ap (λ (l : List ℕ). take done x ++ take n l) (take_rest x done) ∙ sym (came_after done n x h)

inside : (done n : ℕ) (x : List ℕ) → done ≤ length x → n ≤ length (take (length x - done) (drop done x)) → done + n ≤ length x
inside done n x h b = omega (arith, ap length (take_rest x done), length-drop done x)

pub loop-done-preserved : goal.loop-done-preserved
loop-done-preserved g c =
    let v = c.loop-done.invariant in
    let e = c.in_ok-n.ensures in
    (inside _ _ _ v.0 e.bound, subst (Appends _ _) (on _ _ _ v.0) (Appends-trans _ _ _ _ _ v.1 e.bytes))
