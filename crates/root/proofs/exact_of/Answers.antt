-- What it hands to `whole_root` is the operand brought by a power of 4, and there is one whole root (`RootSteps.antt`).
use mathlib.Core.Path.{sym, subst}
use Prim.Native.Nat.{ℕ, ◌+◌, ◌-◌, ◌*◌, ◌%◌, ◌^◌, ◌≤◌, ◌<◌}
use native.Mathlib.Nat.{le_trans, lt_of_not-le, not-le_of_lt, mul-le-mul}
use native.Mathlib.Omega.{arith}
use lib.Count.{leading_le}
use Rattle.root.specs.Root.{InRange, IsRoot}
use Rattle.root.proofs.RootSteps.{ready, code_power, code_brought, code_power_is, code_brought_is, exact_is}
use Rattle.root.proofs.exact_of.Goals as goal
use Rattle.root.proofs.exact_of.Goals.{Start, After-whole_root-r}

in_range : (c : Start) → InRange (code_brought c.args.a c.args.k c.requires.0 c.requires.1)
in_range c =
    let a = c.args.a in
    let k = c.args.k in
    let d = ready a k c.requires.0 c.requires.1 in
    let lo = d.lo in
    let hi = d.hi in
    subst InRange (sym (code_brought_is a k c.requires.0 c.requires.1)) (lo, omega arith)

root_fits : (n r : ℕ) → n < 2 ^ 50 → r * r ≤ n → r < 2 ^ 32
root_fits n r h i =
    let l : r < 2 ^ 25 = lt_of_not-le (λ (g : 2 ^ 25 ≤ r). not-le_of_lt h (le_trans (mul-le-mul g g) i)) in
    omega arith

pub overflow_sub-s : goal.overflow_sub-s
overflow_sub-s c = leading_le 32 c.args.a

pub whole_root-r-requires : goal.whole_root-r-requires
whole_root-r-requires c = rw c.from.ensures (in_range c.before)

brought_root : (c : After-whole_root-r) → IsRoot (code_brought c.args.a c.args.k c.requires.0 c.requires.1) c.whole_root-r.result
brought_root c =
    let p = code_power c.args.a c.args.k c.requires.0 c.requires.1 in
    subst (λ (a : ℕ). IsRoot (a * 2 ^ (50 + c.args.k - (p + p)) % 2 ^ 64) c.whole_root-r.result) c.from.ensures c.whole_root-r.ensures

pub overflow_cast-result : goal.overflow_cast-result
overflow_cast-result c = record { fits = root_fits _ c.whole_root-r.result (in_range c.before.before).1 (brought_root c).0 }

pub returns : goal.returns
returns c =
    let a = c.args.a in
    let k = c.args.k in
    let p = c.requires.0 in
    let h = c.requires.1 in
    rw c.from.ensures (exact_is (a * 2 ^ k) c.whole_root-r.result (code_brought a k p h) (code_power a k p h) (ready a k p h) (code_brought_is a k p h) (code_power_is a k p h) (brought_root c))
