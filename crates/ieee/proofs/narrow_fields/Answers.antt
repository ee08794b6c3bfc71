-- In the ranges of e that `Narrowing.antt` tells apart.
use Rattle.std.proofs.Common.{ℕ, ◌+◌, ◌-◌, ◌*◌, ◌^◌, ◌<◌, ◌≤◌, sym, subst, arith, pow_pos}
use Rattle.ieee.proofs.Narrowing.{Narrowed, mag_tiny, mag_over, low_result, normal_result}
use Rattle.ieee.proofs.narrow_fields.Goals as goal
use Rattle.ieee.proofs.narrow_fields.Goals.{After-closest_div, After-closest_div-else-e-lt-NORMAL}

low : (c : After-closest_div) → Narrowed c.args.e c.args.t c.closest_div.result × (c.closest_div.result ≤ 2 ^ 24)
low c =
    low_result _ _ _ _ c.if-e-lt-TINY.false c.if-e-lt-NORMAL.true c.requires.1 c.power.ensures c.closest_div.ensures

normal : (c : After-closest_div-else-e-lt-NORMAL) → Narrowed c.args.e c.args.t ((c.args.e - 897) * 2 ^ 23 + c.closest_div-else-e-lt-NORMAL.result) × (c.closest_div-else-e-lt-NORMAL.result ≤ 2 ^ 24)
normal c = normal_result _ _ _ c.if-e-lt-NORMAL.false c.if-e-gt-LARGE.false c.requires.1 c.closest_div-else-e-lt-NORMAL.ensures

pub returns-then-e-lt-TINY : goal.returns-then-e-lt-TINY
returns-then-e-lt-TINY c = (λ b. mag_tiny b _ _ c.if-e-lt-TINY.true c.requires.1, omega arith)

pub returns-then-e-gt-LARGE : goal.returns-then-e-gt-LARGE
returns-then-e-gt-LARGE c = (λ b. mag_over b _ _ c.if-e-gt-LARGE.true c.requires.0 c.requires.1 c.requires.2, omega arith)

pub closest_div-requires : goal.closest_div-requires
closest_div-requires c = (omega arith, subst (λ (x : ℕ). 0 < x) (sym c.power.ensures) (pow_pos (926 - c.args.e)))

pub overflow_cast-result : goal.overflow_cast-result
overflow_cast-result c = omega (arith, (low c).1)

pub overflow_add-result : goal.overflow_add-result
overflow_add-result c = omega (arith, (normal c).1)

pub overflow_cast-result-else-e-lt-NORMAL : goal.overflow_cast-result-else-e-lt-NORMAL
overflow_cast-result-else-e-lt-NORMAL c = omega (arith, (normal c).1)

pub returns-then-e-lt-NORMAL : goal.returns-then-e-lt-NORMAL
returns-then-e-lt-NORMAL c = ((low c).0, omega (arith, (low c).1))

pub returns-else-e-lt-NORMAL : goal.returns-else-e-lt-NORMAL
returns-else-e-lt-NORMAL c = ((normal c).0, omega (arith, (normal c).1))
