-- In the ranges of e that `Integral.antt` tells apart.
use Rattle.std.proofs.Common.{ℕ, ◌+◌, ◌^◌, ◌≤◌, sym, ap, ◌∙◌, arith}
use lib.Ieee.{binary64, round}
use Rattle.ieee.specs.Rounding.{half_up}
use Rattle.ieee.proofs.Integral.{whole_none, whole_some, half_up_le, power_range}
use Rattle.ieee.proofs.whole_fields.Goals as goal
use Rattle.ieee.proofs.whole_fields.Goals.{After-power-u}

range : (c : After-power-u) → (2 ≤ c.power-u.result) × (c.power-u.result ≤ 2 ^ 53)
range c = power_range _ _ c.if-e-lt-HALF.false c.requires.0 c.power-u.ensures

pub returns-then-e-lt-HALF : goal.returns-then-e-lt-HALF
returns-then-e-lt-HALF c = (λ b. whole_none b _ _ c.if-e-lt-HALF.true c.requires.1, omega arith)

pub returns : goal.returns
returns c = (
  λ b. whole_some b _ _ c.if-e-lt-HALF.false c.requires.0 c.requires.1 ∙ ap (λ (x : ℕ). round binary64 b (half_up (2 ^ 52 + c.args.t) x) 1) (sym c.power-u.ensures),
  half_up_le _ _ c.requires.1 (range c).0,
)

pub overflow_add-result-2 : goal.overflow_add-result-2
overflow_add-result-2 c = omega (arith, range c)

pub overflow_mul-result-2 : goal.overflow_mul-result-2
overflow_mul-result-2 c = omega (arith, range c)

pub nonzero_div-result : goal.nonzero_div-result
nonzero_div-result c = omega (arith, range c)
