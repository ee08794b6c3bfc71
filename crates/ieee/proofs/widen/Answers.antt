-- The wider format holds x, so that rounding there does not change it (`widen_keeps`).
use Rattle.std.proofs.Common.{sym, ◌∙◌}
use Rattle.ieee.proofs.Nan.{told}
use Rattle.ieee.proofs.Widening.{widen_keeps}
use Rattle.ieee.proofs.widen.Goals as goal

pub returns : goal.returns
returns c = c.f32_to_f64_with_nan.ensures ∙ sym (widen_keeps c.args.x (told c.well_formed.0.1))
