use mathlib.Core.Path.{sym, ◌∙◌}
use native.Mathlib.Omega.{arith}
use Rattle.lane.proofs.Refusals.{begin_left}
use Rattle.lane.proofs.begin.Goals as goal

pub overflow_add-l : goal.overflow_add-l
overflow_add-l c = omega (arith, begin_left c.args.l c.args.b _ _ (sym c.begin_refusal.ensures ∙ c.in_default.is))
