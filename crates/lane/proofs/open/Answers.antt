use mathlib.Core.Path.{sym, ◌∙◌}
use native.Mathlib.Omega.{arith}
use Rattle.lane.proofs.Refusals.{open_left}
use Rattle.lane.proofs.open.Goals as goal

pub overflow_add-l : goal.overflow_add-l
overflow_add-l c = omega (arith, open_left c.args.l c.args.p (sym c.open_refusal.ensures ∙ c.in_default.is))
