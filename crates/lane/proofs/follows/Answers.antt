use mathlib.Core.Path.{◌∙◌}
use Rattle.lane.proofs.Refusals.{follows_by}
use Rattle.lane.proofs.follows.Goals as goal

pub returns : goal.returns
returns c = c.eq.ensures ∙ follows_by _ _ c.checked_sub.result c.checked_sub.ensures
