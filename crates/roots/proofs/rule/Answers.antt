use Rattle.std.proofs.Common.{◌*◌, ◌∙◌}
use Rattle.table.proofs.Laws.{root_unique, rule_is}
use Rattle.roots.proofs.rule.Goals as goal

pub returns : goal.returns
returns c = c.from.ensures ∙ root_unique (64 * c.args.i) _ _ (c.isqrt.ensures.square_le, c.isqrt.ensures.next_square_gt) (rule_is c.args.i c.requires)
