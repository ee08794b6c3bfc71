use mathlib.Core.Path.{◌∙◌}
use Rattle.calls.specs.Turn.{called}
use borrow.Author.Rules.{rules}
use Rattle.exports.proofs.call.Goals as goal

pub enum_known-k : goal.enum_known-k
unfolding called
enum_known-k c = search rules

pub returns-in-Step : goal.returns-in-Step
unfolding called
returns-in-Step c = c.step_by_lending.ensures ∙ simp c.in-Step.is

pub returns-in_default : goal.returns-in_default
unfolding called
returns-in_default c = search rules
