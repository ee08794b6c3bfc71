-- Its loop fills the array place by place.
use mathlib.Core.Path.{refl, sym, ◌∙◌}
use lib.Ieee.{nan}
use borrow.Author.Rules.{rules}
use Rattle.step.proofs.Zips.{zip_read, zip_length}
use Rattle.step.proofs.Fills.{fill_start, fill_turn, fill_end}
use Rattle.step.proofs.pairs_of.Goals as goal

pub loop-i-init : goal.loop-i-init
loop-i-init c = (fill_start refl (zip_length c.args.re c.args.im (search rules) ∙ search rules), search rules)

pub loop-i-preserved : goal.loop-i-preserved
loop-i-preserved c = (fill_turn c.loop-i.invariant.0 (record { re = nan; im = nan }) c.loop-i-test.true (sym (zip_read c.args.re c.args.im _ c.loop-i.invariant.1)), c.loop-i.invariant.1)

pub returns : goal.returns
returns c = fill_end c.loop-i.invariant.0 c.loop-i-test.false
