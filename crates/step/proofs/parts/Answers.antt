-- Its loop fills both arrays place by place.
use mathlib.Core.Path.{refl, sym, ◌∙◌}
use lib.Ieee.{nan}
use lib.ListN.{length-map, get_or-map}
use borrow.Author.Rules.{rules}
use Rattle.arith.specs.declared.C32.{C32}
use Rattle.step.proofs.Fills.{fill_start, fill_turn, fill_end}
use Rattle.step.proofs.parts.Goals as goal

pub loop-i-init : goal.loop-i-init
loop-i-init c = (fill_start refl (length-map c.args.l.lead.lead_x _ ∙ search rules), fill_start refl (length-map c.args.l.lead.lead_x _ ∙ search rules))

pub loop-i-preserved : goal.loop-i-preserved
loop-i-preserved c =
    let none : C32 = record { re = nan; im = nan } in (
      fill_turn c.loop-i.invariant.0 nan c.loop-i-test.true (sym (get_or-map (λ (x : C32). x.re) c.args.l.lead.lead_x _ none)),
      fill_turn c.loop-i.invariant.1 nan c.loop-i-test.true (sym (get_or-map (λ (x : C32). x.im) c.args.l.lead.lead_x _ none)),
    )

pub returns : goal.returns
returns c = (fill_end c.loop-i.invariant.0 c.loop-i-test.false, fill_end c.loop-i.invariant.1 c.loop-i-test.false, c.loop-i.invariant.0.long, c.loop-i.invariant.1.long)
