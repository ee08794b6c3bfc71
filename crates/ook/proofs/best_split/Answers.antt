-- The invariant: the turns that are left from step j give the whole split; a turn and the end are laws of RefineLaws.
use Rattle.std.proofs.Common.{◌-◌, ◌∙◌, sym, arith}
use Rattle.ook.proofs.RefineLaws.{split_better, split_worse, split_end}
use Rattle.ook.proofs.best_split.Goals.{then-sum-best, else-sum-best}
use Rattle.ook.proofs.best_split.Goals as goal

pub loop-j-preserved : goal.loop-j-preserved
loop-j-preserved c =
    elim c.if-sum-best.branch [
      | then-sum-best w ↦ rw (w.best-is, w.split-is) (split_better _ _ _ _ _ _ _ _ (omega arith) _ c.excess-sum.ensures w.if-sum-best.true ∙ c.loop-j.invariant)
      | else-sum-best w ↦ rw (w.best-is, w.split-is) (split_worse _ _ _ _ _ _ _ _ (omega arith) _ c.excess-sum.ensures w.if-sum-best.false ∙ c.loop-j.invariant)
    ]

pub returns : goal.returns
returns c = sym (split_end _ _ _ _ _ _ _ _ (omega arith)) ∙ c.loop-j.invariant

pub returns-after-sum-best : goal.returns-after-sum-best
returns-after-sum-best c =
    elim c.if-sum-best.branch [
      | then-sum-best w ↦ rw w.split-is (sym (split_end _ _ _ _ (c.loop-j.j - 1) _ _ _ (omega arith)) ∙ (split_better _ _ _ _ _ _ _ _ (omega arith) _ c.excess-sum.ensures w.if-sum-best.true ∙ c.loop-j.invariant))
      | else-sum-best w ↦ rw w.split-is (sym (split_end _ _ _ _ (c.loop-j.j - 1) _ _ _ (omega arith)) ∙ (split_worse _ _ _ _ _ _ _ _ (omega arith) _ c.excess-sum.ensures w.if-sum-best.false ∙ c.loop-j.invariant))
    ]
