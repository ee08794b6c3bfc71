use Rattle.step.proofs.joined.Goals as goal

pub returns : goal.returns
returns c = simp (← c.whole_burst.ensures, ← c.pairs_of.ensures)
