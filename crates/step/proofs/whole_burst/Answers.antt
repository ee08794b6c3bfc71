use Rattle.step.proofs.whole_burst.Goals as goal

pub returns : goal.returns
returns c = simp (c.with_frame.ensures, c.with_cand.ensures, ← c.whole_out.ensures, ← c.whole_out-2.ensures)
