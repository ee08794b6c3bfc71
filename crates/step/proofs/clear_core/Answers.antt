use Rattle.lane.specs.Begin.{cleared_of}
use Rattle.step.proofs.clear_core.Goals as goal

pub returns : goal.returns
unfolding cleared_of
returns c cs = simp (c.with_records.ensures, c.no_core_out.ensures)
