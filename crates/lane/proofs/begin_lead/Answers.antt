use Rattle.ieee.specs.Constants.{zero32}
use Rattle.shared.specs.Counts.{zero_c32}
use Rattle.lane.specs.Begin.{begin_lead_of}
use Rattle.lane.proofs.Zeros.{no_sample, all_default}
use Rattle.lane.proofs.begin_lead.Goals as goal

pub returns : goal.returns
unfolding begin_lead_of
returns c = let d = c.default.ensures.1.1 in simp (all_default zero32 (λ x h. h) d.0, all_default zero_c32 no_sample d.1)
