use Rattle.ieee.specs.Constants.{zero32}
use Rattle.lane.specs.Idle.{idle_lane}
use Rattle.lane.specs.Serial.{stamp_of}
use Rattle.lane.proofs.Zeros.{no_sample, all_default, lead_default}
use Rattle.lane.proofs.idle_lane.Goals as goal

pub returns : goal.returns
unfolding idle_lane stamp_of
returns c =
    let d = c.default.ensures.1.1 in
    let r = d.1.1.1 in
    simp (d.0, d.1.0, no_sample _ d.1.1.0, lead_default c.default.result.lead (λ x h. h) no_sample r.0, all_default zero32 (λ x h. h) r.1.0, ← c.no_burst.ensures)
