use Rattle.lane.specs.Close.{idle_with}
use Rattle.lane.specs.Serial.{stamp_of}
use Rattle.lane.proofs.idle_with.Goals as goal

pub returns : goal.returns
unfolding stamp_of idle_with
returns c = λ b e. simp e
