-- The count beside the channels is that of their lanes.
use Rattle.sixteen.proofs.Antennas.of.Goals as goal

pub returns-clause-sound : goal.returns-clause-sound
returns-clause-sound c = record { sized = c.count_out.ensures.sized; lanes = c.requires; count = c.count_out.ensures.counted }
