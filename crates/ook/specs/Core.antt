-- The records of the core, whose record has no serial, and those of a caller.
use Rattle.ook.specs.Types.{Ended}
use Rattle.ook.specs.Types.{EndedCore}
use Rattle.ook.specs.Types.{Done}
use Rattle.ook.specs.Types.{DoneCore}
use Rattle.shared.specs.Core.{whole_out}

-- the same of a train's end, and of a stage that may end it
abbrev pub whole_ended : EndedCore → Ended
whole_ended e = record { train = e.train; out = whole_out e.out }

abbrev pub whole_done : DoneCore → Done
whole_done d = record { next = d.next; train = d.train; out = whole_out d.out }
