-- The structs that the lane of a caller and its core share, each with the record of the one or of the other.
use Rattle.shared.specs.declared.Out.{Out}
use Rattle.shared.specs.declared.OutCore.{OutCore}
use Rattle.ook.specs.declared.EndedOf.{EndedOf}
use Rattle.ook.specs.declared.DoneOf.{DoneOf}

abbrev pub Ended : Type 0
Ended = EndedOf Out

abbrev pub EndedCore : Type 0
EndedCore = EndedOf OutCore

abbrev pub Done : Type 0
Done = DoneOf Out

abbrev pub DoneCore : Type 0
DoneCore = DoneOf OutCore
