-- The frame that a caller's lane and the core share, with the candidates of the one or of the other (ook, specs/Types).
use Rattle.fsk.specs.declared.Cand.{Cand}
use Rattle.fsk.specs.declared.CandCore.{CandCore}
use Rattle.fsk.specs.declared.FrameOf.{FrameOf}

abbrev pub Frame : Type 0
Frame = FrameOf Cand

abbrev pub FrameCore : Type 0
FrameCore = FrameOf CandCore
