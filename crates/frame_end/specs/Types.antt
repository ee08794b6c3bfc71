-- The structs that a caller's lane and the core share, with the candidates and the records of the one or of the other (ook, specs/Types).
use Rattle.std.specs.Prelude.{Bool}
use Rattle.shared.specs.declared.Out.{Out}
use Rattle.shared.specs.declared.OutCore.{OutCore}
use Rattle.fsk.specs.declared.Cand.{Cand}
use Rattle.fsk.specs.declared.CandCore.{CandCore}
use Rattle.fsk.specs.Types.{Frame}
use Rattle.frame_end.specs.declared.BodyOf.{BodyOf}

-- whether a presence was a frame, the frame, and the record of frames; both as they were where it was none
pub record Framed : Type 0 where
  pub is_fsk : Bool
  pub frame : Frame
  pub out : Out

abbrev pub Body : Type 0
Body = BodyOf Cand Out

abbrev pub BodyCore : Type 0
BodyCore = BodyOf CandCore OutCore
