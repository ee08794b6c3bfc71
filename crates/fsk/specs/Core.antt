-- The frame of the core stands for a frame together with the candidates, which are an array of their own.
use Rattle.std.specs.Prelude.{List, Float}
use Rattle.fsk.specs.Makers.{cand_of, frame_of}
use Rattle.fsk.specs.declared.Cand.{Cand}
use Rattle.fsk.specs.declared.CandCore.{CandCore}
use Rattle.fsk.specs.Types.{Frame}
use Rattle.fsk.specs.Types.{FrameCore}

abbrev pub whole_cand : List Float → CandCore → Cand
whole_cand cs c = cand_of cs c.cand_before c.fsk_cand

abbrev pub whole_frame : List Float → FrameCore → Frame
whole_frame cs fr = frame_of fr.tone fr.fsk_phase fr.mean (whole_cand cs fr.cand) fr.early fr.levels fr.runs fr.done
