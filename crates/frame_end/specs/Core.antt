-- The structs of the core that hold a frame, with the candidates and the record that a caller sees: whole ones.
use Rattle.std.specs.Prelude.{true, false, List, Option, Some, None, Float}
use Rattle.shared.specs.Core.{whole_out}
use Rattle.shared.specs.declared.Out.{Out}
use Rattle.fsk.specs.Core.{whole_frame}
use Rattle.fsk.specs.Types.{Frame}
use Rattle.frame_end.specs.Done.{body_of}
use Rattle.frame_end.specs.Types.{Framed}
use Rattle.frame_end.specs.declared.FramedCore.{FramedCore}
use Rattle.frame_end.specs.Types.{Body}
use Rattle.frame_end.specs.Types.{BodyCore}

-- a frame with its record, and the frame and the record before where the presence was none
abbrev pub framed_in : Frame → Out → List Float → Option FramedCore → Framed
framed_in fr out cs None = record { is_fsk = false; frame = fr; out = out }
framed_in fr out cs (Some f) = record { is_fsk = true; frame = whole_frame cs f.frame; out = whole_out f.out }

abbrev pub whole_body : List Float → BodyCore → Body
whole_body cs b = body_of (whole_frame cs b.frame) b.train b.frames (whole_out b.out_ook) (whole_out b.out_fsk)
