-- `frame_done` (source document 000): a presence is over; where it was a frame, it counts, and in Auto mode it cuts the train.
use Rattle.std.specs.Prelude.{ℕ, cond, List, ◌==◌, Float}
use Rattle.arith.specs.declared.C32.{C32}
use Rattle.shared.specs.Counts.{sat_add_of}
use Rattle.ook.specs.declared.Train.{Train}
use Rattle.shared.specs.declared.Out.{Out}
use Rattle.ook.specs.Types.{Ended}
use Rattle.shared.specs.declared.Settings.{Settings}
use Rattle.fsk.specs.Types.{Frame}
use Rattle.frame_end.specs.End.{end_frame_of}
use Rattle.frame_end.specs.Cut.{cut_train_of}
use Rattle.frame_end.specs.Types.{Framed}
use Rattle.frame_end.specs.Types.{Body}

abbrev pub body_of : Frame → Train → ℕ → Out → Out → Body
body_of frame train frames out_ook out_fsk = record { frame = frame; train = train; frames = frames; out_ook = out_ook; out_fsk = out_fsk }

abbrev pub with_frame : Frame → Body → Body
with_frame frame b = body_of frame b.train b.frames b.out_ook b.out_fsk

abbrev pub with_train : Train → Out → Body → Body
with_train train out_ook b = body_of b.frame train b.frames out_ook b.out_fsk

abbrev pub with_framed : Framed → ℕ → Body → Body
with_framed f frames b = body_of f.frame b.train frames b.out_ook f.out

abbrev pub cut_body : Body → Framed → List ℕ → Ended × List ℕ → Body × List ℕ × List ℕ
cut_body b f fsk q = (body_of f.frame q.0.train (sat_add_of b.frames 1) q.0.out f.out, q.1, fsk)

abbrev pub frame_done_by : Settings → Body → Float → Float → List ℕ → Framed × List ℕ → Body × List ℕ × List ℕ
frame_done_by p b high start ook q =
    cond q.0.is_fsk
    (cond (p.mode == 2)
    (cut_body b q.0 q.1 (cut_train_of b.train high b.out_ook start ook))
    (with_framed q.0 (sat_add_of b.frames 1) b, ook, q.1))
    (with_framed q.0 b.frames b, ook, q.1)

unfoldable pub frame_done_of : Settings → Body → Float → C32 → Float → Float → List ℕ → List ℕ → Body × List ℕ × List ℕ
frame_done_of p b high pac start end ook fsk = frame_done_by p b high start ook (end_frame_of p b.frame high pac start end b.out_fsk fsk)
