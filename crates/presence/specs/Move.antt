-- `presence` (source document 000): the run of the carrier's presence, and what its moves do to the frame.
use Rattle.std.specs.Prelude.{ℕ, Bool, cond, Float}
use Rattle.std.specs.Float.{binary32}
use Rattle.std.specs.Float.Ieee.{mul, of_bits}
use Rattle.shared.specs.Counts.{sat_add_of}
use Rattle.run.specs.Run.{with_length, moved_of}
use Rattle.run.specs.declared.Run.{Run}
use Rattle.run.specs.declared.Move.{Move}
use Rattle.run.specs.declared.Move.TheVariants.{Same, Glitch, Begins}
use Rattle.fsk.specs.Makers.{with_runs}
use Rattle.fsk.specs.Makers as frames
use Rattle.fsk.specs.Resolve.{begin_frame_of}
use Rattle.fsk.specs.Types.{Frame}
use Rattle.presence.specs.declared.Pres.{Pres}

-- the makers: a presence from its fields, and with another run
abbrev pub pres_of : Run → Float → Pres
pres_of run p_factor = record { run = run; p_factor = p_factor }

abbrev pub with_run : Run → Pres → Pres
with_run run s = pres_of run s.p_factor

-- trig = noise * p_factor, an eighth less where the carrier is present (0.875, 3f600000), and an eighth more where it is not (1.125, 3f900000)
unfoldable pub pres_thr_of : Bool → Float → Float → Float
pres_thr_of was noise p_factor =
    let trig = mul binary32 noise p_factor in
    cond was (mul binary32 trig (of_bits binary32 0x3f60_0000)) (mul binary32 trig (of_bits binary32 0x3f90_0000))

unfoldable pub move_pres_of : Move → Pres → ℕ → Float → Pres
move_pres_of m s level tc = with_run (moved_of m s.run level tc) s

-- a short absence inside a frame: its n samples extend the frequency run
unfoldable pub extend_of : Frame → ℕ → Frame
extend_of fr n = with_runs (frames.with_run (with_length (sat_add_of fr.runs.run.run_len n) fr.runs.run) fr.runs) fr

-- what the same move does to the frame: a presence that begins begins a frame; n are the samples of a run that was a glitch
abbrev pub move_frame_of : Move → Bool → ℕ → Float → Frame → Frame
move_frame_of Same on n tc fr = fr
move_frame_of Glitch on n tc fr = cond on (extend_of fr n) fr
move_frame_of Begins on n tc fr = cond on (begin_frame_of fr tc) fr
