-- The makers of the frame's structs: a struct from its fields, and with some of its fields changed.
use Rattle.std.specs.Prelude.{ℕ, List, Float}
use Rattle.run.specs.declared.Run.{Run}
use Rattle.fsk.specs.declared.Committed.{Committed}
use Rattle.fsk.specs.declared.Runs.{Runs}
use Rattle.fsk.specs.declared.Ran.{Ran}
use Rattle.fsk.specs.declared.Levels.{Levels}
use Rattle.fsk.specs.declared.Mean.{Mean}
use Rattle.fsk.specs.declared.Cand.{Cand}
use Rattle.fsk.specs.declared.Early.{Early}
use Rattle.fsk.specs.declared.Tone.{Tone}
use Rattle.fsk.specs.Types.{Frame}

abbrev pub committed_of : Float → Float → ℕ → ℕ → ℕ → ℕ → Committed
committed_of f_origin f_last fsk_open fsk_n fsk_runs fsk_full =
    record { f_origin = f_origin; f_last = f_last; fsk_open = fsk_open; fsk_n = fsk_n; fsk_runs = fsk_runs; fsk_full = fsk_full }

-- one run more, and where the frame's first run starts
abbrev pub with_counted : Float → ℕ → Committed → Committed
with_counted f_origin fsk_runs c = committed_of f_origin c.f_last c.fsk_open c.fsk_n fsk_runs c.fsk_full

abbrev pub with_full : ℕ → Committed → Committed
with_full fsk_full c = committed_of c.f_origin c.f_last c.fsk_open c.fsk_n c.fsk_runs fsk_full

-- the pairs, and whether the last waits for its second slot
abbrev pub with_pairs : ℕ → ℕ → Committed → Committed
with_pairs fsk_n fsk_open c = committed_of c.f_origin c.f_last fsk_open fsk_n c.fsk_runs c.fsk_full

abbrev pub with_last : Float → Committed → Committed
with_last f_last c = committed_of c.f_origin f_last c.fsk_open c.fsk_n c.fsk_runs c.fsk_full

abbrev pub runs_of : Run → ℕ → Runs
runs_of run fsk_has_prev = record { run = run; fsk_has_prev = fsk_has_prev }

abbrev pub with_run : Run → Runs → Runs
with_run run r = runs_of run r.fsk_has_prev

abbrev pub ran_of : Runs → Committed → Ran
ran_of r c = record { runs = r; done = c }

abbrev pub ran_by : Runs → Committed × List ℕ → Ran × List ℕ
ran_by r q = (ran_of r q.0, q.1)

abbrev pub levels_of : Float → Float → Levels
levels_of f_hi f_lo = record { f_hi = f_hi; f_lo = f_lo }

abbrev pub mean_of : Float → ℕ → Mean
mean_of f_ref fsk_cnt = record { f_ref = f_ref; fsk_cnt = fsk_cnt }

abbrev pub cand_of : List Float → Float → ℕ → Cand
cand_of cand_f cand_before fsk_cand = record { cand_f = cand_f; cand_before = cand_before; fsk_cand = fsk_cand }

abbrev pub early_of : Float → Float → ℕ → Early
early_of f_early t_early early = record { f_early = f_early; t_early = t_early; early = early }

abbrev pub frame_of : Tone → ℕ → Mean → Cand → Early → Levels → Runs → Committed → Frame
frame_of tone fsk_phase mean cand early levels runs done =
    record { tone = tone; fsk_phase = fsk_phase; mean = mean; cand = cand; early = early; levels = levels; runs = runs; done = done }

-- before the first transition: the frequency, the mean of the first level, the candidates, the last restart and the run
abbrev pub with_first : Tone → Mean → Cand → Early → Runs → Frame → Frame
with_first tone mean cand early runs fr = frame_of tone fr.fsk_phase mean cand early fr.levels runs fr.done

-- from it on: the frequency, the two levels and the runs
abbrev pub with_ran : Tone → ℕ → Levels → Ran → Frame → Frame
with_ran tone fsk_phase levels s fr = frame_of tone fsk_phase fr.mean fr.cand fr.early levels s.runs s.done

abbrev pub with_runs : Runs → Frame → Frame
with_runs runs fr = frame_of fr.tone fr.fsk_phase fr.mean fr.cand fr.early fr.levels runs fr.done

abbrev pub with_done : Committed → Frame → Frame
with_done done fr = frame_of fr.tone fr.fsk_phase fr.mean fr.cand fr.early fr.levels fr.runs done
