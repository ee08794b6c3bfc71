-- `fsk_sample` (source document 000): one sample of the frequency slicer.
use Rattle.std.specs.Prelude.{ℕ, Bool, cond, List, ◌==◌, nat_eq, nat_lt, Float}
use Rattle.arith.specs.Leaves.{edge_of, cross_of}
use Rattle.arith.specs.declared.C32.{C32}
use Rattle.shared.specs.Params.{fsk_min_of}
use Rattle.shared.specs.declared.Settings.{Settings}
use Rattle.fsk.specs.Makers.{mean_of, with_first, with_ran}
use Rattle.fsk.specs.RunStep.{lengthen_of, fsk_run_step_of}
use Rattle.fsk.specs.Resolve.{slice_thr_of, fsk_resolve_of}
use Rattle.fsk.specs.declared.Mean.{Mean}
use Rattle.fsk.specs.declared.Cand.{Cand}
use Rattle.fsk.specs.declared.Early.{Early}
use Rattle.fsk.specs.declared.Tone.{Tone}
use Rattle.fsk.specs.declared.Levels.{Levels}
use Rattle.fsk.specs.declared.Ran.{Ran}
use Rattle.fsk.specs.Types.{Frame}
use Rattle.fsk_sample.specs.Tone.{tone_of, upper_of, follow_of}
use Rattle.fsk_sample.specs.Seek.{seed_of, average_of, push_cand_of, restart_early_of, clear_of, far_from_of}

-- before the first transition: the run is one sample longer
unfoldable pub seek_frame_of : Frame → Tone → Mean → Cand → Early → Frame
seek_frame_of fr t m c e = with_first t m c e (lengthen_of fr.runs) fr

-- too few samples before the candidates to know the first level: the mean starts over from here
unfoldable pub restart_of : Frame → Tone → Mean → Cand → ℕ → Frame
restart_of fr t m c idx = seek_frame_of fr t (mean_of t.f_prev 1) (clear_of c) (restart_early_of fr.early m c t.f_prev idx)

-- a sample away from the mean, the last candidate of c
unfoldable pub away_of : ℕ → ℕ → Frame → Tone → Mean → Cand → ℕ → List ℕ → Frame × List ℕ
away_of max_pulses fsk_min fr t m c idx fsk =
    cond (nat_lt c.fsk_cand fsk_min)
    (seek_frame_of fr t m c fr.early, fsk)
    (cond (nat_lt m.fsk_cnt fsk_min)
    (restart_of fr t m c idx, fsk)
    (fsk_resolve_of max_pulses fsk_min (seek_frame_of fr t m c fr.early) t.f_prev idx fsk))

-- the same two as the code takes them, with tone, mean and candidates in the frame: n is seek_frame_of fr t m c fr.early
abbrev pub restart_in : Frame → ℕ → Frame
restart_in n idx = with_first n.tone (mean_of n.tone.f_prev 1) (clear_of n.cand) (restart_early_of n.early n.mean n.cand n.tone.f_prev idx) n.runs n

abbrev pub away_in : ℕ → ℕ → Frame → ℕ → List ℕ → Frame × List ℕ
away_in max_pulses fsk_min n idx fsk =
    cond (nat_lt n.cand.fsk_cand fsk_min)
    (n, fsk)
    (cond (nat_lt n.mean.fsk_cnt fsk_min)
    (restart_in n idx, fsk)
    (fsk_resolve_of max_pulses fsk_min n n.tone.f_prev idx fsk))

abbrev pub seek_by : Settings → ℕ → Frame → Tone → ℕ → Mean → List ℕ → Frame × List ℕ
seek_by p fsk_min fr t idx m fsk =
    cond (far_from_of t.f_prev m.f_ref p.fsk_delta)
    (away_of p.max_pulses fsk_min fr t m (push_cand_of fr.cand m.f_ref t.f_prev fr.tone.f_prev) idx fsk)
    (seek_frame_of fr t (average_of m t.f_prev) (clear_of fr.cand) fr.early, fsk)

unfoldable pub seek_of : Settings → ℕ → Frame → Tone → ℕ → List ℕ → Frame × List ℕ
seek_of p fsk_min fr t idx fsk = seek_by p fsk_min fr t idx (seed_of fr.mean fr.cand.fsk_cand t.f_prev) fsk

-- after it: the two levels are followed, and the run machine goes on
abbrev pub track_by : Frame → Tone → Levels → Ran × List ℕ → Frame × List ℕ
track_by fr t l q = (with_ran t fr.fsk_phase l q.0 fr, q.1)

abbrev pub track_at : Settings → ℕ → Frame → Tone → ℕ → Float → Bool → List ℕ → Frame × List ℕ
track_at p fsk_min fr t idx thr upper fsk =
    track_by fr t (follow_of upper fr.levels t.f_prev)
    (fsk_run_step_of p.max_pulses fsk_min fr.runs fr.done upper (edge_of idx (cross_of fr.tone.f_prev t.f_prev thr)) fsk)

abbrev pub track_thr : Settings → ℕ → Frame → Tone → ℕ → Bool → Float → List ℕ → Frame × List ℕ
track_thr p fsk_min fr t idx was thr fsk = track_at p fsk_min fr t idx thr (upper_of was t.f_prev thr) fsk

unfoldable pub track_of : Settings → ℕ → Frame → Tone → ℕ → List ℕ → Frame × List ℕ
track_of p fsk_min fr t idx fsk =
    let was = nat_eq fr.runs.run.level 1 in
    track_thr p fsk_min fr t idx was (slice_thr_of was fr.levels.f_hi fr.levels.f_lo) fsk

abbrev pub sample_by : Settings → ℕ → Frame → Tone → ℕ → List ℕ → Frame × List ℕ
sample_by p fsk_min fr t idx fsk = cond (fr.fsk_phase == 0) (seek_of p fsk_min fr t idx fsk) (track_of p fsk_min fr t idx fsk)

-- d is the product of the sample and the conjugate of the one before
unfoldable pub fsk_sample_of : Settings → Frame → Float → C32 → Float → ℕ → List ℕ → Frame × List ℕ
fsk_sample_of p fr high d e idx fsk = sample_by p (fsk_min_of p.min_steps) fr (tone_of p.alpha high d e fr.tone) idx fsk
