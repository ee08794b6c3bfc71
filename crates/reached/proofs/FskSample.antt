-- A sample of the slicer stays within refusal 4's limits: fsk_cnt grows by at most 1, and fsk_runs by at most 2.
use Prim.Native.Nat.{ℕ, ◌+◌, ◌<◌, ◌≤◌}
use mathlib.Core.Path.{◌≡◌, refl}
use mathlib.Core.List.{List}
use native.Mathlib.Omega.{arith}
use lib.Dec.{ltb, eqb}
use lib.Ieee.{Float}
use borrow.Author.Tests.{ltb-true}
use Rattle.arith.specs.declared.C32.{C32}
use Rattle.arith.specs.Leaves.{edge_of, cross_of}
use Rattle.shared.specs.Params.{fsk_min_of}
use Rattle.shared.proofs.Cases.{either, by_test}
use Rattle.shared.specs.declared.Settings.{Settings}
use Rattle.fsk.specs.Makers.{mean_of}
use Rattle.fsk.specs.Resolve.{slice_thr_of}
use Rattle.fsk.specs.declared.Mean.{Mean}
use Rattle.fsk.specs.declared.Cand.{Cand}
use Rattle.fsk.specs.declared.Early.{Early}
use Rattle.fsk.specs.declared.Tone.{Tone}
use Rattle.fsk.specs.Types.{Frame}
use Rattle.fsk_sample.specs.Tone.{tone_of, upper_of}
use Rattle.fsk_sample.specs.Seek.{seed_of, average_of, restart_early_of, clear_of, far_from_of}
use Rattle.fsk_sample.specs.Sample.{seek_frame_of, restart_of, away_of, seek_of, track_of, fsk_sample_of}
use Rattle.reached.proofs.Fsk.{inc_most, SampleWithin, lengthen_within, run_step_within, resolve_within}
use Rattle.reached.specs.Limits.{FrameWithin}

pub fsk_min_above : (steps : ℕ) → 0 < fsk_min_of steps
fsk_min_above steps = omega arith

seed_count : (k : ℕ) (m : Mean) (n : ℕ) (f : Float) → m.fsk_cnt ≤ k → (seed_of m n f).fsk_cnt ≤ k
unfolding seed_of
seed_count k m n f h = either (λ (q : Mean). q.fsk_cnt ≤ k) (eqb m.fsk_cnt 0) (either (λ (q : Mean). q.fsk_cnt ≤ k) (eqb n 0) h h) h

average_count : (k : ℕ) (m : Mean) (f : Float) → m.fsk_cnt ≤ k → (average_of m f).fsk_cnt ≤ k + 1
unfolding average_of
average_count k m f h = omega (arith, inc_most m.fsk_cnt)

restart_flag : (e : Early) (m : Mean) (c : Cand) (f : Float) (idx : ℕ) → e.early ≤ 1 → (restart_early_of e m c f idx).early ≤ 1
unfolding restart_early_of
restart_flag e m c f idx h = either (λ (q : Early). q.early ≤ 1) (ltb 0 m.fsk_cnt) (omega arith) h

clear_cand : (c : Cand) → (clear_of c).fsk_cand ≡ 0
unfolding clear_of
clear_cand c = refl

module _ (max least k m : ℕ) where
  seek_frame_within : (fr : Frame) (t : Tone) (mn : Mean) (c : Cand) (e : Early) → FrameWithin max least k m fr → c.fsk_cand < least → mn.fsk_cnt ≤ k + 1 → e.early ≤ 1 → FrameWithin max least (k + 1) (m + 1 + 1) (seek_frame_of fr t mn c e)
  unfolding seek_frame_of
  seek_frame_within fr t mn c e h few n flag = search (lengthen_within, arith)

  away_within : (fr : Frame) (t : Tone) (mn : Mean) (c : Cand) (idx : ℕ) (fsk : List ℕ) → 0 < least → FrameWithin max least k m fr → mn.fsk_cnt ≤ k → SampleWithin max least (k + 1) (m + 1 + 1) (away_of max least fr t mn c idx fsk)
  unfolding away_of restart_of seek_frame_of
  away_within fr t mn c idx fsk z h n =
      by_test (SampleWithin max least (k + 1) (m + 1 + 1)) (ltb c.fsk_cand least)
      (λ q. seek_frame_within fr t mn c fr.early h (ltb-true c.fsk_cand least q) (omega arith) h.early_flag)
      (λ q. either (SampleWithin max least (k + 1) (m + 1 + 1)) (ltb mn.fsk_cnt least)
      (seek_frame_within fr t (mean_of t.f_prev 1) (clear_of c) (restart_early_of fr.early mn c t.f_prev idx) h (rw clear_cand z) (omega arith) (restart_flag fr.early mn c t.f_prev idx h.early_flag))
      (resolve_within max least (k + 1) m (seek_frame_of fr t mn c fr.early) t.f_prev idx fsk h.early_flag (omega arith) h.done_within))

module _ (p : Settings) (least k m : ℕ) where
  seek_within : (fr : Frame) (t : Tone) (idx : ℕ) (fsk : List ℕ) → 0 < least → FrameWithin p.max_pulses least k m fr → SampleWithin p.max_pulses least (k + 1) (m + 1 + 1) (seek_of p least fr t idx fsk)
  unfolding seek_of
  seek_within fr t idx fsk z h =
      let mn : Mean = seed_of fr.mean fr.cand.fsk_cand t.f_prev in
      let n : mn.fsk_cnt ≤ k = seed_count k fr.mean fr.cand.fsk_cand t.f_prev h.count in
      either (SampleWithin p.max_pulses least (k + 1) (m + 1 + 1)) (far_from_of t.f_prev mn.f_ref p.fsk_delta)
      (away_within p.max_pulses least k m fr t mn _ idx fsk z h n)
      (seek_frame_within p.max_pulses least k m fr t (average_of mn t.f_prev) (clear_of fr.cand) fr.early h (rw clear_cand z) (average_count k mn t.f_prev n) h.early_flag)

  track_within : (fr : Frame) (t : Tone) (idx : ℕ) (fsk : List ℕ) → FrameWithin p.max_pulses least k m fr → SampleWithin p.max_pulses least (k + 1) (m + 1 + 1) (track_of p least fr t idx fsk)
  unfolding track_of
  track_within fr t idx fsk h =
      let s = run_step_within p.max_pulses m least fr.runs fr.done (upper_of (eqb fr.runs.run.level 1) t.f_prev (slice_thr_of (eqb fr.runs.run.level 1) fr.levels.f_hi fr.levels.f_lo))
      (edge_of idx (cross_of fr.tone.f_prev t.f_prev (slice_thr_of (eqb fr.runs.run.level 1) fr.levels.f_hi fr.levels.f_lo))) fsk h.runs_within h.done_within in
      search arith

pub sample_within : (k m : ℕ) (p : Settings) (fr : Frame) (high : Float) (d : C32) (e : Float) (idx : ℕ) (fsk : List ℕ) → FrameWithin p.max_pulses (fsk_min_of p.min_steps) k m fr → SampleWithin p.max_pulses (fsk_min_of p.min_steps) (k + 1) (m + 1 + 1) (fsk_sample_of p fr high d e idx fsk)
unfolding fsk_sample_of
sample_within k m p fr high d e idx fsk h =
    let least : ℕ = fsk_min_of p.min_steps in
    let t : Tone = tone_of p.alpha high d e fr.tone in
    either (SampleWithin p.max_pulses least (k + 1) (m + 1 + 1)) (eqb fr.fsk_phase 0)
    (seek_within p least k m fr t idx fsk (fsk_min_above p.min_steps) h)
    (track_within p least k m fr t idx fsk h)
