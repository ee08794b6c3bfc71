-- What a burst within the limits passes, and what leaves it within them: refusal 4's check says yes to it, and so it does to a burst that is new, cleared,
-- ended, or has a new serial.
use Prim.Native.Nat.{ℕ, ◌+◌, ◌^◌, ◌<◌, ◌≤◌}
use mathlib.Core.Bool.{true}
use mathlib.Core.Path.{◌≡◌}
use mathlib.Core.List.{List}
use native.Mathlib.Omega.{arith}
use lib.Ieee.{Float}
use borrow.Author.Tests.{le-leb}
use Rattle.domain.specs.Limits.{max_count, max_serial}
use Rattle.shared.specs.Core.{numbered}
use Rattle.shared.specs.Params.{fsk_min_of}
use Rattle.run.specs.Limits.{RunWithin}
use Rattle.run.specs.declared.Run.{Run}
use Rattle.ook.specs.Limits.{EnvWithin, TrainWithin, OutWithin}
use Rattle.ook.proofs.Limits.{end_train_within}
use Rattle.ook.specs.declared.Env.{Env}
use Rattle.ook.specs.declared.Train.{Train}
use Rattle.shared.specs.declared.Out.{Out}
use Rattle.shared.specs.declared.Settings.{Settings}
use Rattle.fsk.specs.Types.{Frame}
use Rattle.presence.specs.declared.Pres.{Pres}
use Rattle.burst.specs.Makers.{with_serials}
use Rattle.burst.specs.Types.{Burst}
use Rattle.reached.specs.Limits.{most_runs, CommittedWithin, FrameWithin, PresWithin, Paired, BurstFits, BurstWithin, UnderWay}
use Rattle.reached.proofs.FskSample.{fsk_min_above}
use Rattle.refusals.proofs.Domain.{InDomain}
use Rattle.refusals.specs.State.{run_ok, env_ok, train_ok, pres_ok, frame_ok, out_ok, burst_ok, cand_ok}
use Rattle.lane.specs.Idle.{no_out, no_run, none_done, no_burst}
use Rattle.lane.specs.Begin.{with_factor, cleared_of}
use Rattle.lane.specs.Close.{end_burst_of}

run_ok_lem : (r : Run) → RunWithin r → run_ok r ≡ true
run_ok_lem r h = grind arith

env_ok_lem : (v : Env) → EnvWithin v → env_ok v ≡ true
env_ok_lem v h = grind arith

train_ok_lem : (max : ℕ) (t : Train) → TrainWithin max t → train_ok max t ≡ true
train_ok_lem max t h = grind arith

out_ok_lem : (max : ℕ) (o : Out) → OutWithin max o → out_ok o ≡ true
out_ok_lem max o h = grind arith

pres_ok_lem : (q : Pres) → PresWithin q → pres_ok q ≡ true
pres_ok_lem q h = run_ok_lem q.run h

frame_ok_lem : (max least k m : ℕ) (f : Frame) → k ≤ max_count → m ≤ max_count → FrameWithin max least k m f → frame_ok max f ≡ true
unfolding frame_ok
frame_ok_lem max least k m f i j h =
    simp (
      le-leb f.fsk_phase 1 h.phase_flag,
      le-leb f.mean.fsk_cnt max_count (omega (arith, h.count)),
      le-leb f.early.early 1 h.early_flag,
      run_ok_lem f.runs.run h.runs_within.run_within,
      le-leb f.runs.fsk_has_prev 1 h.runs_within.has_prev_flag,
      le-leb f.done.fsk_open 1 h.done_within.open_flag,
      le-leb f.done.fsk_full 1 h.done_within.full_flag,
      le-leb (f.done.fsk_n + f.done.fsk_open) max h.done_within.pairs,
      le-leb f.done.fsk_runs max_count (omega (arith, h.done_within.runs_most)),
    )

-- the counts are bounded by long_steps, which the domain ends at max_steps
pub burst_ok_lem : {p : Settings} {b : Burst} → InDomain p → BurstWithin p b → burst_ok p.max_pulses b ≡ true
unfolding burst_ok
burst_ok_lem {p} {b} d h =
    simp (
      env_ok_lem b.env h.fits.env_within,
      train_ok_lem p.max_pulses b.train h.fits.train_within,
      out_ok_lem p.max_pulses b.out_ook h.fits.ook_within,
      pres_ok_lem b.pres h.pres_within,
      frame_ok_lem p.max_pulses (fsk_min_of p.min_steps) (p.long_steps + 1) (most_runs p.long_steps) b.frame (omega (arith, d.long_steps.1)) (omega (arith, d.long_steps.1)) h.frame_within,
      out_ok_lem p.max_pulses b.out_fsk h.fits.fsk_within,
    )

-- outside the burst, phase 2, the candidates are not asked for
pub cand_ok_lem : (phase : ℕ) {p : Settings} {b : Burst} → BurstWithin p b → cand_ok phase p.min_steps b.frame ≡ true
unfolding cand_ok
cand_ok_lem phase {p} {b} h = grind arith

no_out_lem : (max : ℕ) → OutWithin max no_out
no_out_lem max = omega arith

none_done_lem : (max m : ℕ) → CommittedWithin max m none_done
none_done_lem max m = omega arith

no_run_lem : RunWithin no_run
no_run_lem = omega arith

pub none_within : (p : Settings) → BurstWithin p no_burst
unfolding no_burst
none_within p =
    let few : 0 < fsk_min_of p.min_steps = fsk_min_above p.min_steps in
    search arith

-- the records are cleared, whatever they were
pub cleared_fits : (max : ℕ) (b : Burst) → EnvWithin b.env → TrainWithin max b.train → Paired max b.frame.done → BurstFits max (cleared_of b)
unfolding cleared_of
cleared_fits max b v t c = search no_out_lem

pub cleared_within : {p : Settings} {b : Burst} → BurstWithin p b → BurstWithin p (cleared_of b)
unfolding cleared_of
cleared_within {p} {b} h =
    search cleared_fits

pub cleared_runs : (p : Settings) (b : Burst) → UnderWay p b → UnderWay p (cleared_of b)
unfolding cleared_of
cleared_runs p b r = r

pub factor_within : {p : Settings} {b : Burst} (f : Float) → BurstWithin p b → BurstWithin p (with_factor f b)
factor_within f h = search

-- close: the train ends, and its record takes the place of the cleared one
pub ended_fits : (max : ℕ) → max < 2 ^ 32 → (b : Burst) (ook : List ℕ) → BurstFits max (cleared_of b) → BurstFits max (end_burst_of b ook).0
unfolding cleared_of end_burst_of
ended_fits max m b ook f =
    let e = end_train_within max m b.train b.high no_out ook f.train_within (no_out_lem max) in
    search

pub ended_within : {p : Settings} {b : Burst} → p.max_pulses < 2 ^ 32 → (ook : List ℕ) → BurstWithin p b → BurstWithin p (end_burst_of b ook).0
unfolding end_burst_of cleared_of
ended_within {p} {b} m ook h =
    let c = cleared_within h in
    search ended_fits

-- the records get a serial that a lane may hold
numbered_within : (max n : ℕ) (o : Out) → n ≤ max_serial → OutWithin max o → OutWithin max (numbered n o)
numbered_within max n o h w = search

pub serials_within : {p : Settings} {b : Burst} (n : ℕ) → n ≤ max_serial → BurstWithin p b → BurstWithin p (with_serials n n b)
serials_within {p} {b} n h w =
    search numbered_within
