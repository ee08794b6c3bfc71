-- What refusal 4 of document 01 asks of a burst, so told that calls keep it: flags are 0 or 1, pairs plus open at most max_pulses, candidates below
-- fsk_min before the first transition. The counts of a frame have no limit of their own: its presence does, which ends at long_steps, and a frame has at
-- most one counted sample and two committed runs for each sample of its presence.
use Rattle.std.specs.Prelude.{ℕ, ◌+◌, ◌*◌, ◌<◌, ◌≤◌, ◌≡◌}
use Rattle.run.specs.Limits.{RunWithin}
use Rattle.fsk.specs.declared.Committed.{Committed}
use Rattle.fsk.specs.declared.Runs.{Runs}
use Rattle.fsk.specs.Types.{Frame}
use Rattle.presence.specs.declared.Pres.{Pres}
use Rattle.shared.specs.Params.{fsk_min_of}
use Rattle.shared.specs.declared.Settings.{Settings}
use Rattle.burst.specs.Types.{Burst}
use Rattle.ook.specs.Limits.{EnvWithin, TrainWithin, OutWithin}

-- the most runs of a frame whose presence ended at long + 1 samples: two for each, and one that its end commits
abbrev pub most_runs : ℕ → ℕ
most_runs long = 2 * (long + 1) + 1

-- at most m runs are committed
pub record CommittedWithin (max m : ℕ) (c : Committed) : Type 0 where
  pub open_flag : c.fsk_open ≤ 1
  pub full_flag : c.fsk_full ≤ 1
  pub pairs : c.fsk_n + c.fsk_open ≤ max
  pub runs_most : c.fsk_runs ≤ m

pub record RunsWithin (r : Runs) : Type 0 where
  pub run_within : RunWithin r.run
  pub has_prev_flag : r.fsk_has_prev ≤ 1

-- fsk_cnt is at most k
pub record FrameWithin (max least k m : ℕ) (fr : Frame) : Type 0 where
  pub phase_flag : fr.fsk_phase ≤ 1
  pub early_flag : fr.early.early ≤ 1
  pub candidates : fr.fsk_phase ≡ 0 → fr.cand.fsk_cand < least
  pub count : fr.mean.fsk_cnt ≤ k
  pub runs_within : RunsWithin fr.runs
  pub done_within : CommittedWithin max m fr.done

abbrev pub PresWithin : Pres → Type 0
PresWithin s = RunWithin s.run

-- presence and frame of a burst under way, for bounds max on the pairs, least on the candidates and long on the presence
pub record Running (max least long : ℕ) (s : Pres) (fr : Frame) : Type 0 where
  pub flags : PresWithin s
  pub most : FrameWithin max least (long + 1) (most_runs long) fr
  pub present : s.run.level ≡ 1 → (s.run.run_len ≤ long) × FrameWithin max least s.run.run_len (2 * s.run.run_len) fr
  pub absent : s.run.level ≡ 0 → s.run.confirmed ≡ 0 → (s.run.prev_len ≤ long) × FrameWithin max least s.run.prev_len (2 * s.run.prev_len) fr

-- pairs plus open are at most max, whatever the count of runs
abbrev pub Paired : ℕ → Committed → Type 0
Paired max c = CommittedWithin max c.fsk_runs c

-- the envelope's run, the pulses, the frame's pairs and both records, which have at most max pairs
pub record BurstFits (max : ℕ) (b : Burst) : Type 0 where
  pub env_within : EnvWithin b.env
  pub train_within : TrainWithin max b.train
  pub ook_within : OutWithin max b.out_ook
  pub fsk_within : OutWithin max b.out_fsk
  pub pairs : Paired max b.frame.done

-- a burst at all times, ended or not
pub record BurstWithin (p : Settings) (b : Burst) : Type 0 where
  pub fits : BurstFits p.max_pulses b
  pub pres_within : PresWithin b.pres
  pub frame_within : FrameWithin p.max_pulses (fsk_min_of p.min_steps) (p.long_steps + 1) (most_runs p.long_steps) b.frame

-- a burst under way
abbrev pub UnderWay : Settings → Burst → Type 0
UnderWay p b = Running p.max_pulses (fsk_min_of p.min_steps) p.long_steps b.pres b.frame
