-- What refusal 4 of document 01 asks of the run and of the train, and that each definition leads from there to there:
-- flags stay 0 or 1, pulses plus open stay at most max_pulses, and so `inc` never wraps.
use Rattle.std.specs.Prelude.{ℕ, ◌+◌, ◌≤◌}
use Rattle.domain.specs.Limits.{max_bound, max_serial}
use Rattle.run.specs.Limits.{RunWithin}
use Rattle.ook.specs.declared.Env.{Env}
use Rattle.ook.specs.declared.Train.{Train}
use Rattle.shared.specs.declared.Out.{Out}
use Rattle.ook.specs.Types.{Done}

pub record EnvWithin (s : Env) : Type 0 where
  pub run_within : RunWithin s.run
  pub pending_flag : s.ref_pending ≤ 1

pub record TrainWithin (max : ℕ) (t : Train) : Type 0 where
  pub started_flag : t.started ≤ 1
  pub open_flag : t.«open» ≤ 1
  pub truncated_flag : t.truncated ≤ 1
  pub pulses : t.ook_n + t.«open» ≤ max
  pub bounded : t.bound ≤ max_bound

pub record OutWithin (max : ℕ) (o : Out) : Type 0 where
  pub state_flag : o.state ≤ 1
  pub cut_flag : o.cut ≤ 1
  pub kind_flag : o.fsk ≤ 1
  pub room : o.pairs ≤ max
  pub numbered : o.serial ≤ max_serial

-- the train

pub record DoneWithin (max : ℕ) (d : Done) : Type 0 where
  pub train_within : TrainWithin max d.train
  pub out_within : OutWithin max d.out
