-- What refusal 4 of document 01 asks of a run: its flags are 0 or 1.
use Rattle.std.specs.Prelude.{◌≤◌}
use Rattle.run.specs.declared.Run.{Run}

pub record RunWithin (r : Run) : Type 0 where
  pub level_flag : r.level ≤ 1
  pub confirmed_flag : r.confirmed ≤ 1
