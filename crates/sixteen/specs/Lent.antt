-- Sixteen lanes whose buffers are lent, a row to each.
use Rattle.std.specs.Prelude.{ℕ, ◌≡◌, List, [], ◌∷◌}
use Rattle.among.specs.Among.{Lanes, outs, Sized}
use Rattle.sixteen.specs.declared.LentRows.{LentRows}
use Rattle.sixteen.specs.Spoken.{AllSound}

abbrev pub rows_of : LentRows → Lanes
rows_of r = (r.lanes, r.ook.now, r.fsk.now)

-- which buffers they are
abbrev pub buffers_of : LentRows → List ℕ
buffers_of r = r.ook.ghost_name ∷ r.fsk.ghost_name ∷ []

-- what the sixteen keep from turn to turn: the count beside the lanes is that of those out of idle
pub record RowsSound (r : LentRows) : Type 0 where
  pub sized : Sized (rows_of r)
  pub lanes : AllSound r.lanes
  pub count : r.out ≡ outs r.lanes
