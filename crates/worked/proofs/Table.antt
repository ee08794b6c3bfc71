use mathlib.Core.Path.{refl}
use Rattle.worked.specs.Text.{bytes}
use Rattle.worked.specs.Worked.{answer, Right, table}

pub worked : Right table
unfolding answer bytes
worked = refl
