-- Every row of the examples holds, by computation from the definitions that the contracts cite.
use mathlib.Core.Path.{refl}
use Rattle.pulses.specs.Ran.{ran}
use Rattle.pulses.specs.Examples.{shown, shown_in, Right, table}

pub shown_right : Right table
unfolding shown shown_in ran
shown_right = refl
