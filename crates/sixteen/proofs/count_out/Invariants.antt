use mathlib.Core.List.{map}
use Rattle.step.proofs.Fills.{Filled}
use Rattle.sixteen.proofs.Turns.{lane_in}
use Rattle.sixteen.proofs.count_out.Given as goal

abbrev pub invariant-loop-i : goal.invariant-loop-i
invariant-loop-i l = Filled 16 (map lane_in l.channels) l.lanes l.i
