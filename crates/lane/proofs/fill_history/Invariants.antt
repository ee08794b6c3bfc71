use Prim.Native.Nat.{◌+◌}
use mathlib.Core.Path.{◌≡◌}
use lib.ListN.{drop, length}
use Rattle.lane.specs.Begin.{history_of}
use Rattle.lane.proofs.Fills.{back_from}
use Rattle.lane.proofs.fill_history.Given as goal

abbrev pub invariant-loop-i : goal.invariant-loop-i
invariant-loop-i l = (length l.e-items ≡ 7) × (back_from l.ring l.index (1 + l.i) (drop l.i l.e-items) ≡ history_of l.initial.ring l.index l.fn.h)
