use Prim.Native.Nat.{◌-◌}
use mathlib.Core.Path.{◌≡◌}
use Rattle.ook.specs.Refine.{best_split_of, split_from}
use Rattle.ook.proofs.best_split.Given as goal

abbrev pub invariant-loop-j : goal.invariant-loop-j
invariant-loop-j l = split_from l.ring l.t l.on (l.j - l.lo) l.j l.sum l.best l.split ≡ best_split_of l.ring l.t l.on l.lo l.idx
