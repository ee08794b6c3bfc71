use Rattle.std.proofs.Common.{◌≡◌, ◌-◌}
use Rattle.frame_end.specs.Cut.{keep_from, keep_before_of}
use Rattle.frame_end.proofs.keep_before.Given as goal

abbrev pub invariant-loop-k : goal.invariant-loop-k
invariant-loop-k l = keep_from l.ook l.n l.limit (l.total - l.k) l.k l.s ≡ keep_before_of l.ook l.n l.total l.from l.limit
