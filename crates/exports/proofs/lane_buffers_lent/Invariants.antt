use Prim.Native.Nat.{◌-◌, ◌≤◌}
use mathlib.Core.Path.{◌≡◌}
use lib.ListN.{length}
use Rattle.stream.specs.Machine.{Turns}
use Rattle.calls.specs.Stream.{machine}
use Rattle.exports.proofs.lane_buffers_lent.Given as goal

abbrev pub invariant-loop-k : goal.invariant-loop-k
invariant-loop-k l = (l.used ≤ length l.commands) × (length l.ook ≡ length l.initial.ook) × (length l.fsk ≡ length l.initial.fsk) × Turns machine (l.initial.l, l.initial.ook, l.initial.fsk) l.commands l.used (l.l, l.ook, l.fsk)

abbrev pub decreases-loop-k : goal.decreases-loop-k
decreases-loop-k l = length l.commands - l.used
