use Prim.Native.Nat.{◌*◌, ◌-◌, ◌≤◌}
use lib.ListN.{length, take, drop}
use mathlib.Core.List.{◌++◌}
use mathlib.Core.Path.{◌≡◌}
use Rattle.words.specs.Words.{encode}
use Rattle.words.proofs.write_all.Given as goal

abbrev pub invariant-loop-i : goal.invariant-loop-i
invariant-loop-i l = (take (4 * l.i) l.bytes ++ encode (drop l.i l.buf) ≡ encode l.buf) × (length l.bytes ≡ length l.initial.bytes) × (l.i ≤ length l.buf)

abbrev pub decreases-loop-i : goal.decreases-loop-i
decreases-loop-i l = length l.buf - l.i
