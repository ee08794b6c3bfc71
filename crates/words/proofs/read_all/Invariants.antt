use Prim.Native.Nat.{◌*◌, ◌-◌, ◌≤◌}
use lib.ListN.{length, take, drop}
use mathlib.Core.List.{◌++◌}
use mathlib.Core.Path.{◌≡◌}
use Rattle.words.specs.Words.{decode}
use Rattle.words.proofs.read_all.Given as goal

abbrev pub invariant-loop-i : goal.invariant-loop-i
invariant-loop-i l = (take l.i l.buf ++ decode (drop (4 * l.i) l.bytes) ≡ decode l.bytes) × (length l.buf ≡ length l.initial.buf) × (l.i ≤ length l.buf)

abbrev pub decreases-loop-i : goal.decreases-loop-i
decreases-loop-i l = length l.buf - l.i
