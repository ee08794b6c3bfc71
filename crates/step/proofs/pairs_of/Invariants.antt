use mathlib.Core.Path.{◌≡◌}
use lib.ListN.{length}
use Rattle.step.specs.Core.{zip_of}
use Rattle.step.proofs.Fills.{Filled}
use Rattle.step.proofs.pairs_of.Given as goal

abbrev pub invariant-loop-i : goal.invariant-loop-i
invariant-loop-i l = Filled 17 (zip_of l.x-items l.im) l.xs l.i × (length l.x-items ≡ length l.im)
