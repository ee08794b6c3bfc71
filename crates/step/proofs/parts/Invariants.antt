use Rattle.step.specs.Core.{reals_of, imaginaries_of}
use Rattle.step.proofs.Fills.{Filled}
use Rattle.step.proofs.parts.Given as goal

abbrev pub invariant-loop-i : goal.invariant-loop-i
invariant-loop-i l = Filled 17 (reals_of l.x-items) l.re l.i × Filled 17 (imaginaries_of l.x-items) l.im l.i
