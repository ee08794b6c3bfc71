use mathlib.Core.Path.{◌≡◌}
use mathlib.Core.List.{◌++◌}
use lib.ListN.{length, drop}
use Rattle.lines.specs.Line.{leading}
use Rattle.lines.specs.Line.{decimal}
use Rattle.lines.proofs.spell.Given as goal

abbrev pub invariant-loop-i : goal.invariant-loop-i
invariant-loop-i l = (leading l.i l.rest ++ drop l.i l.out ≡ decimal l.n) × (length l.out ≡ 20)
