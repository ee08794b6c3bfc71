-- The glyphs of the digits from the eighth down to k.
use Rattle.std.proofs.Common.{◌-◌}
use lib.ListN.{take}
use Rattle.lines.specs.Line.{hex8}
use Rattle.lines.specs.Text.{Puts}
use Rattle.lines.proofs.Text.put_float.Given as goal

abbrev pub invariant-loop-k : goal.invariant-loop-k
invariant-loop-k l = Puts (take (8 - l.k) (hex8 l.n)) (8 - l.k) l.initial.self l.self
