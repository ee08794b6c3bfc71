use Prim.Native.Nat.{◌*◌}
use lib.ListN.{take}
use Rattle.lines.specs.Line.{widths}
use Rattle.lines.specs.Text.{Puts}
use Rattle.lines.proofs.Text.put_widths.Given as goal

abbrev pub invariant-loop-w : goal.invariant-loop-w
invariant-loop-w l = Puts (widths (take l.w-index l.part)) (21 * l.w-index) l.fn.self l.self
