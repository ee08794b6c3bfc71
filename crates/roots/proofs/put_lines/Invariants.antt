-- The lines of the numbers below i stand in the text.
use Rattle.std.proofs.Common.{◌-◌, ◌*◌}
use Rattle.lines.specs.Text.{Puts}
use Rattle.table.specs.Rule.{rule_of}
use Rattle.roots.specs.Text.{lines_of}
use Rattle.roots.proofs.put_lines.Given as goal

abbrev pub invariant-loop-i : goal.invariant-loop-i
invariant-loop-i l = Puts (lines_of rule_of (l.i - 256) 256) (21 * (l.i - 256)) l.initial.t l.t
