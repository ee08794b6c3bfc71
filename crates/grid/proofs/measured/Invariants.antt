use Rattle.grid.proofs.Writes.{Written}
use Rattle.grid.specs.Widths.{measured_of}
use Rattle.grid.proofs.measured.Given as goal

abbrev pub invariant-loop-v : goal.invariant-loop-v
invariant-loop-v l = Written measured_of l.initial.before l.initial.v-items l.v-items l.before l.v-index
