use Rattle.grid.proofs.Writes.{Written}
use Rattle.grid.specs.Widths.{on_grid_of}
use Rattle.grid.proofs.on_grid.Given as goal

abbrev pub invariant-loop-v : goal.invariant-loop-v
invariant-loop-v l = Written (on_grid_of l.c) l.initial.p l.initial.v-items l.v-items l.p l.v-index
