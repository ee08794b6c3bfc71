-- The widths written so far and those of the rest are the whole list's.
use Rattle.grid.proofs.Writes.{write_turn, write_end}
use Rattle.arith.specs.declared.Steps.{Steps}
use Rattle.ieee.specs.Rounding.{round_of}
use Rattle.arith.specs.Leaves.{width_of}
use lib.Ieee.{Float}
use Prim.Native.Nat.{ℕ}
use mathlib.Core.Path.{refl, ap, ◌∙◌}
use Rattle.fit.specs.Slots.{time_of, fix}
use Rattle.grid.specs.Widths.{measured_of}
use Rattle.grid.proofs.measured.Goals as goal

pub loop-v-preserved : goal.loop-v-preserved
unfolding measured_of
loop-v-preserved c =
    write_turn c.loop-v.invariant (λ (b : Float) (v : ℕ). round_of (time_of (fix v))) (λ (b r : Float). (width_of b r).0) (λ v vs. refl)
    c.loop-v-test.true (c.round-r.ensures ∙ ap round_of c.time_of.ensures) (ap (λ (s : Steps). s.0) c.width.ensures)

pub returns : goal.returns
unfolding measured_of
returns c = write_end c.loop-v.invariant refl c.loop-v-test.false
