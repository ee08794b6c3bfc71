-- What the calls ensure, one after the other; widening changes neither operand.
use Rattle.std.proofs.Common.{◌∙◌}
use Rattle.ieee.proofs.Nan.{told}
use Rattle.ieee.proofs.Widening.{widen_keeps}
use Rattle.arith.specs.Leaves.{midpoint_of}
use Rattle.arith.proofs.midpoint.Goals as goal

pub returns : goal.returns
unfolding midpoint_of
returns c =
    let a = c.widen.ensures ∙ widen_keeps _ (told c.well_formed.0.1) in
    let b = c.widen-2.ensures ∙ widen_keeps _ (told c.well_formed.1.0.1) in
    simp (← a, ← b, ← c.narrow.ensures)
