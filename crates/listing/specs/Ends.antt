-- What the program's passes lead to (crates/input/specs/Passes.antt): `listing_prints` in proofs/Laws says what a run has printed.
use Rattle.std.specs.Prelude.{Bool}
use Rattle.calls.specs.Turn.{State}
use Rattle.calls.specs.Stream.{machine, at_first}
use Rattle.input.specs.Passes.{Runs}

-- after the last pass: some lane is left, with its buffers
pub record Ends (whole : Bool) : Type 0 where
  pub left : State
  pub runs : Runs machine at_first left whole
