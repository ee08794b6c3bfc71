-- What the program's passes lead to (crates/input/specs/Passes.antt): `antennas_prints` in proofs/Laws says what a run has printed.
use Rattle.std.specs.Prelude.{Bool}
use Rattle.among.specs.Among.{Lanes}
use Rattle.input.specs.Passes.{Runs}
use Rattle.sixteen.specs.Sixteen.{machine, at_first}

-- after the last pass: some lanes are left, with their buffers
pub record Ends (whole : Bool) : Type 0 where
  pub left : Lanes
  pub runs : Runs machine at_first left whole
