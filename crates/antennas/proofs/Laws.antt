-- What the program of sixteen antennas prints: the blocks of a run that is over are those of the whole stream.
use Prim.Native.Nat.{ℕ}
use mathlib.Core.Bool.{true}
use mathlib.Core.Path.{◌≡◌, refl}
use mathlib.Core.List.{List, ◌++◌}
use Rattle.stream.specs.Machine.{May}
use Rattle.stream.proofs.Printed.{program_prints}
use Rattle.sixteen.specs.Sixteen.{machine, antennas_of}
use Rattle.sixteen.specs.Orderly.{orderly}
use Rattle.antennas.specs.Ends.{Ends}

-- from sixteen new lanes with buffers of zeros, a run that is over has printed the lines of what it read, whatever comes after its end
pub antennas_prints : (r : Ends true) (t : List ℕ) → May r.runs.last t → r.runs.printed ≡ antennas_of (r.runs.read ++ t)
unfolding antennas_of
antennas_prints r t may = program_prints machine orderly r.runs.blocks (r.runs.over refl) t may
