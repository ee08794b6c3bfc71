-- What the listing program prints: the blocks of a run that is over are those of the whole stream.
use mathlib.Core.Bool.{true}
use mathlib.Core.Path.{◌≡◌, refl}
use mathlib.Core.List.{List, ◌++◌}
use Prim.Native.Nat.{ℕ}
use Rattle.stream.specs.Machine.{May}
use Rattle.stream.proofs.Printed.{program_prints}
use Rattle.calls.specs.Stream.{machine, listing_of}
use Rattle.calls.proofs.Orderly.{orderly}
use Rattle.listing.specs.Ends.{Ends}

-- from a new lane with buffers of zeros, a run that is over has printed the listing of what it read, whatever comes after its end
pub listing_prints : (r : Ends true) (t : List ℕ) → May r.runs.last t → r.runs.printed ≡ listing_of (r.runs.read ++ t)
unfolding listing_of
listing_prints r t may = program_prints machine orderly r.runs.blocks (r.runs.over refl) t may
