-- The laws of specs/Orderly, where the beginning of a command is waited for.
use Prim.Native.Nat.{ℕ, ◌<◌}
use mathlib.Core.Bool.{true, false}
use mathlib.Core.Path.{◌≡◌, refl, ◌∙◌, ap}
use mathlib.Core.List.{List}
use lib.ListN.{length, drop}
use Rattle.commands.specs.Command.{Found, decoded}
use Rattle.commands.specs.Stream.{whole}
use Rattle.stream.specs.Machine.{Orderly}
use Rattle.stream.proofs.Taken.{some_left}
use Rattle.calls.specs.Turn.{waits}
use Rattle.calls.specs.Stream.{machine}
use Rattle.calls.specs.Orderly.{waits_whole_if, orderly_if}

pub waits_whole : (k : Found) → waits false k ≡ false → whole k ≡ true
waits_whole = waits_whole_if refl

pub orderly : Orderly machine
orderly = orderly_if refl

-- where a byte is, a command is there
pub bytes_there : (s : List ℕ) (from : ℕ) (k : Found) → from < length s → k ≡ decoded (drop from s) → waits true k ≡ false
bytes_there s from k inside is_k = ap (waits true) is_k ∙ some_left machine orderly s from inside
