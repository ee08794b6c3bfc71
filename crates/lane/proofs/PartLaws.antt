-- Laws of the definitions in specs/Part.
use Prim.Native.Nat.{ℕ, ◌≤◌}
use mathlib.Core.Path.{◌≡◌}
use mathlib.Core.List.{List}
use native.Mathlib.Omega.{arith}
use borrow.Author.Tests.{eq-eqb, ne_eqb}
use Rattle.shared.specs.declared.Out.{Out}
use Rattle.lane.specs.declared.Lane.{Lane}
use Rattle.lane.specs.Part.{named_of, part_of}

-- a record with the lane's serial, as an accepted call returns it, gives the part that it names
pub part_named : (l : Lane) (r : Out) (ook fsk : List ℕ) → r.serial ≡ l.serial → 1 ≤ r.serial → part_of l r ook fsk ≡ named_of r ook fsk
unfolding part_of
part_named l r ook fsk same some = rw (ne_eqb r.serial 0 (λ z. omega arith), eq-eqb r.serial l.serial same)
