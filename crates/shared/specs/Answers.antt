-- Document 01's number and values for every case of the two enums: what a call asks for (`Next`), and a record's carrier.
use Rattle.std.specs.Prelude.{ℕ, Bool, ◌==◌, Float}
use Rattle.ieee.specs.Constants.{zero32}
use Rattle.shared.specs.declared.Next.{Next}
use Rattle.shared.specs.declared.Next.TheVariants.{Stay, Idle, IdleAt}
use Rattle.shared.specs.declared.Carrier.{Carrier}
use Rattle.shared.specs.declared.Carrier.TheVariants.{Angle, Vector}

-- 0 stay, 1 idle, 2 idle at an envelope
abbrev pub next_number_of : Next → ℕ
next_number_of Stay = 0
next_number_of Idle = 1
next_number_of (IdleAt e) = 2

-- the envelope of the third case, +0 in the others
abbrev pub next_envelope_of : Next → Float
next_envelope_of Stay = zero32
next_envelope_of Idle = zero32
next_envelope_of (IdleAt e) = e

abbrev pub is_stay_of : Next → Bool
is_stay_of n = next_number_of n == 0

-- 0 a vector, 1 an angle
abbrev pub carrier_kind_of : Carrier → ℕ
carrier_kind_of (Angle a) = 1
carrier_kind_of (Vector re im) = 0

-- the angle, or the real sum
abbrev pub carrier_first_of : Carrier → Float
carrier_first_of (Angle a) = a
carrier_first_of (Vector re im) = re

-- the imaginary sum, +0 for an angle
abbrev pub carrier_second_of : Carrier → Float
carrier_second_of (Angle a) = zero32
carrier_second_of (Vector re im) = im
