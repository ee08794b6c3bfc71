-- The edges of the numbers, of the span and of the room, computed from the definitions.
use mathlib.Core.Path.{◌≡◌, refl}
use mathlib.Core.List.{[], ◌∷◌}
use lib.Ieee.{nan, binary32, to_bits}
use Rattle.lines.specs.Line.{decimal, leading, hex8, span_of, call_room}

-- 18446744073709551615, and a NaN's bits
pub largest : decimal 18446744073709551615 ≡ 49 ∷ 56 ∷ 52 ∷ 52 ∷ 54 ∷ 55 ∷ 52 ∷ 52 ∷ 48 ∷ 55 ∷ 51 ∷ 55 ∷ 48 ∷ 57 ∷ 53 ∷ 53 ∷ 49 ∷ 54 ∷ 49 ∷ 53 ∷ []
unfolding decimal leading
largest = refl

pub nan_hex : hex8 (to_bits binary32 nan) ≡ 55 ∷ 102 ∷ 99 ∷ 48 ∷ 48 ∷ 48 ∷ 48 ∷ 48 ∷ []
unfolding hex8 to_bits
nan_hex = refl

-- R-2: end minus index; an end that is the index, and an end that is smaller
pub forward : span_of 11 20 ≡ 9
forward = refl

pub at_once : span_of 11 11 ≡ 0
at_once = refl

pub backward : span_of 11 10 ≡ 0
backward = refl

-- two trains of 2,048 pairs each and a phase line
pub longest_call : call_room 4096 ≡ 172400
longest_call = refl
