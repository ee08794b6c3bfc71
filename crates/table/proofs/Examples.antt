-- Entries worked out from the rule: the first, the last, and where 180 ends.
use mathlib.Core.Path.{◌≡◌, refl}
use mathlib.Core.List.{[], ◌∷◌, map}
use Rattle.table.specs.Rule.{largest, entry_of}

pub examples : map entry_of (255 ∷ 256 ∷ 511 ∷ 512 ∷ 1023 ∷ 1024 ∷ []) ≡ (0 ∷ 128 ∷ 180 ∷ 181 ∷ 255 ∷ 0 ∷ [])
unfolding largest entry_of
examples = refl
