-- A text as the bytes that a program writes; each character here is one byte.
use Rattle.std.specs.Prelude.{ℕ, List, [] as none, ◌∷◌ as ◌then◌}
use Prim.Native.Char.{code}
use Prim.Native.String.{String, [], ◌∷◌}

unfoldable pub bytes : String → List ℕ
bytes [] = none
bytes (c ∷ s) = ◌then◌ (code c) (bytes s)
