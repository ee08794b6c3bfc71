-- Little-endian numbers in bytes (document 01, "Commands").
use Rattle.std.specs.Prelude.{ℕ, ◌+◌, ◌*◌, ◌/◌, ◌%◌, ◌<◌, cond, List, [], ◌∷◌, ◌++◌, length, get_or, eqb, Float}
use Rattle.std.proofs.lemmas.List.Edits.{sets}
use Rattle.std.specs.Float.{binary32}
use Rattle.std.specs.Float.Ieee.{of_bits, to_bits}

-- ---- read

-- the number of four bytes, the least significant first
abbrev pub joined : ℕ → ℕ → ℕ → ℕ → ℕ
joined a b c d = a + b * 0x100 + c * 0x1_0000 + d * 0x100_0000

-- the four bytes from i on; a byte past the end counts as 0
unfoldable pub u32_at : List ℕ → ℕ → ℕ
u32_at o i = joined (get_or o i 0) (get_or o (i + 1) 0) (get_or o (i + 2) 0) (get_or o (i + 3) 0)

-- the eight bytes from i on
unfoldable pub u64_at : List ℕ → ℕ → ℕ
u64_at o i = u32_at o i + u32_at o (i + 4) * 0x1_0000_0000

-- the float of the four bytes from i on: `nan` for every pattern of a NaN
abbrev pub f32_at : List ℕ → ℕ → Float
f32_at o i = of_bits binary32 (u32_at o i)

-- the words of bytes
unfoldable pub decode : List ℕ → List ℕ
decode [] = []
decode (a ∷ []) = []
decode (a ∷ b ∷ []) = []
decode (a ∷ b ∷ c ∷ []) = []
decode (a ∷ b ∷ c ∷ d ∷ rest) = joined a b c d ∷ decode rest

-- ---- written

-- the four bytes of a number
abbrev pub word : ℕ → List ℕ
word n = (n % 0x100) ∷ (n / 0x100 % 0x100) ∷ (n / 0x1_0000 % 0x100) ∷ (n / 0x100_0000 % 0x100) ∷ []

-- the eight bytes of a number
abbrev pub word64 : ℕ → List ℕ
word64 n = word (n % 0x1_0000_0000) ++ word (n / 0x1_0000_0000)

-- the four bytes of a float
abbrev pub float : Float → List ℕ
float x = word (to_bits binary32 x)

-- the bytes of words
unfoldable pub encode : List ℕ → List ℕ
encode [] = []
encode (v ∷ vs) = word v ++ encode vs

-- the word v written at p
unfoldable pub put_at : List ℕ → ℕ → ℕ → List ℕ
put_at l p v = sets l p (word v)

-- ---- whole lists, in bytes of exactly their length; otherwise nothing changes

-- the words of the bytes in place of those of a buffer
unfoldable pub read_of : List ℕ → List ℕ → List ℕ
read_of bytes buf = cond (eqb (length bytes) (4 * length buf)) (decode bytes) buf

-- the bytes of the words in place of some bytes
unfoldable pub written_of : List ℕ → List ℕ → List ℕ
written_of bytes buf = cond (eqb (length bytes) (4 * length buf)) (encode buf) bytes

-- the numbers of four bytes
abbrev pub Word : ℕ → Type 0
Word n = n < 0x1_0000_0000
