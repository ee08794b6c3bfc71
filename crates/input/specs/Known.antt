-- What a read takes and a write gives where the bytes of the reader and of the writer are known, as those in memory are. Of a pipe nothing is
-- known, and nothing is said.
use Rattle.std.specs.Prelude.{ℕ, Bool, true, ◌≡◌, ◌++◌, List, [], take, Option, IfSome}
use Rattle.std.specs.Io.KnownBytes.{Consumes, Appends, IsAtEnd}

-- a read took the bytes c, and none is left where it says that the input has ended
pub record Took (old new : Option (List ℕ)) (last : Bool) (c : List ℕ) (end : Bool) : Type 0 where
  pub lost : Consumes old new c
  pub over : (last ≡ true → IsAtEnd old) → end ≡ true → IsAtEnd new

-- a write gave the front of a text, and all of it where it did not fail
pub record Gave (old new : Option (List ℕ)) (text : List ℕ) (whole : Bool) : Type 0 where
  pub count : ℕ
  pub grown : Appends old new (take count text)
  pub all : whole ≡ true → take count text ≡ text

-- the front of the lines was written, and all of them where nothing failed
pub record Wrote (old new : Option (List ℕ)) (lines : List ℕ) (whole : Bool) : Type 0 where
  pub written : List ℕ
  pub rest : List ℕ
  pub grown : Appends old new written
  pub front : written ++ rest ≡ lines
  pub all : whole ≡ true → rest ≡ []

-- the lines are those of the reader's bytes
abbrev pub Writes : (List ℕ → List ℕ) → Option (List ℕ) → Option (List ℕ) → Option (List ℕ) → Bool → Type 0
Writes lines_of bytes old new whole = IfSome bytes (λ s. Wrote old new (lines_of s) whole)
