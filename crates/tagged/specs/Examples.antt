-- The lines that document 02's R-4 leads to, as a table: an antenna, a line of the listing, and what is printed.
use Rattle.std.specs.Prelude.{ℕ, ◌≡◌, List, [], ◌∷◌, map}
use Rattle.lines.specs.Line.{idle_line, refused_line}
use Rattle.tagged.specs.Tagged.{tagged}

pub data Row : Type 0 where
  row : ℕ → List ℕ → List ℕ → Row

abbrev pub printed : Row → List ℕ
printed (row i line text) = tagged i line

abbrev pub given : Row → List ℕ
given (row i line text) = text

abbrev pub Right : List Row → Type 0
Right rows = map printed rows ≡ map given rows

abbrev pub table : List Row
table =
    -- `3 idle 19`
    row 3 (idle_line 19) (51 ∷ 32 ∷ 105 ∷ 100 ∷ 108 ∷ 101 ∷ 32 ∷ 49 ∷ 57 ∷ 10 ∷ [])
    -- `16 refused 6`: no lane has the number 16
    ∷ row 16 (refused_line 6) (49 ∷ 54 ∷ 32 ∷ 114 ∷ 101 ∷ 102 ∷ 117 ∷ 115 ∷ 101 ∷ 100 ∷ 32 ∷ 54 ∷ 10 ∷ [])
    -- no line, no tag
    ∷ row 5 [] []
    ∷ []
