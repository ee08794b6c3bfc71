-- What `roots` prints (document 02, R-7): "A small program prints the table from that rule, one number to a line". Definitions only.
use Rattle.std.specs.Prelude.{ℕ, zero, suc, ◌*◌, ◌≤◌, List, [], ◌∷◌, ◌++◌, ◌≡◌, length, take}
use Rattle.table.specs.Rule.{rule_of}
use Rattle.lines.specs.Line.{decimal}

-- a number in decimal, and a line feed
abbrev pub line : ℕ → List ℕ
line n = decimal n ++ (10 ∷ [])

-- the lines of k numbers, those that f has for i, i + 1, ..
unfoldable pub lines_of : (ℕ → ℕ) → ℕ → ℕ → List ℕ
lines_of f zero i = []
lines_of f (suc k) i = line (f i) ++ lines_of f k (suc i)

abbrev pub printed : List ℕ
printed = lines_of rule_of 768 256

-- the first r bytes of a text are the lines
pub record Printed (r : ℕ) (t : List ℕ) : Type 0 where
  pub inside : r ≤ length t
  pub text : take r t ≡ printed

-- room for as many lines of any number
abbrev pub text_room : ℕ
text_room = 768 * 21
