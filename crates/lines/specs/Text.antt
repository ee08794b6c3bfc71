-- What a writer of bytes says of its `Text`, a lent buffer and the place in it where the next byte goes.
use Rattle.std.specs.Prelude.{ℕ, ◌+◌, ◌≤◌, ◌≡◌, List, length}
use Rattle.std.specs.Borrow.{MutBor}
use Rattle.lines.specs.declared.Text.{Text}
use Rattle.lines.specs.Line.{Put}

-- the buffer has n more bytes
abbrev pub RoomFor : ℕ → Text → Type 0
RoomFor n t = t.at + n ≤ length t.bytes.now

-- a text in a buffer that is lent, at a place of it
pub record Begins (bytes : MutBor (List ℕ)) (at : ℕ) (t : Text) : Type 0 where
  pub same : t.bytes.ghost_name ≡ bytes.ghost_name
  pub held : t.bytes.now ≡ bytes.now
  pub place : t.at ≡ at

-- the bytes w, at most so many, are put at the place, and the place is after them; the buffer is the same, and as long
pub record Puts (w : List ℕ) (most : ℕ) (s t : Text) : Type 0 where
  pub same : t.bytes.ghost_name ≡ s.bytes.ghost_name
  pub long : length t.bytes.now ≡ length s.bytes.now
  pub put : Put w most s.at s.bytes.now t.at t.bytes.now
