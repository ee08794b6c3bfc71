-- The buffers as the commands of a stream leave them.
use Rattle.std.specs.Prelude.{ℕ, ◌+◌, ◌<◌, ◌≤◌, ◌≡◌, List, ◌++◌, length, take, drop}
use Rattle.lane.specs.declared.Lane.{Lane}
use Rattle.lane.specs.Step.{new_lane}
use Rattle.commands.specs.Command.{decoded, size_of}
use Rattle.lines.specs.Line.{call_room}
use Rattle.calls.specs.Turn.{State, most_of}
use Rattle.stream.specs.Machine.{Turns}
use Rattle.calls.specs.Stream.{machine, listing}

-- the commands in the first n bytes, from the lane that never had settings on, leave the buffers x and y where ook and fsk were lent
pub record Left (s : List ℕ) (n : ℕ) (ook fsk x y : List ℕ) : Type 0 where
  pub lane : Lane
  pub inside : n ≤ length s
  pub leads : Turns machine (new_lane, ook, fsk) s n (lane, x, y)

-- the stream ends at n: nothing is left there, or no command whose bytes are all there
abbrev pub EndsAt : List ℕ → ℕ → Type 0
EndsAt s n = size_of (decoded (drop n s)) ≡ 0

-- the commands up to the end of the stream
pub record LeftWhole (s : List ℕ) (n : ℕ) (ook fsk x y : List ℕ) : Type 0 where
  pub left : Left s n ook fsk x y
  pub ended : EndsAt s n

-- where the calls stop whose lines a text takes: where the stream ends; or, before it does, where after the lines so far the text has fewer
-- bytes left than the lines of a call may take
pub data Stops (p q : State) (s : List ℕ) (n : ℕ) (text : List ℕ) : Type 0 where
  ended : EndsAt s n → Stops p q s n text
  no_room : (at : ℕ) → at ≤ length text → take at text ++ listing q (drop n s) ≡ listing p s → length text < at + call_room (most_of q) → Stops p q s n text

pub record LeftWithin (s : List ℕ) (n : ℕ) (ook fsk x y text : List ℕ) : Type 0 where
  pub left : Left s n ook fsk x y
  pub stops : Stops (new_lane, ook, fsk) (left.lane, x, y) s n text
