-- What the listing program prints of a whole stream of bytes: the lines of its commands, one after another, up to refusal 1 or 2 (`printed_of` in
-- crates/stream/specs/Machine.antt).
use Rattle.std.specs.Prelude.{List, ℕ, replicate}
use Rattle.lane.specs.Step.{new_lane}
use Rattle.commands.specs.Command.{decoded, size_of}
use Rattle.lines.specs.Line.{call_room}
use Rattle.stream.specs.Machine.{Machine, printed_of}
use Rattle.calls.specs.Turn.{State, called, next, text_of, waits, most_of}

-- the program over a stream: the command at the front of the bytes is decoded, and its call made
abbrev pub machine : Machine
machine =
    record {
      State = State;
      size = λ s. size_of (decoded s);
      waits = λ last s. waits last (decoded s);
      next = λ p s. next (called p (decoded s));
      text = λ p s. text_of (decoded s) (called p (decoded s));
      most = λ p s. call_room (most_of p);
    }

abbrev pub listing : State → List ℕ → List ℕ
listing p s = printed_of machine p s

-- what the listing program prints of its input: the lane never had settings, and the buffers hold 2,048 pairs each
abbrev pub at_first : State
at_first = (new_lane, replicate 4096 0, replicate 4096 0)

unfoldable pub listing_of : List ℕ → List ℕ
listing_of s = listing at_first s
