-- What the functions over a block say of one antenna's lane, whatever the other lanes are: commands of a stream, taken one after another, up to
-- the first that prints or is another antenna's.
use Rattle.std.specs.Prelude.{ℕ, ◌+◌, ◌-◌, ◌<◌, ◌≤◌, Bool, false, cond, ◌≡◌, List, [], ◌∷◌, ◌++◌, length, take, drop, map, ltb}
use Rattle.lane.specs.declared.Lane.{Lane}
use Rattle.lane.specs.Answers.{Reply, answer_of}
use Rattle.reached.specs.Reached.{Sound}
use Rattle.lines.specs.Line.{train_room, has_room}
use Rattle.calls.specs.declared.Past.{Past}
use Rattle.stream.specs.declared.Turned.{Turned}
use Rattle.calls.specs.Turn.{State, Called, unchanged, shown_of, most_of}
use Rattle.calls.specs.Turn.{Shown}
use Rattle.among.specs.Among.{antennas, called_among, Lanes, lane_at, put_at, outs, others_out, no_antenna, Sized}
use Rattle.stream.specs.Blocks.{Passed}
use Rattle.addressed.specs.Addressed.{addressed_of, antenna_of}
use Rattle.sixteen.specs.declared.Asked.{Asked}
use Rattle.sixteen.specs.declared.Channel.{Channel}
use Rattle.sixteen.specs.declared.Antennas.{Antennas}
use Rattle.sixteen.specs.Sixteen.{spoken_text, row_of, machine}

-- sixteen lanes among which antenna i is asked: this is its lane, with its buffers, and so many others are out of idle
pub record Among (all : Lanes) (i others : ℕ) (p : State) : Type 0 where
  pub sized : Sized all
  pub own : lane_at all (row_of i) ≡ p
  pub count : others_out all.0 (row_of i) ≡ others

-- what is asked is the command at a place of s
pub record Stands (a : Asked) (s : List ℕ) (from : ℕ) : Type 0 where
  pub inside : from < length s
  pub command_is : a.command ≡ addressed_of (drop from s)
  pub antenna_is : a.antenna ≡ antenna_of (drop from s)

-- the answer to a command, where it is no step or there is no such antenna
unfoldable pub one_of : Asked → State → Called
one_of a p = cond (ltb a.antenna antennas) (called_among a.others p a.command) (unchanged (no_antenna a.command) p)

-- the commands taken: the lane's part, and what they are among the others
pub record Heard (a : Asked) (p : State) (s : List ℕ) (from : ℕ) (r : Past) (q : State) : Type 0 where
  pub onward : from ≤ r.used
  pub inside : r.used ≤ length s
  pub sound : Sound q.0
  pub shown : Shown (answer_of r.reply q.0, q.1, q.2) (most_of p)
  pub passes : (all : Lanes) → Among all a.antenna a.others p
      → Passed machine all s from r.used (spoken_text a.antenna a.command (answer_of r.reply q.0, q.1, q.2)) (put_at all (row_of a.antenna) q)

-- the most that the lines of a call of an antenna take, by the parts that it shows
abbrev pub spoken_room : Reply → Lane → List ℕ → List ℕ → ℕ
spoken_room r l ook fsk = train_room (length (shown_of r l l.burst.out_fsk ook fsk)) + train_room (length (shown_of r l l.burst.out_ook ook fsk)) + 48 + 63

-- whether a text of len bytes has room at a place for the lines of any call whose parts have at most n slots each
unfoldable pub has_tagged_room : ℕ → ℕ → ℕ → Bool
unfolding has_room
has_tagged_room n len at = cond (ltb len 63) false (has_room n (len - 63) at)

-- the lines of the commands taken stand in the text from `at` on
pub record Told (a : Asked) (p : State) (s : List ℕ) (from at : ℕ) (x : List ℕ) (z : Turned) (q : State) (y : List ℕ) : Type 0 where
  pub onward : from ≤ z.used
  pub inside : z.used ≤ length s
  pub near : z.at ≤ length x
  pub sound : Sound q.0
  pub text : List ℕ
  pub puts : take z.at y ≡ take at x ++ text
  pub passes : (all : Lanes) → Among all a.antenna a.others p → Passed machine all s from z.used text (put_at all (row_of a.antenna) q)

-- ---- the channels

-- a lane with its own buffers
abbrev pub held : Channel → State
held c = (c.lane, c.ook, c.fsk)

-- the lanes, their OOK buffers and their FSK buffers
abbrev pub lanes_of : List Channel → Lanes
lanes_of cs = (map (λ (c : Channel). c.lane) cs, map (λ (c : Channel). c.ook) cs, map (λ (c : Channel). c.fsk) cs)

abbrev pub state_of : Antennas → Lanes
state_of a = lanes_of a.channels

-- every lane is sound
unfoldable pub AllSound : List Lane → Type 0
AllSound [] = Unit {0}
AllSound (l ∷ ls) = Sound l × AllSound ls

-- what the sixteen keep from turn to turn: the count beside the channels is that of the lanes out of idle
pub record IsSound (a : Antennas) : Type 0 where
  pub sized : length a.channels ≡ antennas
  pub lanes : AllSound (state_of a).0
  pub count : a.out ≡ outs (state_of a).0
