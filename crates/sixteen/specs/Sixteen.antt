-- What the program `antennas` prints (document 02, R-4): the lines of `listing`, each after the antenna's number and a blank. Refusals 1 and 2
-- have no antenna, and end the stream.
use Rattle.std.specs.Prelude.{ℕ, cond, List, [], replicate, ltb, Ok, Err}
use Rattle.lane.specs.declared.Lane.{Lane}
use Rattle.lane.specs.Step.{new_lane}
use Rattle.commands.specs.Command.{Found}
use Rattle.commands.specs.declared.Missing.{Missing}
use Rattle.commands.specs.declared.Missing.TheVariants as missing
use Rattle.lines.specs.Line.{refused_line}
use Rattle.calls.specs.Turn.{Called, record_text, by_number, waits, most_of}
use Rattle.addressed.specs.Addressed.{addressed_of, antenna_of, addressed_size}
use Rattle.tagged.specs.Tagged.{tagged_text, tagged_room}
use Rattle.among.specs.Among.{antennas, Lanes, lane_at, answer_to, after_call}
use Rattle.stream.specs.Machine.{Machine, printed_of}

-- the lines of an antenna's call
unfoldable pub heard_text : ℕ → Called → List ℕ
heard_text i c =
    let l : Lane = c.0.lane in
    tagged_text i (by_number c.0.reply) (record_text l l.burst.out_fsk c.1 c.2) (record_text l l.burst.out_ook c.1 c.2) l.last

-- the lines of what is no command: refusals 1 and 2 have no antenna, and nothing is printed where nothing is left
abbrev pub none_text : Missing → List ℕ
none_text missing.End = []
none_text missing.Unknown = refused_line 1
none_text missing.Short = refused_line 2

-- what a command prints
abbrev pub spoken_text : ℕ → Found → Called → List ℕ
spoken_text i (Ok k) c = heard_text i c
spoken_text i (Err m) c = none_text m

-- the lane that a command reads: where there is no such antenna the first, which stays as it is
abbrev pub row_of : ℕ → ℕ
row_of i = cond (ltb i antennas) i 0

-- the program over a stream
abbrev pub machine : Machine
machine =
    record {
      State = Lanes;
      size = λ s. addressed_size (addressed_of s);
      waits = λ last s. waits last (addressed_of s);
      next = λ p s. after_call p (antenna_of s) (addressed_of s);
      text = λ p s. spoken_text (antenna_of s) (addressed_of s) (answer_to p (antenna_of s) (addressed_of s));
      most = λ p s. tagged_room (most_of (lane_at p (row_of (antenna_of s))));
    }

-- it starts with sixteen lanes that never had settings, and buffers for 2,048 pairs each
abbrev pub slots : ℕ
slots = 4096

abbrev pub at_first : Lanes
at_first = (replicate antennas new_lane, replicate antennas (replicate slots 0), replicate antennas (replicate slots 0))

unfoldable pub antennas_of : List ℕ → List ℕ
antennas_of s = printed_of machine at_first s
