-- What a command does, and the lines that it prints (document 01, "Commands").
use Rattle.std.specs.Prelude.{ℕ, ◌*◌, ◌≤◌, Bool, true, false, cond, not, List, [], ◌++◌, length, take, min, max, Result, Ok, Err, is_err}
use Rattle.shared.specs.declared.Next.{Next}
use Rattle.shared.specs.declared.Next.TheVariants.{Stay}
use Rattle.shared.specs.declared.Out.{Out}
use Rattle.refusals.specs.declared.Refusal.TheVariants as refusal
use Rattle.refusals.specs.Order.{number_of}
use Rattle.lane.specs.declared.Lane.{Lane}
use Rattle.lane.specs.declared.Answer.{Answer}
use Rattle.lane.specs.Answers.{Reply}
use Rattle.lane.specs.Step.{opened, begun, stepped, closed}
use Rattle.lane.specs.Part.{part_of}
use Rattle.commands.specs.Command.{Found}
use Rattle.commands.specs.declared.Command.TheVariants.{Open, OpenCarry, Begin, Step, Close}
use Rattle.commands.specs.declared.Missing.{Missing}
use Rattle.commands.specs.declared.Missing.TheVariants as missing
use Rattle.lines.specs.Line.{record_line, call_text, max_slots}

-- a lane with its OOK and its FSK buffer
abbrev pub State : Type 0
State = Lane × List ℕ × List ℕ

-- an answer, with the buffers as the call leaves them
abbrev pub Called : Type 0
Called = Answer × List ℕ × List ℕ

-- an answer that changes nothing
abbrev pub unchanged : Reply → State → Called
unchanged r p = (record { reply = r; lane = p.0 }, p.1, p.2)

-- the reply to what is no command: nothing happens where nothing is left, and bytes that are none meet refusal 1 or 2
abbrev pub missed : Missing → Reply
missed missing.End = Ok Stay
missed missing.Unknown = Err refusal.Unknown
missed missing.Short = Err refusal.Short

-- the answer to a command
unfoldable pub called : State → Found → Called
called p (Ok (Open s)) = (opened p.0 s, p.1, p.2)
called p (Ok (OpenCarry s)) = (opened p.0 s, p.1, p.2)
called p (Ok (Begin b)) = (begun p.0 b p.1 p.2, p.1, p.2)
called p (Ok (Step s)) = stepped p.0 s p.1 p.2
called p (Ok Close) = closed p.0 p.1 p.2
called p (Err m) = unchanged (missed m) p

-- the lane and the buffers after a call
abbrev pub next : Called → State
next c = (c.0.lane, c.1, c.2)

-- the part of a record that a call prints, fetched by the lane that it returned: none where it is refused, whatever the lane still holds
abbrev pub shown_of : {E : Type 0} → Result Next E → Lane → Out → List ℕ → List ℕ → List ℕ
shown_of r l o ook fsk = cond (is_err r) (take 0 ook) (part_of l o ook fsk)

-- the line of a record of the lane, with its part of the buffers
abbrev pub record_text : Lane → Out → List ℕ → List ℕ → List ℕ
record_text l o ook fsk = record_line o (part_of l o ook fsk)

-- a reply, a refusal by its number
abbrev pub by_number : Reply → Result Next ℕ
by_number (Ok n) = Ok n
by_number (Err k) = Err (number_of k)

-- the lines of a reply with the two records of the lane. A phase line has the lane's last index: that of the step which ends a burst, and
-- of the last begin or step where a close does (R-13)
unfoldable pub answer_text : Reply → Lane → List ℕ → List ℕ → List ℕ
answer_text r l ook fsk = call_text (by_number r) (record_text l l.burst.out_fsk ook fsk ++ record_text l l.burst.out_ook ook fsk) l.last

-- the lines of a call
abbrev pub called_text : Called → List ℕ
called_text c = answer_text c.0.reply c.0.lane c.1 c.2

-- what a command prints: nothing where there is none
abbrev pub text_of : Found → Called → List ℕ
text_of (Ok k) c = called_text c
text_of (Err missing.End) c = []
text_of (Err missing.Unknown) c = called_text c
text_of (Err missing.Short) c = called_text c

-- ---- when a command is made

-- a command is waited for where nothing is left, and where only its beginning is there and more may come: where `last` is false
abbrev pub waits : Bool → Found → Bool
waits last (Ok k) = false
waits last (Err missing.End) = true
waits last (Err missing.Unknown) = false
waits last (Err missing.Short) = not last

-- the most slots of a part that a call prints: two for each pulse of the settings, and no more than the larger buffer has. Settings above
-- document 01's 65,536 pulses are refused, and a refused call prints no record
unfoldable pub slots_of : ℕ → ℕ → ℕ → ℕ
slots_of pulses ook fsk = min (min (2 * pulses) (max ook fsk)) max_slots

abbrev pub most_of : State → ℕ
most_of p = slots_of p.0.settings.max_pulses (length p.1) (length p.2)

-- ---- the parts that a call prints

-- both parts that a call prints have at most `most` slots
pub record Shown (c : Called) (most : ℕ) : Type 0 where
  pub fsk_shown : length (shown_of c.0.reply c.0.lane c.0.lane.burst.out_fsk c.1 c.2) ≤ most
  pub ook_shown : length (shown_of c.0.reply c.0.lane c.0.lane.burst.out_ook c.1 c.2) ≤ most
