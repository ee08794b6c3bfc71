-- The answer of a lane among others, made from the one that it gives alone: refusal 12 stands in the place of what it comes before.
use Rattle.std.specs.Prelude.{ℕ, Bool, true, false, cond, ◌&&◌, eqb, leb, Result, Ok, Err}
use Rattle.shared.specs.declared.Next.{Next}
use Rattle.lane.specs.declared.Lane.{Lane}
use Rattle.lane.specs.declared.Answer.{Answer}
use Rattle.lane.specs.Answers.{Reply}
use Rattle.refusals.specs.Order.{number_of}
use Rattle.refusals.specs.declared.Refusal.TheVariants as refusal
use Rattle.lane.specs.Step.{refuse}
use Rattle.commands.specs.Command.{Found}
use Rattle.commands.specs.declared.Command.TheVariants.{Open, OpenCarry, Begin, Step, Close}
use Rattle.among.specs.Among.{places}

abbrev pub is_begin_of : Found → Bool
is_begin_of (Ok (Open s)) = false
is_begin_of (Ok (OpenCarry s)) = false
is_begin_of (Ok (Begin b)) = true
is_begin_of (Ok (Step s)) = false
is_begin_of (Ok Close) = false
is_begin_of (Err m) = false

-- begin's replies that refusal 12 comes before: an accepted begin's, and refusal 8 ("it comes after 7, before 8"). Of refusals of any type, where
-- `number` tells the number of each
abbrev pub late_by : {E : Type 0} → (E → ℕ) → Result Next E → Bool
late_by number (Err k) = eqb (number k) 8
late_by number (Ok n) = true

abbrev pub late_of : Reply → Bool
late_of r = late_by number_of r

-- the answer to k of a lane l that answers a alone, n others being out of idle
unfoldable pub settled_of : ℕ → Found → Lane → Answer → Answer
settled_of n k l a = cond (is_begin_of k && (leb places n && late_of a.reply)) (refuse refusal.Places l) a

-- the same of a reply with its lane and refusals of any type, `twelve` being refusal 12
unfoldable pub settled_by : {E : Type 0} → (E → ℕ) → E → ℕ → Found → Lane → Result Next E × Lane → Result Next E × Lane
settled_by number twelve n k l a = cond (is_begin_of k && (leb places n && late_by number a.0)) (Err twelve, l) a
