-- What a call answers, with document 01's number and values for every case.
use Rattle.std.specs.Prelude.{ℕ, Float, Result, Ok, Err}
use Rattle.ieee.specs.Constants.{zero32}
use Rattle.refusals.specs.declared.Refusal.{Refusal}
use Rattle.refusals.specs.Order.{number_of}
use Rattle.shared.specs.Answers.{next_number_of, next_envelope_of}
use Rattle.shared.specs.declared.Next.{Next}
use Rattle.shared.specs.declared.Next.TheVariants as next
use Rattle.lane.specs.declared.Lane.{Lane}
use Rattle.lane.specs.declared.Answer.{Answer}

-- what an accepted call asks for, or why a call is refused
abbrev pub Reply : Type 0
Reply = Result Next Refusal

-- the number of the refusal, 0 where the call is accepted
abbrev pub refusal_number_of : Reply → ℕ
refusal_number_of (Ok n) = 0
refusal_number_of (Err k) = number_of k

-- what an accepted call answers: 0 stay, 1 idle, 2 idle at an envelope; a refusal answers nothing, 3
abbrev pub reply_number_of : {E : Type 0} → Result Next E → ℕ
reply_number_of (Ok n) = next_number_of n
reply_number_of (Err k) = 3

-- the envelope of idle-at, +0 in the other cases
abbrev pub reply_envelope_of : {E : Type 0} → Result Next E → Float
reply_envelope_of (Ok n) = next_envelope_of n
reply_envelope_of (Err k) = zero32

-- the phase after a sample: 0 idle, 1 lead, 2 burst. Idle and idle-at return the lane to idle
unfoldable pub phase_of : Next → ℕ
phase_of next.Stay = 2
phase_of next.Idle = 0
phase_of (next.IdleAt e) = 0

abbrev pub answer_of : Reply → Lane → Answer
answer_of r l = record { reply = r; lane = l }
