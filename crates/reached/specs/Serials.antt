-- Document 02, R-6: "a reopened lane never repeats a serial". Over every list of openings, begins, steps and closes, refused ones among them, the
-- accepted calls are counted 1, 2, 3, ..: so no two of them have the same serial.
use Rattle.std.specs.Prelude.{ℕ, zero, suc, ◌+◌, ◌<◌, Bool, true, cond, not, ◌≡◌, List, [], ◌∷◌, ◌++◌, eqb, length, get_or}
use Rattle.shared.specs.declared.Settings.{Settings}
use Rattle.lane.specs.declared.Answer.{Answer}
use Rattle.lane.specs.declared.BeginArgs.{BeginArgs}
use Rattle.lane.specs.declared.Lane.{Lane}
use Rattle.lane.specs.declared.StepArgs.{StepArgs}
use Rattle.lane.specs.Answers.{reply_number_of}
use Rattle.lane.specs.Part.{named_of, part_of}
use Rattle.lane.specs.Step.{new_lane, opened, begun, stepped, closed}

-- a call, with any OOK and FSK buffer
pub data Call : Type 0 where
  opening : Settings → Call
  begin : BeginArgs → List ℕ → List ℕ → Call
  step : StepArgs → List ℕ → List ℕ → Call
  close : List ℕ → List ℕ → Call

abbrev pub answer_to : Lane → Call → Answer
answer_to l (opening p) = opened l p
answer_to l (begin b ook fsk) = begun l b ook fsk
answer_to l (step s ook fsk) = (stepped l s ook fsk).0
answer_to l (close ook fsk) = (closed l ook fsk).0

-- it is accepted where it does not answer by a refusal, 3
abbrev pub accepted : Answer → Bool
accepted a = not (eqb (reply_number_of a.reply) 3)

-- the serials of the accepted calls of a list, in order
unfoldable pub serials : Lane → List Call → List ℕ
serials l [] = []
serials l (c ∷ cs) =
    let a : Answer = answer_to l c in
    cond (accepted a) (a.lane.serial ∷ []) [] ++ serials a.lane cs

-- n, n + 1, .., as many as k
unfoldable pub count_from : ℕ → ℕ → List ℕ
count_from n zero = []
count_from n (suc k) = n ∷ count_from (n + 1) k

-- from the lane that never had settings they are 1, 2, 3, ..
abbrev pub Counted : Type 0
Counted = (cs : List Call) → serials new_lane cs ≡ count_from 1 (length (serials new_lane cs))

-- so two accepted calls with the same serial are one
abbrev pub NoTwoAlike : Type 0
NoTwoAlike = (cs : List Call) (i j : ℕ) → i < length (serials new_lane cs) → j < length (serials new_lane cs) → get_or (serials new_lane cs) i 0 ≡ get_or (serials new_lane cs) j 0 → i ≡ j

-- an accepted call puts its serial in both records, "those that decide nothing too"
pub record InBoth (l : Lane) : Type 0 where
  pub ook : l.burst.out_ook.serial ≡ l.serial
  pub fsk : l.burst.out_fsk.serial ≡ l.serial

-- so the lane that an accepted call returns gives the parts that its records name, whatever the buffers
abbrev pub BothFetched : Type 0
BothFetched = (l : Lane) (c : Call) (ook fsk : List ℕ) → accepted (answer_to l c) ≡ true →
    let m : Lane = (answer_to l c).lane in
    (part_of m m.burst.out_ook ook fsk ≡ named_of m.burst.out_ook ook fsk) × (part_of m m.burst.out_fsk ook fsk ≡ named_of m.burst.out_fsk ook fsk)
