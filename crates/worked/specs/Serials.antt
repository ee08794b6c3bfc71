-- Document 02, R-6 and R-13, in rows: which calls refusal 13 meets and in which order, the serials that an accepted call leaves, and which record
-- gives its part to which lane.
use Rattle.std.specs.Prelude.{ℕ, ◌+◌, ◌-◌, ◌^◌, ◌≡◌, List, [], ◌∷◌, map, replicate, ⊤, Result, Ok, Err}
use Rattle.std.specs.Float.Ieee.{neg, le, of_bits, to_bits}
use Rattle.ieee.specs.Constants.{zero32}
use Rattle.shared.specs.Counts.{zero_c32, inc}
use Rattle.shared.specs.Core.{numbered}
use Rattle.shared.specs.declared.Out.{Out}
use Rattle.shared.specs.declared.Settings.{Settings}
use Rattle.shared.specs.declared.Carrier.TheVariants.{Angle}
use Rattle.burst.specs.Lead.{lead_add_of}
use Rattle.refusals.specs.Domain.{settings_ok, unset_ok}
use Rattle.refusals.specs.declared.Refusal.{Refusal}
use Rattle.refusals.specs.Order.{number_of, first_failed}
use Rattle.refusals.specs.State.{frame_ok, burst_ok, lead_ok, cand_ok}
use Rattle.lane.specs.declared.Answer.{Answer}
use Rattle.lane.specs.declared.BeginArgs.{BeginArgs}
use Rattle.lane.specs.declared.Lane.{Lane}
use Rattle.lane.specs.declared.StepArgs.{StepArgs}
use Rattle.lane.specs.Advance.{fill_of, lead_step, advance_of}
use Rattle.lane.specs.Answers.{refusal_number_of}
use Rattle.lane.specs.Begin.{history_of, begin_lead_of, cleared_of, lead_lane}
use Rattle.lane.specs.Idle.{no_burst, idle_lane}
use Rattle.lane.specs.Part.{front, named_of, part_refusal, part_of}
use Rattle.lane.specs.Refusals.{opened_ok, lane_ok, history_ok, begin_floats_ok, step_floats_ok, follows_of, open_refusal, begin_refusal, step_refusal, close_refusal}
use Rattle.lane.specs.Serial.{stamp_of}
use Rattle.lane.specs.Close.{idle_with, close_of}
use Rattle.lane.specs.Step.{new_lane, opened, begun, stepped, closed}
use Rattle.worked.specs.Limits.{Field, phase, serial, ook_serial, fsk_serial, lead_n, lane_of, changed}

-- ---- calls

-- a lane of specs/Limits, or the one that never had settings
pub data From : Type 0 where
  new : From
  of : List (Field × ℕ) → From

abbrev lane : From → Lane
lane new = new_lane
lane (of cs) = lane_of (changed cs)

-- with these max_pulses, of which 0 is none of the domain
abbrev settings : ℕ → Settings
settings max = record { mode = 0; min_steps = 2; gap_steps = 4; pre_timeout = 4; long_steps = 1000; max_pulses = max; alpha = zero32; gap_ratio = zero32; fsk_delta = zero32; fsk_split = zero32; carry = 0 }

abbrev begin_args : ℕ → BeginArgs
begin_args index = record { index = index; factor = zero32; envelope = zero32; x = zero_c32; before = zero_c32; history = record { e1 = zero32; e2 = zero32; e3 = zero32; e4 = zero32; e5 = zero32; e6 = zero32; e7 = zero32 } }

abbrev step_args : ℕ → StepArgs
step_args index = record { index = index; noise = zero32; envelope = zero32; x = zero_c32 }

-- an opening with these max_pulses, a begin and a step with this index, a close; the buffers have eight slots
pub data Call : Type 0 where
  opening : ℕ → Call
  begin : ℕ → Call
  step : ℕ → Call
  close : Call

abbrev answered : Lane → Call → Answer
answered l (opening max) = opened l (settings max)
answered l (begin index) = begun l (begin_args index) (replicate 8 0) (replicate 8 0)
answered l (step index) = (stepped l (step_args index) (replicate 8 0) (replicate 8 0)).0
answered l close = (closed l (replicate 8 0) (replicate 8 0)).0

-- the number of the refusal, 0 for none; then the serials of the lane, of its OOK record and of its FSK record after the call
abbrev seen : Answer → List ℕ
seen a = refusal_number_of a.reply ∷ a.lane.serial ∷ a.lane.burst.out_ook.serial ∷ a.lane.burst.out_fsk.serial ∷ []

unfoldable pub after : From → Call → List ℕ
unfolding lane_of new_lane idle_lane no_burst opened begun stepped open_refusal begin_refusal step_refusal first_failed lane_ok opened_ok settings_ok unset_ok burst_ok frame_ok lead_ok cand_ok history_ok begin_floats_ok step_floats_ok follows_of stamp_of lead_lane begin_lead_of history_of cleared_of advance_of lead_step fill_of lead_add_of closed close_refusal close_of idle_with inc neg le of_bits to_bits
after l c = seen (answered (lane l) c)

-- a lane with this serial, and records of other calls
abbrev at : ℕ → List (Field × ℕ)
at n = (serial, n) ∷ (ook_serial, 7) ∷ (fsk_serial, 8) ∷ []

-- the same in its lead, which has one sample of seven: the next index is 1
abbrev leading : ℕ → List (Field × ℕ)
leading n = (phase, 1) ∷ (lead_n, 1) ∷ at n

-- an accepted call: lane and records have the serial n; a refused one: number, the lane's serial, and the records' as they were
abbrev taken : ℕ → List ℕ
taken n = 0 ∷ n ∷ n ∷ n ∷ []

abbrev refused : ℕ → ℕ → List ℕ
refused k n = k ∷ n ∷ 7 ∷ 8 ∷ []

-- the serial that is spent, and the largest
abbrev spent : ℕ
spent = 2 ^ 48

abbrev most : ℕ
most = 2 ^ 48 + 2 ^ 40 + 1

pub data Row : Type 0 where
  row : From → Call → List ℕ → Row

abbrev pub calls : List Row
calls =
    -- the first opening, and others: from the serial of the lane that is replaced
    row new (opening 4) (taken 1)
    ∷ row (of (at 41)) (opening 4) (taken 42)
    -- spent - 1 is the last serial that opening and begin raise
    ∷ row (of (at (spent - 1))) (opening 4) (taken spent)
    ∷ row (of (at spent)) (opening 4) (refused 13 spent)
    ∷ row (of (at (2 ^ 64 - 1))) (opening 4) (refused 13 (2 ^ 64 - 1))
    -- 3 before 13
    ∷ row (of (at spent)) (opening 0) (refused 3 spent)
    ∷ row (of (at 41)) (begin 5) (taken 42)
    ∷ row (of (at (spent - 1))) (begin 5) (taken spent)
    ∷ row (of (at spent)) (begin 5) (refused 13 spent)
    -- 4 and 5 before 13, and 13 before 6
    ∷ row (of (at most)) (begin 5) (refused 13 most)
    ∷ row (of (at (most + 1))) (begin 5) (refused 4 (most + 1))
    ∷ row (of (leading spent)) (begin 5) (refused 5 spent)
    ∷ row (of (at spent)) (begin (2 ^ 40 + 1)) (refused 13 spent)
    -- a burst begun before may run on: a step never meets 13, and 4 only above the largest
    ∷ row (of (leading 41)) (step 1) (taken 42)
    ∷ row (of (leading spent)) (step 1) (taken (spent + 1))
    ∷ row (of (leading most)) (step 1) (taken (most + 1))
    ∷ row (of (leading (most + 1))) (step 1) (refused 4 (most + 1))
    -- R-13: a close raises it too, and never meets 13
    ∷ row (of (leading 41)) close (taken 42)
    ∷ row (of (leading spent)) close (taken (spent + 1))
    ∷ row (of (leading (most + 1))) close (refused 4 (most + 1))
    ∷ row (of (at 41)) close (refused 5 41)
    ∷ row new close (5 ∷ 0 ∷ 0 ∷ 0 ∷ [])
    -- a refused call raises nothing
    ∷ row (of (leading 41)) (step 2) (refused 6 41)
    ∷ []

-- ---- parts

-- an OOK record of two pairs with this serial
abbrev decided : ℕ → Out
decided n = numbered n (record { index = 0; end = 0; state = 1; cut = 0; pairs = 2; level = zero32; fsk = 0; carrier = Angle zero32; serial = 0 })

-- the number of a refused fetch, 0 for none
abbrev fetch_number : Result ⊤ Refusal → ℕ
fetch_number (Ok u) = 0
fetch_number (Err k) = number_of k

-- the refusal's number and the slots of the part, for a lane and a record of these serials
unfoldable pub fetched : ℕ × ℕ → List ℕ × ℕ
unfolding lane_of front named_of part_of
fetched k = (part_of (lane_of (changed (at k.0))) (decided k.1) (3 ∷ 2 ∷ 4 ∷ 0 ∷ 9 ∷ []) [], fetch_number (part_refusal (lane_of (changed (at k.0))) (decided k.1)))

abbrev pub parts : List ((ℕ × ℕ) × (List ℕ × ℕ))
parts =
    -- the lane's last accepted call
    ((5, 5), (3 ∷ 2 ∷ 4 ∷ 0 ∷ [], 0))
    -- an earlier call of it, and a lane with another number
    ∷ ((5, 4), ([], 13))
    ∷ ((5, 6), ([], 13))
    -- no call's: of a lane never opened, or read back
    ∷ ((0, 0), ([], 13))
    ∷ ((5, 0), ([], 13))
    ∷ ((0, 5), ([], 13))
    ∷ []

-- the statement: each call leaves what its row says, and each fetch gives it
abbrev got : Row → List ℕ
got (row l c ns) = after l c

abbrev says : Row → List ℕ
says (row l c ns) = ns

abbrev pub Counted : List Row → List ((ℕ × ℕ) × (List ℕ × ℕ)) → Type 0
Counted rows ps =
    (map got rows ≡ map says rows)
    × (map (λ (p : (ℕ × ℕ) × (List ℕ × ℕ)). fetched p.0) ps ≡ map (λ (p : (ℕ × ℕ) × (List ℕ × ℕ)). p.1) ps)
