-- Document 02, R-13: "Close clears both records and ends a burst as if its gap had run out: the train held so far is decided, an unfinished
-- frame is dropped, the lane is idle." Ring, lead, frame and last index stay as they are.
use Rattle.std.specs.Prelude.{ℕ, cond, List, eqb, Ok}
use Rattle.shared.specs.declared.Next.TheVariants as next
use Rattle.ook.specs.Train.{end_train_of}
use Rattle.ook.specs.Types.{Ended}
use Rattle.burst.specs.Makers.{with_train}
use Rattle.burst.specs.Types.{Burst}
use Rattle.lane.specs.declared.Lane.{Lane}
use Rattle.lane.specs.declared.Answer.{Answer}
use Rattle.lane.specs.Begin.{lane_of, cleared_of}
use Rattle.lane.specs.Idle.{no_out}

-- the answer: idle, with this burst
unfoldable pub idle_with : Lane → Burst → Answer
idle_with l b = record { reply = Ok next.Idle; lane = lane_of l 0 l.last l.x_prev l.lead l.ring b }

-- "The train is decided as `end_train` does it, so a gap already closed by a later pulse's start stays as the last gap."
abbrev pub ended_by : Burst → Ended × List ℕ → Burst × List ℕ
ended_by b q = (with_train q.0.train q.0.out (cleared_of b), q.1)

unfoldable pub end_burst_of : Burst → List ℕ → Burst × List ℕ
end_burst_of b ook = ended_by b (end_train_of b.train b.high no_out ook)

-- "In lead it gives no train": the lead-in (phase 1) is not replayed
unfoldable pub close_of : Lane → List ℕ → List ℕ → Answer × List ℕ × List ℕ
close_of l ook fsk =
    cond (eqb l.phase 1)
    (idle_with l (cleared_of l.burst), ook, fsk)
    (idle_with l (end_burst_of l.burst ook).0, (end_burst_of l.burst ook).1, fsk)
