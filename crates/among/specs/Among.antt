-- Document 02, R-4: "One receiver now serves sixteen lanes, and from sixteen idle ones at most four are ever out of idle together." A lane
-- among others answers as it does alone, but for refusal 12 of begin.
use Rattle.std.specs.Prelude.{ℕ, ◌+◌, ◌-◌, cond, not, ◌≡◌, List, [], ◌∷◌, length, set, get_or, eqb, ltb, ⊤, Result, Ok, Err}
use Rattle.refusals.specs.Domain.{index_ok, room_ok}
use Rattle.refusals.specs.Serial.{serial_left}
use Rattle.refusals.specs.Order.{check}
use Rattle.refusals.specs.declared.Refusal.{Refusal}
use Rattle.refusals.specs.declared.Refusal.TheVariants as refusal
use Rattle.lane.specs.declared.Lane.{Lane}
use Rattle.lane.specs.declared.Answer.{Answer}
use Rattle.lane.specs.declared.BeginArgs.{BeginArgs}
use Rattle.lane.specs.Answers.{Reply}
use Rattle.lane.specs.Refusals.{lane_ok, begin_floats_ok}
use Rattle.lane.specs.Step.{new_lane, begun_by}
use Rattle.commands.specs.Command.{Found}
use Rattle.commands.specs.declared.Command.TheVariants.{Open, OpenCarry, Begin, Step, Close}
use Rattle.calls.specs.Turn.{State, Called, unchanged, missed, called}

-- "Lanes are numbered 0 to 15", and four of them may be out of idle
abbrev pub antennas : ℕ
antennas = 16

abbrev pub places : ℕ
places = 4

-- ---- one lane, n others being out of idle

-- "12: begin finds at least four other lanes out of idle; it comes after 7, before 8, and is given in no other case."
unfoldable pub begin_refusal_among : ℕ → Lane → BeginArgs → ℕ → ℕ → Result ⊤ Refusal
begin_refusal_among n l b ook fsk =
    check refusal.Settings (not (eqb l.opened 0))
    (check refusal.Lane (lane_ok l)
    (check refusal.Phase (eqb l.phase 0)
    (check refusal.Serial (serial_left l.serial)
    (check refusal.Index (index_ok b.index)
    (check refusal.Float (begin_floats_ok b)
    (check refusal.Places (ltb n places)
    (check refusal.Room (room_ok l.settings ook fsk) (Ok tt))))))))

unfoldable pub begun_among : ℕ → Lane → BeginArgs → List ℕ → List ℕ → Answer
begun_among n l b ook fsk = begun_by (begin_refusal_among n l b (length ook) (length fsk)) l b

-- the answer to a command: "Only the letting in depends on them, and only through their number."
unfoldable pub called_among : ℕ → State → Found → Called
called_among n p (Ok (Open s)) = called p (Ok (Open s))
called_among n p (Ok (OpenCarry s)) = called p (Ok (OpenCarry s))
called_among n p (Ok (Begin b)) = (begun_among n p.0 b p.1 p.2, p.1, p.2)
called_among n p (Ok (Step s)) = called p (Ok (Step s))
called_among n p (Ok Close) = called p (Ok Close)
called_among n p (Err m) = called p (Err m)

-- ---- sixteen

-- the lanes, their OOK buffers and their FSK buffers: "Each lane has its own pair of buffers."
abbrev pub Lanes : Type 0
Lanes = List Lane × List (List ℕ) × List (List ℕ)

-- "One receiver now serves sixteen lanes"
pub record Sized (p : Lanes) : Type 0 where
  pub lanes : length p.0 ≡ antennas
  pub ooks : length p.1 ≡ antennas
  pub fsks : length p.2 ≡ antennas

abbrev pub lane_at : Lanes → ℕ → State
lane_at p i = (get_or p.0 i new_lane, get_or p.1 i [], get_or p.2 i [])

abbrev pub put_at : Lanes → ℕ → State → Lanes
put_at p i q = (set p.0 i q.0, set p.1 i q.1, set p.2 i q.2)

-- whether a lane is out of idle, in lead or in burst: 1, and 0 where it is idle
unfoldable pub out_of : Lane → ℕ
out_of l = cond (eqb l.phase 0) 0 1

-- how many lanes are
unfoldable pub outs : List Lane → ℕ
outs [] = 0
outs (l ∷ ls) = out_of l + outs ls

-- and how many but lane i
abbrev pub others_out : List Lane → ℕ → ℕ
others_out ls i = outs ls - out_of (get_or ls i new_lane)

-- "An antenna number above 15 is refusal 6, met right after 2."
abbrev pub no_antenna : Found → Reply
no_antenna (Ok k) = Err refusal.Index
no_antenna (Err m) = missed m

-- the answer to a command of antenna i, with its buffers as the call leaves them
unfoldable pub answer_to : Lanes → ℕ → Found → Called
answer_to p i k = cond (ltb i antennas) (called_among (others_out p.0 i) (lane_at p i) k) (unchanged (no_antenna k) (lane_at p i))

-- the lanes after it: the antenna's own lane and buffers are changed, and no other
unfoldable pub after_call : Lanes → ℕ → Found → Lanes
after_call p i k = let c = answer_to p i k in cond (ltb i antennas) (put_at p i (c.0.lane, c.1, c.2)) p
