-- Rules of document 01 at their limits, and its "Slips to rule out". A row has a definition that a contract cites, at an input where a program
-- with one slip would answer otherwise, and the right answer; its comment names the rule's place and the slip. Slips that other tables rule out:
-- `lead_len` 16 from min_steps 4 on, a power of two off in `a_gain`, and max_pulses 0 (Worked, M5, M4 and M10); a lane never opened that has
-- max_pulses (Limits); a serial spent only above 2^48, and an opening that does not go on from the lane's serial (Serials).
use Rattle.std.specs.Prelude.{ℕ, ◌-◌, ◌*◌, Bool, true, false, ◌≡◌, List, [], ◌∷◌, map, take, replicate, pos, Float, Ok}
use Rattle.std.specs.Float.{nan, binary32, binary64}
use Rattle.std.specs.Float.Ieee.{of_bits, to_bits, of_int}
use Rattle.ieee.specs.Constants.{zero32, one32, zero64}
use Rattle.arith.specs.Leaves.{step_of, gain_of}
use Rattle.grid.specs.Widths.{fsk_widths_of}
use Rattle.shared.specs.Counts.{bit, zero_c32}
use Rattle.shared.specs.declared.Next.TheVariants.{Stay, Idle}
use Rattle.shared.specs.declared.Out.{Out}
use Rattle.shared.specs.declared.Settings.{Settings}
use Rattle.shared.specs.declared.Carrier.TheVariants.{Angle}
use Rattle.run.specs.Run.{run_of, rejoin_of}
use Rattle.ook.specs.Run.{env_of}
use Rattle.ook.specs.Train.{with_first, with_bound, with_pairs, zero_steps, push_pulse_of, end_train_of}
use Rattle.ook.specs.declared.Env.{Env}
use Rattle.envelope.specs.Act.{rise_of, fall_of}
use Rattle.envelope.specs.See.{on_of, refine_due_of}
use Rattle.envelope.specs.Tail.{gap_over_of}
use Rattle.envelope.specs.declared.At.{At}
use Rattle.fsk.specs.Makers.{cand_of, early_of, runs_of}
use Rattle.fsk.specs.Resolve.{is_early_of}
use Rattle.fsk_sample.specs.Seek.{push_cand_of}
use Rattle.frame_end.specs.End.{last_run_of}
use Rattle.presence.specs.Presence.{in_window_of}
use Rattle.burst.specs.Lead.{lead_add_of, begin_burst_of, lead_full_of}
use Rattle.burst.specs.Sample.{sample_of}
use Rattle.refusals.specs.Domain.{factor_ok, room_ok}
use Rattle.lane.specs.Idle.{no_train, no_out, none_done, no_burst, no_lead}
use Rattle.lines.specs.Line.{written_call}
use Rattle.calls.specs.Turn.{slots_of, answer_text}
use Rattle.worked.specs.Limits.{Field, phase, mode, min_steps, carry, last, serial, lane_of, changed}
use Rattle.worked.specs.Serials.{of, begin, after}

-- ---- inputs

abbrev f32 : ℕ → Float
f32 bits = of_bits binary32 bits

abbrev f64 : ℕ → Float
f64 bits = of_bits binary64 bits

abbrev two32 : Float
two32 = f32 0x4000_0000

-- a time in whole steps
abbrev step : ℕ → Float
step n = of_int binary64 (pos n)

-- a run's edge and the one before, each refined (t) and as the midpoint was crossed (c)
abbrev edges : ℕ → ℕ → ℕ → ℕ → Env
edges t_run t_prev c_run c_prev = env_of (run_of 0 0 0 0 (step t_run) (step t_prev)) (step c_run) (step c_prev) 0 0

-- those of Limits, min_steps 2, gap_steps 4, max_pulses 4 and floats 0, with some fields changed
abbrev settings : List (Field × ℕ) → Settings
settings cs = (lane_of (changed cs)).settings

-- sample 5, envelope 1, no noise, and the ring before it
abbrev sample5 : At
sample5 = record { idx = 5; lead_at = 0; noise = zero32; e = one32; x = zero_c32; xp = zero_c32 }

abbrev ring : List Float
ring = replicate 32 zero32

-- a record of a train without pairs, OOK (0) or FSK (1)
abbrev decided : ℕ → Out
decided kind = record { index = 0; end = 0; state = 1; cut = 0; pairs = 0; level = zero32; fsk = kind; carrier = Angle zero32; serial = 0 }

-- ---- questions to definitions that take structs

-- with min_steps 2, whether the edge of a high run of n samples still waits for its refinement
abbrev waits : ℕ → ℕ
waits n = (refine_due_of 2 sample5 ring one32 true (env_of (run_of 1 n 0 0 zero64 zero64) zero64 zero64 5 1)).ref_pending

-- the edge of a run from step t on after a glitch at step g has joined it
abbrev joined : ℕ → ℕ → Float
joined t g = (rejoin_of (edges g t g t).run 1).t_run

-- the index of a train whose first pulse crossed the midpoint at step c and has its edge at step t
abbrev indexed : ℕ → ℕ → ℕ
indexed c t = (rise_of 0 (edges t 0 c 0) no_train []).0.start

-- with carry, the slot of a pulse from step a to step b in a train from step o on
abbrev carried : ℕ → ℕ → ℕ → List ℕ
carried o a b =
    (fall_of (settings ((mode, 0) ∷ (carry, 1) ∷ [])) (edges b a b a) (with_bound (64 * (a - o)) (with_first o (step o) no_train)) zero_c32 zero32 no_out (0 ∷ [])).1

-- with max_pulses 1, the cut mark of a train of n pulses that gets one more
abbrev cut_mark : ℕ → ℕ
cut_mark n = (push_pulse_of 1 (with_pairs n 0 no_train) zero_c32 zero_steps []).0.train.truncated

-- the slots 3 7 8 9 after the end of a train of n pairs, with a pulse open (1) or not (0)
abbrev ended : ℕ → ℕ → List ℕ
ended n opened = (end_train_of (with_pairs n opened no_train) zero32 no_out (3 ∷ 7 ∷ 8 ∷ 9 ∷ [])).1

-- the candidates after one at f, where one at 1 stands and the mean is 0
abbrev candidates : Float → ℕ
candidates f = (push_cand_of (cand_of (one32 ∷ replicate 7 zero32) zero32 1) zero32 f zero32).fsk_cand

-- whether a run of 2 steps at f is the frame's first, where the next level is 1 and the one after it 0
abbrev early : Float → Bool
early f = is_early_of (early_of f (step 2) 1) true one32 zero32 zero64

-- the slots of a frame that ends at step 4, of a run from step 0 and one at the upper level from step 3, which does not count yet
abbrev last_run : List ℕ
last_run = (last_run_of 4 1 (runs_of (run_of 1 1 0 3 (step 3) (step 0)) 1) none_done (step 4) (9 ∷ 9 ∷ [])).1

-- the start of a presence that begins with sample 5, over the threshold 0, where the envelope before was 0
abbrev presence_start : Float
presence_start = (sample_of (settings ((mode, 1) ∷ [])) sample5 ring (begin_burst_of one32 zero64 zero32 no_burst) [] []).0.burst.pres.run.t_run

-- the level of a burst whose lead-in, of min_steps 1, has these three envelopes
abbrev level : Float → Float → Float → Float
level a b c =
    (lead_full_of (settings ((mode, 0) ∷ (min_steps, 1) ∷ [])) zero32 ring (lead_add_of (lead_add_of (lead_add_of no_lead a zero_c32) b zero_c32) c zero_c32) no_burst [] []
    ).0.burst.high

-- the first n bytes that a call prints with both records
abbrev printed : ℕ → List ℕ
printed n = take n (written_call (Ok Stay) (decided 1) [] (decided 0) [] 0 0 (replicate 368 0)).1

-- the phase line of a lane with this last index and this serial
abbrev phase_line : ℕ → ℕ → List ℕ
phase_line index n = answer_text (Ok Idle) (lane_of (changed ((last, index) ∷ (serial, n) ∷ []))) [] []

-- ---- the table

pub data Row : Type 0 where
  test : Bool → Bool → Row
  number : ℕ → ℕ → Row
  numbers : List ℕ → List ℕ → Row
  -- a float and its pattern, and a time and its whole steps
  float : Float → ℕ → Row
  time : Float → ℕ → Row

abbrev pub answered : Row → List ℕ
answered (test b right) = bit b ∷ []
answered (number n right) = n ∷ []
answered (numbers ns right) = ns
answered (float x right) = to_bits binary32 x ∷ []
answered (time t right) = to_bits binary64 t ∷ []

abbrev pub given : Row → List ℕ
given (test b right) = bit right ∷ []
given (number n right) = right ∷ []
given (numbers ns right) = right
given (float x right) = right ∷ []
given (time t right) = to_bits binary64 (step right) ∷ []

-- the statement: each row's answer is the right one
abbrev pub Right : List Row → Type 0
Right rows = map answered rows ≡ map given rows

abbrev pub table : List Row
table =
    -- `step_of` of 2.5: ties go away from zero and not to even
    number (step_of (f64 0x4004_0000_0000_0000)) 3
    -- `a_gain`: 0 unless the square exceeds 1e-30, as that of 2^-49 does and that of 2^-50 does not
    ∷ float (gain_of (f32 0x2700_0000)) 0x7080_0000
    ∷ float (gain_of (f32 0x2680_0000)) 0
    -- Grid, `fsk_widths` of ends 4, 8.625, 12, 16, ..: fewer than five transitions use no grid; four are not enough
    ∷ numbers (fsk_widths_of (256 ∷ 552 ∷ 768 ∷ 1024 ∷ 1280 ∷ [])) (4 ∷ 5 ∷ 3 ∷ 4 ∷ 4 ∷ [])
    ∷ numbers (fsk_widths_of (256 ∷ 552 ∷ 768 ∷ 1024 ∷ 1280 ∷ 1536 ∷ [])) (4 ∷ 4 ∷ 4 ∷ 4 ∷ 4 ∷ 4 ∷ [])
    -- OOK, `sample`: the level is high above the upper threshold and not at it, and stays high down to the lower one
    ∷ test (on_of 0 one32 one32) false
    ∷ test (on_of 1 one32 one32) true
    -- slip, `sample`: a glitch shorter than `refine_at` is not refined
    ∷ number (waits 1) 1
    ∷ number (waits 2) 0
    -- slip, `sample`: a glitch's edge is not kept
    ∷ time (joined 5 9) 5
    -- slip, `sample`: the train's index is not taken from the refined edge
    ∷ number (indexed 11 9) 11
    -- R-1: boundaries count from the first pulse's edge and not from each pulse's own
    ∷ numbers (carried 10 15 17) (2 ∷ [])
    -- `push_pulse`: a pulse above max_pulses marks the train cut
    ∷ number (cut_mark 0) 0
    ∷ number (cut_mark 1) 1
    -- slip, `end_train`: the last gap is zeroed only when a pulse is open, and not always
    ∷ numbers (ended 0 1) (3 ∷ 0 ∷ 8 ∷ 9 ∷ [])
    ∷ numbers (ended 1 0) (3 ∷ 7 ∷ 8 ∷ 9 ∷ [])
    -- `sample`: a gap of gap_steps samples does not end the train, and one more does
    ∷ test (gap_over_of (settings []) no_train 4) false
    ∷ test (gap_over_of (settings []) no_train 5) true
    -- FSK, `fsk_sample`: a sample on the candidates' side of the mean joins them, and one at -1, on the other side, is the first of new ones
    ∷ number (candidates two32) 2
    ∷ number (candidates (f32 0xbf80_0000)) 1
    -- `fsk_resolve`: a short first run counts up to EARLY_TOL, 0.3, from the level after the next, and not at any distance
    ∷ test (early (f32 0x3e99_999a)) true
    ∷ test (early (f32 0x3e99_999b)) false
    -- `end_frame`: a last run too short to count is joined to the one before, whose slot ends with the frame
    ∷ numbers last_run (0 ∷ 256 ∷ [])
    -- `presence`: the better edge is at most EDGE_WINDOW, 4, before, and not after
    ∷ test (in_window_of (step 0)) true
    ∷ test (in_window_of (step 4)) true
    ∷ test (in_window_of (f64 0x4010_0000_0000_0001)) false
    ∷ test (in_window_of (f64 0x8000_0000_0000_0001)) false
    -- `sample`: presence crosses its threshold between the envelope before and this one, and not at this one
    ∷ time presence_start 4
    -- slip, `lead`: `high` is not read before the lead is full
    ∷ float (level one32 two32 zero32) 0x4000_0000
    -- refusal 5: begin finds a lane not idle, in lead or in burst; the serials stay then
    ∷ numbers (after (of []) (begin 5)) (0 ∷ 1 ∷ 1 ∷ 1 ∷ [])
    ∷ numbers (after (of ((phase, 1) ∷ [])) (begin 5)) (5 ∷ 0 ∷ 0 ∷ 0 ∷ [])
    ∷ numbers (after (of ((phase, 2) ∷ [])) (begin 5)) (5 ∷ 0 ∷ 0 ∷ 0 ∷ [])
    -- refusal 7: -0 and 1,000,000 lie in the range, and a NaN in none
    ∷ test (factor_ok (f32 0x8000_0000)) true
    ∷ test (factor_ok (f32 0x4974_2400)) true
    ∷ test (factor_ok (f32 0x4974_2401)) false
    ∷ test (factor_ok nan) false
    -- refusal 8: the OOK buffer has 2 × max_pulses slots; so has the FSK buffer, but not in OOK mode
    ∷ test (room_ok (settings ((mode, 0) ∷ [])) 8 0) true
    ∷ test (room_ok (settings ((mode, 0) ∷ [])) 7 8) false
    ∷ test (room_ok (settings ((mode, 1) ∷ [])) 8 8) true
    ∷ test (room_ok (settings ((mode, 1) ∷ [])) 8 7) false
    -- Commands: a call prints first `fsk`, and not `ook`
    ∷ numbers (printed 3) (102 ∷ 115 ∷ 107 ∷ [])
    -- Commands: the phase line is `idle` and the call's index, 9, and not its serial
    ∷ numbers (phase_line 9 3) (105 ∷ 100 ∷ 108 ∷ 101 ∷ 32 ∷ 57 ∷ 10 ∷ [])
    -- a part that a call prints has at most 131,072 slots, and not one more, for which no text has room
    ∷ number (slots_of 65536 131072 0) 131072
    ∷ number (slots_of 65537 131074 0) 131072
    ∷ []
