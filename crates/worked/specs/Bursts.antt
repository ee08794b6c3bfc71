-- Document 01, "Worked bursts", M6 to M8 and M10, and bursts of document 02's R-2 and R-13: the commands go in as bytes, and the answer is what the listing program prints of them, from the lane
-- that never had settings on. The settings are OOK, 2, 4, 4, 1000, 4, alpha 0.5, gap_ratio 100, others 0; index from 10, noise 0, factor 1, history 0,
-- samples (1, 0).
use Rattle.std.specs.Prelude.{ℕ, ◌+◌, List, [], ◌∷◌, ◌++◌, replicate}
use Rattle.std.specs.Float.Ieee.{add, sub, mul, div, neg, lt, le, eq, of_bits, to_bits, of_int, to_unsigned, is_nan}
use Rattle.ieee.specs.Rounding.{round_of, narrow_of}
use Rattle.root.specs.Root.{whole_root, round_exact, exact_of, sqrt_of}
use Rattle.arith.specs.Leaves.{abs_of, midpoint_of, flush_of, cross_of, nearest_in}
use Rattle.arith.specs.Carry.{width_by, carried_at, bound_of}
use Rattle.shared.specs.Counts.{sat_add_of, inc}
use Rattle.ook.specs.Refine.{refine_level_of, refine_lo_of, excess_of, split_from, refine_in_of, refine_of}
use Rattle.run.specs.Run.{lengthen_of, rejoin_of, begin_run_of, due_of, start_run_of}
use Rattle.ook.specs.Run.{advance_of as advance_run_of, zero_if, begin_env_of}
use Rattle.ook.specs.Train.{push_pulse_of, close_gap_of, empty_train_of, finish_of, end_train_of, pulse_done_of, gap_ratio_exceeded_of}
use Rattle.envelope.specs.Act.{confirm_if, rise_of, fall_of, confirm_of, act_of}
use Rattle.envelope.specs.See.{threshold_of, on_of, refine_due_of, high_of, pac_of, see_of}
use Rattle.envelope.specs.Tail.{carrier_of, gone_of, has_pulses_of, gap_over_of, wait_of, tail_of}
use Rattle.burst.specs.Lead.{lead_add_of, largest_from, begin_burst_of, lead_at_of, replay_from, replay_of, lead_full_of}
use Rattle.burst.specs.Sample.{snap_if_of, last_of, rest_of, sample_of}
use Rattle.presence.specs.Presence.{snap_of, near_start_of}
use Rattle.refusals.specs.Domain.{settings_ok, unset_ok}
use Rattle.refusals.specs.Order.{first_failed}
use Rattle.refusals.specs.State.{frame_ok, burst_ok, lead_ok, cand_ok}
use Rattle.lane.specs.Advance.{settle_of, fill_of, replay_step, lead_step, burst_step, advance_of}
use Rattle.lane.specs.Answers.{phase_of}
use Rattle.lane.specs.Begin.{history_of, begin_lead_of, cleared_of, lead_lane}
use Rattle.lane.specs.Idle.{no_burst, idle_lane}
use Rattle.lane.specs.Part.{front, named_of, part_of}
use Rattle.lane.specs.Refusals.{opened_ok, lane_ok, history_ok, begin_floats_ok, step_floats_ok, follows_of, open_refusal, begin_refusal, step_refusal, close_refusal}
use Rattle.lane.specs.Serial.{stamp_of}
use Rattle.lane.specs.Close.{idle_with, end_burst_of, close_of}
use Rattle.lane.specs.Step.{new_lane, opened, begun, stepped, closed}
use Rattle.words.specs.Words.{u32_at, u64_at, encode}
use Rattle.commands.specs.Command.{settings_of, carry_settings_of, history_of as history_bytes, begin_args_of, step_args_of, decoded}
use Rattle.lines.specs.Line.{leading, decimal, hex8, widths, train_line, record_line, idle_line, carrier_line, refused_line, call_text}
use Rattle.calls.specs.Turn.{called, answer_text}
use Rattle.calls.specs.Stream.{listing}
use Rattle.stream.specs.Machine.{listed, printed_of}

abbrev float1 : ℕ
float1 = 0x3f80_0000

-- the operands of command 01 with this min_steps, long_steps and max_pulses: numbers of four bytes each, a float by its bit pattern
abbrev operands : ℕ → ℕ → ℕ → List ℕ
operands min long max = 0 ∷ encode (min ∷ 4 ∷ 4 ∷ long ∷ max ∷ 0x3f00_0000 ∷ 0x42c8_0000 ∷ 0 ∷ 0 ∷ [])

abbrev open_by : ℕ → ℕ → List ℕ
open_by long max = 1 ∷ operands 2 long max

-- command 04 with this min_steps and carry
abbrev carry_by : ℕ → ℕ → List ℕ
carry_by min carry = 4 ∷ (operands min 1000 4 ++ (carry ∷ []))

abbrev pub carry_with : ℕ → List ℕ
carry_with carry = carry_by 2 carry

-- with this max_pulses
abbrev pub open_with : ℕ → List ℕ
open_with max = open_by 1000 max

-- command 02 at index 10
abbrev begin_with : ℕ → List ℕ
begin_with e = 2 ∷ encode (10 ∷ 0 ∷ float1 ∷ e ∷ float1 ∷ 0 ∷ float1 ∷ 0 ∷ 0 ∷ 0 ∷ 0 ∷ 0 ∷ 0 ∷ 0 ∷ 0 ∷ [])

-- command 03 for each envelope, from an index on
abbrev steps_with : ℕ → List ℕ → List ℕ
steps_with i [] = []
steps_with i (e ∷ es) = 3 ∷ (encode (i ∷ 0 ∷ 0 ∷ e ∷ float1 ∷ 0 ∷ []) ++ steps_with (i + 1) es)

-- an opening, begin with the first envelope, and a step for each of the others
abbrev pub burst_by : ℕ → ℕ → ℕ → List ℕ → List ℕ
burst_by long max e es = open_by long max ++ (begin_with e ++ steps_with 11 es)

-- R-1's burst of two pulses, 0 8 4 0 0 8 4 and five 0s, without an opening
abbrev pub halves : List ℕ
halves =
    let eight : ℕ = 0x4100_0000 in
    let four : ℕ = 0x4080_0000 in
    begin_with 0 ++ steps_with 11 (eight ∷ four ∷ 0 ∷ 0 ∷ eight ∷ four ∷ 0 ∷ 0 ∷ 0 ∷ 0 ∷ 0 ∷ [])

-- R-1, min_steps 4: 0 19 14 14 14 13 17 17 17, four 32s and five 0s, with this carry. The first pulse's closing edge is refined to before
-- its first edge.
abbrev pub backward : ℕ → List ℕ
backward carry =
    carry_by 4 carry ++ begin_with 0 ++ steps_with 11
    (0x4198_0000 ∷ 0x4160_0000 ∷ 0x4160_0000 ∷ 0x4160_0000 ∷ 0x4150_0000 ∷ 0x4188_0000 ∷ 0x4188_0000 ∷ 0x4188_0000
    ∷ 0x4200_0000 ∷ 0x4200_0000 ∷ 0x4200_0000 ∷ 0x4200_0000 ∷ 0 ∷ 0 ∷ 0 ∷ 0 ∷ 0 ∷ [])

-- with the settings of M6 to M8
abbrev pub burst_with : ℕ → List ℕ → List ℕ
burst_with e es = burst_by 1000 4 e es

-- what is printed of commands, with the program's buffers
unfoldable pub printed : List ℕ → List ℕ
unfolding listed printed_of called answer_text decoded settings_of carry_settings_of begin_args_of step_args_of history_bytes u32_at u64_at encode call_text record_line train_line widths idle_line carrier_line refused_line decimal leading hex8 snap_of near_start_of round_of narrow_of whole_root round_exact exact_of sqrt_of abs_of midpoint_of flush_of cross_of nearest_in width_by carried_at bound_of sat_add_of inc refine_level_of refine_lo_of excess_of split_from refine_in_of refine_of lengthen_of rejoin_of begin_run_of start_run_of advance_run_of zero_if begin_env_of push_pulse_of close_gap_of empty_train_of finish_of end_train_of pulse_done_of gap_ratio_exceeded_of due_of confirm_if rise_of fall_of confirm_of act_of threshold_of on_of refine_due_of high_of pac_of see_of carrier_of gone_of has_pulses_of gap_over_of wait_of tail_of lead_add_of largest_from begin_burst_of lead_at_of replay_from replay_of lead_full_of snap_if_of last_of rest_of sample_of settings_ok unset_ok first_failed frame_ok burst_ok lead_ok cand_ok settle_of fill_of replay_step lead_step burst_step advance_of phase_of history_of begin_lead_of cleared_of lead_lane no_burst idle_lane front named_of part_of opened_ok lane_ok history_ok begin_floats_ok step_floats_ok follows_of open_refusal begin_refusal step_refusal close_refusal stamp_of idle_with end_burst_of close_of new_lane opened begun stepped closed add sub mul div neg lt le eq of_bits to_bits of_int to_unsigned is_nan
printed commands = listing (new_lane, replicate 4096 0, replicate 4096 0) commands
