use mathlib.Core.Path.{refl}
use lib.Ieee.{sub, mul, div, of_int, is_nan}
use Rattle.ieee.specs.Rounding.{round_of}
use Rattle.arith.specs.Leaves.{midpoint_of, flush_of, cross_of, nearest_in, gain_of}
use Rattle.arith.specs.Carry.{width_by, carried_at, bound_of}
use Rattle.fit.specs.Slots.{transitions_of, fold}
use Rattle.fit.specs.Fit.{symbols_of, k_after, fit_step, sums_of, line_with, line_of, fit_of, run_near, run_after, check_step, answer_of, check_of, check_line, second_of, grid_fit_of}
use Rattle.grid.specs.Guess.{shorter_of, runs_step, runs_of, run_to, added_of, mean_step, mean_of, better_of, tried_of, try_step, search_of, grid_of}
use Rattle.grid.specs.Widths.{measured_of, end_of, clock_of, place_of, on_grid_of, widths_on, fsk_widths_of}
use Rattle.shared.specs.Counts.{sat_add_of}
use Rattle.run.specs.Run.{edge_at, lengthen_of, rejoin_of, begin_run_of, due_of, start_run_of}
use Rattle.ook.specs.Run.{advance_of, begin_env_of}
use Rattle.ook.specs.Train.{push_pulse_of, close_gap_of, empty_train_of, end_train_of, pulse_done_of, gap_ratio_exceeded_of}
use Rattle.envelope.specs.Act.{confirm_if, rise_of, fall_of, confirm_of, act_of}
use Rattle.envelope.specs.See.{threshold_of, on_of, refine_due_of, high_of, see_of}
use Rattle.envelope.specs.Tail.{carrier_of, gone_of, has_pulses_of, gap_over_of, wait_of, tail_of}
use Rattle.fsk.specs.Commit.{put_end_of, origin_of, count_run_of, lower_run_of, fsk_commit_of}
use Rattle.fsk.specs.Resolve.{other_level_of, is_early_of}
use Rattle.fsk_sample.specs.Tone.{upper_of}
use Rattle.fsk_sample.specs.Seek.{start_of, push_cand_of}
use Rattle.frame_end.specs.End.{last_run_of}
use Rattle.presence.specs.Move.{pres_thr_of, move_pres_of}
use Rattle.presence.specs.Presence.{advance_of as advance_presence, sure_if_of, in_window_of, long_of, carrier_if_of, presence_of, near_start_of, snap_of}
use Rattle.burst.specs.Lead.{largest_from, begin_burst_of, lead_at_of, replay_from, replay_of, lead_full_of}
use Rattle.burst.specs.Sample.{snap_if_of, last_of, present_of, rest_of, sample_of}
use Rattle.lines.specs.Line.{decimal, hex8, train_line, idle_line, written_call}
use Rattle.calls.specs.Turn.{slots_of, answer_text}
use Rattle.worked.specs.Serials.{after}
use Rattle.worked.specs.Edges.{Right, table}

pub kept : Right table
unfolding sub mul div of_int is_nan round_of midpoint_of flush_of cross_of nearest_in gain_of width_by carried_at bound_of transitions_of fold symbols_of k_after fit_step sums_of line_with line_of fit_of run_near run_after check_step answer_of check_of check_line second_of grid_fit_of shorter_of runs_step runs_of run_to added_of mean_step mean_of better_of tried_of try_step search_of grid_of measured_of end_of clock_of place_of on_grid_of widths_on fsk_widths_of sat_add_of edge_at lengthen_of rejoin_of begin_run_of due_of start_run_of advance_of begin_env_of push_pulse_of close_gap_of empty_train_of end_train_of pulse_done_of gap_ratio_exceeded_of confirm_if rise_of fall_of confirm_of act_of threshold_of on_of refine_due_of high_of see_of carrier_of gone_of has_pulses_of gap_over_of wait_of tail_of put_end_of origin_of count_run_of lower_run_of fsk_commit_of other_level_of is_early_of upper_of start_of push_cand_of last_run_of pres_thr_of move_pres_of advance_presence sure_if_of in_window_of long_of carrier_if_of presence_of near_start_of snap_of largest_from begin_burst_of lead_at_of replay_from replay_of lead_full_of snap_if_of last_of present_of rest_of sample_of decimal hex8 train_line idle_line written_call slots_of answer_text after
kept = refl
