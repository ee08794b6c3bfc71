-- A list of calls run on a program, to be computed: `ran` unfolds demand 3's terms and demand 2's definitions.
use Rattle.std.specs.Float.Ieee.{of_bits, to_bits, add, sub, mul, div, neg, lt, le, eq, of_int, to_unsigned, is_nan}
use Rattle.arith.specs.Leaves.{abs_of, midpoint_of, flush_of, cross_of, nearest_in, gain_of}
use Rattle.arith.specs.Angle.{atan2_of}
use Rattle.arith.specs.Carry.{width_by, carried_at, bound_of}
use Rattle.ieee.specs.Rounding.{round_of, narrow_of}
use Rattle.root.specs.Root.{sqrt_of, exact_of, round_exact, whole_root}
use Rattle.shared.specs.Counts.{sat_add_of, inc}
use Rattle.run.specs.Run.{lengthen_of, rejoin_of, begin_run_of, due_of, start_run_of}
use Rattle.ook.specs.Run.{advance_of, begin_env_of}
use Rattle.ook.specs.Refine.{refine_level_of, refine_lo_of, excess_of, split_from, refine_in_of, refine_of}
use Rattle.ook.specs.Train.{push_pulse_of, close_gap_of, empty_train_of, finish_of, end_train_of, pulse_done_of, gap_ratio_exceeded_of}
use Rattle.envelope.specs.See.{threshold_of, on_of, refine_due_of, high_of, pac_of, see_of}
use Rattle.envelope.specs.Act.{confirm_if, rise_of, fall_of, confirm_of, act_of}
use Rattle.envelope.specs.Tail.{carrier_of, gone_of, has_pulses_of, gap_over_of, wait_of, tail_of}
use Rattle.burst.specs.Sample.{snap_if_of, last_of, present_of, rest_of, sample_of}
use Rattle.fsk.specs.Commit.{put_end_of, origin_of, count_run_of, upper_run_of, lower_run_of, fsk_commit_of}
use Rattle.fsk.specs.RunStep.{is_glitch_of, confirm_due_of, fsk_run_step_of}
use Rattle.fsk.specs.RunStep as slices
use Rattle.fsk.specs.Resolve.{begin_frame_of, slice_thr_of, past_of, first_past_of, cand_at_of, before_of, turn_at_of, hi_lo_of, other_level_of, is_early_of, open_runs_of, fsk_resolve_of}
use Rattle.fsk.specs.Resolve as resolve
use Rattle.fsk_sample.specs.Tone.{low_pass_of, tone_of, upper_of, follow_of}
use Rattle.fsk_sample.specs.Seek.{seed_of, far_from_of, average_of, start_of, before_if_of, store_of, push_cand_of, clear_of, restart_at_of, restart_early_of}
use Rattle.fsk_sample.specs.Sample.{seek_frame_of, restart_of, away_of, seek_of, track_of, fsk_sample_of}
use Rattle.frame_end.specs.End.{is_split_of, enough_runs_of, is_frame_of, last_run_of, close_pair_of, out_of, end_frame_of}
use Rattle.frame_end.specs.Cut.{gap_at_of, keep_next_of, keep_from, start_kept_of, keep_before_of, cut_train_of}
use Rattle.frame_end.specs.Done.{frame_done_of}
use Rattle.presence.specs.Move.{pres_thr_of, move_pres_of, extend_of}
use Rattle.presence.specs.Presence.{slice_if_of, sure_if_of, ends_of, in_window_of, end_if_of, long_of, end_carrier_of, carrier_if_of, presence_of, snap_of, near_start_of}
use Rattle.presence.specs.Presence as presence
use Rattle.burst.specs.Lead.{lead_add_of, largest_from, begin_burst_of, lead_at_of, replay_from, replay_of, lead_full_of}
use Rattle.refusals.specs.Domain.{settings_ok, unset_ok}
use Rattle.refusals.specs.State.{frame_ok, burst_ok, lead_ok, cand_ok}
use Rattle.refusals.specs.Order.{first_failed}
use Rattle.lane.specs.Answers.{phase_of}
use Rattle.lane.specs.Refusals.{opened_ok, lane_ok, history_ok, begin_floats_ok, step_floats_ok, follows_of, open_refusal, begin_refusal, step_refusal, close_refusal}
use Rattle.lane.specs.Idle.{no_burst, idle_lane}
use Rattle.lane.specs.Begin.{history_of, begin_lead_of, cleared_of, lead_lane}
use Rattle.lane.specs.Advance.{settle_of, fill_of, replay_step, lead_step, burst_step}
use Rattle.lane.specs.Advance as advance
use Rattle.lane.specs.Close.{idle_with, end_burst_of, close_of}
use Rattle.lane.specs.Serial.{stamp_of}
use Rattle.lane.specs.Part.{front, named_of, part_of}
use Rattle.lane.specs.Step.{new_lane, opened, begun, stepped, closed}
use Rattle.std.specs.Prelude.{Bool, List}
use Rattle.slots.specs.Slots.{slots_of, slots_from}
use Rattle.pulses.specs.Runs.{join, runs, size, keep, counted, between, row, pulses, nth, run_edge, pair, edges}
use Rattle.pulses.specs.Yardstick.{Call, lent, given_by, unused, refusal, levelled, replayed, phases_replayed, step_samples, step_phases, advanced, ends, lent_well, handed_on}
use Rattle.pulses.specs.Demand.{Program, Place, returned_by, start, after, after_all, bursts, slots_between}
use Rattle.pulses.specs.Lists.{los, his}

-- whether the list is handed on, where bursts end in it, and where it ends
pub record Ran (W : Program) : Type 0 where
  pub handed : Bool
  pub ended : List (Place W)
  pub last : Place W

unfoldable pub ran : (W : Program) → List Call → Ran W
unfolding lent lent_well handed_on los his unused refusal levelled replayed phases_replayed step_samples step_phases advanced ends given_by returned_by start after after_all bursts slots_between slots_of slots_from nth run_edge pair edges row join runs size keep counted between pulses new_lane opened begun stepped closed stamp_of front named_of part_of advance.advance_of close_of end_burst_of idle_with lead_step burst_step settle_of fill_of replay_step lead_add_of largest_from lead_full_of history_of begin_lead_of cleared_of lead_lane no_burst idle_lane opened_ok lane_ok history_ok begin_floats_ok step_floats_ok follows_of open_refusal begin_refusal step_refusal close_refusal phase_of first_failed frame_ok burst_ok lead_ok cand_ok settings_ok unset_ok begin_burst_of lead_at_of replay_from replay_of sample_of rest_of last_of snap_if_of snap_of near_start_of present_of presence_of presence.advance_of pres_thr_of upper_of move_pres_of extend_of slice_if_of sure_if_of ends_of in_window_of presence.end_of end_if_of long_of end_carrier_of carrier_if_of frame_done_of is_split_of enough_runs_of is_frame_of last_run_of close_pair_of out_of end_frame_of gap_at_of keep_next_of keep_from start_kept_of keep_before_of cut_train_of seek_frame_of restart_of away_of seek_of track_of fsk_sample_of seed_of far_from_of average_of start_of before_if_of store_of push_cand_of clear_of restart_at_of restart_early_of low_pass_of tone_of follow_of put_end_of origin_of count_run_of upper_run_of lower_run_of fsk_commit_of begin_frame_of slice_thr_of past_of first_past_of cand_at_of before_of turn_at_of hi_lo_of other_level_of is_early_of open_runs_of resolve.settle_of fsk_resolve_of slices.lengthen_of is_glitch_of slices.confirm_of confirm_due_of fsk_run_step_of gain_of atan2_of carrier_of gone_of has_pulses_of gap_over_of wait_of tail_of due_of confirm_if rise_of fall_of confirm_of act_of threshold_of on_of refine_due_of high_of pac_of see_of push_pulse_of close_gap_of empty_train_of finish_of end_train_of pulse_done_of gap_ratio_exceeded_of refine_level_of refine_lo_of excess_of split_from refine_in_of refine_of lengthen_of rejoin_of begin_run_of start_run_of advance_of begin_env_of sat_add_of inc sqrt_of exact_of round_exact whole_root round_of narrow_of abs_of midpoint_of flush_of cross_of nearest_in width_by carried_at bound_of of_bits to_bits add sub mul div neg lt le eq of_int to_unsigned is_nan
ran W cs = record { handed = handed_on unused cs; ended = bursts W (start W) cs; last = after_all W (start W) cs }
