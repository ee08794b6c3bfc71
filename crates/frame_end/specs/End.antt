-- `end_frame` (source document 000): the presence is over; whether it was a frame, its last run, its widths and its record.
use Rattle.std.specs.Prelude.{ℕ, ◌+◌, ◌*◌, ◌%◌, ◌^◌, Bool, true, false, cond, not, List, ◌++◌, length, take, drop, ◌==◌, nat_eq, nat_le, Float}
use Rattle.std.specs.Float.{binary32}
use Rattle.std.specs.Float.Ieee.{sub, le}
use Rattle.arith.specs.Leaves.{midpoint_of, step_of}
use Rattle.arith.specs.declared.C32.{C32}
use Rattle.grid.specs.Widths.{fsk_widths_of}
use Rattle.shared.specs.Counts.{inc, bit}
use Rattle.shared.specs.declared.Out.{Out}
use Rattle.shared.specs.declared.Settings.{Settings}
use Rattle.shared.specs.declared.Carrier.{Carrier}
use Rattle.shared.specs.declared.Carrier.TheVariants.{Angle, Vector}
use Rattle.fsk.specs.Makers.{with_pairs, with_done}
use Rattle.fsk.specs.Commit.{put_end_of, fsk_commit_of}
use Rattle.fsk.specs.declared.Committed.{Committed}
use Rattle.fsk.specs.declared.Runs.{Runs}
use Rattle.fsk.specs.Types.{Frame}
use Rattle.frame_end.specs.Types.{Framed}

-- split: the two levels are known, and far enough from each other
unfoldable pub is_split_of : ℕ → Float → Float → Float → Bool
is_split_of fsk_phase f_hi f_lo fsk_split = cond (nat_eq fsk_phase 1) (le fsk_split (sub binary32 f_hi f_lo)) false

-- fsk_runs + 1 + fsk_has_prev >= FSK_MIN_RUNS (4)
unfoldable pub enough_runs_of : ℕ → ℕ → Bool
enough_runs_of fsk_runs fsk_has_prev = nat_le 4 ((inc fsk_runs + fsk_has_prev) % 2 ^ 32)

-- by the mode: 0 OOK, 1 FSK, 2 Auto
unfoldable pub is_frame_of : ℕ → Bool → Bool → Bool
is_frame_of mode split enough = cond (mode == 0) false (cond (mode == 1) true (cond split enough false))

-- the last run ends with the frame; one that is too short belongs to the run before
unfoldable pub last_run_of : ℕ → ℕ → Runs → Committed → Float → List ℕ → Committed × List ℕ
last_run_of max_pulses fsk_phase r c end fsk =
    cond (nat_eq fsk_phase 0)
    (fsk_commit_of max_pulses c true r.run.t_run end fsk)
    (cond (r.fsk_has_prev == 1)
    (fsk_commit_of max_pulses c (not (r.run.level == 1)) r.run.t_prev end fsk)
    (fsk_commit_of max_pulses c (r.run.level == 1) r.run.t_run end fsk))

-- a pair that waits gets an empty second slot
unfoldable pub close_pair_of : Committed → List ℕ → Committed × List ℕ
close_pair_of c fsk =
    cond (c.fsk_open == 1)
    (with_pairs (inc c.fsk_n) 0 c, put_end_of fsk (2 * c.fsk_n + 1) c.f_origin c.f_last)
    (c, fsk)

-- the first n slots become widths; nothing where there are not so many
unfoldable pub widths_in_of : ℕ → List ℕ → List ℕ
widths_in_of n fsk = cond (nat_le n (length fsk)) (fsk_widths_of (take n fsk) ++ drop n fsk) fsk

-- the angle between the two levels, or the two sums that atan2f would get
unfoldable pub carrier_of : ℕ → Float → Float → C32 → Carrier
carrier_of fsk_phase f_hi f_lo pac = cond (nat_eq fsk_phase 1) (Angle (midpoint_of f_hi f_lo)) (Vector pac.re pac.im)

-- the record decides (OUT_DECIDE is 1), and is cut where the frame is full
unfoldable pub out_of : Float → Float → Committed → Float → Carrier → Out
out_of start end c high carrier =
    record {
      index = step_of start;
      end = step_of end;
      state = 1;
      cut = bit (c.fsk_full == 1);
      pairs = c.fsk_n;
      level = high;
      fsk = 1;
      carrier = carrier;
      serial = 0;
    }

abbrev pub framed_by : Frame → Float → C32 → Float → Float → Committed × List ℕ → Framed × List ℕ
framed_by fr high pac start end q = (
  record {
    is_fsk = true;
    frame = with_done q.0 fr;
    out = out_of start end q.0 high (carrier_of fr.fsk_phase fr.levels.f_hi fr.levels.f_lo pac);
  },
  widths_in_of (2 * q.0.fsk_n) q.1,
)

abbrev pub close_by : Committed × List ℕ → Committed × List ℕ
close_by q = close_pair_of q.0 q.1

unfoldable pub end_frame_of : Settings → Frame → Float → C32 → Float → Float → Out → List ℕ → Framed × List ℕ
end_frame_of p fr high pac start end out fsk =
    cond (is_frame_of p.mode (is_split_of fr.fsk_phase fr.levels.f_hi fr.levels.f_lo p.fsk_split) (enough_runs_of fr.done.fsk_runs fr.runs.fsk_has_prev))
    (framed_by fr high pac start end (close_by (last_run_of p.max_pulses fr.fsk_phase fr.runs fr.done end fsk)))
    (record { is_fsk = false; frame = fr; out = out }, fsk)
