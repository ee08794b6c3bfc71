-- `begin_frame` and `fsk_resolve` (source document 000): a frame begins; its first transition gives the two levels and the end of the first run.
use Rattle.std.specs.Prelude.{ℕ, zero, suc, ◌+◌, ◌-◌, ◌%◌, ◌^◌, min, Bool, false, cond, not, List, get_or, ◌==◌, from_bits, nat_le, nat_lt, slice_index_or, Float}
use Rattle.std.specs.Float.{nan, binary32, binary64}
use Rattle.std.specs.Float.Ieee.{add, sub, mul, div, lt, le}
use Rattle.ieee.specs.Constants.{zero32, one32}
use Rattle.arith.specs.Leaves.{midpoint_of, edge_of, cross_of, abs_of}
use Rattle.shared.specs.Counts.{bit, zero_c32}
use Rattle.run.specs.Run.{run_of, start_run_of}
use Rattle.fsk.specs.Commit.{fsk_commit_of}
use Rattle.fsk.specs.Makers.{committed_of, runs_of, ran_of, ran_by, levels_of, mean_of, cand_of, early_of, frame_of, with_ran}
use Rattle.fsk.specs.declared.Committed.{Committed}
use Rattle.fsk.specs.declared.Runs.{Runs}
use Rattle.fsk.specs.declared.Ran.{Ran}
use Rattle.fsk.specs.declared.Levels.{Levels}
use Rattle.fsk.specs.declared.Cand.{Cand}
use Rattle.fsk.specs.declared.Early.{Early}
use Rattle.fsk.specs.declared.Tone.{Tone}
use Rattle.fsk.specs.Types.{Frame}
use Rattle.fsk.specs.declared.Turn.{Turn}
use Rattle.fsk.specs.declared.Opening.{Opening}

abbrev pub zero_tone : Tone
zero_tone = record { fm = zero_c32; f_prev = zero32 }

-- begin_frame: cand_f, f_origin and f_last stay
unfoldable pub begin_frame_of : Frame → Float → Frame
begin_frame_of fr t =
    frame_of
    zero_tone
    0
    (mean_of zero32 0)
    (cand_of fr.cand.cand_f zero32 0)
    (early_of zero32 t 0)
    (levels_of zero32 zero32)
    (runs_of (start_run_of t) 0)
    (committed_of fr.done.f_origin fr.done.f_last 0 0 0 0)

-- the threshold between two levels: their midpoint, less FSK_HYSTERESIS (a sixteenth, 3d800000) of their distance for a run at the upper one, and more for one at the lower
unfoldable pub slice_thr_of : Bool → Float → Float → Float
slice_thr_of upper hi lo =
    let h = mul binary32 (sub binary32 hi lo) (from_bits binary32 0x3d80_0000) in
    cond upper (sub binary32 (midpoint_of hi lo) h) (add binary32 (midpoint_of hi lo) h)

-- past the threshold, away from the first level
unfoldable pub past_of : Bool → Float → Float → Bool
past_of first_upper c thr = cond first_upper (lt c thr) (lt thr c)

-- the first candidate from i on past the threshold, of n that are left, or other
unfoldable pub first_past_of : Bool → Float → List Float → ℕ → ℕ → ℕ → ℕ
first_past_of first_upper thr cs other zero i = other
first_past_of first_upper thr cs other (suc n) i = cond (past_of first_upper (slice_index_or cs i nan) thr) i (first_past_of first_upper thr cs other n (i + 1))

-- cand_f has FSK_CAND (8) places
unfoldable pub cand_at_of : List Float → ℕ → Float → Float
cand_at_of cand_f j other = cond (nat_lt j 8) (get_or cand_f j nan) other

-- the frequency before candidate j
unfoldable pub before_of : List Float → Float → ℕ → Float
before_of cand_f cand_before j = cond (j == 0) cand_before (cand_at_of cand_f (j - 1) cand_before)

-- j: the first candidate past the threshold, or the last
abbrev pub turn_index : Bool → Float → Cand → ℕ
turn_index first_upper thr c = first_past_of first_upper thr c.cand_f (c.fsk_cand - 1) (min c.fsk_cand 8) 0

-- the time of the transition, and the samples of the second run so far: candidate j is cand - j samples back
abbrev pub turn_from : Float → Cand → Float → ℕ → ℕ → Turn
turn_from thr c f idx j =
    record {
      tc = edge_of ((idx + 1) % 2 ^ 64 - (c.fsk_cand - j)) (cross_of (before_of c.cand_f c.cand_before j) (cand_at_of c.cand_f j f) thr);
      second = c.fsk_cand - j;
    }

unfoldable pub turn_at_of : Bool → Float → Cand → Float → ℕ → Turn
turn_at_of first_upper thr c f idx = turn_from thr c f idx (turn_index first_upper thr c)

-- (hi, lo) of the first level and the second
unfoldable pub hi_lo_of : Bool → Float → Float → Levels
hi_lo_of first_upper f_ref f = cond first_upper (levels_of f_ref f) (levels_of f f_ref)

-- rel: where between the levels the frequency lies, 0 at the lower and 1 at the upper
abbrev pub rel_of : Float → Float → Float → Float
rel_of f_early hi lo = div binary32 (sub binary32 f_early lo) (sub binary32 hi lo)

-- its distance from the second level, as a part of that of the levels
unfoldable pub other_level_of : Bool → Float → Float → Float → Float
other_level_of first_upper f_early hi lo = cond first_upper (rel_of f_early hi lo) (sub binary32 one32 (rel_of f_early hi lo))

-- a short first run before the last restart is the first run of the frame: EARLY_TOL is 0.3 (3e99999a), EARLY_MIN 2
unfoldable pub is_early_of : Early → Bool → Float → Float → Float → Bool
is_early_of e first_upper hi lo ft_run =
    cond (e.early == 1)
    (cond (le (abs_of (other_level_of first_upper e.f_early hi lo)) (from_bits binary32 0x3e99_999a))
    (le (from_bits binary64 0x4000_0000_0000_0000) (sub binary64 e.t_early ft_run))
    false)
    false

abbrev pub opening_by : Float → Committed × List ℕ → Opening × List ℕ
opening_by from q = (record { from = from; done = q.0 }, q.1)

-- such a run is committed, and the next one starts where it ends
unfoldable pub open_runs_of : ℕ → Bool → Bool → Float → Float → Committed → List ℕ → Opening × List ℕ
open_runs_of max_pulses early first_upper ft_run t_early c fsk =
    cond early
    (opening_by t_early (fsk_commit_of max_pulses c (not first_upper) ft_run t_early fsk))
    (record { from = ft_run; done = c }, fsk)

-- the second run, of t.second samples; the one before it is committed where it is confirmed at once
abbrev pub second_run_of : Bool → ℕ → Turn → Float → ℕ → ℕ → Runs
second_run_of first_upper fsk_run t from confirmed has_prev =
    runs_of (run_of (bit (not first_upper)) t.second confirmed (fsk_run - t.second) t.tc from) has_prev

unfoldable pub settle_of : ℕ → ℕ → Bool → ℕ → Turn → Opening → List ℕ → Ran × List ℕ
settle_of max_pulses fsk_min first_upper fsk_run t o fsk =
    cond (nat_le fsk_min t.second)
    (ran_by (second_run_of first_upper fsk_run t o.from 1 0) (fsk_commit_of max_pulses o.done first_upper o.from t.tc fsk))
    (ran_of (second_run_of first_upper fsk_run t o.from 0 1) o.done, fsk)

abbrev pub settle_by : ℕ → ℕ → Bool → ℕ → Turn → Opening × List ℕ → Ran × List ℕ
settle_by max_pulses fsk_min first_upper fsk_run t q = settle_of max_pulses fsk_min first_upper fsk_run t q.0 q.1

abbrev pub resolve_by : Frame → Levels → Ran × List ℕ → Frame × List ℕ
resolve_by fr l q = (with_ran fr.tone 1 l q.0 fr, q.1)

abbrev pub resolve_at : ℕ → ℕ → Frame → Float → ℕ → Bool → Levels → List ℕ → Frame × List ℕ
resolve_at max_pulses fsk_min fr f idx first_upper l fsk =
    resolve_by fr l
    (settle_by max_pulses fsk_min first_upper fr.runs.run.run_len
    (turn_at_of first_upper (slice_thr_of first_upper l.f_hi l.f_lo) fr.cand f idx)
    (open_runs_of max_pulses (is_early_of fr.early first_upper l.f_hi l.f_lo fr.runs.run.t_run) first_upper fr.runs.run.t_run fr.early.t_early fr.done fsk))

-- fsk_resolve: the first run is at the upper level where f_ref > f
unfoldable pub fsk_resolve_of : ℕ → ℕ → Frame → Float → ℕ → List ℕ → Frame × List ℕ
fsk_resolve_of max_pulses fsk_min fr f idx fsk =
    resolve_at max_pulses fsk_min fr f idx (lt f fr.mean.f_ref) (hi_lo_of (lt f fr.mean.f_ref) fr.mean.f_ref f) fsk
