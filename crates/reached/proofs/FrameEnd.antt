-- The end of a presence stays within refusal 4's limits: a frame's end commits at most one run more, and the cut of the train keeps at most what it had.
use Prim.Native.Nat.{ℕ, zero, suc, ◌+◌, ◌*◌, ◌-◌, ◌%◌, ◌^◌, ◌<◌, ◌≤◌}
use mathlib.Core.List.{List}
use native.Mathlib.Omega.{arith}
use lib.ListN.{get_or}
use lib.Dec.{eqb}
use lib.Ieee.{Float, le, sub, binary64, of_bits}
use borrow.Author.Tests.{eqb-true, eqb-false}
use Rattle.arith.specs.declared.C32.{C32}
use Rattle.shared.proofs.Cases.{either, by_test, bit_flag}
use Rattle.ook.proofs.Limits.{empty_within, end_train_within}
use Rattle.ook.specs.Limits.{TrainWithin, OutWithin}
use Rattle.ook.specs.Train.{with_pairs, with_end, end_train_of}
use Rattle.ook.specs.declared.Train.{Train}
use Rattle.shared.specs.declared.Out.{Out}
use Rattle.ook.specs.Types.{Ended}
use Rattle.shared.specs.declared.Settings.{Settings}
use Rattle.shared.specs.declared.Carrier.{Carrier}
use Rattle.fsk.specs.declared.Committed.{Committed}
use Rattle.fsk.specs.declared.Runs.{Runs}
use Rattle.fsk.specs.Types.{Frame}
use Rattle.frame_end.specs.End.{is_split_of, enough_runs_of, is_frame_of, last_run_of, close_pair_of, close_by, out_of, end_frame_of}
use Rattle.frame_end.specs.Cut.{gap_at_of, keep_next_of, keep_from, keep_before_of, start_kept_of, cut_by, cut_train_of}
use Rattle.frame_end.specs.Done.{frame_done_of}
use Rattle.frame_end.specs.Types.{Framed}
use Rattle.frame_end.specs.declared.Kept.{Kept}
use Rattle.frame_end.specs.Types.{Body}
use Rattle.reached.proofs.Fsk.{inc_most, CommitWithin, commit_within}
use Rattle.reached.specs.Limits.{CommittedWithin, FrameWithin}

-- ---- end_frame

module _ (max m : ℕ) where
  pub last_run_within : (phase : ℕ) (r : Runs) (c : Committed) (end : Float) (fsk : List ℕ) → CommittedWithin max m c → CommitWithin max (m + 1) (last_run_of max phase r c end fsk)
  unfolding last_run_of
  last_run_within phase r c end fsk h =
      either (CommitWithin max (m + 1)) (eqb phase 0)
      (search commit_within)
      (either (CommitWithin max (m + 1)) (eqb r.fsk_has_prev 1)
      (search commit_within)
      (search commit_within))

  pub close_pair_within : (c : Committed) (fsk : List ℕ) → CommittedWithin max m c → CommitWithin max m (close_pair_of c fsk)
  unfolding close_pair_of
  close_pair_within c fsk h =
      by_test (CommitWithin max m) (eqb c.fsk_open 1)
      (λ q. omega (arith, inc_most c.fsk_n, eqb-true c.fsk_open 1 q))
      (λ q. h)

  pub out_within : (start end : Float) (c : Committed) (high : Float) (k : Carrier) → CommittedWithin max m c → OutWithin max (out_of start end c high k)
  unfolding out_of
  out_within start end c high k h = omega (arith, bit_flag (eqb c.fsk_full 1))

abbrev pub EndWithin : ℕ → ℕ → ℕ → ℕ → Framed × List ℕ → Type 0
EndWithin max least k m q = FrameWithin max least k m q.0.frame

-- the frame of a presence that is over
end_frame_within : (p : Settings) (least k m : ℕ) (fr : Frame) (high : Float) (pac : C32) (start end : Float) (out : Out) (fsk : List ℕ) → FrameWithin p.max_pulses least k m fr → EndWithin p.max_pulses least k (m + 1) (end_frame_of p fr high pac start end out fsk)
unfolding end_frame_of
end_frame_within p least k m fr high pac start end out fsk h =
    let last : Committed × List ℕ = last_run_of p.max_pulses fr.fsk_phase fr.runs fr.done end fsk in
    let whole : CommitWithin p.max_pulses (m + 1) (close_by last) = close_pair_within p.max_pulses (m + 1) last.0 last.1 (last_run_within p.max_pulses m fr.fsk_phase fr.runs fr.done end fsk h.done_within) in
    either (EndWithin p.max_pulses least k (m + 1)) (is_frame_of p.mode (is_split_of fr.fsk_phase fr.levels.f_hi fr.levels.f_lo p.fsk_split) (enough_runs_of fr.done.fsk_runs fr.runs.fsk_has_prev))
    (search arith)
    (search arith)

-- ---- cut_train

-- at most as many pulses are kept as were looked at
kept_most : (ook : List ℕ) (n : ℕ) (limit : Float) (j k : ℕ) (s : Kept) → s.keep ≤ k → (keep_from ook n limit j k s).keep ≤ k + j
unfolding keep_from keep_next_of
kept_most ook n limit zero k s h = omega arith
kept_most ook n limit (suc j) k s h =
    either (λ (q : Kept). q.keep ≤ k + suc j) (le limit s.t)
    (omega arith)
    (omega (arith, kept_most ook n limit j (k + 1) (keep_next_of s k (get_or ook (2 * k) 0) (gap_at_of ook n k)) (omega arith)))

kept_total : (ook : List ℕ) (n total start : ℕ) (limit : Float) → (keep_before_of ook n total start limit).keep ≤ total
unfolding keep_before_of start_kept_of
kept_total ook n total start limit = omega (arith, kept_most ook n limit total 0 (start_kept_of start) (omega arith))

pub record EndedWithin (max : ℕ) (e : Ended) : Type 0 where
  pub train_within : TrainWithin max e.train
  pub out_within : OutWithin max e.out

abbrev pub CutWithin : ℕ → Ended × List ℕ → Type 0
CutWithin max q = EndedWithin max q.0

module _ (max : ℕ) (fits : max < 2 ^ 32) where
  pub ended_within : (t : Train) (high : Float) (out : Out) (ook : List ℕ) → TrainWithin max t → OutWithin max out → CutWithin max (end_train_of t high out ook)
  ended_within t high out ook h o = let e = end_train_within max fits t high out ook h o in search

  cut_by_within : (t : Train) (high : Float) (out : Out) (ook : List ℕ) (s : Kept) → s.keep ≤ max → TrainWithin max t → OutWithin max out → CutWithin max (cut_by t high out ook s)
  cut_by_within t high out ook s n h o =
      by_test (CutWithin max) (eqb s.keep 0)
      (λ q. record { train_within = empty_within max fits t; out_within = o })
      (λ q. ended_within (with_end s.end (with_pairs (s.keep - 1) 1 t)) high out ook (omega (arith, eqb-false s.keep 0 q)) o)

  pub cut_train_within : (t : Train) (high : Float) (out : Out) (start : Float) (ook : List ℕ) → TrainWithin max t → OutWithin max out → CutWithin max (cut_train_of t high out start ook)
  unfolding cut_train_of
  cut_train_within t high out start ook h o =
      let total : ℕ = (t.ook_n + t.«open») % 2 ^ 32 in
      let limit : Float = sub binary64 start (of_bits binary64 0x4000_0000_0000_0000) in
      cut_by_within t high out ook (keep_before_of ook t.ook_n total t.start limit)
      (omega (arith, h.pulses, kept_total ook t.ook_n total t.start limit))
      h o

-- ---- frame_done
-- the frame alone: train and records are those of Pairs
abbrev pub DoneWithin : ℕ → ℕ → ℕ → ℕ → Body × List ℕ × List ℕ → Type 0
DoneWithin max least k m q = FrameWithin max least k m q.0.frame

pub frame_done_within : (p : Settings) (least k m : ℕ) (b : Body) (high : Float) (pac : C32) (start end : Float) (ook fsk : List ℕ) → FrameWithin p.max_pulses least k m b.frame → DoneWithin p.max_pulses least k (m + 1) (frame_done_of p b high pac start end ook fsk)
unfolding frame_done_of
frame_done_within p least k m b high pac start end ook fsk h =
    let f : EndWithin p.max_pulses least k (m + 1) (end_frame_of p b.frame high pac start end b.out_fsk fsk) = end_frame_within p least k m b.frame high pac start end b.out_fsk fsk h in
    either (DoneWithin p.max_pulses least k (m + 1)) (end_frame_of p b.frame high pac start end b.out_fsk fsk).0.is_fsk
    (either (DoneWithin p.max_pulses least k (m + 1)) (eqb p.mode 2) f f)
    f
