-- The frame's stages stay within refusal 4's limits: flags stay 0 or 1, pairs plus open at most max_pulses, and a commit counts at most one run.
use Prim.Native.Nat.{ℕ, ◌+◌, ◌<◌, ◌≤◌}
use mathlib.Core.Bool.{Bool, not}
use mathlib.Core.List.{List}
use native.Mathlib.Omega.{arith}
use lib.Dec.{leb, eqb}
use lib.Ieee.{Float, lt}
use borrow.Author.Tests.{leb-false, eqb-false}
use Rattle.arith.specs.Leaves.{fsk_width_of}
use Rattle.shared.specs.Counts.{inc, bit}
use Rattle.shared.proofs.Cases.{either, by_test, bit_flag}
use Rattle.fsk.specs.Commit.{count_run_of, upper_run_of, lower_run_of, fsk_commit_of}
use Rattle.fsk.specs.RunStep.{lengthen_of, confirm_of, confirm_due_of, move_runs_of, fsk_run_step_of}
use Rattle.run.specs.Run.{due_of, start_run_of}
use Rattle.run.specs.declared.Move.{Move}
use Rattle.run.specs.declared.Move.TheVariants.{Same, Glitch, Begins}
use Rattle.run.proofs.Limits.{rejoin_within, begin_run_within}
use Rattle.run.proofs.Limits as run
use Rattle.fsk.specs.Resolve.{begin_frame_of, is_early_of, open_runs_of, turn_at_of, slice_thr_of, hi_lo_of, settle_of, fsk_resolve_of}
use Rattle.fsk.specs.declared.Committed.{Committed}
use Rattle.fsk.specs.declared.Runs.{Runs}
use Rattle.fsk.specs.declared.Ran.{Ran}
use Rattle.fsk.specs.Types.{Frame}
use Rattle.fsk.specs.declared.Turn.{Turn}
use Rattle.fsk.specs.declared.Opening.{Opening}
use Rattle.reached.specs.Limits.{CommittedWithin, RunsWithin, FrameWithin}

pub inc_most : (n : ℕ) → inc n ≤ n + 1
unfolding inc
inc_most n = omega arith

abbrev pub CommitWithin : ℕ → ℕ → Committed × List ℕ → Type 0
CommitWithin max m q = CommittedWithin max m q.0

module _ (max m : ℕ) where
  upper_run_within : (c : Committed) (b : Float) (fsk : List ℕ) → CommittedWithin max m c → CommitWithin max m (upper_run_of max c b fsk)
  unfolding upper_run_of
  upper_run_within c b fsk h =
      by_test (CommitWithin max m) (leb max c.fsk_n)
      (λ t. omega arith)
      (λ t. omega (arith, leb-false max c.fsk_n t))

  lower_run_within : (c : Committed) (a b : Float) (fsk : List ℕ) → CommittedWithin max m c → CommitWithin max m (lower_run_of max c a b fsk)
  unfolding lower_run_of
  lower_run_within c a b fsk h =
      by_test (CommitWithin max m) (eqb c.fsk_open 0)
      (λ t. by_test (CommitWithin max m) (leb max c.fsk_n)
      (λ u. omega arith)
      (λ u. omega (arith, inc_most c.fsk_n, leb-false max c.fsk_n u)))
      (λ t. omega (arith, inc_most c.fsk_n, eqb-false c.fsk_open 0 t))

module _ (max m : ℕ) where
  count_run_within : (c : Committed) (a : Float) → CommittedWithin max m c → CommittedWithin max (m + 1) (count_run_of c a)
  unfolding count_run_of
  count_run_within c a h = omega (arith, inc_most c.fsk_runs)

  -- a commit counts at most one run
  pub commit_within : (c : Committed) (upper : Bool) (a b : Float) (fsk : List ℕ) → CommittedWithin max m c → CommitWithin max (m + 1) (fsk_commit_of max c upper a b fsk)
  unfolding fsk_commit_of
  commit_within c upper a b fsk h =
      either (CommitWithin max (m + 1)) (eqb c.fsk_full 1) (omega arith)
      (either (CommitWithin max (m + 1)) (eqb (fsk_width_of a b).0 0) (omega arith)
      (either (CommitWithin max (m + 1)) upper
      (upper_run_within max (m + 1) (count_run_of c a) b fsk (count_run_within c a h))
      (lower_run_within max (m + 1) (count_run_of c a) a b fsk (count_run_within c a h))))

-- the run machine

pub record RanWithin (max m : ℕ) (s : Ran) : Type 0 where
  pub runs_within : RunsWithin s.runs
  pub done_within : CommittedWithin max m s.done

abbrev pub StepWithin : ℕ → ℕ → Ran × List ℕ → Type 0
StepWithin max m q = RanWithin max m q.0

pub lengthen_within : (r : Runs) → RunsWithin r → RunsWithin (lengthen_of r)
unfolding lengthen_of
lengthen_within r h = search run.lengthen_within

move_runs_within : (m : Move) (r : Runs) (upper : Bool) (tc : Float) → RunsWithin r → RunsWithin (move_runs_of m r (bit upper) tc)
move_runs_within Same r upper tc h = lengthen_within r h
move_runs_within Glitch r upper tc h = search (rejoin_within, bit_flag upper, arith)
move_runs_within Begins r upper tc h = search (begin_run_within, bit_flag upper, arith)

module _ (max m : ℕ) where
  confirm_within : (r : Runs) (c : Committed) (upper : Bool) (fsk : List ℕ) → RunsWithin r → CommittedWithin max m c → StepWithin max (m + 1) (confirm_of max r c upper fsk)
  unfolding confirm_of
  confirm_within r c upper fsk h d =
      either (StepWithin max (m + 1)) (eqb r.fsk_has_prev 1)
      (search (commit_within, arith))
      (search arith)

  confirm_due_within : (least : ℕ) (r : Runs) (c : Committed) (upper : Bool) (fsk : List ℕ) → RunsWithin r → CommittedWithin max m c → StepWithin max (m + 1) (confirm_due_of max least r c upper fsk)
  unfolding confirm_due_of
  confirm_due_within least r c upper fsk h d =
      either (StepWithin max (m + 1)) (due_of r.run least) (confirm_within r c upper fsk h d) (search arith)

  -- a step commits at most one run
  pub run_step_within : (least : ℕ) (r : Runs) (c : Committed) (upper : Bool) (tc : Float) (fsk : List ℕ) → RunsWithin r → CommittedWithin max m c → StepWithin max (m + 1) (fsk_run_step_of max least r c upper tc fsk)
  unfolding fsk_run_step_of
  run_step_within least r c upper tc fsk h d = confirm_due_within least (move_runs_of _ r (bit upper) tc) c upper fsk (move_runs_within _ r upper tc h) d

-- a frame begins with nothing counted

pub begin_frame_within : (max least : ℕ) (fr : Frame) (t : Float) → 0 < least → FrameWithin max least 0 0 (begin_frame_of fr t)
unfolding begin_frame_of start_run_of
begin_frame_within max least fr t h = search arith

-- the first transition commits at most two runs

abbrev pub OpeningWithin : ℕ → ℕ → Opening × List ℕ → Type 0
OpeningWithin max m q = CommittedWithin max m q.0.done

module _ (max m : ℕ) where
  pub open_runs_within : (early up : Bool) (from t : Float) (c : Committed) (fsk : List ℕ) → CommittedWithin max m c → OpeningWithin max (m + 1) (open_runs_of max early up from t c fsk)
  unfolding open_runs_of
  open_runs_within early up from t c fsk h =
      either (OpeningWithin max (m + 1)) early (commit_within max m c (not up) from t fsk h) (omega arith)

  pub settle_within : (least : ℕ) (up : Bool) (run : ℕ) (t : Turn) (o : Opening) (fsk : List ℕ) → CommittedWithin max m o.done → StepWithin max (m + 1) (settle_of max least up run t o fsk)
  unfolding settle_of
  settle_within least up run t o fsk h =
      either (StepWithin max (m + 1)) (leb least t.second)
      (search (commit_within, bit_flag (not up), arith))
      (search (bit_flag (not up), arith))

abbrev pub SampleWithin : ℕ → ℕ → ℕ → ℕ → Frame × List ℕ → Type 0
SampleWithin max least k m q = FrameWithin max least k m q.0

pub resolve_within : (max least k m : ℕ) (fr : Frame) (f : Float) (idx : ℕ) (fsk : List ℕ) → fr.early.early ≤ 1 → fr.mean.fsk_cnt ≤ k → CommittedWithin max m fr.done → SampleWithin max least k (m + 1 + 1) (fsk_resolve_of max least fr f idx fsk)
unfolding fsk_resolve_of
resolve_within max least k m fr f idx fsk e n d =
    let up : Bool = lt f fr.mean.f_ref in
    let hi : Float = (hi_lo_of up fr.mean.f_ref f).f_hi in
    let lo : Float = (hi_lo_of up fr.mean.f_ref f).f_lo in
    let opened : Opening × List ℕ = open_runs_of max (is_early_of fr.early up hi lo fr.runs.run.t_run) up fr.runs.run.t_run fr.early.t_early fr.done fsk in
    let s : StepWithin max (m + 1 + 1) (settle_of max least up fr.runs.run.run_len (turn_at_of up (slice_thr_of up hi lo) fr.cand f idx) opened.0 opened.1) = settle_within max (m + 1) least up fr.runs.run.run_len _ opened.0 opened.1 (open_runs_within max m _ up fr.runs.run.t_run fr.early.t_early fr.done fsk d) in
    search arith
