-- Laws of the definitions in specs/Limits.
use Prim.Native.Nat.{ℕ, ◌^◌, ◌<◌}
use mathlib.Core.Bool.{Bool}
use mathlib.Core.List.{List}
use mathlib.Core.Path.{◌≡◌}
use native.Mathlib.Omega.{arith}
use lib.Dec.{leb, eqb, ltb}
use lib.Ieee.{Float}
use borrow.Author.Tests.{leb-false, eqb-true}
use Rattle.arith.specs.declared.C32.{C32}
use Rattle.arith.specs.declared.Steps.{Steps}
use Rattle.arith.specs.Leaves.{step_of}
use Rattle.ook.specs.declared.Env.{Env}
use Rattle.ook.specs.declared.Train.{Train}
use Rattle.shared.specs.declared.Out.{Out}
use Rattle.shared.specs.declared.Settings.{Settings}
use Rattle.ook.specs.declared.Pushed.{Pushed}
use Rattle.shared.specs.declared.Next.{Next}
use Rattle.shared.specs.declared.Next.TheVariants.{Idle}
use Rattle.ook.specs.Types.{Done}
use Rattle.shared.proofs.Counts.{inc_exact}
use Rattle.shared.specs.Counts.{bit}
use Rattle.run.specs.Run.{moved_of}
use Rattle.run.specs.Limits.{RunWithin}
use Rattle.run.specs.declared.Run.{Run}
use Rattle.run.specs.declared.Move.{Move}
use Rattle.run.specs.declared.Move.TheVariants.{Same, Glitch, Begins}
use Rattle.run.proofs.Limits.{moved_within, start_run_within}
use Rattle.ook.specs.Run.{follow_of, advance_of, begin_env_of}
use Rattle.ook.specs.Train.{with_started, with_end, with_longest, longer_of, zero_steps, stay_by, end_by, push_pulse_of, pushed_by, close_gap_of, empty_train_of, finish_of, end_train_of, pulse_done_of}
use Rattle.ook.specs.Limits.{EnvWithin, TrainWithin, OutWithin, DoneWithin}
use Rattle.shared.proofs.Cases.{either, by_test, bit_flag}

-- the run

follow_within : (m : Move) (r : Run) (s : Env) (idx : ℕ) → RunWithin r → EnvWithin s → EnvWithin (follow_of m r s idx)
follow_within Same r s idx w h = record { run_within = w; pending_flag = h.pending_flag }
follow_within Glitch r s idx w h = record { run_within = w; pending_flag = omega arith }
follow_within Begins r s idx w h = record { run_within = w; pending_flag = omega arith }

pub advance_within : (m : Move) (s : Env) (on : Bool) (tc : Float) (idx : ℕ) → EnvWithin s → EnvWithin (advance_of m s on tc idx)
unfolding advance_of
advance_within m s on tc idx h = follow_within m (moved_of m s.run (bit on) tc) s idx (moved_within m s.run (bit on) tc (bit_flag on) h.run_within) h

pub begin_env_within : (t : Float) (s : Env) → EnvWithin s → EnvWithin (begin_env_of t s)
unfolding begin_env_of
begin_env_within t s h = record { run_within = start_run_within t; pending_flag = h.pending_flag }

-- the train

module _ (max : ℕ) where
  pub push_within : (t : Train) (pac : C32) (len : Steps) (ook : List ℕ) → TrainWithin max t → TrainWithin max (push_pulse_of max t pac len ook).0.train
  unfolding push_pulse_of
  push_within t pac len ook h =
      by_test (λ (q : Pushed × List ℕ). TrainWithin max q.0.train) (leb max t.ook_n) (λ q. omega arith) (λ q. omega (arith, leb-false max t.ook_n q))

  module _ (fits : max < 2 ^ 32) where
    pub close_gap_within : (t : Train) (gap : Steps) (ook : List ℕ) → TrainWithin max t → TrainWithin max (close_gap_of t gap ook).0
    unfolding close_gap_of
    close_gap_within t gap ook h =
        by_test (λ (q : Train × List ℕ). TrainWithin max q.0) (eqb t.«open» 1)
        (λ q. let one : t.«open» ≡ 1 = eqb-true t.«open» 1 q in omega (arith, inc_exact t.ook_n (omega arith)))
        (λ q. h)

    pub empty_within : (t : Train) → TrainWithin max (empty_train_of t)
    unfolding empty_train_of
    empty_within t = omega arith

    pub finish_within : (t : Train) (high : Float) (out : Out) → TrainWithin max t → OutWithin max out → TrainWithin max (finish_of t high out).train × OutWithin max (finish_of t high out).out
    unfolding finish_of
    finish_within t high out h o = (
      empty_within t,
      either (OutWithin max) (ltb 0 t.ook_n) (omega (arith, bit_flag (eqb t.truncated 1))) o,
    )

    -- a train that ended is within the limits, and so is its record
    pub end_train_within : (t : Train) (high : Float) (out : Out) (ook : List ℕ) → TrainWithin max t → OutWithin max out → TrainWithin max (end_train_of t high out ook).0.train × OutWithin max (end_train_of t high out ook).0.out
    unfolding end_train_of
    end_train_within t high out ook h o = finish_within (close_gap_of t zero_steps ook).0 high out (close_gap_within t zero_steps ook h) o

pub stay_within : (max : ℕ) (t : Train) (out : Out) (ook : List ℕ) → TrainWithin max t → OutWithin max out → DoneWithin max (stay_by out (t, ook)).0
stay_within max t out ook h o = record { train_within = h; out_within = o }

pub end_within : (max : ℕ) → max < 2 ^ 32 → (next : Next) (t : Train) (high : Float) (out : Out) (ook : List ℕ) → TrainWithin max t → OutWithin max out → DoneWithin max (end_by next (end_train_of t high out ook)).0
end_within max fits next t high out ook h o = record { train_within = (end_train_within max fits t high out ook h o).0; out_within = (end_train_within max fits t high out ook h o).1 }

module _ (p : Settings) (fits : p.max_pulses < 2 ^ 32) where
  pushed_within : (high : Float) (out : Out) (q : Pushed × List ℕ) → TrainWithin p.max_pulses q.0.train → OutWithin p.max_pulses out → DoneWithin p.max_pulses (pushed_by high out q).0
  pushed_within high out q h o =
      either (λ (d : Done × List ℕ). DoneWithin p.max_pulses d.0) q.0.fits
      (stay_within p.max_pulses q.0.train out q.1 h o)
      (end_within p.max_pulses fits Idle q.0.train high out q.1 h o)

  pub pulse_done_within : (t : Train) (pac : C32) (high : Float) (out : Out) (len : Steps) (end : Float) (ook : List ℕ) → TrainWithin p.max_pulses t → OutWithin p.max_pulses out → DoneWithin p.max_pulses (pulse_done_of p t pac high out len end ook).0
  unfolding pulse_done_of
  pulse_done_within t pac high out len end ook h o =
      let n : Train = with_longest (longer_of t.longest len) (with_end (step_of end) t) in
      either (λ (d : Done × List ℕ). DoneWithin p.max_pulses d.0) (eqb p.mode 1)
      (stay_within p.max_pulses (with_started 0 (with_end (step_of end) t)) out ook (omega arith) o)
      (pushed_within high out (push_pulse_of p.max_pulses n pac len ook) (push_within p.max_pulses n pac len ook (omega arith)) o)
