-- The stages lead from refusal 4's limits (document 01) to there: flags stay 0 or 1, pulses plus open at most max_pulses.
use Prim.Native.Nat.{ℕ, ◌^◌, ◌<◌}
use mathlib.Core.Bool.{Bool}
use mathlib.Core.List.{List}
use native.Mathlib.Omega.{arith}
use lib.Dec.{leb, eqb, ltb}
use lib.Ieee.{Float}
use Rattle.arith.specs.declared.C32.{C32}
use Rattle.arith.proofs.Carry.{taken_within}
use Rattle.run.specs.Run.{due_of}
use Rattle.run.specs.declared.Run.{Run}
use Rattle.run.proofs.Limits.{sure_within}
use Rattle.ook.specs.declared.Env.{Env}
use Rattle.ook.specs.declared.Train.{Train}
use Rattle.shared.specs.declared.Out.{Out}
use Rattle.ook.specs.Types.{Done}
use Rattle.shared.specs.declared.Settings.{Settings}
use Rattle.shared.specs.declared.Next.TheVariants.{Idle, IdleAt}
use Rattle.shared.specs.Params.{refine_at_of}
use Rattle.ook.specs.Train.{with_bound}
use Rattle.ook.specs.Limits.{EnvWithin, TrainWithin, OutWithin, DoneWithin}
use Rattle.shared.proofs.Cases.{either}
use Rattle.ook.proofs.Limits.{advance_within, close_gap_within, pulse_done_within, stay_within, end_within}
use Rattle.envelope.specs.declared.At.{At}
use Rattle.envelope.specs.declared.Seen.{Seen}
use Rattle.envelope.specs.Types.{Acted}
use Rattle.envelope.specs.declared.Absence.{Absence}
use Rattle.envelope.specs.See.{refine_due_of, see_of}
use Rattle.envelope.specs.Act.{taken_of, confirm_if, rise_of, fall_of, confirm_of, act_of}
use Rattle.envelope.specs.Tail.{carrier_of, gone_of, has_pulses_of, gap_over_of, limit_of, wait_of, tail_of}

refine_due_within : (m : ℕ) (a : At) (ring : List Float) (high : Float) (on : Bool) (s : Env) → EnvWithin s → EnvWithin (refine_due_of m a ring high on s)
unfolding refine_due_of
refine_due_within m a ring high on s h =
    either EnvWithin (eqb s.ref_pending 1)
    (either EnvWithin (leb (refine_at_of m) s.run.run_len) (record { run_within = record { level_flag = h.run_within.level_flag; confirmed_flag = h.run_within.confirmed_flag }; pending_flag = omega arith }) h)
    h

pub see_within : (p : Settings) (a : At) (ring : List Float) (high before : Float) (s : Env) (pac : C32) → EnvWithin s → EnvWithin (see_of p a ring high before s pac).env
unfolding see_of
see_within p a ring high before s pac h = refine_due_within p.min_steps a ring high _ _ (advance_within _ s _ _ a.idx h)

confirm_if_within : (due : Bool) (s : Env) → EnvWithin s → EnvWithin (confirm_if due s)
unfolding confirm_if
confirm_if_within due s h = either EnvWithin due (record { run_within = sure_within s.run h.run_within; pending_flag = h.pending_flag }) h

pub record ActedWithin (max : ℕ) (d : Acted) : Type 0 where
  pub env_within : EnvWithin d.env
  pub train_within : TrainWithin max d.train
  pub out_within : OutWithin max d.out

-- what holds of the answer alone, whatever the buffer
abbrev pub Within : ℕ → Done × List ℕ → Type 0
Within max q = DoneWithin max q.0

module _ (p : Settings) (fits : p.max_pulses < 2 ^ 32) where
  -- the train takes a boundary on
  taken_on : (s : Env) (t : Train) → TrainWithin p.max_pulses t → TrainWithin p.max_pulses (with_bound (taken_of p.carry s t).bound t)
  taken_on s t h = record {
    started_flag = h.started_flag;
    open_flag = h.open_flag;
    truncated_flag = h.truncated_flag;
    pulses = h.pulses;
    bounded = taken_within p.carry t.origin t.bound s.run.t_prev s.run.t_run h.bounded;
  }

  rise_within : (s : Env) (t : Train) (ook : List ℕ) → TrainWithin p.max_pulses t → TrainWithin p.max_pulses (rise_of p.carry s t ook).0
  unfolding rise_of
  rise_within s t ook h =
      either (λ (q : Train × List ℕ). TrainWithin p.max_pulses q.0) (eqb t.started 1)
      (close_gap_within p.max_pulses fits (with_bound (taken_of p.carry s t).bound t) (taken_of p.carry s t).width ook (taken_on s t h))
      (record { started_flag = omega arith; open_flag = h.open_flag; truncated_flag = h.truncated_flag; pulses = h.pulses; bounded = omega arith })

  confirm_within : (due on : Bool) (s : Env) (t : Train) (pac : C32) (high : Float) (out : Out) (ook : List ℕ) → TrainWithin p.max_pulses t → OutWithin p.max_pulses out → Within p.max_pulses (confirm_of due p on s t pac high out ook)
  unfolding confirm_of fall_of
  confirm_within due on s t pac high out ook h o =
      either (Within p.max_pulses) due
      (either (Within p.max_pulses) on
      (stay_within p.max_pulses (rise_of p.carry s t ook).0 out (rise_of p.carry s t ook).1 (rise_within s t ook h) o)
      (either (Within p.max_pulses) (eqb t.started 1) (pulse_done_within p fits (with_bound (taken_of p.carry s t).bound t) pac high out _ _ ook (taken_on s t h) o) (stay_within p.max_pulses t out ook h o)))
      (stay_within p.max_pulses t out ook h o)

  pub act_within : (s : Seen) (t : Train) (out : Out) (ook : List ℕ) → EnvWithin s.env → TrainWithin p.max_pulses t → OutWithin p.max_pulses out → ActedWithin p.max_pulses (act_of p s t out ook).0
  unfolding act_of
  act_within s t out ook v h o =
      let d : Within p.max_pulses (confirm_of (due_of s.env.run p.min_steps) p s.on s.env t s.pac s.high out ook) = confirm_within _ s.on s.env t s.pac s.high out ook h o in
      record { env_within = confirm_if_within _ s.env v; train_within = d.train_within; out_within = d.out_within }

  wait_within : (n : ℕ) (t : Train) (frames : ℕ) (high : Float) (out : Out) (ook : List ℕ) → TrainWithin p.max_pulses t → OutWithin p.max_pulses out → Within p.max_pulses (wait_of p n t frames high out ook)
  unfolding wait_of
  wait_within n t frames high out ook h o =
      either (Within p.max_pulses) (has_pulses_of t)
      (either (Within p.max_pulses) (gap_over_of p t n) (end_within p.max_pulses fits Idle t high out ook h o) (stay_within p.max_pulses t out ook h o))
      (either (Within p.max_pulses) (ltb (limit_of p frames) n)
      (record { train_within = record { started_flag = omega arith; open_flag = h.open_flag; truncated_flag = h.truncated_flag; pulses = h.pulses; bounded = h.bounded }; out_within = o })
      (stay_within p.max_pulses t out ook h o))

  pub tail_within : (on : Bool) (e : Float) (r : Run) (a : Absence) (high : Float) (t : Train) (out : Out) (ook : List ℕ) → TrainWithin p.max_pulses t → OutWithin p.max_pulses out → Within p.max_pulses (tail_of p on e r a high t out ook)
  unfolding tail_of
  tail_within on e r a high t out ook h o =
      either (Within p.max_pulses) (carrier_of on r.run_len p.long_steps)
      (end_within p.max_pulses fits (IdleAt e) t high out ook h o)
      (either (Within p.max_pulses) (gone_of on r.confirmed a.p_level a.p_confirmed)
      (wait_within r.run_len t a.frames high out ook h o)
      (stay_within p.max_pulses t out ook h o))
