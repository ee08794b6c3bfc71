-- The confirmation of a run in `sample` (source document 000): what the train makes of a run that has min_steps samples.
use Rattle.std.specs.Prelude.{ℕ, Bool, cond, List, eqb, Float}
use Rattle.arith.specs.declared.C32.{C32}
use Rattle.arith.specs.declared.Carried.{Carried}
use Rattle.arith.specs.Leaves.{step_of}
use Rattle.arith.specs.Carry.{width_by}
use Rattle.ook.specs.declared.Env.{Env}
use Rattle.ook.specs.declared.Train.{Train}
use Rattle.shared.specs.declared.Out.{Out}
use Rattle.shared.specs.declared.Settings.{Settings}
use Rattle.ook.specs.Types.{Done}
use Rattle.run.specs.Run.{with_confirmed, due_of}
use Rattle.ook.specs.Run.{with_run}
use Rattle.ook.specs.Train.{with_first, with_bound, close_gap_of, pulse_done_of, stay_by}
use Rattle.envelope.specs.declared.Seen.{Seen}
use Rattle.envelope.specs.Types.{Acted}

-- `confirmed = 1`
unfoldable pub confirm_if : Bool → Env → Env
confirm_if due s = cond due (with_run (with_confirmed 1 s.run) s) s

-- the width of the run before, up to the edge t_run, in the mode that carry gives
abbrev pub taken_of : ℕ → Env → Train → Carried
taken_of carry s t = width_by carry t.origin t.bound s.run.t_prev s.run.t_run

-- a high run counts: the gap before it is final, or the train starts at c_run
unfoldable pub rise_of : ℕ → Env → Train → List ℕ → Train × List ℕ
rise_of carry s t ook =
    cond (eqb t.started 1)
    (close_gap_of (with_bound (taken_of carry s t).bound t) (taken_of carry s t).width ook)
    (with_first (step_of s.c_run) s.run.t_run t, ook)

-- a low run counts: the pulse before it is final
unfoldable pub fall_of : Settings → Env → Train → C32 → Float → Out → List ℕ → Done × List ℕ
fall_of p s t pac high out ook =
    cond (eqb t.started 1)
    (pulse_done_of p (with_bound (taken_of p.carry s t).bound t) pac high out (taken_of p.carry s t).width s.c_run ook)
    (stay_by out (t, ook))

-- what the train makes of the run, if it counts from here on
unfoldable pub confirm_of : Bool → Settings → Bool → Env → Train → C32 → Float → Out → List ℕ → Done × List ℕ
confirm_of due p on s t pac high out ook =
    cond due
    (cond on (stay_by out (rise_of p.carry s t ook)) (fall_of p s t pac high out ook))
    (stay_by out (t, ook))

abbrev pub acted_by : Env → Done × List ℕ → Acted × List ℕ
acted_by s q = (record { next = q.0.next; env = s; train = q.0.train; out = q.0.out }, q.1)

-- the stage whole; an answer other than stay ends the sample here
unfoldable pub act_of : Settings → Seen → Train → Out → List ℕ → Acted × List ℕ
act_of p s t out ook =
    let due : Bool = due_of s.env.run p.min_steps in
    acted_by (confirm_if due s.env) (confirm_of due p s.on s.env t s.pac s.high out ook)
