-- The last stages of `sample` (source document 000), after presence: a carrier that lasts too long, and the end of the burst.
use Rattle.std.specs.Prelude.{ℕ, ◌+◌, Bool, true, false, cond, List, ltb, eqb, Float}
use Rattle.run.specs.declared.Run.{Run}
use Rattle.ook.specs.declared.Train.{Train}
use Rattle.shared.specs.declared.Out.{Out}
use Rattle.shared.specs.declared.Settings.{Settings}
use Rattle.ook.specs.Types.{Done}
use Rattle.shared.specs.declared.Next.TheVariants.{Idle, IdleAt}
use Rattle.ook.specs.Train.{with_started, end_train_of, gap_ratio_exceeded_of, stay_by, end_by}
use Rattle.envelope.specs.declared.Absence.{Absence}

-- `on && run_len > long_steps`
unfoldable pub carrier_of : Bool → ℕ → ℕ → Bool
carrier_of on run_len long_steps = cond on (ltb long_steps run_len) false

-- `!on && confirmed == 1 && p_level == 0 && p_confirmed == 1`: the envelope and the carrier are both gone
unfoldable pub gone_of : Bool → ℕ → ℕ → ℕ → Bool
gone_of on confirmed p_level p_confirmed = cond on false (cond (eqb confirmed 1) (cond (eqb p_level 0) (eqb p_confirmed 1) false) false)

-- `started == 1 && ook_n + open > 0`; refusal 4 keeps the sum at most max_pulses, so that it is exact
unfoldable pub has_pulses_of : Train → Bool
has_pulses_of t = cond (eqb t.started 1) (ltb 0 (t.ook_n + t.«open»)) false

-- `run_len > gap_steps || gap_ratio_exceeded`
unfoldable pub gap_over_of : Settings → Train → ℕ → Bool
gap_over_of p t n = cond (ltb p.gap_steps n) true (gap_ratio_exceeded_of p.gap_ratio t.longest n)

-- after a frame the wait of a train, else the shorter one
abbrev pub limit_of : Settings → ℕ → ℕ
limit_of p frames = cond (ltb 0 frames) p.gap_steps p.pre_timeout

-- the end of the burst: a train ends after a long gap; without a pulse the burst ends after the shorter wait
unfoldable pub wait_of : Settings → ℕ → Train → ℕ → Float → Out → List ℕ → Done × List ℕ
wait_of p n t frames high out ook =
    cond (has_pulses_of t)
    (cond (gap_over_of p t n) (end_by Idle (end_train_of t high out ook)) (stay_by out (t, ook)))
    (cond (ltb (limit_of p frames) n) (record { next = Idle; train = with_started 0 t; out = out }, ook) (stay_by out (t, ook)))

-- the stage whole: a carrier ends the train before it, and the lane learns it as noise
unfoldable pub tail_of : Settings → Bool → Float → Run → Absence → Float → Train → Out → List ℕ → Done × List ℕ
tail_of p on e r a high t out ook =
    cond (carrier_of on r.run_len p.long_steps)
    (end_by (IdleAt e) (end_train_of t high out ook))
    (cond (gone_of on r.confirmed a.p_level a.p_confirmed)
    (wait_of p r.run_len t a.frames high out ook)
    (stay_by out (t, ook)))
