-- Document 01, "Replies other than an answer, in checking order", for begin and step.
use Rattle.std.specs.Prelude.{ℕ, ◌+◌, Bool, true, cond, not, ◌&&◌, ◌≡◌, leb, eqb, ⊤, Result, Ok}
use Rattle.shared.specs.declared.Settings.{Settings}
use Rattle.refusals.specs.Domain.{settings_ok, unset_ok, factor_ok, envelope_ok, sample_ok, index_ok, room_ok}
use Rattle.refusals.specs.Serial.{serial_ok, serial_left}
use Rattle.refusals.specs.State.{burst_ok, lead_ok, cand_ok}
use Rattle.refusals.specs.declared.Refusal.{Refusal}
use Rattle.refusals.specs.declared.Refusal.TheVariants as refusal
use Rattle.refusals.specs.Order.{check, first_failed}
use Rattle.lane.specs.declared.History.{History}
use Rattle.lane.specs.declared.BeginArgs.{BeginArgs}
use Rattle.lane.specs.declared.StepArgs.{StepArgs}
use Rattle.lane.specs.declared.Lane.{Lane}

-- a lane that never had settings is idle, and has none; one that had has them in the domain
unfoldable pub opened_ok : ℕ → ℕ → Settings → Bool
opened_ok had phase p = cond (eqb had 0) (eqb phase 0 && unset_ok p) (eqb had 1 && settings_ok p)

-- refusal 4
unfoldable pub lane_ok : Lane → Bool
lane_ok l =
    opened_ok l.opened l.phase l.settings
    && leb l.phase 2
    && burst_ok l.settings.max_pulses l.burst
    && lead_ok l.phase l.settings.min_steps l.lead
    && cand_ok l.phase l.settings.min_steps l.burst.frame
    && index_ok l.last
    && serial_ok l.serial

-- refusal 7
unfoldable pub history_ok : History → Bool
history_ok h = envelope_ok h.e1 && envelope_ok h.e2 && envelope_ok h.e3 && envelope_ok h.e4 && envelope_ok h.e5 && envelope_ok h.e6 && envelope_ok h.e7

unfoldable pub begin_floats_ok : BeginArgs → Bool
begin_floats_ok b = factor_ok b.factor && envelope_ok b.envelope && sample_ok b.x && sample_ok b.before && history_ok b.history

unfoldable pub step_floats_ok : StepArgs → Bool
step_floats_ok s = envelope_ok s.noise && envelope_ok s.envelope && sample_ok s.x

-- refusal 6 of a step: the last index plus 1
unfoldable pub follows_of : ℕ → ℕ → Bool
follows_of last index = eqb index (last + 1)

-- why the call is refused, if it is: opening reads of the lane it replaces only the serial
unfoldable pub open_refusal : Lane → Settings → Result ⊤ Refusal
open_refusal l p = check refusal.Settings (settings_ok p) (check refusal.Serial (serial_left l.serial) (Ok tt))

-- ook and fsk are the buffers' lengths
unfoldable pub begin_refusal : Lane → BeginArgs → ℕ → ℕ → Result ⊤ Refusal
begin_refusal l b ook fsk = first_failed (not (eqb l.opened 0)) (lane_ok l) (eqb l.phase 0) (serial_left l.serial) (index_ok b.index) (begin_floats_ok b) (room_ok l.settings ook fsk)

-- the lane's own check is `lane`; a step never asks whether the serial is spent, so that a burst begun before may run on
abbrev pub step_refusal_by : Bool → Settings → ℕ → ℕ → StepArgs → ℕ → ℕ → Result ⊤ Refusal
step_refusal_by lane p phase last s ook fsk = first_failed true lane (not (eqb phase 0)) true (index_ok s.index && follows_of last s.index) (step_floats_ok s) (room_ok p ook fsk)

unfoldable pub step_refusal : Lane → StepArgs → ℕ → ℕ → Result ⊤ Refusal
step_refusal l s ook fsk = step_refusal_by (lane_ok l) l.settings l.phase l.last s ook fsk

-- close (R-13): 4, 5 and 8
unfoldable pub close_refusal : Lane → ℕ → ℕ → Result ⊤ Refusal
close_refusal l ook fsk = first_failed true (lane_ok l) (not (eqb l.phase 0)) true true true (room_ok l.settings ook fsk)

-- the seven checks of refusal 4, one by one
pub record Passes (l : Lane) : Type 0 where
  pub had : opened_ok l.opened l.phase l.settings ≡ true
  pub named : leb l.phase 2 ≡ true
  pub within : burst_ok l.settings.max_pulses l.burst ≡ true
  pub filled : lead_ok l.phase l.settings.min_steps l.lead ≡ true
  pub waits : cand_ok l.phase l.settings.min_steps l.burst.frame ≡ true
  pub near : index_ok l.last ≡ true
  pub counted : serial_ok l.serial ≡ true
