-- Hollow programs, document 01's table "What a hollow lane would meet", and others that demand 3 shuts out. That none of them meets it is
-- proved in proofs/Hollow (`hollow_fail`), each by one small list.
use Rattle.std.specs.Prelude.{Result, Bool, false, cond, ◌||◌, List, [], ◌∷◌, ℕ, ◌+◌, ◌-◌, ◌*◌, max, leb, eqb, set}
use Rattle.ieee.specs.Constants.{zero32}
use Rattle.shared.specs.declared.Settings.{Settings}
use Rattle.shared.specs.declared.Next.{Next}
use Rattle.shared.specs.declared.Out.{Out}
use Rattle.shared.specs.Counts.{bit}
use Rattle.refusals.specs.declared.Refusal.{Refusal}
use Rattle.lane.specs.Idle.{no_out}
use Rattle.lane.specs.Serial.{stamp_of}
use Rattle.lane.specs.declared.Lane.{Lane}
use Rattle.lane.specs.declared.StepArgs.{StepArgs}
use Rattle.lane.specs.Answers.{reply_number_of}
use Rattle.pulses.specs.Demand.{Returned, Program, the_lane, Demand3}

-- a program that does not meet demand 3
abbrev pub Fails : Program → Type 0
Fails W = Demand3 W → ⊥

-- ---- the lane with something changed
-- what is returned, with another OOK record, and with other slots
abbrev with_out : Out → Returned Refusal Lane → Returned Refusal Lane
with_out o r = record { reply = r.reply; lane = r.lane; out = o; ook = r.ook; fsk = r.fsk }

abbrev with_slots : List ℕ → Returned Refusal Lane → Returned Refusal Lane
with_slots ook r = record { reply = r.reply; lane = r.lane; out = r.out; ook = ook; fsk = r.fsk }

-- a record that decides a train of so many pairs, with this cut mark
abbrev train : ℕ → ℕ → Out → Out
train pairs cut o = record { index = o.index; end = o.end; state = 1; cut = cut; pairs = pairs; level = o.level; fsk = o.fsk; carrier = o.carrier; serial = o.serial }

abbrev decides : Returned Refusal Lane → Bool
decides r = eqb r.out.state 1

-- other settings than those that it is opened with, something else returned of a step, another close, and a part fetched by another lane
abbrev lane_by : (Lane → Settings → Settings) → (Returned Refusal Lane → Returned Refusal Lane) → (Lane → List ℕ → List ℕ → Returned Refusal Lane) → (Lane → Lane) → Program
lane_by settings stepped close fetching = record {
  Refused = Refusal;
  Lanes = Lane;
  new = the_lane.new;
  opening = λ l p. the_lane.opening l (settings l p);
  begin = the_lane.begin;
  step = λ l s ook fsk. stepped (the_lane.step l s ook fsk);
  close = close;
  part = λ l o ook fsk. the_lane.part (fetching l) o ook fsk;
}

abbrev asked : Lane → Settings → Settings
asked l p = p

abbrev same : {A : Type 0} → A → A
same x = x

abbrev closing : (Returned Refusal Lane → Returned Refusal Lane) → Lane → List ℕ → List ℕ → Returned Refusal Lane
closing f l ook fsk = f (the_lane.close l ook fsk)

-- what a step or a close returns is changed, and the same where it decides a train
abbrev changed : (Returned Refusal Lane → Returned Refusal Lane) → Program
changed f = lane_by asked f (closing f) same

abbrev train_changed : (Returned Refusal Lane → Returned Refusal Lane) → Program
train_changed f = changed (λ r. cond (decides r) (f r) r)

-- where a lane with other settings refuses a step or a close, it returns the number alone
abbrev opens_by : (Lane → Settings → Settings) → Program
opens_by f = lane_by f alone (closing alone) same
  where
    alone : Returned Refusal Lane → Returned Refusal Lane
    alone r = cond (eqb (reply_number_of r.reply) 3) (with_out no_out r) r

abbrev pub opens_with : (Settings → Settings) → Program
opens_with f = opens_by (λ l p. f p)

-- settings with other steps and another carry, and with other steps alone
abbrev with_whole : ℕ → ℕ → ℕ → ℕ → Settings → Settings
with_whole min gap pre carry p = record { mode = p.mode; min_steps = min; gap_steps = gap; pre_timeout = pre; long_steps = p.long_steps; max_pulses = p.max_pulses; alpha = p.alpha; gap_ratio = p.gap_ratio; fsk_delta = p.fsk_delta; fsk_split = p.fsk_split; carry = carry }

abbrev pub with_steps : ℕ → ℕ → ℕ → Settings → Settings
with_steps min gap pre p = with_whole min gap pre p.carry p

-- ---- document 01's table
-- "stays for ever and writes no slot", "refuses each call": whatever it replies, it gives no train
unfoldable pub silent : {E : Type 0} → Result Next E → Program
silent {E} reply = record {
  Refused = E;
  Lanes = Unit {0};
  new = tt;
  opening = λ l p. tt;
  begin = λ l b ook fsk. nothing ook fsk;
  step = λ l s ook fsk. nothing ook fsk;
  close = λ l ook fsk. nothing ook fsk;
  part = λ l o ook fsk. [];
}
  where
    nothing : List ℕ → List ℕ → Returned E (Unit {0})
    nothing ook fsk = record { reply = reply; lane = tt; out = no_out; ook = ook; fsk = fsk }

-- "gives one fixed train", that of M6
unfoldable pub fixed : Program
fixed = train_changed (λ r. with_slots (4 ∷ 0 ∷ []) (with_out (train 1 0 r.out) r))

-- "works out the first burst and gives no train for any later one": its lane remembers that it gave one
unfoldable pub first_only : Program
first_only = record {
  Refused = Refusal;
  Lanes = Lane × Bool;
  new = (the_lane.new, false);
  opening = λ l p. (the_lane.opening l.0 p, l.1);
  begin = λ l b ook fsk. once l.1 (the_lane.begin l.0 b ook fsk);
  step = λ l s ook fsk. once l.1 (the_lane.step l.0 s ook fsk);
  close = λ l ook fsk. once l.1 (the_lane.close l.0 ook fsk);
  part = λ l o ook fsk. the_lane.part l.0 o ook fsk;
}
  where
    once : Bool → Returned Refusal Lane → Returned Refusal (Lane × Bool)
    once gave r = record { reply = r.reply; lane = (r.lane, gave || decides r); out = cond gave no_out r.out; ook = r.ook; fsk = r.fsk }

-- "invents the pair count": one more than the lane has
unfoldable pub invented : Program
invented = train_changed (λ r. with_out (train (r.out.pairs + 1) r.out.cut r.out) r)

-- "says idle … too early": it waits one step, whatever its settings say
unfoldable pub idle_early : Program
idle_early = opens_with (λ p. with_steps p.min_steps 1 1 p)

-- "marks cut, too early": with max_pulses pulses, and not only with more
unfoldable pub cut_early : Program
cut_early = train_changed (λ r. with_out (train r.out.pairs (bit (leb r.lane.settings.max_pulses r.out.pairs)) r.out) r)

-- ---- others
-- a glitch counts as a run and parts a pulse in two
unfoldable pub glitch_counts : Program
glitch_counts = opens_with (λ p. with_steps 1 p.gap_steps p.pre_timeout p)

-- a pulse is given as a train once it is closed, before its burst has ended
unfoldable pub train_early : Program
train_early = changed (λ r. cond (eqb r.lane.burst.train.«open» 1) (with_out (train 1 0 r.out) r) r)

-- the train is named an FSK frame's
unfoldable pub other_kind : Program
other_kind = train_changed (λ r. with_out (fsk_kind r.out) r)
  where
    fsk_kind : Out → Out
    fsk_kind o = record { index = o.index; end = o.end; state = o.state; cut = o.cut; pairs = o.pairs; level = o.level; fsk = 1; carrier = o.carrier; serial = o.serial }

-- right widths, and each gap 0
unfoldable pub gapless : Program
gapless = train_changed (λ r. with_slots (zeros r.ook) r)
  where
    zeros : List ℕ → List ℕ
    zeros [] = []
    zeros (x ∷ []) = x ∷ []
    zeros (x ∷ y ∷ s) = x ∷ 0 ∷ zeros s

-- ---- carry (document 02, R-1)
-- widths always without carry, always with it, and with it once a carry was on, whatever the settings say
abbrev carries : (Lane → Settings → ℕ) → Program
carries carry = opens_by (λ l p. with_whole p.min_steps p.gap_steps p.pre_timeout (carry l p) p)

unfoldable pub never_carries : Program
never_carries = carries (λ l p. 0)

unfoldable pub always_carries : Program
always_carries = carries (λ l p. 1)

unfoldable pub carries_on : Program
carries_on = carries (λ l p. max l.settings.carry p.carry)

-- ---- the serial (document 02, R-6)
-- "A part taken too late": by a lane that is an accepted call further on than the record. All else is as it should be
unfoldable pub too_late : Program
too_late = lane_by asked same the_lane.close (λ l. stamp_of (l.serial + 1) l)

-- ---- close (document 02, R-13)
-- "When a reel of samples ends, pulses already finished should not be lost": a close that gives no train. All else is as it should be
unfoldable pub loses : Program
loses = lane_by asked same (closing (with_out no_out)) same

-- a close that zeroes the last gap, though a later pulse's start has closed it
unfoldable pub zeroes_gap : Program
zeroes_gap = lane_by asked same (closing (λ r. with_slots (set r.ook (2 * r.out.pairs - 1) 0) r)) same

-- a close in lead (phase 1) that takes one more sample, and so replays the lead-in where that fills it
unfoldable pub replays_lead : Program
replays_lead = lane_by asked same (λ l ook fsk. cond (eqb l.phase 1) (the_lane.step l (more l) ook fsk) (the_lane.close l ook fsk)) same
  where
    more : Lane → StepArgs
    more l = record { index = l.last + 1; noise = zero32; envelope = zero32; x = l.x_prev }

-- ---- none of them meets demand 3
unfoldable pub AllFail : List Program → Type 0
AllFail [] = Unit {0}
AllFail (W ∷ Ws) = Fails W × AllFail Ws
