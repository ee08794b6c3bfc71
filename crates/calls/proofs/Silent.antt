-- Steps one after another that print nothing (`Steps`), for any loop over them: the settings and the lengths of the buffers stay, and a sound lane
-- stays sound, so that each further step's answer is its core's.
use Prim.Native.Nat.{ℕ, ◌+◌, ◌≤◌, ◌<◌}
use mathlib.Core.Bool.{Bool, true, false, cond}
use mathlib.Core.Path.{◌≡◌, refl, ap, sym, ◌∙◌, subst}
use mathlib.Core.List.{List}
use native.Mathlib.Omega.{arith}
use lib.ListN.{length}
use lib.Dec.{eqb, ltb}
use lib.Ieee.{Float}
use Rattle.std.specs.Prelude.{⊤, Result, Ok, Err}
use Rattle.refusals.specs.declared.Refusal.{Refusal}
use Rattle.arith.specs.Leaves.{lead_len_of}
use Rattle.burst.specs.declared.Lead.{Lead}
use Rattle.burst.specs.Lead.{lead_add_of}
use Rattle.lane.specs.declared.Lane.{Lane}
use Rattle.lane.specs.declared.StepArgs.{StepArgs}
use Rattle.lane.specs.Answers.{Reply, answer_of}
use Rattle.lane.specs.Refusals.{step_refusal_by, step_refusal}
use Rattle.lane.specs.Begin.{ring_of}
use Rattle.lane.specs.Advance.{settle_of, fill_of, replay_step, lead_step, burst_step, advance_of}
use Rattle.lane.specs.Serial.{stamp_of, stamped_with}
use Rattle.lane.specs.Step.{refuse, unless_refused, stepped_by, stepped}
use Rattle.reached.specs.Reached.{Sound}
use Rattle.reached.proofs.Reached.{sound_ok, open_sound, begin_sound, step_sound, close_sound}
use Rattle.commands.specs.Command.{Found}
use Rattle.commands.specs.declared.Command.TheVariants.{Open, OpenCarry, Begin, Step, Close}
use Rattle.calls.specs.Turn.{State, Called, called, most_of}
use Rattle.calls.specs.Steps.{Quiet, Stepped, Went, first, further}

-- a sound lane stays sound
pub call_sound : (p : State) (k : Found) → Sound p.0 → Sound (called p k).0.lane
unfolding called
call_sound p (Ok (Open s)) h = open_sound s h
call_sound p (Ok (OpenCarry s)) h = open_sound s h
call_sound p (Ok (Begin b)) h = begin_sound b p.1 p.2 h
call_sound p (Ok (Step s)) h = step_sound s p.1 p.2 h
call_sound p (Ok Close) h = close_sound p.1 p.2 h
call_sound p (Err m) h = h

-- what steps keep: the settings, and the lengths of the buffers
pub record Kept (p q : State) : Type 0 where
  pub settings : q.0.settings ≡ p.0.settings
  pub ook : length q.1 ≡ length p.1
  pub fsk : length q.2 ≡ length p.2

pub kept_room : {p q : State} → Kept p q → most_of q ≡ most_of p
kept_room h = simp (h.settings, h.ook, h.fsk)

-- the steps from a place on: none, or some that printed nothing, of which G tells more
pub data Steps (G : ℕ → Reply → State → Type 0) (p : State) (from used : ℕ) (r : Reply) (q : State) : Type 0 where
  none : used ≡ from → q ≡ p → Steps G p from used r q
  some : from < used → Quiet r q → Kept p q → Sound q.0 → G used r q → Steps G p from used r q

module _ {G : ℕ → Reply → State → Type 0} {p : State} {from used : ℕ} {r : Reply} {q : State} where
  pub steps_sound : Sound p.0 → Steps G p from used r q → Sound q.0
  steps_sound h (none e d) = subst (λ (q : State). Sound q.0) (sym d) h
  steps_sound h (some up quiet keeps sound g) = sound

  pub steps_onward : Steps G p from used r q → from ≤ used
  steps_onward (none e d) = omega (arith, e)
  steps_onward (some up quiet keeps sound g) = omega (arith, up)

  pub steps_kept : Steps G p from used r q → Kept p q
  steps_kept (none e d) = record { settings = ap (λ (q : State). q.0.settings) d; ook = ap (λ (q : State). length q.1) d; fsk = ap (λ (q : State). length q.2) d }
  steps_kept (some up quiet keeps sound g) = keeps

  -- the steps end where no step is: one was there
  pub steps_end : Steps G p from used r q → (used ≡ from → ⊥) → G used r q
  steps_end (none e d) h = absurd (h e)
  steps_end (some up quiet keeps sound g) h = g

-- ---- the answer of a sound lane's step, as the core gives it

abbrev pub core_step : Lane → StepArgs → List ℕ → List ℕ → Called
core_step l a ook fsk = stepped_by (step_refusal_by true l.settings l.phase l.last a (length ook) (length fsk)) l a ook fsk

pub core_steps : (q : State) (a : StepArgs) → Sound q.0 → core_step q.0 a q.1 q.2 ≡ called q (Ok (Step a))
unfolding called stepped step_refusal
core_steps q a h = ap (λ (b : Bool). stepped_by (step_refusal_by b q.0.settings q.0.phase q.0.last a (length q.1) (length q.2)) q.0 a q.1 q.2) (sym (sound_ok h))

step_settings : (l : Lane) (a : StepArgs) (ook fsk : List ℕ) → (stepped l a ook fsk).0.lane.settings ≡ l.settings
unfolding stepped stamp_of advance_of lead_step fill_of replay_step burst_step settle_of
step_settings l a ook fsk = go (step_refusal l a (length ook) (length fsk)) (eqb l.phase 1) (ltb ld.lead_n (lead_len_of l.settings.min_steps))
  where
    ring : List Float
    ring = ring_of l.ring a.index a.envelope

    ld : Lead
    ld = lead_add_of l.lead a.envelope a.x

    go : (k : Result ⊤ Refusal) (d e : Bool) → (unless_refused k (stamped_with l (cond d (cond e (fill_of l a ld ring, ook, fsk) (replay_step l a ld ring ook fsk)) (burst_step l a ring ook fsk))) (λ n. (refuse n l, ook, fsk))).0.lane.settings ≡ l.settings
    go (Ok u) true true = refl
    go (Ok u) true false = refl
    go (Ok u) false e = refl
    go (Err n) d e = refl

pub core_gave : (q : State) (a : StepArgs) (z : Reply) (n : State) → Sound q.0 → (answer_of z n.0, n.1, n.2) ≡ core_step q.0 a q.1 q.2 → length n.1 ≡ length q.1 → length n.2 ≡ length q.2 → Stepped q a z n
core_gave q a z n sound gives is_ook is_fsk = record { gave = gives ∙ core_steps q a sound; ook = is_ook; fsk = is_fsk }

-- ---- one step more that printed nothing
pub steps_more : {G : ℕ → Reply → State → Type 0} {p : State} {from used : ℕ} {r : Reply} {q : State} (a : StepArgs) (end : ℕ) (z : Reply) (n : State)
    → Sound p.0 → Steps G p from used r q → Stepped q a z n → from < end → Quiet z n → G end z n → Steps G p from end z n
unfolding called
steps_more {G} {p} {from} {used} {r} {q} a end z n sound so step up quiet g =
    let k = steps_kept so in
    let e : n.0.settings ≡ q.0.settings = ap (λ (c : Called). c.0.lane.settings) step.gave ∙ step_settings q.0 a q.1 q.2 in
    some up quiet (record { settings = e ∙ k.settings; ook = step.ook ∙ k.ook; fsk = step.fsk ∙ k.fsk })
    (subst (λ (c : Called). Sound c.0.lane) (sym step.gave) (call_sound q (Ok (Step a)) (steps_sound sound so))) g

-- ---- steps wherever they stand

module _ {At : ℕ → StepArgs → Type 0} {size : ℕ} {p : State} {from : ℕ} where
  pub went_on : {used : ℕ} {r : Reply} {q : State} (a : StepArgs) (z : Reply) (n : State) → Steps (Went At size p from) p from used r q → At used a → Stepped q a z n → Went At size p from (used + size) z n
  went_on {used} {r} {q} a z n (none e d) here step =
      subst (λ (u : ℕ). Went At size p from (u + size) z n) (sym e)
      (first (subst (λ (u : ℕ). At u a) e here) (subst (λ (o : State). Stepped o a z n) d step))
  went_on a z n (some up quiet keeps sound went) here step = further went quiet here step

  -- what each step more keeps is so of all
  module _ (G : ℕ → Reply → State → Type 0) (sound : Sound p.0) (some_size : 0 < size)
      (on : (used : ℕ) (r : Reply) (q : State) (a : StepArgs) (z : Reply) (n : State) → Steps G p from used r q → At used a → Stepped q a z n → G (used + size) z n) where
    went_so : {used : ℕ} {r : Reply} {q : State} → Went At size p from used r q → G used r q × (Quiet r q → Steps G p from used r q)
    went_so (first {a} {r} {q} here step) =
        let so : Steps G p from from r p = none refl refl in
        let g = on from r p a r q so here step in
        (g, λ quiet. steps_more a (from + size) r q sound so step (omega (arith, some_size)) quiet g)
    went_so (further {used} {r} {q} {a} {z} {n} went quiet here step) =
        let so = (went_so went).1 quiet in
        let g = on used r q a z n so here step in
        (g, λ still. steps_more a (used + size) z n sound so step (omega (arith, some_size, steps_onward so)) still g)

    pub went_all : {used : ℕ} {r : Reply} {q : State} → Went At size p from used r q → G used r q
    went_all went = (went_so went).0
