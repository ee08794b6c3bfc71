-- Where no refusal applies the lane is split into core and arrays, which join to it again, its records with
-- the lane's serial (`core_of`). `step_core` gives the step of the joined lane, and that is the lane's own, since an accepted step reads no
-- record (`reads_none`).
use Prim.Native.Nat.{ℕ, ◌≤◌}
use mathlib.Core.Bool.{Bool, true, false, not, ◌&&◌}
use mathlib.Core.Path.{◌≡◌, refl, ap, sym, subst, ◌∙◌}
use mathlib.Core.List.{List}
use native.Mathlib.Omega.{arith}
use borrow.Author.Tests.{eqb-true, ne_eqb, leb-true}
use lib.ListN.{length}
use lib.Dec.{eqb}
use lib.Ieee.{Float}
use Rattle.arith.specs.Leaves.{lead_len_of}
use Rattle.domain.specs.Limits.{max_serial}
use Rattle.refusals.proofs.Domain.{InDomain, settings_tell}
use Rattle.refusals.specs.Domain.{index_ok, room_ok}
use Rattle.refusals.proofs.Order.{none_failed}
use Rattle.step.specs.declared.Core.{Core}
use Rattle.lane.specs.declared.StepArgs.{StepArgs}
use Rattle.lane.specs.declared.Lane.{Lane}
use Rattle.std.specs.Prelude.{⊤, Result, Ok}
use Rattle.refusals.specs.declared.Refusal.{Refusal}
use Rattle.lane.proofs.Refusals.{opened_tells, lane_passes}
use Rattle.lane.specs.Refusals.{lane_ok, follows_of, step_floats_ok, step_refusal_by, step_refusal}
use Rattle.lane.specs.Begin.{cleared_of}
use Rattle.lane.specs.Advance.{settle_of, fill_of, replay_step, lead_step, burst_step, advance_of}
use Rattle.lane.specs.Serial.{stamp_of}
use Rattle.lane.specs.Step.{stepped_by, stepped}
use Rattle.step.specs.Core.{zip_of, reals_of, imaginaries_of, joined_of}
use Rattle.lane.specs.Answers.{Reply, answer_of}
use Rattle.step.proofs.Zips.{zip_parts}
use Rattle.step.proofs.step.Goals as goal

not_idle : (a b : Bool) → b ≡ false → (a && b) ≡ false
not_idle true b h = h
not_idle false b h = refl

-- a sound lane in its lead has settings, so that a lead-in has samples
lead_some : (l : Lane) → lane_ok l ≡ true → eqb l.phase 1 ≡ true → 1 ≤ lead_len_of l.settings.min_steps
lead_some l h e =
    let busy : eqb l.phase 0 ≡ false = ne_eqb l.phase 0 (λ z. omega (arith, z, eqb-true l.phase 1 e)) in
    let d : InDomain l.settings = settings_tell l.settings (opened_tells l.opened l.phase l.settings (lane_passes l h).had (not_idle (eqb l.opened 0) (eqb l.phase 0) busy)) in
    omega (arith, d.min_steps.0)

-- core and arrays join to the lane, its records with the lane's serial
abbrev Joins : Lane → Core → Type 0
Joins l c = (re im : List Float) → zip_of re im ≡ l.lead.lead_x → joined_of c l.lead.lead_e re im l.ring l.burst.frame.cand.cand_f ≡ stamp_of l.serial l

joined_core : (l : Lane) (c : Core) → Joins l c → joined_of c l.lead.lead_e (reals_of l.lead.lead_x) (imaginaries_of l.lead.lead_x) l.ring l.burst.frame.cand.cand_f ≡ stamp_of l.serial l
joined_core l c parts = parts (reals_of l.lead.lead_x) (imaginaries_of l.lead.lead_x) (zip_parts l.lead.lead_x)

lead_core : (l : Lane) (c : Core) → lane_ok l ≡ true → Joins l c → eqb c.phase 1 ≡ true → 1 ≤ lead_len_of c.settings.min_steps
unfolding stamp_of
lead_core l c holds parts =
    subst (λ (x : Lane). eqb x.phase 1 ≡ true → 1 ≤ lead_len_of x.settings.min_steps) (sym (joined_core l c parts)) (lead_some l holds)

serial_core : (l : Lane) (c : Core) → lane_ok l ≡ true → Joins l c → c.serial ≤ max_serial
unfolding stamp_of
serial_core l c holds parts =
    subst (λ (x : Lane). x.serial ≤ max_serial) (sym (joined_core l c parts)) (leb-true l.serial max_serial (lane_passes l holds).counted)

-- an accepted step reads no record
reads_none : (l : Lane) (s : StepArgs) (ook fsk : List ℕ) → stepped_by (Ok tt) (stamp_of l.serial l) s ook fsk ≡ stepped_by (Ok tt) l s ook fsk
unfolding stamp_of advance_of lead_step fill_of replay_step burst_step settle_of cleared_of
reads_none l s ook fsk = refl

module _ (l : Lane) (s : StepArgs) (ook fsk : List ℕ) (k : Result ⊤ Refusal) (num : k ≡ step_refusal l s (length ook) (length fsk)) (ok : k ≡ Ok tt) where
  none_of : step_refusal_by (lane_ok l) l.settings l.phase l.last s (length ook) (length fsk) ≡ Ok tt
  unfolding step_refusal
  none_of = sym num ∙ ok

  holds : lane_ok l ≡ true
  holds = (none_failed true (lane_ok l) (not (eqb l.phase 0)) true (index_ok s.index && follows_of l.last s.index) (step_floats_ok s) (room_ok l.settings (length ook) (length fsk)) none_of).lane_ok

  none : step_refusal_by true l.settings l.phase l.last s (length ook) (length fsk) ≡ Ok tt
  none = ap (λ (b : Bool). step_refusal_by b l.settings l.phase l.last s (length ook) (length fsk)) (sym holds) ∙ none_of

  step_by_core : (c : Core) (es re im : List Float) (r : Reply) (lane whole : Lane) (ook' fsk' : List ℕ) → Joins l c
      → es ≡ l.lead.lead_e → re ≡ reals_of l.lead.lead_x → im ≡ imaginaries_of l.lead.lead_x → lane ≡ whole
      → (answer_of r whole, ook', fsk') ≡ stepped_by (step_refusal_by true c.settings c.phase c.last s (length ook) (length fsk)) (joined_of c es re im l.ring l.burst.frame.cand.cand_f) s ook fsk
      → (answer_of r lane, ook', fsk') ≡ stepped l s ook fsk
  unfolding stepped stamp_of
  step_by_core c es re im r lane whole ook' fsk' parts is-es is-re is-im is_lane gives =
      let zips : zip_of re im ≡ l.lead.lead_x =
      ap (λ (x : List Float). zip_of x im) is-re ∙ ap (zip_of (reals_of l.lead.lead_x)) is-im ∙ zip_parts l.lead.lead_x in
      ap (λ (x : Lane). (answer_of r x, ook', fsk')) is_lane
      ∙ gives
      ∙ ap (λ (x : List Float). stepped_by (step_refusal_by true c.settings c.phase c.last s (length ook) (length fsk)) (joined_of c x re im l.ring l.burst.frame.cand.cand_f) s ook fsk) is-es
      ∙ ap (λ (x : Lane). stepped_by (step_refusal_by true x.settings x.phase x.last s (length ook) (length fsk)) x s ook fsk) (parts re im zips)
      ∙ ap (λ (j : Result ⊤ Refusal). stepped_by j (stamp_of l.serial l) s ook fsk) none
      ∙ reads_none l s ook fsk
      ∙ ap (λ (j : Result ⊤ Refusal). stepped_by j l s ook fsk) (sym ok ∙ num)

pub step_core-a-requires : goal.step_core-a-requires
step_core-a-requires c =
    let args = c.args in
    let fine = holds args.l args.s args.ook.now args.fsk.now _ c.step_refusal.ensures c.in_default.is in (
      c.envelopes-es.ensures.1,
      c.parts.ensures.2,
      c.parts.ensures.3,
      lead_core args.l c.core_of.result fine c.core_of.ensures,
      serial_core args.l c.core_of.result fine c.core_of.ensures,
    )

pub returns : goal.returns
returns c =
    let args = c.args in
    step_by_core args.l args.s args.ook.now args.fsk.now _ c.step_refusal.ensures c.in_default.is
    c.core_of.result c.envelopes-es.result c.parts.result.0 c.parts.result.1 _ _ _ _ _
    c.core_of.ensures c.envelopes-es.ensures.0 c.parts.ensures.0 c.parts.ensures.1
    c.joined.ensures c.step_core-a.ensures.0
