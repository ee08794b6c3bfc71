-- Core and arrays stand for the lane, and each turn of the loop is one step more (`Steps`). Where it stops
-- at a place without a step, one step at least was taken.
use Prim.Native.Nat.{ℕ}
use mathlib.Core.Path.{refl, sym, subst, ◌∙◌}
use mathlib.Core.List.{List}
use native.Mathlib.Omega.{arith}
use borrow.Author.Tests.{not-false}
use Rattle.std.specs.Prelude.{Some, None}
use Rattle.lane.specs.declared.Lane.{Lane}
use Rattle.lane.specs.declared.StepArgs.{StepArgs}
use Rattle.lane.specs.Answers.{Reply}
use Rattle.step.specs.Core.{joined_of}
use Rattle.reached.specs.Reached.{Sound}
use Rattle.calls.specs.Steps.{Went}
use Rattle.calls.proofs.Silent.{none, steps_sound, steps_onward, steps_end, steps_more, core_gave, went_on}
use Rattle.calls.proofs.Cores.{joined_back, sound_lead, sound_serial, met, of_lanes}
use Rattle.calls.proofs.steps.Goals as goal
use Rattle.calls.proofs.steps.Goals.{in-Some+then-not-quiet, in_default}

pub loop-b-init : goal.loop-b-init
loop-b-init g c =
    let core = c.core_of-c in
    let es = c.envelopes-es in
    let re = c.reals-re in
    let im = c.imaginaries-im in (
      es.ensures.1,
      re.ensures.1,
      im.ensures.1,
      omega (arith, c.well_formed),
      subst Sound (sym (joined_back c.args.lane.now core.result es.result re.result im.result c.requires.4 core.ensures es.ensures.0 re.ensures.0 im.ensures.0)) c.requires.4,
      none refl refl,
    )

pub step_at-requires : goal.step_at-requires
step_at-requires g c = c.requires.0 _

pub step_core-a-requires : goal.step_core-a-requires
step_core-a-requires g c = let v = c.loop-b.invariant in let sound = steps_sound v.4 v.5 in (v.0, v.1, v.2, sound_lead sound, sound_serial sound)

pub overflow_add-used : goal.overflow_add-used
overflow_add-used g c = record { fits = omega (arith, c.requires.1 _ _ c.in-Some.ensures) }

pub loop-b-smaller : goal.loop-b-smaller
loop-b-smaller g c = omega (arith, c.requires.1 _ _ c.in-Some.ensures, c.requires.2)

pub loop-b-preserved : goal.loop-b-preserved
loop-b-preserved g c =
    let step = c.step_core-a in
    let v = c.loop-b in
    let sound = v.invariant.4 in
    let so = v.invariant.5 in
    let made = core_gave _ c.in-Some.b _ _ (steps_sound sound so) step.ensures.0 (omega (arith, step.auto.ook)) (omega (arith, step.auto.fsk)) in
    let went = went_on c.in-Some.b _ _ so c.in-Some.ensures made in (
      step.ensures.1 ∙ v.invariant.0,
      step.ensures.2 ∙ v.invariant.1,
      step.ensures.3 ∙ v.invariant.2,
      omega (arith, c.requires.1 _ _ c.in-Some.ensures),
      sound,
      steps_more c.in-Some.b _ _ _ sound so made (omega (arith, c.requires.2, steps_onward so)) (sym c.is_quiet-quiet.ensures ∙ not-false _ c.if-not-quiet.false-raw) went,
    )

pub returns : goal.returns
returns g c =
    let v = c.loop-b in
    let a = c.args in
    let es = c.envelopes-es in
    let re = c.reals-re in
    let back = joined_back a.lane.now c.core_of-c.result es.result re.result c.imaginaries-im.result c.requires.4 c.core_of-c.ensures es.ensures.0 re.ensures.0 c.imaginaries-im.ensures.0 in
    let At : ℕ → StepArgs → Type 0 = λ at b. goal.F-post g a.step_at at (Some b) in
    let Out : Lane → ℕ → Reply → List ℕ → List ℕ → Type 0 = λ l used r o f. Went At a.size (joined_of c.core_of-c.result es.result re.result c.imaginaries-im.result a.lane.now.ring a.lane.now.burst.frame.cand.cand_f, a.ook.now, a.fsk.now) a.from used r (l, o, f) in
    of_lanes back c.joined.ensures
    (elim c.match-step_at.branch [
      | in_default w ↦ met Out w.ook-is w.fsk-is w.c-is w.es-is w.re-is w.im-is w.ring-is w.cs-is w.used-is w.reply-is
          (steps_end v.invariant.5 (λ e. c.requires.3 (subst (λ (k : ℕ). goal.F-post g a.step_at k None) e w.in_default.ensures)))
      | in-Some+then-not-quiet w ↦ met Out w.ook-is w.fsk-is w.c-is w.es-is w.re-is w.im-is w.ring-is w.cs-is w.used-is w.reply-is
          (went_on w.in-Some.b _ _ v.invariant.5 w.in-Some.ensures
          (core_gave _ w.in-Some.b _ _ (steps_sound v.invariant.4 v.invariant.5) w.step_core-a.ensures.0 (omega (arith, w.step_core-a.auto.ook)) (omega (arith, w.step_core-a.auto.fsk))))
    ])
