use Prim.Native.Nat.{ℕ}
use mathlib.Core.Bool.{true}
use mathlib.Core.Path.{◌≡◌, refl, sym, ap, ◌∙◌}
use mathlib.Core.List.{List}
use native.Mathlib.Omega.{arith}
use lib.ListN.{drop, length-drop}
use Rattle.std.specs.Prelude.{Option, Some, None}
use Rattle.std.proofs.Common.{rules}
use Rattle.lane.specs.declared.StepArgs.{StepArgs}
use Rattle.commands.specs.Command.{Found, decoded, size_of, step_of, is_step_of}
use Rattle.commands.proofs.Stream.{size_fits, step_given, a_step}
use Rattle.calls.proofs.Orderly.{bytes_there}
use Rattle.calls.proofs.Taken.{took_one, step_room, steps_taken}
use Rattle.calls.proofs.pass.Goals as goal

-- a step stands at the first place
step_first : (k : Found) → is_step_of k ≡ true → None ≡ step_of k → ⊥
step_first k h e = let b = a_step k h in let z : ◌≡◌ {A = Option StepArgs} None (Some b.args) = e ∙ ap step_of b.is in cc

pub steps-requires : goal.steps-requires
steps-requires c =
    let s : List ℕ = c.args.s.now in (
      λ at. search rules,
      λ at b h. let e : step_of (decoded (drop at s)) ≡ Some b = search rules in omega (arith, step_room s at b (step_given _ _ e), c.well_formed.1.1),
      omega arith,
      λ h. let e : None ≡ step_of (decoded (drop c.args.from s)) = search rules in step_first _ (ap is_step_of (sym c.requires.1) ∙ sym c.is_step.ensures ∙ c.if-is_step.true) e,
      c.requires.2,
    )

pub overflow_add-result : goal.overflow_add-result
overflow_add-result c =
    let a = c.args in
    record { fits = omega (arith, c.well_formed.1.1, c.size.ensures, ap size_of (sym c.in-Ok.is ∙ c.requires.1), size_fits (drop a.from a.s.now), length-drop a.from a.s.now, c.requires.0) }

pub returns-in-Ok : goal.returns-in-Ok
returns-in-Ok c =
    let a = c.args in
    let other = c.call_other-a in
    took_one _ a.s.now a.from a.k _ _ _ c.size.result c.requires.0 c.requires.2 c.requires.1 (bytes_there a.s.now a.from a.k c.requires.0 c.requires.1) (c.size.ensures ∙ ap size_of (sym c.in-Ok.is)) refl
    (other.ensures (sym c.is_step.ensures ∙ c.if-is_step.false)) (omega (arith, other.auto.ook)) refl

pub returns-in-Err : goal.returns-in-Err
returns-in-Err c =
    let a = c.args in
    let other = c.call_other-a in
    took_one _ a.s.now a.from a.k _ _ _ 0 c.requires.0 c.requires.2 c.requires.1 (bytes_there a.s.now a.from a.k c.requires.0 c.requires.1) (ap size_of (sym c.in-Err.is)) (omega arith)
    (other.ensures (sym c.is_step.ensures ∙ c.if-is_step.false)) (omega (arith, other.auto.ook)) refl

pub returns-then-is_step : goal.returns-then-is_step
returns-then-is_step c = steps_taken _ c.args.s.now _ _ _ _ c.requires.2 (λ at a h. search rules) c.steps.ensures
