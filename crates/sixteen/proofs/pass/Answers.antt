use Prim.Native.Nat.{ℕ}
use mathlib.Core.Bool.{Bool, ◌&&◌}
use mathlib.Core.Path.{◌≡◌, refl, sym, ap, ◌∙◌}
use mathlib.Core.List.{List}
use native.Mathlib.Omega.{arith}
use lib.ListN.{drop, length-drop}
use lib.Dec.{ltb}
use Rattle.std.proofs.Common.{rules}
use Rattle.commands.specs.Command.{is_step_of}
use Rattle.std.specs.Prelude.{Some, None}
use Rattle.shared.proofs.Tests.{both_true}
use Rattle.addressed.specs.Addressed.{addressed_size}
use Rattle.addressed.proofs.Laws.{size_fits}
use Rattle.among.specs.Among.{antennas}
use Rattle.sixteen.specs.Orderly.{bytes_there}
use Rattle.sixteen.proofs.Taken.{For, heard_one, step_room, step_here, other_there, steps_heard}
use Rattle.sixteen.proofs.pass.Goals as goal

pub steps-requires : goal.steps-requires
steps-requires c =
    let fast = both_true _ _ c.if-fast.true in
    let s : List ℕ = c.args.s.now in
    let stands = c.requires.0 in (
      λ at. search rules,
      λ at b h. let e : Some b ≡ For c.args.q.antenna (drop at s) = search rules in omega (arith, step_room s at b (step_here _ _ b e).0, c.well_formed.1),
      omega arith,
      λ h. let e : None ≡ For c.args.q.antenna (drop c.args.from s) = search rules in other_there _ _ e (ap is_step_of (sym stands.command_is) ∙ sym c.is_step.ensures ∙ fast.0) stands.antenna_is,
      c.requires.1,
    )

pub overflow_add-result : goal.overflow_add-result
overflow_add-result c =
    let a = c.args in
    record { fits = omega (arith, c.well_formed.1, c.size_of.ensures, ap addressed_size (sym c.in-Ok.is ∙ c.requires.0.command_is), size_fits (drop a.from a.s.now), length-drop a.from a.s.now, c.requires.0.inside) }

pub returns-in-Ok : goal.returns-in-Ok
returns-in-Ok c =
    let a = c.args in
    let one = c.call_one-a in
    let other = ap (λ (b : Bool). b && ltb a.q.antenna antennas) (sym c.is_step.ensures) ∙ c.if-fast.false in
    heard_one a.q _ a.s.now a.from _ _ c.size_of.result (omega (arith, c.requires.0.inside)) c.requires.1 c.requires.0.command_is c.requires.0.antenna_is
    (bytes_there a.s.now a.from a.q.command c.requires.0.inside c.requires.0.command_is) (c.size_of.ensures ∙ ap addressed_size (sym c.in-Ok.is)) refl (one.ensures other) (omega (arith, one.auto.ook)) refl

pub returns-in-Err : goal.returns-in-Err
returns-in-Err c =
    let a = c.args in
    let one = c.call_one-a in
    let other = ap (λ (b : Bool). b && ltb a.q.antenna antennas) (sym c.is_step.ensures) ∙ c.if-fast.false in
    heard_one a.q _ a.s.now a.from _ _ 0 (omega (arith, c.requires.0.inside)) c.requires.1 c.requires.0.command_is c.requires.0.antenna_is
    (bytes_there a.s.now a.from a.q.command c.requires.0.inside c.requires.0.command_is) (ap addressed_size (sym c.in-Err.is)) (omega arith) (one.ensures other) (omega (arith, one.auto.ook)) refl

pub returns-then-fast : goal.returns-then-fast
returns-then-fast c =
    let fast = both_true _ _ c.if-fast.true in
    steps_heard c.args.q _ c.args.s.now _ _ _ _ fast.1 (sym c.is_step.ensures ∙ fast.0) c.requires.1 (λ at b h. search rules) c.steps.ensures
