use Prim.Native.Nat.{ℕ}
use mathlib.Core.Bool.{Bool, cond, false, true}
use mathlib.Core.Path.{◌≡◌, refl, ap, sym, ◌∙◌}
use mathlib.Core.List.{List, []}
use lib.Dec.{eqb}
use borrow.Author.Tests.{eq-eqb, ne_eqb}
use Rattle.std.specs.Prelude.{Option, Some, None}
use Rattle.lane.specs.declared.StepArgs.{StepArgs}
use Rattle.commands.specs.Command.{step_of, step_args_of}
use Rattle.commands.proofs.Rest.{rest_all, rest_gone}
use Rattle.addressed.specs.Addressed.{addressed_of, antenna_of}
use Rattle.addressed.proofs.Laws.{none_there, short_given, other_given, step_front}
use Rattle.addressed.proofs.step_for.Goals as goal
use Rattle.addressed.proofs.step_for.Goals.{then-u-lt26-via-then-u-lt26, then-u-lt26-via-else-u-lt26+then-u-ne3, then-u-lt26-via-else-u-lt26+else-u-ne3+then-from-i}

abbrev For : ℕ → List ℕ → Option StepArgs
For i v = cond (eqb (antenna_of v) i) (step_of (addressed_of v)) None

-- no step, whatever the antenna
no_step : (u : List ℕ) (i : ℕ) → step_of (addressed_of u) ≡ None → None ≡ For i u
no_step u i h = go (eqb (antenna_of u) i)
  where
    go : (b : Bool) → None ≡ cond b (step_of (addressed_of u)) None
    go true = sym h
    go false = refl

-- another antenna's
not_own : (u : List ℕ) (i k : ℕ) → k ≡ antenna_of u → (k ≡ i → ⊥) → None ≡ For i u
not_own u i k e n = simp (← e, ne_eqb k i n)

own : (u : List ℕ) (i k : ℕ) → k ≡ antenna_of u → k ≡ i → step_of (addressed_of u) ≡ For i u
own u i k e h = simp (← e, eq-eqb k i h)

pub returns-in_err-u : goal.returns-in_err-u
returns-in_err-u c =
    c.from_residual.ensures ∙ no_step [] c.args.i (ap step_of none_there) ∙ ap (For c.args.i) (sym (rest_gone _ _ c.in_err-u.ensures.lookup.0))

pub returns-then-u-lt26 : goal.returns-then-u-lt26
returns-then-u-lt26 c =
    let rest = c.in_ok-u.ensures.lookup.0.2 ∙ rest_all c.args.s.now c.args.at in
    elim c.then-u-lt26.branch [
      | then-u-lt26-via-then-u-lt26 w ↦ no_step _ c.args.i (short_given _ w.if-u-lt26.true) ∙ ap (For c.args.i) rest
      | then-u-lt26-via-else-u-lt26+then-u-ne3 w ↦ no_step _ c.args.i (other_given _ w.if-u-lt26.false w.if-u-ne3.true) ∙ ap (For c.args.i) rest
      | then-u-lt26-via-else-u-lt26+else-u-ne3+then-from-i w ↦ not_own c.in_ok-u.u.now c.args.i _ w.from.ensures w.if-from-i.true ∙ ap (For c.args.i) rest
    ]

pub returns : goal.returns
returns c =
    let rest = c.in_ok-u.ensures.lookup.0.2 ∙ rest_all c.args.s.now c.args.at in
    ap Some (c.step_args.ensures ∙ ap step_args_of (rest_all _ 2))
    ∙ sym (step_front _ c.if-u-lt26.false c.if-u-ne3.false)
    ∙ own _ c.args.i _ c.from.ensures c.if-from-i.false
    ∙ ap (For c.args.i) rest
