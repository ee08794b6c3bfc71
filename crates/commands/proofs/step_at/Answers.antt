use mathlib.Core.Path.{ap, sym, ◌∙◌}
use borrow.Author.Tests.{eq-eqb}
use Rattle.std.specs.Prelude.{Some}
use Rattle.commands.specs.Command.{decoded, step_of, step_args_of}
use Rattle.commands.proofs.Rest.{rest_all, rest_gone}
use Rattle.commands.proofs.Stream.{none_there, step_front, short_given, other_given}
use Rattle.commands.proofs.step_at.Goals as goal
use Rattle.commands.proofs.step_at.Goals.{then-u-lt25-via-then-u-lt25, then-u-lt25-via-else-u-lt25+then-u-ne3}

pub returns-in_err-u : goal.returns-in_err-u
returns-in_err-u c = c.from_residual.ensures ∙ sym (ap step_of (ap decoded (rest_gone _ _ c.in_err-u.ensures.lookup.0) ∙ none_there))

pub returns-then-u-lt25 : goal.returns-then-u-lt25
returns-then-u-lt25 c =
    let rest = c.in_ok-u.ensures.lookup.0.2 ∙ rest_all c.args.s.now c.args.at in
    elim c.then-u-lt25.branch [
      | then-u-lt25-via-then-u-lt25 w ↦ sym (short_given _ w.if-u-lt25.true) ∙ ap (λ u. step_of (decoded u)) rest
      | then-u-lt25-via-else-u-lt25+then-u-ne3 w ↦ sym (other_given _ w.if-u-lt25.false w.if-u-ne3.true) ∙ ap (λ u. step_of (decoded u)) rest
    ]

pub returns : goal.returns
returns c =
    let rest = c.in_ok-u.ensures.lookup.0.2 ∙ rest_all c.args.s.now c.args.at in
    ap Some (c.step_args.ensures ∙ ap step_args_of (rest_all _ 1))
    ∙ sym (ap step_of (step_front _ c.if-u-lt25.false (eq-eqb _ _ c.if-u-ne3.false)))
    ∙ ap (λ u. step_of (decoded u)) rest
