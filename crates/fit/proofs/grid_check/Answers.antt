use Rattle.std.proofs.Common.{rules}
use Rattle.fit.proofs.Passes.{callable, tried}
use Rattle.fit.specs.Fit.{check_step, answer_of, check_of}
use Rattle.fit.proofs.grid_check.Goals as goal

pub try_transitions-requires : goal.try_transitions-requires
try_transitions-requires c = callable _ _ (λ s x. search rules) _ _

pub returns-in_err-c : goal.returns-in_err-c
unfolding check_of answer_of
returns-in_err-c c =
    let f = tried (check_step c.args.a c.args.t) _ (λ s x r h. search rules) _ _ _ c.try_transitions.ensures in
    search rules

pub returns : goal.returns
unfolding check_of answer_of
returns c =
    let f = tried (check_step c.args.a c.args.t) _ (λ s x r h. search rules) _ _ _ c.try_transitions.ensures in
    search rules
