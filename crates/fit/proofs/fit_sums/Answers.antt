use Rattle.std.proofs.Common.{rules}
use Rattle.fit.proofs.Passes.{callable, folded}
use Rattle.fit.specs.Fit.{fit_step, sums_of}
use Rattle.fit.proofs.fit_sums.Goals as goal

pub transitions-requires : goal.transitions-requires
transitions-requires c = callable _ _ (λ s x. search rules) _ _

pub returns : goal.returns
unfolding sums_of
returns c =
    let f = folded _ (fit_step c.args.t) (λ s x r h. search rules) _ _ _ c.transitions.ensures in
    search rules
