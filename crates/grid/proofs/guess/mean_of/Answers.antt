use Rattle.std.proofs.Common.{rules}
use Rattle.fit.proofs.Passes.{callable, folded}
use Rattle.grid.specs.Guess.{mean_step, mean_of}
use Rattle.grid.proofs.guess.mean_of.Goals as goal

pub transitions-requires : goal.transitions-requires
transitions-requires c = callable _ _ (λ s x. search rules) _ _

pub returns : goal.returns
unfolding mean_of
returns c =
    let f = folded _ (mean_step c.args.shortest) (λ s x r h. search rules) _ _ _ c.transitions.ensures in
    search rules
