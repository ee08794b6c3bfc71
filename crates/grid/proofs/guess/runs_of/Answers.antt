use Rattle.std.proofs.Common.{◌<◌, ◌^◌, length, rules}
use Rattle.fit.proofs.Passes.{folded}
use Rattle.grid.proofs.Cases.{countable}
use Rattle.grid.specs.Guess.{runs_step, runs_of}
use Rattle.grid.proofs.guess.runs_of.Goals as goal

pub transitions-requires : goal.transitions-requires
transitions-requires c =
    let few : length c.args.ends.now < 2 ^ 63 = search rules in
    let none = c.default.ensures in
    rw (none.0, none.1.1) (countable _ _ (λ s x h. search rules) (λ s x r h. search rules) _ _ few)

pub returns : goal.returns
unfolding runs_of
returns c =
    let f = folded _ runs_step (λ s x r h. search rules) _ _ _ c.transitions.ensures in
    search rules
