use Rattle.std.proofs.Common.{◌≡◌, rules}
use mathlib.Core.Path.{ap}
use Rattle.fit.proofs.Passes.{callable, folded}
use Rattle.fit.specs.Slots.{times, fold}
use Rattle.grid.proofs.Cases.{searched}
use Rattle.grid.specs.Guess.{try_step, first_try}
use Rattle.grid.specs.declared.guess.Tries.{Tries}
use Rattle.grid.proofs.guess.search.Goals as goal

pub transitions-requires : goal.transitions-requires
transitions-requires c = callable _ _ (λ s x. search rules) _ _

pub returns : goal.returns
returns c =
    let ts = times 0 c.args.ends.now in
    let f = folded _ (try_step ts c.args.shortest) (λ s x r h. search rules) _ _ _ c.transitions.ensures in
    let first : c.transitions.result ≡ fold (try_step ts c.args.shortest) (first_try c.second_fit-grid.result) ts = search rules in
    searched _ _ _ _ _ _ c.fit_with-line.ensures c.second_fit-grid.ensures (ap (λ (s : Tries). s.grid) first)
