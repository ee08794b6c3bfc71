-- A step that always gives a state is tried to the end.
use Rattle.std.proofs.Common.{rules}
use Rattle.fit.proofs.Passes.{always_callable, always_folded, always_some}
use Rattle.fit.proofs.transitions.Goals as goal

pub try_transitions-requires : goal.try_transitions-requires
try_transitions-requires g c = always_callable (λ s x r h. search rules) (λ s x h. search rules) _ _ c.requires

pub unwrap-requires : goal.unwrap-requires
unwrap-requires g c = always_some (λ s x o h. search rules) _ _ _ c.try_transitions.ensures

pub returns : goal.returns
returns g c = always_folded (λ s x o h. search rules) _ _ _ c.try_transitions.ensures _ (search rules)
