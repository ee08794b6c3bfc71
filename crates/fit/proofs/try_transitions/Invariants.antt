-- What is left of the fold at a slot, with the slot before it, is the whole fold.
use Rattle.fit.specs.Slots.{CallableInFold, IsSomeOf, TryFoldsTo}
use Rattle.fit.proofs.Passes.{Left}
use Rattle.fit.proofs.try_transitions.Given as goal

abbrev pub invariant-loop-v : goal.invariant-loop-v
invariant-loop-v g l =
    Left (CallableInFold (goal.F-pre g l.step) (IsSomeOf (goal.F-post g l.step))) (TryFoldsTo (goal.F-post g l.step)) l.fn.first l.ends l.v-index l.before l.s
