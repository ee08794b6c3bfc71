use Rattle.fit.specs.Fit.{k_after}
use Rattle.fit.proofs.Last.k_after.Goals as goal

pub returns-in-Some : goal.returns-in-Some
unfolding k_after
returns-in-Some c = cc

pub returns-in-None : goal.returns-in-None
unfolding k_after
returns-in-None c = cc
