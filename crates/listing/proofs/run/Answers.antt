use Rattle.std.proofs.Common.{sym, subst}
use Rattle.reached.specs.Reached.{Sound, unopened}
use Rattle.listing.proofs.run.Goals as goal

pub run-requires : goal.run-requires
run-requires g c = subst Sound (sym c.new_lane.ensures) unopened

pub returns-clause-ends : goal.returns-clause-ends
returns-clause-ends g c = record { left = _; runs = rw c.new_lane.ensures at c.run.ensures.runs }

pub returns-clause-writes : goal.returns-clause-writes
returns-clause-writes g c = rw c.new_lane.ensures at c.run.ensures.writes
