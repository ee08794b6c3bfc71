-- A cast of the rounded number is the whole number, held to the range.
use Rattle.arith.proofs.Cast.{cast_of_round}
use Rattle.arith.proofs.whole.Goals as goal

pub returns : goal.returns
returns c = cast_of_round 32 c.args.x c.well_formed.0.1 c.round.ensures c.saturating_f64_to_u32.ensures
