use native.Mathlib.Omega.{arith}
use Rattle.burst.proofs.LeadLaws.{largest_first}
use Rattle.step.proofs.first_burst.Goals as goal

pub returns : goal.returns
returns c cs = simp (← largest_first c.args.es.now c.args.n (omega (arith, c.requires, c.told-es)), ← c.largest.ensures, ← c.nearest_u64_to_f64.ensures, ← c.begin_burst.ensures)
