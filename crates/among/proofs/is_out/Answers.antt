use Rattle.std.proofs.Common.{ℕ, Bool, true, false, cond, not, ◌≡◌, refl}
use lib.Dec.{eqb}
use Rattle.among.specs.Among.{out_of}
use Rattle.among.proofs.is_out.Goals as goal

turned : (b : Bool) → cond (not b) 1 0 ≡ cond {A = ℕ} b 0 1
turned true = refl
turned false = refl

pub returns : goal.returns
unfolding out_of
returns c = turned (eqb c.args.l.now.phase 0)
