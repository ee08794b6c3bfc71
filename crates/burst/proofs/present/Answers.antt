use Rattle.std.proofs.lemmas.Bool.{ne_eqb}
use Rattle.burst.specs.Core.{beside_of}
use Rattle.burst.proofs.present.Goals as goal

pub returns : goal.returns
unfolding beside_of
returns c = simp (ne_eqb _ _ c.if-p-eq0.false, ← c.inputs_of-inputs.ensures, ← c.body.ensures, ← c.presence-r.ensures, ← c.with_present.ensures)
