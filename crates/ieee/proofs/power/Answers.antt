-- A shift by less than the width loses nothing.
use Rattle.ieee.proofs.Narrowing.{one_shl}
use Rattle.ieee.proofs.power.Goals as goal

pub returns : goal.returns
returns c = one_shl c.args.j c.requires
