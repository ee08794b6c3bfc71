use Rattle.ieee.proofs.Nan.{told}
use lib.Ieee.Bits.{of_bits-to_bits}
use Rattle.fit.proofs.pattern.Goals as goal

pub returns : goal.returns
returns c = rw c.bits_of_f64.ensures (of_bits-to_bits _ _ (told c.well_formed.0.1))
