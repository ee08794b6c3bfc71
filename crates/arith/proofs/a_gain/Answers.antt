-- A square above FLUSH is no NaN, so its pattern has an exponent's field; from 254 on nothing is left of 254 less the field.
use Rattle.std.proofs.Common.{arith}
use Rattle.ieee.proofs.Values.{plain_bits_plus}
use Rattle.arith.proofs.a_gain.Goals as goal

pub float_from_bits-result : goal.float_from_bits-result
float_from_bits-result c = plain_bits_plus _ (omega (arith, c.saturating_sub.ensures))
