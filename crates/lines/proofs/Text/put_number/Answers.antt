use Rattle.lines.proofs.Writers.{then}
use Rattle.lines.proofs.Text.put_number.Goals as goal

pub returns : goal.returns
returns c = then c.put_byte.ensures c.put_decimal.ensures
