use Rattle.lines.proofs.Writers.{then}
use Rattle.roots.proofs.put_line.Goals as goal

pub returns : goal.returns
returns c = then c.put_decimal.ensures c.put_byte.ensures
