use mathlib.Core.Path.{refl}
use native.Mathlib.Omega.{arith}
use Rattle.lines.proofs.Writers.{copied}
use Rattle.lines.proofs.Text.put_bytes.Goals as goal

pub returns : goal.returns
returns c = record { same = refl; long = omega arith; put = copied c.copy_from_slice.ensures.after (omega arith) (omega arith) }
