use Rattle.lines.proofs.Writers.{then, same, within}
use borrow.Author.Rules.{rules}
use Rattle.lines.proofs.Text.put_carrier.Goals as goal

pub returns-in-Angle : goal.returns-in-Angle
returns-in-Angle c = within 25 (search rules) (same (simp c.in-Angle.is) (then c.put_bytes.ensures c.put_float.ensures))

pub returns-in-Vector : goal.returns-in-Vector
returns-in-Vector c =
    same (simp c.in-Vector.is) (then c.put_bytes-in-Vector.ensures (then c.put_float-in-Vector.ensures c.put_float-in-Vector-2.ensures))
