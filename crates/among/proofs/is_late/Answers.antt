use mathlib.Core.Path.{ap, sym, ◌∙◌}
use Prim.Native.Nat.{ℕ}
use lib.Dec.{eqb}
use Rattle.among.specs.Settled.{late_by}
use Rattle.among.proofs.is_late.Goals as goal

pub returns-in-Err : goal.returns-in-Err
returns-in-Err g c = ap (λ (n : ℕ). eqb n 8) (g.met.E.Numbered.converted _ _ c.into-n.ensures) ∙ ap (late_by g.E.Numbered.number) (sym c.in-Err.is)
