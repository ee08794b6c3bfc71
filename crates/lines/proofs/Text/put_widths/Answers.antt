use native.Mathlib.Omega.{arith}
use Rattle.lines.specs.Line.{widths}
use Rattle.lines.proofs.Laws.{widths_more}
use Rattle.lines.proofs.Writers.{then, same, within, none}
use Rattle.lines.proofs.Text.put_widths.Goals as goal

pub loop-w-init : goal.loop-w-init
unfolding widths
loop-w-init c = none _ _

pub loop-w-preserved : goal.loop-w-preserved
loop-w-preserved c =
    let l = c.loop-w in
    within _ (omega arith) (same (widths_more c.args.part.now l.w-index _ (omega arith) c.from.ensures) (then l.invariant c.put_number.ensures))
