-- Each turn keeps the block `Running`, and where there is none the block says why.
use Rattle.std.proofs.Common.{refl, ◌∙◌, arith}
use Rattle.stream.proofs.Running.{begins, goes_on}
use Rattle.stream.proofs.block.Goals as goal

pub loop-used-init : goal.loop-used-init
loop-used-init g c = (refl, c.requires, refl, begins g.S.Station.machine _ _ _ _)

pub loop-used-preserved : goal.loop-used-preserved
loop-used-preserved g c =
    let v = c.loop-used.invariant in
    let e = c.in-Ok.ensures in (
      omega (arith, v.0, c.turn.auto.text),
      e.sound,
      e.same ∙ v.2,
      goes_on g.S.Station.machine g.met.S.Station.orderly v.3 e.turned (omega (arith, c.turn.auto.text)) c.if-t-used.false,
    )
