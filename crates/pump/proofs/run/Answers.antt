use Rattle.std.proofs.Common.{refl, sym, ◌∙◌}
use Rattle.input.proofs.Passes.{begins, goes_on, ends_so, fails_so, stands, stands_so}
use Rattle.pump.proofs.Laws.{not_ok}
use Rattle.pump.proofs.run.Goals as goal

pub loop-init : goal.loop-init
loop-init g c = (c.requires, refl, begins g.S.Station.machine _ _ _ _ _ refl)

pub loop-preserved : goal.loop-preserved
loop-preserved g c =
    let e = c.in_ok-p.ensures in
    (e.sound, e.same ∙ c.loop.invariant.1, goes_on g.S.Station.machine c.loop.invariant.2 e.carries refl (sym c.is_over.ensures ∙ c.if-is_over.false))

pub returns-in_err-p-clause-runs : goal.returns-in_err-p-clause-runs
returns-in_err-p-clause-runs g c =
    rw (not_ok c.from_residual.result c.from_residual.ensures.0) ((fails_so g.S.Station.machine g.met.S.Station.orderly c.loop.invariant.2 c.in_err-p.ensures.carries).0)

pub returns-in_err-p-clause-writes : goal.returns-in_err-p-clause-writes
returns-in_err-p-clause-writes g c =
    rw (not_ok c.from_residual.result c.from_residual.ensures.0) ((fails_so g.S.Station.machine g.met.S.Station.orderly c.loop.invariant.2 c.in_err-p.ensures.carries).1)

pub returns-then-is_over-clause-runs : goal.returns-then-is_over-clause-runs
returns-then-is_over-clause-runs g c = (ends_so g.S.Station.machine c.loop.invariant.2 c.in_ok-p.ensures.carries g.met.S.Station.orderly refl (sym c.is_over.ensures ∙ c.if-is_over.true)).0

pub returns-then-is_over-clause-writes : goal.returns-then-is_over-clause-writes
returns-then-is_over-clause-writes g c = (ends_so g.S.Station.machine c.loop.invariant.2 c.in_ok-p.ensures.carries g.met.S.Station.orderly refl (sym c.is_over.ensures ∙ c.if-is_over.true)).1

pub returns-clause-runs : goal.returns-clause-runs
returns-clause-runs g c = stands g.S.Station.machine c.loop.invariant.2.standing

pub returns-clause-writes : goal.returns-clause-writes
returns-clause-writes g c = stands_so g.S.Station.machine g.met.S.Station.orderly c.loop.invariant.2
