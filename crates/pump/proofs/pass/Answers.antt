-- It feeds what was left and what came.
use Rattle.std.proofs.Common.{true, false}
use Rattle.input.specs.Passes.{at_write}
use Rattle.input.proofs.Passes.{carries}
use Rattle.pump.proofs.Laws.{at_error}
use Rattle.pump.proofs.pass.Goals as goal

pub returns-in_err-put-clause-carries : goal.returns-in_err-put-clause-carries
returns-in_err-put-clause-carries g c =
    let a = c.args in
    let e = c.in_ok-i.ensures in
    let quiet = rw c.is_full.ensures at e.came.1 in
    let gave = rw c.in_err-put.was at c.put.ensures in
    at_error _ _ c.from_residual-in_err-put.result c.from_residual-in_err-put.ensures.0
    (at_write (carries g.S.Station.machine _ _ a.p.fed _ a.p.last c.in_ok-i.i a.buf.now _ _ _ _ _ _ _ false e.came.0 quiet e.took c.feed-fed.ensures.feeds gave))

pub returns-clause-carries : goal.returns-clause-carries
returns-clause-carries g c =
    let a = c.args in
    let e = c.in_ok-i.ensures in
    let quiet = rw c.is_full.ensures at e.came.1 in
    let gave = rw c.in_ok-put.was at c.put.ensures in
    carries g.S.Station.machine _ _ a.p.fed _ a.p.last c.in_ok-i.i a.buf.now _ _ _ _ _ _ _ true e.came.0 quiet e.took c.feed-fed.ensures.feeds gave
