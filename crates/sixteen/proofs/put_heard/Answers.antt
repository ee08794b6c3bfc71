use mathlib.Core.Path.{ap}
use native.Mathlib.Omega.{arith}
use lib.ListN.{length}
use Rattle.calls.proofs.Laws.{in_number}
use Rattle.sixteen.proofs.Taken.{heard_put}
use Rattle.sixteen.proofs.put_heard.Goals as goal

pub put_call-requires : goal.put_call-requires
put_call-requires c =
    omega (arith, ap length c.shown-fs.ensures, ap length c.shown-os.ensures, c.requires)

pub returns : goal.returns
returns c =
    let a = c.args in
    heard_put a.i a.r _ a.l.now a.ook.now a.fsk.now _ _ _ _ (in_number a.r _ c.map_err.ensures.cases) c.shown-fs.ensures c.shown-os.ensures c.put_call.ensures
