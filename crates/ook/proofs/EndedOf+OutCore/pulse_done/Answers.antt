-- The longer of the two by their order is the definition's.
use Rattle.std.proofs.Common.{rules, ◌≡◌}
use Rattle.ook.specs.Train.{longer_of, pulse_done_of}
use Rattle.ook.proofs.EndedOf+OutCore.pulse_done.Goals as goal

pub returns-else-q : goal.returns-else-q
unfolding pulse_done_of
returns-else-q c =
    let e : c.max.result ≡ longer_of c.args.self.train.longest c.args.len = search rules in
    search (rules, e)
