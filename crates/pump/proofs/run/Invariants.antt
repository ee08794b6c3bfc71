-- Before each pass the blocks so far are those of the bytes that were read.
use Rattle.std.specs.Prelude.{◌≡◌}
use Rattle.input.specs.Passes.{Carried}
use Rattle.pump.proofs.run.Given as goal

abbrev pub invariant-loop : goal.invariant-loop
invariant-loop g l =
    let s = g.S.Station in
    s.is_sound l.station
    × (s.lent l.station ≡ s.lent l.fn.station)
    × Carried s.machine (s.state l.fn.station) (s.state l.station) l.p.fed l.p.last l.buf
    (g.R.Read.remaining l.fn.from) (g.R.Read.remaining l.from) (g.W.Write.contents l.fn.to) (g.W.Write.contents l.to)
