use Rattle.std.proofs.Common.{length, ◌-◌, ◌≡◌}
use Rattle.stream.proofs.Running.{Running}
use Rattle.stream.proofs.block.Given as goal

abbrev pub invariant-loop-used : goal.invariant-loop-used
invariant-loop-used g l =
    let t = g.S.Station in
    (length l.text ≡ length l.initial.text) × t.is_sound l.station × (t.lent l.station ≡ t.lent l.initial.station)
    × Running t.machine (t.state l.initial.station) l.s l.last l.used l.at (t.state l.station) l.text

abbrev pub decreases-loop-used : goal.decreases-loop-used
decreases-loop-used g l = length l.s - l.used
