use Prim.Native.Nat.{◌-◌}
use lib.ListN.{get_or}
use Rattle.std.proofs.Common.{rules, ◌<◌}
use Rattle.fit.proofs.Backward.{Flat, last_from, found_last}
use Rattle.fit.proofs.last_rise.Goals as goal

pub returns : goal.returns
returns c =
    let slots = c.args.slots.now in
    let h = c.find.ensures.ran in
    let z = last_from (Flat slots) h.0 c.rev.result _ _ _ c.find.result h.2 h.3 (λ x q k. search rules) in
    let v = c.unwrap_or.result in
    let rise : 0 < v → get_or slots (v - 1) 0 < get_or slots v 0 = search rules in
    (found_last slots c.find.result v c.unwrap_or.ensures (rw c.rev.ensures.source at z) rise, search rules)
