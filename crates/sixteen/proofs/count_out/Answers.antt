-- The lanes are taken out of the channels, place by place.
use mathlib.Core.Path.{refl, sym, ap, ◌∙◌}
use native.Mathlib.Omega.{arith}
use Rattle.std.proofs.lemmas.List.{get_or-map, length-map}
use Rattle.lane.specs.Step.{new_lane}
use Rattle.among.specs.Among.{outs}
use Rattle.step.proofs.Fills.{fill_start, fill_turn, fill_end}
use Rattle.sixteen.proofs.Turns.{lane_in}
use Rattle.sixteen.proofs.count_out.Goals as goal

pub loop-i-init : goal.loop-i-init
loop-i-init c = fill_start refl (length-map c.args.channels.now lane_in ∙ c.told-channels)

pub loop-i-preserved : goal.loop-i-preserved
loop-i-preserved c =
    let v = c.loop-i in
    fill_turn v.invariant new_lane c.loop-i-test.true (sym (get_or-map lane_in c.args.channels.now _ _ new_lane (omega (arith, c.loop-i-test.true))))

pub returns-clause-sized : goal.returns-clause-sized
returns-clause-sized c = c.told-channels

pub returns-clause-counted : goal.returns-clause-counted
returns-clause-counted c = c.count_out.ensures ∙ ap outs (fill_end c.loop-i.invariant c.loop-i-test.false)
