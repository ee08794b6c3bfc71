use Rattle.std.proofs.Common.{replicate, refl, sym, ap, subst}
use Rattle.lane.specs.declared.Lane.{Lane}
use Rattle.reached.specs.Reached.{Sound, unopened}
use Rattle.sixteen.proofs.Rows.{sound_new}
use Rattle.sixteen.proofs.Antennas.new.Goals as goal

pub returns-clause-new : goal.returns-clause-new
returns-clause-new c = ap (λ (l : Lane). (replicate 16 l, replicate 16 (replicate 4096 0), replicate 16 (replicate 4096 0))) c.new_lane-lane.ensures

pub returns-clause-sound : goal.returns-clause-sound
returns-clause-sound c =
    record {
      sized = refl;
      lanes = sound_new 16 _ (subst Sound (sym c.new_lane-lane.ensures) unopened);
      count = c.count_out.ensures;
    }
