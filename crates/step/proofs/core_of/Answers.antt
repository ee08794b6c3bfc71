use mathlib.Core.Path.{◌≡◌, ap, ◌∙◌}
use mathlib.Core.List.{List}
use lib.Ieee.{Float}
use Rattle.arith.specs.declared.C32.{C32}
use Rattle.burst.specs.Types.{Burst}
use Rattle.burst.specs.Core.{whole_burst}
use Rattle.burst.specs.Makers.{with_serials}
use Rattle.step.specs.Core.{zip_of}
use Rattle.lane.specs.Serial.{stamp_of}
use Rattle.lane.specs.declared.Lane.{Lane}
use Rattle.step.proofs.core_of.Goals as goal

-- a lane is made of its own parts, the records with the lane's serial
abbrev parts_of : Lane → List C32 → Burst → Lane
parts_of l xs b =
    record {
      opened = l.opened;
      settings = l.settings;
      phase = l.phase;
      last = l.last;
      x_prev = l.x_prev;
      lead = record { lead_at = l.lead.lead_at; lead_n = l.lead.lead_n; lead_e = l.lead.lead_e; lead_x = xs };
      ring = l.ring;
      burst = b;
      serial = l.serial;
    }

lane_back : (l : Lane) (re im : List Float) (b : Burst) → zip_of re im ≡ l.lead.lead_x → with_serials l.burst.out_ook.serial l.burst.out_fsk.serial b ≡ l.burst
    → parts_of l (zip_of re im) (with_serials l.serial l.serial b) ≡ stamp_of l.serial l
unfolding stamp_of
lane_back l re im b e₁ e₂ =
    ap (λ (xs : List C32). parts_of l xs (with_serials l.serial l.serial b)) e₁
    ∙ ap (λ (x : Burst). parts_of l l.lead.lead_x (with_serials l.serial l.serial x)) e₂

pub returns : goal.returns
returns c = let l = c.args.l in λ re im e. lane_back l re im (whole_burst l.burst.frame.cand.cand_f c.core_burst.result) e c.core_burst.ensures
