-- Document 02, R-6: lane and record carry a serial, "0 in a lane never opened. Each accepted opening, begin or step raises it by 1 and puts it
-- in both records". One definition does that for all three.
use Rattle.std.specs.Prelude.{ℕ, ◌+◌, List}
use Rattle.burst.specs.Makers.{with_serials}
use Rattle.lane.specs.declared.Lane.{Lane}
use Rattle.lane.specs.declared.Answer.{Answer}

-- the lane after the call n
unfoldable pub stamp_of : ℕ → Lane → Lane
stamp_of n l =
    record {
      opened = l.opened;
      settings = l.settings;
      phase = l.phase;
      last = l.last;
      x_prev = l.x_prev;
      lead = l.lead;
      ring = l.ring;
      burst = with_serials n n l.burst;
      serial = n;
    }

-- the answer of an accepted call to the lane l
abbrev pub stamped : Lane → Answer → Answer
stamped l a = record { reply = a.reply; lane = stamp_of (l.serial + 1) a.lane }

abbrev pub stamped_with : Lane → Answer × List ℕ × List ℕ → Answer × List ℕ × List ℕ
stamped_with l r = (stamped l r.0, r.1, r.2)
