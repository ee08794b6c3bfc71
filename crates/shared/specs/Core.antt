-- The records of the core, which have no serial, and those of a caller.
use Rattle.std.specs.Prelude.{ℕ}
use Rattle.shared.specs.declared.Out.{Out}
use Rattle.shared.specs.declared.OutCore.{OutCore}

-- the record that a caller sees, but for its serial, which stands beside the core's record: a sample gives no serial, so it is 0 here
abbrev pub whole_out : OutCore → Out
whole_out o =
    record {
      index = o.index;
      end = o.end;
      state = o.state;
      cut = o.cut;
      pairs = o.pairs;
      level = o.level;
      fsk = o.fsk;
      carrier = o.carrier;
      serial = 0;
    }

-- a record with the serial n
abbrev pub numbered : ℕ → Out → Out
numbered n o = record { index = o.index; end = o.end; state = o.state; cut = o.cut; pairs = o.pairs; level = o.level; fsk = o.fsk; carrier = o.carrier; serial = n }
