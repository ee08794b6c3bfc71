-- Settings with one thing changed. (antt has no record update.)
use Rattle.std.specs.Prelude.{ℕ}
use Rattle.shared.specs.declared.Settings.{Settings}

-- with this carry: what 04 adds to the settings of 01 (R-1)
abbrev pub with_carry : ℕ → Settings → Settings
with_carry carry p =
    record {
      mode = p.mode;
      min_steps = p.min_steps;
      gap_steps = p.gap_steps;
      pre_timeout = p.pre_timeout;
      long_steps = p.long_steps;
      max_pulses = p.max_pulses;
      alpha = p.alpha;
      gap_ratio = p.gap_ratio;
      fsk_delta = p.fsk_delta;
      fsk_split = p.fsk_split;
      carry = carry;
    }
