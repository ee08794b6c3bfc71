-- `Lane::default` of the Rust: every number and float is 0. An opening gives this lane with its settings.
use Rattle.std.specs.Prelude.{ℕ, replicate}
use Rattle.ieee.specs.Constants.{zero32, zero64}
use Rattle.shared.specs.Counts.{zero_c32}
use Rattle.ook.specs.Train.{zero_steps}
use Rattle.shared.specs.declared.Settings.{Settings}
use Rattle.shared.specs.declared.Out.{Out}
use Rattle.run.specs.declared.Run.{Run}
use Rattle.ook.specs.declared.Env.{Env}
use Rattle.ook.specs.declared.Train.{Train}
use Rattle.shared.specs.declared.Carrier.TheVariants.{Angle}
use Rattle.fsk.specs.declared.Committed.{Committed}
use Rattle.fsk.specs.Types.{Frame}
use Rattle.fsk.specs.declared.Runs.{Runs}
use Rattle.presence.specs.declared.Pres.{Pres}
use Rattle.burst.specs.Types.{Burst}
use Rattle.burst.specs.declared.Lead.{Lead}
use Rattle.lane.specs.declared.Lane.{Lane}

abbrev pub no_settings : Settings
no_settings = record { mode = 0; min_steps = 0; gap_steps = 0; pre_timeout = 0; long_steps = 0; max_pulses = 0; alpha = zero32; gap_ratio = zero32; fsk_delta = zero32; fsk_split = zero32; carry = 0 }

abbrev pub no_out : Out
no_out = record { index = 0; end = 0; state = 0; cut = 0; pairs = 0; level = zero32; fsk = 0; carrier = Angle zero32; serial = 0 }

abbrev pub no_run : Run
no_run = record { level = 0; run_len = 0; confirmed = 0; prev_len = 0; t_run = zero64; t_prev = zero64 }

abbrev pub no_env : Env
no_env = record { run = no_run; c_run = zero64; c_prev = zero64; ref_idx = 0; ref_pending = 0 }

abbrev pub no_train : Train
no_train = record { start = 0; pulse_end = 0; started = 0; ook_n = 0; «open» = 0; longest = zero_steps; truncated = 0; acc = zero_c32; origin = zero64; bound = 0 }

abbrev pub no_pres : Pres
no_pres = record { run = no_run; p_factor = zero32 }

abbrev pub no_runs : Runs
no_runs = record { run = no_run; fsk_has_prev = 0 }

abbrev pub none_done : Committed
none_done = record { f_origin = zero64; f_last = zero64; fsk_open = 0; fsk_n = 0; fsk_runs = 0; fsk_full = 0 }

abbrev pub no_frame : Frame
no_frame = record {
  tone = record { fm = zero_c32; f_prev = zero32 };
  fsk_phase = 0;
  mean = record { f_ref = zero32; fsk_cnt = 0 };
  cand = record { cand_f = replicate 8 zero32; cand_before = zero32; fsk_cand = 0 };
  early = record { f_early = zero32; t_early = zero64; early = 0 };
  levels = record { f_hi = zero32; f_lo = zero32 };
  runs = no_runs;
  done = none_done;
}

unfoldable pub no_burst : Burst
no_burst = record { high = zero32; e_prev = zero32; env = no_env; pac = zero_c32; train = no_train; out_ook = no_out; frames = 0; pres = no_pres; frame = no_frame; out_fsk = no_out }

abbrev pub no_lead : Lead
no_lead = record { lead_at = 0; lead_n = 0; lead_e = replicate 16 zero32; lead_x = replicate 17 zero_c32 }

-- an idle lane; opened is 0 where it never had settings, and 1 where it has p
unfoldable pub idle_lane : ℕ → Settings → Lane
idle_lane had p = record { opened = had; settings = p; phase = 0; last = 0; x_prev = zero_c32; lead = no_lead; ring = replicate 32 zero32; burst = no_burst; serial = 0 }
