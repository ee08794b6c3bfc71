-- Refusal 4 of document 01 at its limits: a lane of given numbers passes at each limit, and one above it does not.
use Rattle.std.specs.Prelude.{ℕ, zero, suc, ◌+◌, ◌^◌, Bool, true, false, ◌≡◌, List, [], ◌∷◌, ◌++◌, map, get_or, set, replicate, Float}
use Rattle.std.specs.Float.{binary32}
use Rattle.std.specs.Float.Ieee.{le, of_bits, to_bits}
use Rattle.ieee.specs.Constants.{zero32, zero64}
use Rattle.shared.specs.Counts.{zero_c32}
use Rattle.run.specs.declared.Run.{Run}
use Rattle.ook.specs.Train.{zero_steps}
use Rattle.shared.specs.declared.Out.{Out}
use Rattle.shared.specs.declared.Carrier.TheVariants.{Angle}
use Rattle.refusals.specs.Domain.{settings_ok, unset_ok}
use Rattle.refusals.specs.State.{frame_ok, burst_ok, lead_ok, cand_ok}
use Rattle.lane.specs.declared.Lane.{Lane}
use Rattle.lane.specs.Refusals.{opened_ok, lane_ok}

-- ---- a lane of given numbers

-- the numbers with a limit; the flags that no row names are numbered
pub data Field : Type 0 where
  phase : Field
  last : Field
  lead_at : Field
  lead_n : Field
  fsk_cand : Field
  fsk_cnt : Field
  fsk_runs : Field
  ook_n : Field
  fsk_n : Field
  mode : Field
  min_steps : Field
  gap_steps : Field
  pre_timeout : Field
  long_steps : Field
  max_pulses : Field
  opened : Field
  «open» : Field
  fsk_phase : Field
  fsk_open : Field
  flag : ℕ → Field
  alpha : Field
  gap_ratio : Field
  fsk_delta : Field
  fsk_split : Field
  carry : Field
  bound : Field
  serial : Field
  ook_serial : Field
  fsk_serial : Field

-- its place in the list of a lane's numbers
abbrev place : Field → ℕ
place phase = 0
place last = 1
place lead_at = 2
place lead_n = 3
place fsk_cand = 4
place fsk_cnt = 5
place fsk_runs = 6
place ook_n = 7
place fsk_n = 8
place mode = 9
place min_steps = 10
place gap_steps = 11
place pre_timeout = 12
place long_steps = 13
place max_pulses = 14
place opened = 15
place «open» = 16
place fsk_phase = 17
place fsk_open = 18
place (flag k) = 19 + k
place alpha = 37
place gap_ratio = 38
place fsk_delta = 39
place fsk_split = 40
place carry = 41
place bound = 42
place serial = 43
place ook_serial = 44
place fsk_serial = 45

-- a record whose flags are numbered from k on, and whose serial is that field
abbrev out_at : (Field → ℕ) → ℕ → Field → Out
out_at v k f = record { index = 0; end = 0; state = v (flag k); cut = v (flag (k + 1)); pairs = 0; level = zero32; fsk = v (flag (k + 2)); carrier = Angle zero32; serial = v f }

abbrev run_at : ℕ → ℕ → Run
run_at level confirmed = record { level = level; run_len = 0; confirmed = confirmed; prev_len = 0; t_run = zero64; t_prev = zero64 }

-- the settings' floats are given by their patterns; every other float and every number without a limit is 0
unfoldable pub lane_of : List ℕ → Lane
lane_of ns =
    let v : Field → ℕ = λ f. get_or ns (place f) 0 in
    let float_of : Field → Float = λ f. of_bits binary32 (v f) in
    record {
      opened = v opened;
      settings = record { mode = v mode; min_steps = v min_steps; gap_steps = v gap_steps; pre_timeout = v pre_timeout; long_steps = v long_steps; max_pulses = v max_pulses; alpha = float_of alpha; gap_ratio = float_of gap_ratio; fsk_delta = float_of fsk_delta; fsk_split = float_of fsk_split; carry = v carry };
      phase = v phase;
      last = v last;
      x_prev = zero_c32;
      lead = record { lead_at = v lead_at; lead_n = v lead_n; lead_e = replicate 16 zero32; lead_x = replicate 17 zero_c32 };
      ring = replicate 32 zero32;
      burst = record {
        high = zero32;
        e_prev = zero32;
        env = record {
          run = run_at (v (flag 0)) (v (flag 1));
          c_run = zero64;
          c_prev = zero64;
          ref_idx = 0;
          ref_pending = v (flag 2);
        };
        pac = zero_c32;
        train = record { start = 0; pulse_end = 0; started = v (flag 3); ook_n = v ook_n; «open» = v «open»; longest = zero_steps; truncated = v (flag 4); acc = zero_c32; origin = zero64; bound = v bound };
        out_ook = out_at v 5 ook_serial;
        frames = 0;
        pres = record { run = run_at (v (flag 8)) (v (flag 9)); p_factor = zero32 };
        frame = record {
          tone = record { fm = zero_c32; f_prev = zero32 };
          fsk_phase = v fsk_phase;
          mean = record { f_ref = zero32; fsk_cnt = v fsk_cnt };
          cand = record { cand_f = replicate 8 zero32; cand_before = zero32; fsk_cand = v fsk_cand };
          early = record { f_early = zero32; t_early = zero64; early = v (flag 10) };
          levels = record { f_hi = zero32; f_lo = zero32 };
          runs = record { run = run_at (v (flag 11)) (v (flag 12)); fsk_has_prev = v (flag 13) };
          done = record { f_origin = zero64; f_last = zero64; fsk_open = v fsk_open; fsk_n = v fsk_n; fsk_runs = v fsk_runs; fsk_full = v (flag 14) };
        };
        out_fsk = out_at v 15 fsk_serial;
      };
      serial = v serial;
    }

-- an idle lane with serial 0 of mode 2, 2, 4, 4, 1000, max_pulses 4, with some fields changed
abbrev pub changed : List (Field × ℕ) → List ℕ
changed [] = replicate 9 0 ++ (2 ∷ 2 ∷ 4 ∷ 4 ∷ 1000 ∷ 4 ∷ 1 ∷ replicate 30 0)
changed (c ∷ cs) = set (changed cs) (place c.0) c.1

-- the changes that make it the lane that never had settings
abbrev unopened : List (Field × ℕ)
unopened = (opened, 0) ∷ (mode, 0) ∷ (min_steps, 0) ∷ (gap_steps, 0) ∷ (pre_timeout, 0) ∷ (long_steps, 0) ∷ (max_pulses, 0) ∷ []

-- refusal 4 of the lane that is changed so
unfoldable pub passes : List (Field × ℕ) → Bool
unfolding lane_ok opened_ok settings_ok unset_ok burst_ok frame_ok lead_ok cand_ok lane_of le of_bits to_bits
passes cs = lane_ok (lane_of (changed cs))

-- ---- the table

-- with these changes, the field's limit
pub data Limit : Type 0 where
  limit : List (Field × ℕ) → Field → ℕ → Limit

abbrev around : Limit → Bool × Bool
around (limit cs f n) = (passes ((f, n) ∷ cs), passes ((f, n + 1) ∷ cs))

-- the flags with a number below n
abbrev flags : ℕ → List Limit
flags zero = []
flags (suc k) = limit [] (flag k) 1 ∷ flags k

abbrev pub limits : List Limit
limits =
    limit [] phase 2
    ∷ limit [] last (2 ^ 40)
    ∷ limit [] lead_at (2 ^ 40)
    -- in lead, below lead_len of min_steps 2, which is 7
    ∷ limit ((phase, 1) ∷ []) lead_n 6
    -- in burst while fsk_phase is 0, below fsk_min of min_steps 2, which is 2
    ∷ limit ((phase, 2) ∷ []) fsk_cand 1
    ∷ limit [] fsk_cnt (2 ^ 27)
    ∷ limit [] fsk_runs (2 ^ 27)
    -- pulses plus open, and frame pairs plus open, at most max_pulses
    ∷ limit [] ook_n 4
    ∷ limit ((«open», 1) ∷ []) ook_n 3
    ∷ limit [] fsk_n 4
    ∷ limit ((fsk_open, 1) ∷ []) fsk_n 3
    -- the settings' domain
    ∷ limit [] mode 2
    ∷ limit [] min_steps (2 ^ 24)
    ∷ limit [] gap_steps (2 ^ 24)
    ∷ limit [] pre_timeout 4
    ∷ limit [] long_steps (2 ^ 24)
    ∷ limit [] max_pulses 65536
    -- the flags
    ∷ limit [] opened 1
    ∷ limit [] «open» 1
    ∷ limit [] fsk_phase 1
    ∷ limit [] fsk_open 1
    -- R-1: carry, and a held boundary
    ∷ limit [] carry 1
    ∷ limit [] bound (2 ^ 47)
    -- R-6 and R-13: every serial that the lane holds
    ∷ limit [] serial (2 ^ 48 + 2 ^ 40 + 1)
    ∷ limit [] ook_serial (2 ^ 48 + 2 ^ 40 + 1)
    ∷ limit [] fsk_serial (2 ^ 48 + 2 ^ 40 + 1)
    ∷ flags 18

-- lanes that a limit does not hold for, and lanes that another rule refuses
abbrev pub others : List (List (Field × ℕ) × Bool)
others =
    -- outside the lead, and outside a burst or once fsk_phase is 1
    ((lead_n, 7) ∷ [], true)
    ∷ ((phase, 2) ∷ (lead_n, 7) ∷ [], true)
    ∷ ((phase, 1) ∷ (fsk_cand, 2) ∷ [], true)
    ∷ ((phase, 2) ∷ (fsk_phase, 1) ∷ (fsk_cand, 2) ∷ [], true)
    -- a lane that never had settings is idle and has none, not even a -0
    ∷ (unopened, true)
    ∷ ((phase, 1) ∷ unopened, false)
    ∷ ((opened, 0) ∷ [], false)
    ∷ ((mode, 1) ∷ unopened, false)
    ∷ ((min_steps, 1) ∷ unopened, false)
    ∷ ((gap_steps, 1) ∷ unopened, false)
    ∷ ((pre_timeout, 1) ∷ unopened, false)
    ∷ ((long_steps, 1) ∷ unopened, false)
    ∷ ((max_pulses, 1) ∷ unopened, false)
    ∷ ((alpha, 1) ∷ unopened, false)
    ∷ ((gap_ratio, 1) ∷ unopened, false)
    ∷ ((fsk_delta, 1) ∷ unopened, false)
    ∷ ((fsk_split, 0x8000_0000) ∷ unopened, false)
    ∷ ((carry, 1) ∷ unopened, false)
    -- the lower ends of the domain; that of gap_steps is no other than that of pre_timeout
    ∷ ((min_steps, 0) ∷ [], false)
    ∷ ((pre_timeout, 0) ∷ [], false)
    ∷ ((long_steps, 0) ∷ [], false)
    ∷ ((max_pulses, 0) ∷ [], false)
    ∷ []

-- the statement: each lane of a limit passes, the one above it does not, and the others as they say
abbrev pub Limited : List Limit → List (List (Field × ℕ) × Bool) → Type 0
Limited ls rows =
    (map around ls ≡ map (λ (l : Limit). (true, false)) ls)
    × (map (λ (r : List (Field × ℕ) × Bool). passes r.0) rows ≡ map (λ (r : List (Field × ℕ) × Bool). r.1) rows)
