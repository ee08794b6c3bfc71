-- Document 01's limits ("Domain" and refusals 4 and 9), each named once: every bound that they give is derived from these names.
use Rattle.std.specs.Prelude.{ℕ, ◌+◌, ◌*◌, ◌^◌}

-- max_pulses
abbrev pub most_pulses : ℕ
most_pulses = 65536

-- a slot list: a pulse and a gap for each of max_pulses
abbrev pub max_slots : ℕ
max_slots = 2 * most_pulses

-- min_steps, gap_steps and long_steps
abbrev pub max_steps : ℕ
max_steps = 2 ^ 24

-- an index
abbrev pub max_index : ℕ
max_index = 2 ^ 40

-- `fsk_cnt` and `fsk_runs`
abbrev pub max_count : ℕ
max_count = 2 ^ 27

-- a boundary in carry mode, in 64ths of a step (document 02, R-1)
abbrev pub max_bound : ℕ
max_bound = 2 ^ 47

-- a serial that is spent: this and above (document 02, R-6)
abbrev pub spent_serial : ℕ
spent_serial = 2 ^ 48

-- a serial: a burst begun before the serial is spent may run on, an index at a time, and be closed (R-13)
abbrev pub max_serial : ℕ
max_serial = spent_serial + max_index + 1
