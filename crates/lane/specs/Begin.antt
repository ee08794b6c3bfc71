-- Begin fills the ring as `history` does and calls `begin_lead` (document 01, "Added around the lane").
use Rattle.std.specs.Prelude.{ℕ, ◌+◌, ◌-◌, ◌%◌, List, [], ◌∷◌, set, replicate, Float}
use Rattle.ieee.specs.Constants.{zero32}
use Rattle.arith.specs.declared.C32.{C32}
use Rattle.shared.specs.Counts.{zero_c32}
use Rattle.burst.specs.declared.BurstOf.{BurstOf}
use Rattle.burst.specs.Types.{Burst}
use Rattle.burst.specs.declared.Lead.{Lead}
use Rattle.lane.specs.declared.History.{History}
use Rattle.lane.specs.declared.BeginArgs.{BeginArgs}
use Rattle.lane.specs.declared.Lane.{Lane}
use Rattle.lane.specs.Idle.{no_out}

-- the ring's place of the index `back` before this one, which wraps below index 0 as a u64 does
abbrev pub place_of : ℕ → ℕ → ℕ
place_of index back = (index % 32 + (32 - back)) % 32

abbrev pub ring_before_of : List Float → ℕ → ℕ → Float → List Float
ring_before_of ring index back e = set ring (place_of index back) e

-- history: the seven envelopes before this one, nearest first
unfoldable pub history_of : List Float → ℕ → History → List Float
history_of ring index h =
    let r1 : List Float = ring_before_of ring index 1 h.e1 in
    let r2 : List Float = ring_before_of r1 index 2 h.e2 in
    let r3 : List Float = ring_before_of r2 index 3 h.e3 in
    let r4 : List Float = ring_before_of r3 index 4 h.e4 in
    let r5 : List Float = ring_before_of r4 index 5 h.e5 in
    let r6 : List Float = ring_before_of r5 index 6 h.e6 in
    ring_before_of r6 index 7 h.e7

-- the envelope of a call goes to ring place (index mod 32)
abbrev pub ring_of : List Float → ℕ → Float → List Float
ring_of ring index e = set ring (index % 32) e

-- begin_lead: the lead's arrays hold the sample before, this sample and its envelope
unfoldable pub begin_lead_of : BeginArgs → Lead
begin_lead_of b = record { lead_at = b.index; lead_n = 1; lead_e = set (replicate 16 zero32) 0 b.envelope; lead_x = set (set (replicate 17 zero_c32) 0 b.before) 1 b.x }

-- the seven envelopes as one list
abbrev pub nearest_first_of : History → List Float
nearest_first_of h = h.e1 ∷ h.e2 ∷ h.e3 ∷ h.e4 ∷ h.e5 ∷ h.e6 ∷ h.e7 ∷ []

-- a burst with this record for both of its own
abbrev pub with_records : {C O : Type 0} → O → BurstOf C O → BurstOf C O
with_records out b = record { high = b.high; e_prev = b.e_prev; env = b.env; pac = b.pac; train = b.train; out_ook = out; frames = b.frames; pres = b.pres; frame = b.frame; out_fsk = out }

-- begin and step clear both records
unfoldable pub cleared_of : Burst → Burst
cleared_of b = record { high = b.high; e_prev = b.e_prev; env = b.env; pac = b.pac; train = b.train; out_ook = no_out; frames = b.frames; pres = b.pres; frame = b.frame; out_fsk = no_out }

-- begin_lead sets p_factor, which the burst's presence goes by
abbrev pub with_factor : Float → Burst → Burst
with_factor f b = record { high = b.high; e_prev = b.e_prev; env = b.env; pac = b.pac; train = b.train; out_ook = b.out_ook; frames = b.frames; pres = record { run = b.pres.run; p_factor = f }; frame = b.frame; out_fsk = b.out_fsk }

-- an accepted call leaves the settings; the index and the sample of the call are kept for the next one; the serial is raised apart from
-- this (specs/Serial)
abbrev pub lane_of : Lane → ℕ → ℕ → C32 → Lead → List Float → Burst → Lane
lane_of l phase index x ld ring b = record { opened = l.opened; settings = l.settings; phase = phase; last = index; x_prev = x; lead = ld; ring = ring; burst = b; serial = l.serial }

unfoldable pub lead_lane : Lane → BeginArgs → Lane
lead_lane l b = lane_of l 1 b.index b.x (begin_lead_of b) (history_of (ring_of l.ring b.index b.envelope) b.index b.history) (with_factor b.factor (cleared_of l.burst))
