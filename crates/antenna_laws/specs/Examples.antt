-- Small lists of calls of sixteen antennas, each with the reply to the last of them and how many lanes are then out of idle.
use Rattle.std.specs.Prelude.{ℕ, zero, suc, ◌+◌, ◌^◌, ◌≡◌, List, [], ◌∷◌, ◌++◌, map, replicate, Float, Result, Ok, Err}
use Rattle.std.specs.Float.{binary32}
use Rattle.std.specs.Float.Ieee.{of_bits}
use Rattle.arith.specs.declared.C32.{C32}
use Rattle.ieee.specs.Constants.{zero32, one32}
use Rattle.shared.specs.declared.Next.{Next}
use Rattle.shared.specs.declared.Next.TheVariants.{Stay, Idle}
use Rattle.lane.specs.declared.BeginArgs.{BeginArgs}
use Rattle.lane.specs.declared.History.{History}
use Rattle.lane.specs.Answers.{Reply}
use Rattle.commands.specs.declared.Command.TheVariants.{Open, Begin, Step, Close}
use Rattle.pulses.specs.Lists.{settings, slots, at}
use Rattle.calls.specs.Turn.{by_number}
use Rattle.among.specs.Among.{antennas, Lanes, outs, answer_to, after_call}
use Rattle.antenna_laws.specs.Calls.{Sent, new_lanes}

-- the last reply, from sixteen new lanes with eight slots in each buffer, and the number of lanes out of idle after it
unfoldable pub last_reply : Reply → Lanes → List Sent → Reply × ℕ
last_reply r p [] = (r, outs p.0)
last_reply r p (c ∷ cs) = last_reply (answer_to p c.0 c.1).0.reply (after_call p c.0 c.1) cs

abbrev rows : List (List ℕ)
rows = replicate antennas (slots 8)

-- with the number of its refusal
unfoldable pub shown : List Sent → Result Next ℕ × ℕ
shown cs = let r = last_reply (Ok Stay) (new_lanes rows rows) cs in (by_number r.0, r.1)

-- ---- the calls

abbrev one : C32
one = record { re = one32; im = zero32 }

abbrev past : History
past = record { e1 = zero32; e2 = zero32; e3 = zero32; e4 = zero32; e5 = zero32; e6 = zero32; e7 = zero32 }

abbrev args : ℕ → Float → BeginArgs
args i factor = record { index = i; factor = factor; envelope = zero32; x = one; before = one; history = past }

-- antenna i opens, for so many pulses, begins at index 10, goes on at envelope 0, and closes
abbrev pub opens : ℕ → ℕ → Sent
opens most i = (i, Ok (Open (settings 0 most 1000)))

abbrev pub begins : ℕ → Sent
begins i = (i, Ok (Begin (args 10 one32)))

unfoldable pub lows : ℕ → ℕ → ℕ → List Sent
lows i at₀ zero = []
lows i at₀ (suc n) = (i, Ok (Step (at zero32 at₀))) ∷ lows i (at₀ + 1) n

abbrev pub closes : ℕ → Sent
closes i = (i, Ok Close)

-- antennas 0 to 3 are let in, and antenna 4 opens
abbrev pub four : List Sent
four = opens 4 0 ∷ begins 0 ∷ opens 4 1 ∷ begins 1 ∷ opens 4 2 ∷ begins 2 ∷ opens 4 3 ∷ begins 3 ∷ opens 4 4 ∷ []

-- the fifth begin
abbrev pub fifth : List Sent
fifth = four ++ begins 4 ∷ []

abbrev pub table : List (List Sent × (Result Next ℕ × ℕ))
table =
    (four, (Ok Stay, 4))
    ∷ (fifth, (Err 12, 4))
    -- a place is freed by a close, an opening, and the step that answers idle; a step before it frees none
    ∷ (fifth ++ closes 2 ∷ [], (Ok Idle, 3))
    ∷ (fifth ++ closes 2 ∷ begins 4 ∷ [], (Ok Stay, 4))
    ∷ (fifth ++ opens 4 1 ∷ begins 4 ∷ [], (Ok Stay, 4))
    ∷ (fifth ++ lows 3 11 5 ++ begins 4 ∷ [], (Err 12, 4))
    ∷ (fifth ++ lows 3 11 6 ++ [], (Ok Idle, 3))
    ∷ (fifth ++ lows 3 11 6 ++ begins 4 ∷ [], (Ok Stay, 4))
    -- 12 comes before 8, and after 3, 5, 6 and 7
    ∷ (opens 5 4 ∷ begins 4 ∷ [], (Err 8, 0))
    ∷ (four ++ opens 5 4 ∷ begins 4 ∷ [], (Err 12, 4))
    ∷ (four ++ begins 5 ∷ [], (Err 3, 4))
    ∷ (fifth ++ begins 0 ∷ [], (Err 5, 4))
    ∷ (four ++ (4, Ok (Begin (args (2 ^ 41) one32))) ∷ [], (Err 6, 4))
    ∷ (four ++ (4, Ok (Begin (args 10 (of_bits binary32 0xbf80_0000)))) ∷ [], (Err 7, 4))
    -- the lanes that are in go on
    ∷ (fifth ++ lows 0 11 1, (Ok Stay, 4))
    -- no such antenna
    ∷ (four ++ begins 16 ∷ [], (Err 6, 4))
    ∷ []

abbrev pub Right : List (List Sent × (Result Next ℕ × ℕ)) → Type 0
Right rs = map (λ (r : List Sent × (Result Next ℕ × ℕ)). shown r.0) rs ≡ map (λ (r : List Sent × (Result Next ℕ × ℕ)). r.1) rs
