-- What the lane gives in small lists in Auto mode (document 02, R-9). A low sample at noise 0 leaves the carrier present, so most lists have noise 1.
use Rattle.std.specs.Prelude.{◌≡◌, Bool, true, List, [], ◌∷◌, ◌++◌, map, ℕ, ◌+◌, replicate}
use Rattle.std.specs.Float.{binary32}
use Rattle.std.specs.Float.Ieee.{of_bits}
use Rattle.ieee.specs.Constants.{zero32}
use Rattle.pulses.specs.Yardstick.{Call, opening}
use Rattle.pulses.specs.Demand.{the_lane, Place}
use Rattle.pulses.specs.Lists.{settings, slots, first_by, first, eight, hi, shut, los, his, unended, opens_auto, tones, plain, three_runs, four_runs, keyed}
use Rattle.pulses.specs.Ran.{Ran, ran}
use Rattle.pulses.specs.Examples.{Shown, shown}

-- what a burst shows besides: demand 2's `fsk_phase` after each sample of its record, and its count of frames
abbrev pub Framed : Type 0
Framed = List ℕ × ℕ × Shown

unfoldable pub framed : Place the_lane → Framed
framed k = (k.yard.phases, k.yard.lane.burst.frames, shown k)

unfoldable pub framed_in : List Call → Bool × List Framed
framed_in cs = let r : Ran the_lane = ran the_lane cs in (r.handed, map framed r.ended)

-- one pulse of 4 samples, and such a burst with a begin whose factor is 100, so that there is no carrier in it
abbrev pulse : ℕ → List Call
pulse i = first i (slots 8) ∷ plain (i + 1) 4 5

abbrev faint : ℕ → List Call
faint i = first_by (of_bits binary32 0x42c8_0000) i (slots 8) ∷ plain (i + 1) 4 5

-- so many samples with fsk_phase 0 and then so many with 1
abbrev split : ℕ → ℕ → List ℕ
split zeros ones = slots zeros ++ replicate ones 1

-- four runs: one pulse, and no train
abbrev of_frame : Framed
of_frame = (split 5 13, 1, (2, 18, 1 ∷ [], []))

-- a pulse before the frame
abbrev after_pulse : List Call
after_pulse = opens_auto ++ (first 10 (slots 8) ∷ plain 11 4 3 ++ tones 18 eight four_runs ++ tones 30 zero32 (slots 5))

abbrev pub table : List (List Call × List Framed)
table =
    (opens_auto ++ pulse 10, (slots 10, 0, (2, 10, 1 ∷ [], (1, 0, 4 ∷ 0 ∷ []) ∷ [])) ∷ [])
    -- at noise 0, with a close, in burst and in lead
    ∷ (opens_auto ++ unended 10 (slots 8) ++ shut ∷ [], (slots 8, 0, (2, 8, 1 ∷ [], (1, 0, 4 ∷ 0 ∷ []) ∷ [])) ∷ [])
    ∷ (opens_auto ++ (first 10 (slots 8) ∷ hi 11 ∷ shut ∷ []), ([], 0, (2, 0, [], [])) ∷ [])
    -- at noise 0 the carrier of one pulse and 3 low samples is one of more than 5
    ∷ (opening (settings 2 4 5) ∷ first 10 (slots 8) ∷ his 11 3 ++ los 14 3, (slots 7, 0, (2, 7, 1 ∷ [], (1, 0, 3 ∷ 0 ∷ []) ∷ [])) ∷ [])
    -- three runs are no frame, though fsk_phase is 1
    ∷ (opens_auto ++ keyed 10 three_runs, (split 5 10, 0, (2, 15, 1 ∷ [], (1, 0, 9 ∷ 0 ∷ []) ∷ [])) ∷ [])
    -- four are: the record's pulse is no train's, and one before the frame is the train's, of two
    ∷ (opens_auto ++ keyed 10 four_runs, of_frame ∷ [])
    ∷ (after_pulse, (split 12 13, 1, (2, 25, 1 ∷ 1 ∷ [], (1, 0, 4 ∷ 0 ∷ []) ∷ [])) ∷ [])
    -- fsk_phase is left over from the burst before, and so it is in lead
    ∷ (opens_auto ++ keyed 10 four_runs ++ faint 30 ++ first 50 (slots 8) ∷ shut ∷ [], of_frame ∷ (split 0 10, 0, (2, 10, 1 ∷ [], (1, 0, 4 ∷ 0 ∷ []) ∷ [])) ∷ ([], 0, (2, 0, [], [])) ∷ [])
    ∷ []

-- each list is handed on and shows what stands beside it
abbrev pub Right : List (List Call × List Framed) → Type 0
Right rows = map (λ (r : List Call × List Framed). framed_in r.0) rows ≡ map (λ (r : List Call × List Framed). (true, r.1)) rows
