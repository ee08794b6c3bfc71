-- Document 01, "Worked bursts": the examples M1 to M10 as one table, with bursts of document 02's R-1, R-2 and R-13. A row has a question and what the
-- paper gives for it. A question of a further kind is a constructor of `Asked` and a clause of `answer`.
use Rattle.std.specs.Prelude.{ℕ, ◌≡◌, List, [], ◌∷◌, ◌++◌, map, replicate}
use Prim.Native.String.{String}
use Rattle.std.specs.Float.{binary32, binary64}
use Rattle.std.specs.Float.Ieee.{of_bits, to_bits, of_int, is_nan, sub, mul, div, lt}
use Rattle.ieee.specs.Rounding.{round_of}
use Rattle.root.specs.Root.{sqrt_of}
use Rattle.arith.specs.Leaves.{cross_of, gain_of, lead_len_of, nearest_in}
use Rattle.fit.specs.Slots.{time_of, last_rise_below, last_rise, times, up_to, transitions_of, fold}
use Rattle.grid.specs.Guess.{shorter_of, runs_step, runs_of, run_to, added_of, mean_step, mean_of, grid_of}
use Rattle.grid.specs.Widths.{measured_of, widths_on, fsk_widths_of}
use Rattle.worked.specs.Text.{bytes}
use Rattle.worked.specs.Bursts.{open_with, carry_with, halves, backward, burst_with, burst_by, printed}

-- a float is its bit pattern
pub data Asked : Type 0 where
  round : ℕ → Asked
  sqrt : ℕ → Asked
  cross : ℕ → ℕ → ℕ → Asked
  a_gain : ℕ → Asked
  lead_len : ℕ → Asked
  fsk_widths : List ℕ → Asked
  -- the bytes of commands (M6 to M8, M10, R-1, R-2, R-13): the answer is the text that the listing program prints
  commands : List ℕ → Asked

abbrev one : ℕ → List ℕ
one n = n ∷ []

-- the answer that the definition has
unfoldable pub answer : Asked → List ℕ
unfolding round_of sqrt_of cross_of gain_of of_bits to_bits of_int is_nan sub mul div lt nearest_in time_of last_rise_below last_rise times up_to transitions_of fold shorter_of runs_step runs_of run_to added_of mean_step mean_of grid_of measured_of widths_on fsk_widths_of printed
answer (round x) = one (to_bits binary64 (round_of (of_bits binary64 x)))
answer (sqrt x) = one (to_bits binary32 (sqrt_of (of_bits binary32 x)))
answer (cross prev cur thr) = one (to_bits binary64 (cross_of (of_bits binary32 prev) (of_bits binary32 cur) (of_bits binary32 thr)))
answer (a_gain e) = one (to_bits binary32 (gain_of (of_bits binary32 e)))
answer (lead_len m) = one (lead_len_of m)
answer (fsk_widths slots) = fsk_widths_of slots
answer (commands input) = printed input

pub data Row : Type 0 where
  row : Asked → List ℕ → Row

abbrev answered : Row → List ℕ
answered (row q n) = answer q

abbrev given : Row → List ℕ
given (row q n) = n

-- a question of one number, with one number for its answer
abbrev each : (ℕ → Asked) → List (ℕ × ℕ) → List Row
each ask [] = []
each ask ((x, n) ∷ rest) = row (ask x) (one n) ∷ each ask rest

-- the statement: each row's answer is what the paper gives
abbrev pub Right : List Row → Type 0
Right rows = map answered rows ≡ map given rows

abbrev eights : ℕ → List ℕ
eights n = replicate n 0x4100_0000

abbrev zeros : ℕ → List ℕ
zeros n = replicate n 0

-- commands, and the text that the listing program prints of them
abbrev prints : List ℕ → String → Row
prints input text = row (commands input) (bytes text)

abbrev pub table : List Row
table =
    -- M1: 2.5 gives 3, -2.5 gives -3, 0.5 gives 1
    each round ((0x4004_0000_0000_0000, 0x4008_0000_0000_0000) ∷ (0xc004_0000_0000_0000, 0xc008_0000_0000_0000) ∷ (0x3fe0_0000_0000_0000, 0x3ff0_0000_0000_0000) ∷ [])
    -- M2: 16 gives 4; 2 gives 3fb504f3; bits 00000001 give 1a3504f3; 0 gives 0
    ++ each sqrt ((0x4180_0000, 0x4080_0000) ∷ (0x4000_0000, 0x3fb5_04f3) ∷ (0x0000_0001, 0x1a35_04f3) ∷ (0, 0) ∷ [])
    -- M3: (0, 8, 4) 0.5; (3, 3, 3) 1; (0, 8, 9) 1
    ++ row (cross 0 0x4100_0000 0x4080_0000) (one 0x3fe0_0000_0000_0000)
    ∷ row (cross 0x4040_0000 0x4040_0000 0x4040_0000) (one 0x3ff0_0000_0000_0000)
    ∷ row (cross 0 0x4100_0000 0x4110_0000) (one 0x3ff0_0000_0000_0000)
    -- M4: 1 gives 1, 2 gives 0.25, 0 gives 0
    ∷ each a_gain ((0x3f80_0000, 0x3f80_0000) ∷ (0x4000_0000, 0x3e80_0000) ∷ (0, 0) ∷ [])
    -- M5: 1 gives 3, 2 gives 7, 4 gives 15, 5 gives 16
    ++ each lead_len ((1, 3) ∷ (2, 7) ∷ (4, 15) ∷ (5, 16) ∷ [])
    -- M6: 0, 8, 8, 8, 8, then 0
    ++ prints (burst_with 0 (eights 4 ++ zeros 5)) "ook 11 15 0 4 41000000 vector 40800000 00000000 1 4 0\nidle 19\n"
    -- M7: 0, four 8s, 0, three 8s, then 0: one pulse of 8, index 11, end 19, idle at 23
    ∷ prints (burst_with 0 (eights 4 ++ zeros 1 ++ eights 3 ++ zeros 5)) "ook 11 19 0 8 41000000 vector 40e00000 00000000 1 8 0\nidle 23\n"
    -- M8: all 0: only `idle 16`
    ∷ prints (burst_with 0 (zeros 6)) "idle 16\n"
    -- R-2, a train ended by a carrier: M6's settings but long_steps 6; 0, three 8s, three 0s, seven 8s
    ∷ prints (burst_by 6 4 0 (eights 3 ++ zeros 3 ++ eights 7)) "ook 11 14 0 3 41000000 vector 40400000 00000000 1 3 3\ncarrier 23 41000000\n"
    -- R-2, a cut train: M6's settings but max_pulses 1; 0, three 8s, three 0s, three 8s, two 0s
    ∷ prints (burst_by 1000 1 0 (eights 3 ++ zeros 3 ++ eights 3 ++ zeros 2)) "ook 11 20 1 9 41000000 vector 40400000 00000000 1 3 3\nidle 21\n"
    -- R-13, M6's settings; 0, three 8s, three 0s, three 8s, then 05: the gap that the second pulse's start closed stays as the last one
    ∷ prints (burst_with 0 (eights 3 ++ zeros 3 ++ eights 3) ++ (5 ∷ [])) "ook 11 14 0 3 41000000 vector 40400000 00000000 1 3 3\nidle 19\n"
    -- and 0, six 8s, 0, then 05 twice: in a burst without a finished pulse there is no train, and the lane is idle then
    ∷ prints (burst_with 0 (eights 6 ++ zeros 1) ++ (5 ∷ 5 ∷ [])) "idle 17\nrefused 5\n"
    -- R-1, M6's settings; 0 8 4 0 0 8 4, then 0. Opened by 01, and by 04 with carry 0
    ∷ prints (open_with 4 ++ halves) "ook 11 16 0 5 41000000 vector 40800000 00000000 2 2 3 2 0\nidle 21\n"
    ∷ prints (carry_with 0 ++ halves) "ook 11 16 0 5 41000000 vector 40800000 00000000 2 2 3 2 0\nidle 21\n"
    -- by 04 with carry 1; a later carry of 2 prints `refused 3`, and the settings stay
    ∷ prints (carry_with 1 ++ carry_with 2 ++ halves) "refused 3\nook 11 16 0 5 41000000 vector 40800000 00000000 2 2 2 2 0\nidle 21\n"
    -- a later 01 leaves carry off
    ∷ prints (carry_with 1 ++ open_with 4 ++ halves) "ook 11 16 0 5 41000000 vector 40800000 00000000 2 2 3 2 0\nidle 21\n"
    -- the clamp: the first pulse ends a step before its start, so its end has the boundary 0, and the gap after it is 3 and not 4
    ∷ prints (backward 1) "ook 11 23 0 12 41fe7965 vector 41000000 00000000 2 0 3 6 0\nidle 27\n"
    ∷ prints (backward 0) "ook 11 23 0 12 41fe7965 vector 41000000 00000000 2 0 4 6 0\nidle 27\n"
    -- M9: slots 64, 0 give 1, 0; slots 128, 192 give 2, 1; the empty list stays empty
    ∷ row (fsk_widths (64 ∷ 0 ∷ [])) (1 ∷ 0 ∷ [])
    ∷ row (fsk_widths (128 ∷ 192 ∷ [])) (2 ∷ 1 ∷ [])
    ∷ row (fsk_widths []) []
    -- M10: max_pulses 0 and 65,537 meet refusal 3; 1 and 65,536 do not and print nothing
    ∷ prints (open_with 0) "refused 3\n"
    ∷ prints (open_with 65537) "refused 3\n"
    ∷ prints (open_with 1) ""
    ∷ prints (open_with 65536) ""
    ∷ []
