-- Small lists of calls, for the hollow programs and the examples. Indices, noise and samples are those of document 01's "Worked bursts".
use Rattle.std.specs.Prelude.{List, [], ◌∷◌, ◌++◌, ℕ, zero, suc, ◌+◌, length, replicate, Float}
use Rattle.std.specs.Float.{binary32}
use Rattle.std.specs.Float.Ieee.{neg, of_bits}
use Rattle.arith.specs.declared.C32.{C32}
use Rattle.ieee.specs.Constants.{zero32, one32}
use Rattle.shared.specs.declared.Settings.{Settings}
use Rattle.lane.specs.declared.History.{History}
use Rattle.lane.specs.declared.StepArgs.{StepArgs}
use Rattle.pulses.specs.Yardstick.{as_left, Call, opening, begin, step, close}

-- the settings of M6 to M8, but for carry, the mode, the most pulses, and how long a carrier is
abbrev settings_by : ℕ → ℕ → ℕ → ℕ → Settings
settings_by carry mode most long =
    record {
      mode = mode;
      min_steps = 2;
      gap_steps = 4;
      pre_timeout = 4;
      long_steps = long;
      max_pulses = most;
      alpha = of_bits binary32 0x3f00_0000;
      gap_ratio = of_bits binary32 0x42c8_0000;
      fsk_delta = zero32;
      fsk_split = zero32;
      carry = carry;
    }

-- without carry
abbrev pub settings : ℕ → ℕ → ℕ → Settings
settings mode most long = settings_by 0 mode most long

abbrev pub opens : ℕ → List Call
opens most = opening (settings 0 most 1000) ∷ []

abbrev one : C32
one = record { re = one32; im = zero32 }

abbrev past : History
past = record { e1 = zero32; e2 = zero32; e3 = zero32; e4 = zero32; e5 = zero32; e6 = zero32; e7 = zero32 }

-- n slots, each 0; the FSK buffer is always of eight
abbrev pub slots : ℕ → List ℕ
slots n = replicate n 0

-- a begin at index i and envelope 0, with this factor or 1, and the arguments of a step at envelope 0 or 8
abbrev pub first_by : Float → ℕ → List ℕ → Call
first_by factor i ook = begin (record { index = i; factor = factor; envelope = zero32; x = one; before = one; history = past }) ook (slots 8)

abbrev pub first : ℕ → List ℕ → Call
first i ook = first_by one32 i ook

abbrev pub at : Float → ℕ → StepArgs
at e i = record { index = i; noise = zero32; envelope = e; x = one }

abbrev pub eight : Float
eight = of_bits binary32 0x4100_0000

abbrev pub lo : ℕ → Call
lo i = step (at zero32 i) as_left (slots 8)

abbrev pub hi : ℕ → Call
hi i = step (at eight i) as_left (slots 8)

-- a close, lent the buffers that a step is
abbrev pub shut : Call
shut = close as_left (slots 8)

-- a step at envelope 4, so that an edge falls half way between two samples
abbrev mid : ℕ → Call
mid i = step (at (of_bits binary32 0x4080_0000) i) as_left (slots 8)

-- n steps from index i on
unfoldable pub los : ℕ → ℕ → List Call
los i zero = []
los i (suc n) = lo i ∷ los (i + 1) n

unfoldable pub his : ℕ → ℕ → List Call
his i zero = []
his i (suc n) = hi i ∷ his (i + 1) n

-- bursts from index i on, with this OOK buffer: M6, one pulse; M7, one pulse with a glitch; M8, no pulse; two pulses, 3 low samples between
abbrev pub m6 : ℕ → List ℕ → List Call
m6 i ook = first i ook ∷ his (i + 1) 4 ++ los (i + 5) 5

abbrev pub m7 : ℕ → List ℕ → List Call
m7 i ook = first i ook ∷ his (i + 1) 4 ++ lo (i + 5) ∷ his (i + 6) 3 ++ los (i + 9) 5

abbrev pub m8 : ℕ → List ℕ → List Call
m8 i ook = first i ook ∷ los (i + 1) 6

abbrev pub two : ℕ → List ℕ → List Call
two i ook = first i ook ∷ his (i + 1) 4 ++ los (i + 5) 3 ++ his (i + 8) 3 ++ los (i + 11) 5

-- document 02, R-1: two pulses of 8 4, a gap of 0 0 between, opened without carry (0) or with it (1)
abbrev pub halves : ℕ → List Call
halves carry = opening (settings_by carry 0 4 1000) ∷ first 10 (slots 8) ∷ hi 11 ∷ mid 12 ∷ lo 13 ∷ lo 14 ∷ hi 15 ∷ mid 16 ∷ los 17 5

-- a burst that does not end: one pulse in, it waits for the next
abbrev pub unended : ℕ → List ℕ → List Call
unended i ook = first i ook ∷ his (i + 1) 4 ++ los (i + 5) 3

-- ---- lists in Auto mode (document 02, R-9)
abbrev pub opens_auto : List Call
opens_auto = opening (settings 2 4 1000) ∷ []

-- a quarter turn n times, so that the sample is n quarters round
unfoldable pub turned : ℕ → C32
turned zero = one
turned (suc n) = let x : C32 = turned n in record { re = neg x.im; im = x.re }

-- steps from index i on at this envelope and noise 1, the samples so many quarters round
unfoldable pub tones : ℕ → Float → List ℕ → List Call
tones i e [] = []
tones i e (q ∷ qs) = step (record { index = i; noise = one32; envelope = e; x = turned q }) as_left (slots 8) ∷ tones (i + 1) e qs

-- high and low samples of one tone
abbrev pub plain : ℕ → ℕ → ℕ → List Call
plain i high low = tones i eight (slots high) ++ tones (i + high) zero32 (slots low)

-- runs of 3 samples, three of them and a fourth, with a quarter turn a sample in every second one
abbrev pub three_runs : List ℕ
three_runs = 0 ∷ 0 ∷ 0 ∷ 1 ∷ 2 ∷ 3 ∷ 3 ∷ 3 ∷ 3 ∷ []

abbrev pub four_runs : List ℕ
four_runs = three_runs ++ (0 ∷ 1 ∷ 2 ∷ [])

-- a burst of high samples so turned, and 5 low ones: with four runs it has a frame, with three it has not
abbrev pub keyed : ℕ → List ℕ → List Call
keyed i qs = first i (slots 8) ∷ tones (i + 1) eight qs ++ tones (i + 1 + length qs) zero32 (slots 5)
