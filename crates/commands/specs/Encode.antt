-- The commands as bytes, and the other direction of decoding: whatever values document 01's layout can carry, their
-- bytes decode to these values and are not refused, whatever comes after them.
use Rattle.std.specs.Prelude.{ℕ, ◌<◌, List, [], ◌∷◌, ◌++◌, T, Float}
use Rattle.std.specs.Float.{binary32}
use Rattle.std.specs.Float.Ieee.{fits}
use Rattle.words.specs.Words.{word, word64, float}
use Rattle.words.specs.Words.{Word}
use Rattle.shared.specs.declared.Settings.{Settings}
use Rattle.lane.specs.declared.BeginArgs.{BeginArgs}
use Rattle.lane.specs.declared.StepArgs.{StepArgs}

-- ---- the layout

-- the operands of 01, before other bytes
abbrev pub settings_bytes : Settings → List ℕ → List ℕ
settings_bytes p r =
    p.mode
    ∷ (word p.min_steps ++ (word p.gap_steps ++ (word p.pre_timeout ++ (word p.long_steps ++ (word p.max_pulses
    ++ (float p.alpha ++ (float p.gap_ratio ++ (float p.fsk_delta ++ (float p.fsk_split ++ r)))))))))

-- 01, and 04 with carry
abbrev pub open_bytes : Settings → List ℕ
open_bytes p = 1 ∷ settings_bytes p []

abbrev pub carry_bytes : Settings → List ℕ
carry_bytes p = 4 ∷ settings_bytes p (p.carry ∷ [])

-- 02
abbrev pub begin_bytes : BeginArgs → List ℕ
begin_bytes b =
    2
    ∷ (word64 b.index ++ (float b.factor ++ (float b.envelope
    ++ (float b.x.re ++ (float b.x.im ++ (float b.before.re ++ (float b.before.im
    ++ (float b.history.e1 ++ (float b.history.e2 ++ (float b.history.e3 ++ (float b.history.e4
    ++ (float b.history.e5 ++ (float b.history.e6 ++ (float b.history.e7 ++ []))))))))))))))

-- 03
abbrev pub step_bytes : StepArgs → List ℕ
step_bytes s = 3 ∷ (word64 s.index ++ (float s.noise ++ (float s.envelope ++ (float s.x.re ++ (float s.x.im ++ [])))))

-- 05
abbrev pub close_bytes : List ℕ
close_bytes = 5 ∷ []

-- ---- the values that the layout can carry

abbrev pub Single : Float → Type 0
Single x = T (fits binary32 x)

abbrev pub OpenFits : Settings → Type 0
OpenFits p =
    Word p.min_steps × Word p.gap_steps × Word p.pre_timeout × Word p.long_steps × Word p.max_pulses
    × Single p.alpha × Single p.gap_ratio × Single p.fsk_delta × Single p.fsk_split

abbrev pub BeginFits : BeginArgs → Type 0
BeginFits b =
    (b.index < 0x1_0000_0000_0000_0000) × Single b.factor × Single b.envelope
    × Single b.x.re × Single b.x.im × Single b.before.re × Single b.before.im
    × Single b.history.e1 × Single b.history.e2 × Single b.history.e3 × Single b.history.e4
    × Single b.history.e5 × Single b.history.e6 × Single b.history.e7

abbrev pub StepFits : StepArgs → Type 0
StepFits s =
    (s.index < 0x1_0000_0000_0000_0000) × Single s.noise × Single s.envelope × Single s.x.re × Single s.x.im
