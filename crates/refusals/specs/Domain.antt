-- Document 01, "Domain": each range has both its ends. By IEEE 754-2019, 5.11, -0 compares as 0 does, and a NaN with
-- nothing, so that it lies in no range.
use Rattle.std.specs.Prelude.{ℕ, ◌*◌, Bool, ◌&&◌, ◌||◌, leb, eqb, Float}
use Rattle.std.specs.Float.{binary32}
use Rattle.std.specs.Float.Ieee.{le, neg, of_bits, to_bits}
use Rattle.domain.specs.Limits.{most_pulses, max_steps, max_index}
use Rattle.ieee.specs.Constants.{zero32, one32}
use Rattle.arith.specs.declared.C32.{C32}
use Rattle.shared.specs.declared.Settings.{Settings}

abbrev pub within : ℕ → ℕ → ℕ → Bool
within lo hi n = leb lo n && leb n hi

abbrev pub between : Float → Float → Float → Bool
between lo hi x = le lo x && le x hi

-- 1,000,000
abbrev pub million32 : Float
million32 = of_bits binary32 0x4974_2400

-- 1e18 as an f32, and its negative
abbrev pub limit32 : Float
limit32 = of_bits binary32 0x5d5e_0b6b

abbrev pub minus_limit32 : Float
minus_limit32 = neg limit32

unfoldable pub settings_ok : Settings → Bool
settings_ok p =
    leb p.mode 2
    && within 1 max_steps p.min_steps
    && within 1 max_steps p.gap_steps
    && within 1 p.gap_steps p.pre_timeout
    && within 1 max_steps p.long_steps
    && within 1 most_pulses p.max_pulses
    && between zero32 one32 p.alpha
    && between zero32 million32 p.gap_ratio
    && between zero32 million32 p.fsk_delta
    && between zero32 million32 p.fsk_split
    && leb p.carry 1

-- the settings of the lane that never had any: every number is 0, and every float +0, which its pattern tells from -0
unfoldable pub unset_ok : Settings → Bool
unset_ok p =
    eqb p.mode 0
    && eqb p.min_steps 0
    && eqb p.gap_steps 0
    && eqb p.pre_timeout 0
    && eqb p.long_steps 0
    && eqb p.max_pulses 0
    && eqb (to_bits binary32 p.alpha) 0
    && eqb (to_bits binary32 p.gap_ratio) 0
    && eqb (to_bits binary32 p.fsk_delta) 0
    && eqb (to_bits binary32 p.fsk_split) 0
    && eqb p.carry 0

abbrev pub factor_ok : Float → Bool
factor_ok x = between zero32 million32 x

-- noise and envelopes
abbrev pub envelope_ok : Float → Bool
envelope_ok x = between zero32 limit32 x

-- a sample's two parts
abbrev pub sample_ok : C32 → Bool
sample_ok x = between minus_limit32 limit32 x.re && between minus_limit32 limit32 x.im

abbrev pub index_ok : ℕ → Bool
index_ok i = leb i max_index

-- refusal 8: the slots of the OOK buffer, and outside OOK mode those of the FSK buffer
abbrev pub room_ok : Settings → ℕ → ℕ → Bool
room_ok p ook fsk = leb (2 * p.max_pulses) ook && (eqb p.mode 0 || leb (2 * p.max_pulses) fsk)
