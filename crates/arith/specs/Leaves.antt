-- The leaves of the lane's arithmetic, after the functions of band_pulse_detect.rs that have the same names, each operation rounded once, in the Rust's order.
-- The operations are the kit's (lib.Ieee): addition, subtraction, multiplication, division (IEEE 754-2019, 5.4.1), roundTiesToEven (4.3.1), quiet comparison, false where one is a NaN (5.11).
-- Whole numbers become floats by `of_int` (convertFromInt, 5.4.1), and floats whole numbers by `to_unsigned` (convertToIntegerTowardZero, 5.8; the nearest end of the range, and 0 for a NaN, as Rust's `as`).
-- A constant is written by its bit pattern.
use Rattle.std.specs.Prelude.{ℕ, ◌-◌, ◌*◌, ◌/◌, ◌%◌, ◌^◌, min, false, cond, pos, from_bits, is_nan, to_bits, Float}
use Rattle.std.specs.Float.{nan, inf, fin, binary32, binary64}
use Rattle.std.specs.Float.Ieee.{add, sub, mul, div, lt, of_int, up, down}
use Rattle.arith.specs.declared.C32.{C32}
use Rattle.arith.specs.declared.Steps.{Steps}
use Rattle.arith.specs.declared.Fix64.{Fix64}
use Rattle.ieee.specs.Rounding.{half_up, round_of, narrow_of}
use Rattle.ieee.specs.Constants.{zero32, zero64, one64}

-- ---- constants

-- RUN_FIX, 64.0
abbrev pub run_fix : Float
run_fix = from_bits binary64 0x4050_0000_0000_0000

-- BAND_PULSE_LEAD
abbrev pub max_lead : ℕ
max_lead = 16

-- FLUSH, 1e-30
abbrev pub flush : Float
flush = from_bits binary32 0x0da2_4260

-- the smallest normal number of binary32, 2 ^ -126
abbrev pub min_positive : Float
min_positive = from_bits binary32 0x0080_0000

-- ---- what the Rust takes from its language and libraries

-- abs (5.5.1): the magnitude, also of a zero
unfoldable pub abs_of : Float → Float
abs_of nan = nan
abs_of (inf s) = inf false
abs_of (fin s m e) = fin false m e

-- document 01: f32::midpoint is here both widened to f64, added, halved, narrowed to nearest even. Widening changes no f32 (`Wider` in RoundingNearest.antt), so a and b are the widened operands too.
unfoldable pub midpoint_of : Float → Float → Float
unfolding narrow_of
midpoint_of a b = narrow_of (div binary64 (add binary64 a b) (from_bits binary64 0x4000_0000_0000_0000))

-- document 01: flush_denormal is here +0 if the magnitude is below 2 ^ -126, else the value
unfoldable pub flush_of : Float → Float
unfolding abs_of
flush_of x = cond (lt (abs_of x) min_positive) zero32 x

-- f32::max, f64::max and the two min: the other operand where one is a NaN (maxNum and minNum of IEEE 754-2008, 5.3.1); of two zeros the first
abbrev pub max_of : Float → Float → Float
max_of a b = cond (is_nan a) b (cond (lt a b) b a)

abbrev pub min_of : Float → Float → Float
min_of a b = cond (is_nan a) b (cond (lt b a) b a)

-- f64::clamp to 0 and 1: a NaN is kept
abbrev pub clamp_of : Float → Float
clamp_of x = cond (lt x zero64) zero64 (cond (lt one64 x) one64 x)

-- ---- the leaves, in the Rust's order (atan2_fast: Angle.antt)

-- the steps of the lead-in: BAND_PULSE_LEAD, at most 4 min_steps - 1, each operation saturating at a u32's ends
abbrev pub lead_len_of : ℕ → ℕ
lead_len_of m = min max_lead (min (4 * m) (2 ^ 32 - 1) - 1)

-- the sum, part by part
abbrev pub plus_of : C32 → C32 → C32
plus_of a b = record { re = add binary32 a.re b.re; im = add binary32 a.im b.im }

-- x times the conjugate of y
abbrev pub cmul_conj_of : C32 → C32 → C32
cmul_conj_of x y = record {
  re = add binary32 (mul binary32 x.re y.re) (mul binary32 x.im y.im);
  im = sub binary32 (mul binary32 x.im y.re) (mul binary32 x.re y.im);
}

-- where the line from prev to cur crosses thr, as a part of the step; 1 unless the difference is above 0 in magnitude. The f32 quotient is widened, which does not change it, and held to 0 and 1 as an f64.
unfoldable pub cross_of : Float → Float → Float → Float
unfolding abs_of
cross_of prev cur thr = cond (lt zero32 (abs_of (sub binary32 cur prev))) (clamp_of (div binary32 (sub binary32 thr prev) (sub binary32 cur prev))) one64

-- the time of the crossing before the sample idx
abbrev pub edge_of : ℕ → Float → Float
edge_of idx frac = add binary64 (sub binary64 (of_int binary64 (pos idx)) one64) frac

-- x to the nearest whole number, a tie up, held to w bits: 0 for what is negative and for a NaN, and the largest where x is too large
unfoldable pub nearest_in : ℕ → Float → ℕ
nearest_in w nan = 0
nearest_in w (inf s) = cond s 0 (2 ^ w - 1)
nearest_in w (fin s m e) = cond s 0 (min (half_up (m * up e) (down e)) (2 ^ w - 1))

-- step_of: the step of a time
abbrev pub step_of : Float → ℕ
step_of t = nearest_in 64 t

-- whole: a width in whole steps
abbrev pub whole_of : Float → ℕ
whole_of x = nearest_in 32 x

-- each unit is a type of its own: whole steps (Steps), and 64ths of a step (Fix64)
abbrev pub width_of : Float → Float → Steps
width_of a b = record { 0 = whole_of (sub binary64 b a) }

-- the difference of the two rounded times, so that widths of neighbouring runs add up
abbrev pub fsk_width_of : Float → Float → Steps
fsk_width_of a b = record { 0 = whole_of (sub binary64 (round_of b) (round_of a)) }

-- the exponent's field of a pattern of binary32
abbrev pub exponent_of : ℕ → ℕ
exponent_of b = b / 2 ^ 23 % 256

-- 1 / e^2 rounded up to a power of two, by the exponent alone: 254 less the field, at least 0. 0 unless the square exceeds FLUSH.
unfoldable pub gain_of : Float → Float
gain_of e = cond (lt flush (mul binary32 e e)) (from_bits binary32 ((254 - exponent_of (to_bits binary32 (mul binary32 e e))) * 2 ^ 23)) zero32

-- a time after the origin of a frame, in 64ths of a step
abbrev pub run_fix_of : Float → Fix64
run_fix_of t = record { 0 = whole_of (mul binary64 t run_fix) }
