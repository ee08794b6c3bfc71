-- `fsk_sample` (source document 000): the frequency of a sample, and the two levels that follow it.
use Rattle.std.specs.Prelude.{Bool, cond, from_bits, Float}
use Rattle.std.specs.Float.{binary32}
use Rattle.std.specs.Float.Ieee.{add, sub, mul, lt, le}
use Rattle.arith.specs.Leaves.{gain_of, max_of, flush_of}
use Rattle.arith.specs.Angle.{atan2_of}
use Rattle.arith.specs.declared.C32.{C32}
use Rattle.fsk.specs.Makers.{levels_of}
use Rattle.fsk.specs.declared.Tone.{Tone}
use Rattle.fsk.specs.declared.Levels.{Levels}

-- a part of the product, low-passed: fm + a * (g * d - fm)
unfoldable pub low_pass_of : Float → Float → Float → Float → Float
low_pass_of fm a g d = flush_of (add binary32 fm (mul binary32 a (sub binary32 (mul binary32 g d) fm)))

-- f = atan2_fast(fm[1], fm[0]), which is the next sample's f_prev
abbrev pub tone_by : C32 → Tone
tone_by fm = record { fm = fm; f_prev = atan2_of fm.im fm.re }

abbrev pub tone_at : Float → Float → C32 → C32 → Tone
tone_at a g d fm = tone_by (record { re = low_pass_of fm.re a g d.re; im = low_pass_of fm.im a g d.im })

-- the gain of the envelope, which counts as at least AGC_FLOOR (0.25, 3e800000) of the signal level
unfoldable pub tone_of : Float → Float → C32 → Float → Tone → Tone
tone_of alpha high d e t = tone_at alpha (gain_of (max_of e (mul binary32 (from_bits binary32 0x3e80_0000) high))) d t.fm

-- with hysteresis: a level that is upper stays so at the threshold
unfoldable pub upper_of : Bool → Float → Float → Bool
upper_of was f thr = cond was (le thr f) (lt thr f)

-- FSK_RATIO is 1/16 (3d800000)
abbrev pub nearer : Float → Float → Float
nearer level f = add binary32 level (mul binary32 (sub binary32 f level) (from_bits binary32 0x3d80_0000))

-- the level of the sample follows it
unfoldable pub follow_of : Bool → Levels → Float → Levels
follow_of upper l f = cond upper (levels_of (nearer l.f_hi f) l.f_lo) (levels_of l.f_hi (nearer l.f_lo f))
