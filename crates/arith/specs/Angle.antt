-- `atan2_fast` of band_pulse_detect.rs: a polynomial of the smaller magnitude over the larger, folded back by the octant. Each operation is rounded once, in this order.
use Rattle.std.specs.Prelude.{Bool, cond, from_bits, Float}
use Rattle.std.specs.Float.{binary32}
use Rattle.std.specs.Float.Ieee.{add, sub, mul, div, neg, lt, eq}
use Rattle.arith.specs.Leaves.{abs_of}
use Rattle.ieee.specs.Constants.{zero32}

-- 0.99997726, 0.33262347, 0.19354346, 0.11643287, 0.05265332, 0.0117212, the last term first
abbrev pub horner : Float → Float
horner s =
    add binary32 (from_bits binary32 0x3f7f_fe82)
    (mul binary32 s
    (add binary32 (neg (from_bits binary32 0x3eaa_4da0))
    (mul binary32 s
    (add binary32 (from_bits binary32 0x3e46_3042)
    (mul binary32 s
    (add binary32 (neg (from_bits binary32 0x3dee_745b))
    (mul binary32 s
    (sub binary32 (from_bits binary32 0x3d57_ab02) (mul binary32 s (from_bits binary32 0x3c40_0a47))))))))))

abbrev pub octant : Float → Float
octant a = mul binary32 a (horner (mul binary32 a a))

abbrev pub fold : Bool → Float → Float → Float
fold b whole r = cond b (sub binary32 whole r) r

-- a is the smaller magnitude over the larger, and steep says that y's is the larger; pi / 2 and pi
abbrev pub unfolded : Float → Float → Bool → Float → Float
unfolded y x steep a = fold (lt x zero32) (from_bits binary32 0x4049_0fdb) (fold steep (from_bits binary32 0x3fc9_0fdb) (octant a))

abbrev pub signed : Bool → Float → Float
signed b r = cond b (neg r) r

unfoldable pub atan2_of : Float → Float → Float
unfolding abs_of
atan2_of y x =
    let steep = lt (abs_of x) (abs_of y) in
    let large = cond steep (abs_of y) (abs_of x) in
    let small = cond steep (abs_of x) (abs_of y) in
    cond (eq large zero32) zero32 (signed (lt y zero32) (unfolded y x steep (div binary32 small large)))
