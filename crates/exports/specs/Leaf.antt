-- The arithmetic by number and bit pattern: an operand of binary32 is the lower half of what is given.
use Rattle.std.specs.Prelude.{ℕ, ◌/◌, ◌%◌, ◌^◌, List, [], ◌∷◌, get_or, pos, Float}
use Rattle.std.specs.Float.{binary32, binary64}
use Rattle.std.specs.Float.Ieee.{of_bits, to_bits, of_int, to_unsigned}
use Rattle.ieee.specs.Rounding.{round_of, narrow_of, widen_of}
use Rattle.arith.specs.Leaves.{midpoint_of, flush_of, max_of, min_of, cross_of, edge_of, step_of, whole_of, width_of, fsk_width_of, run_fix_of, gain_of, lead_len_of}
use Rattle.arith.specs.Angle.{atan2_of}

abbrev pub single : ℕ → Float
single x = of_bits binary32 (x % 2 ^ 32)

abbrev pub double : ℕ → Float
double x = of_bits binary64 x

-- ---- the leaves, each at the place of its number

-- of f32 operands
abbrev pub singles : Float → Float → Float → List ℕ
singles a b c =
    to_bits binary64 (widen_of a) ∷
    to_bits binary32 (midpoint_of a b) ∷
    to_bits binary32 (flush_of a) ∷
    to_bits binary32 (max_of a b) ∷
    to_bits binary32 (min_of a b) ∷
    to_bits binary64 (cross_of a b c) ∷
    to_bits binary32 (atan2_of a b) ∷
    to_bits binary32 (gain_of a) ∷ []

-- of f64 operands
abbrev pub doubles : Float → Float → List ℕ
doubles a b =
    to_bits binary64 (round_of a) ∷
    to_bits binary32 (narrow_of a) ∷
    to_unsigned 32 a ∷
    to_unsigned 64 a ∷
    whole_of a ∷
    step_of a ∷
    (width_of a b).0 ∷
    (fsk_width_of a b).0 ∷
    (run_fix_of a).0 ∷ []

-- of a whole number, and for an edge of its part of a step
abbrev pub numbers : ℕ → Float → List ℕ
numbers n frac =
    to_bits binary32 (of_int binary32 (pos (n % 2 ^ 32))) ∷
    to_bits binary64 (of_int binary64 (pos n)) ∷
    lead_len_of (n % 2 ^ 32) ∷
    to_bits binary64 (edge_of n frac) ∷ []

-- the leaf of a number, and 0 past the last
abbrev pub leaf_at : List ℕ → ℕ → ℕ
leaf_at l op = get_or l op 0

-- the leaf of the number n, by what its operands are: f32, f64, whole numbers
abbrev pub kinds : ℕ → ℕ → ℕ → ℕ → List ℕ
kinds n x y z =
    leaf_at (singles (single x) (single y) (single z)) n ∷
    leaf_at (doubles (double x) (double y)) n ∷
    leaf_at (numbers x (double y)) n ∷ []

-- op's upper digit says what the operands are, its lower one which leaf it is
unfoldable pub leaf_of : ℕ → ℕ → ℕ → ℕ → ℕ
leaf_of op x y z = leaf_at (kinds (op % 16) x y z) (op / 16)
