-- `refine`: the second stage of an edge, found again in the ring of the last 32 envelopes (source document 000).
use Rattle.std.specs.Prelude.{ℕ, zero, suc, min, max, ◌-◌, ◌%◌, Bool, cond, List, get_or, leb, Float}
use Rattle.std.specs.Float.{nan, binary32}
use Rattle.std.specs.Float.Ieee.{add, sub, mul, neg, lt, of_bits}
use Rattle.root.specs.Root.{sqrt_of}
use Rattle.ieee.specs.Constants.{zero32}
use Rattle.arith.specs.Leaves.{edge_of, cross_of}
use Rattle.ook.specs.declared.Env.{Env}

-- the level of half the signal amplitude over the noise: sqrtf(0.25 * high * high + NOISE_POWER * noise * noise)
unfoldable pub refine_level_of : Float → Float → Float
refine_level_of high noise =
    sqrt_of
    (add binary32
    (mul binary32 (mul binary32 (of_bits binary32 0x3e80_0000) high) high)
    (mul binary32 (mul binary32 (of_bits binary32 0x3f74_7645) noise) noise))

-- where the window starts: REFINE_BACK (6) before the crossing and less than min_steps, HIST - 1 (7) before the lead-in, RING - 1 (31) before idx
unfoldable pub refine_lo_of : ℕ → ℕ → ℕ → ℕ → ℕ
refine_lo_of min_steps ref_idx lead_at idx = max (max (ref_idx - min 6 (min_steps - 1)) (lead_at - 7)) (idx - 31)

-- the ring at a step; it has 32 places, so that the default is never read
abbrev pub at : List Float → ℕ → Float
at ring j = get_or ring (j % 32) nan

-- `v` at a rise and `-v` at a fall, with v = at(j) - t
unfoldable pub excess_of : Bool → Float → Float → Float
excess_of on m t = cond on (sub binary32 m t) (neg (sub binary32 m t))

-- the sum at step j, its largest value and the split there: one turn of the loop
abbrev pub sum_at : List Float → Float → Bool → ℕ → Float → Float
sum_at ring t on j sum = add binary32 sum (excess_of on (at ring j) t)

abbrev pub best_at : Float → Float → Float
best_at best sum = cond (lt best sum) sum best

abbrev pub split_at : Float → Float → ℕ → ℕ → ℕ
split_at best sum j split = cond (lt best sum) j split

-- k turns from step j down
unfoldable pub split_from : List Float → Float → Bool → ℕ → ℕ → Float → Float → ℕ → ℕ
unfolding excess_of
split_from ring t on zero j sum best split = split
split_from ring t on (suc k) j sum best split =
    split_from ring t on k (j - 1) (sum_at ring t on j sum) (best_at best (sum_at ring t on j sum)) (split_at best (sum_at ring t on j sum) j split)

-- the split of the steps after lo up to idx, from the sum 0 and the best -infinity
abbrev pub best_split_of : List Float → Float → Bool → ℕ → ℕ → ℕ
best_split_of ring t on lo idx = split_from ring t on (idx - lo) idx zero32 (of_bits binary32 0xff80_0000) idx

-- the crossing of t between the two samples at the split
abbrev pub cross_at : List Float → Float → ℕ → Float
cross_at ring t split = edge_of split (cross_of (at ring (split - 1)) (at ring split) t)

-- an empty window leaves the edge as it was
unfoldable pub refine_in_of : List Float → Float → Bool → ℕ → ℕ → Float → Float
refine_in_of ring t on lo idx t_run = cond (leb idx lo) t_run (cross_at ring t (best_split_of ring t on lo idx))

-- refine, of a burst whose run is s
unfoldable pub refine_of : List Float → ℕ → Float → Float → Bool → ℕ → ℕ → Env → Float
refine_of ring min_steps high noise on lead_at idx s =
    refine_in_of ring (refine_level_of high noise) on (refine_lo_of min_steps s.ref_idx lead_at idx) idx s.run.t_run
