-- Laws of the definitions in specs/Refine.
use Rattle.std.proofs.Common.{ℕ, suc, ◌-◌, ◌<◌, ◌≤◌, Bool, true, false, List, ◌≡◌, arith}
use lib.Ieee.{Float, binary32, add, lt}
use Rattle.ook.specs.Refine.{at, excess_of, sum_at, best_at, split_at, split_from}

-- a turn of the loop, at whose step the sum is the best so far or is not, and its end
module _ (ring : List Float) (t : Float) (on : Bool) (lo j : ℕ) (sum best : Float) (split : ℕ) (h : lo < j) where
  split_turn :
      split_from ring t on (j - lo) j sum best split
      ≡ split_from ring t on (j - 1 - lo) (j - 1) (sum_at ring t on j sum) (best_at best (sum_at ring t on j sum)) (split_at best (sum_at ring t on j sum) j split)
  unfolding split_from
  split_turn = let e : j - lo ≡ suc (j - 1 - lo) = omega arith in rw e

  module _ (x : Float) (q : x ≡ excess_of on (at ring j) t) where
    pub split_better : lt best (add binary32 sum x) ≡ true → split_from ring t on (j - 1 - lo) (j - 1) (add binary32 sum x) (add binary32 sum x) j ≡ split_from ring t on (j - lo) j sum best split
    split_better more = simp (split_turn, ← q, more)

    pub split_worse : lt best (add binary32 sum x) ≡ false → split_from ring t on (j - 1 - lo) (j - 1) (add binary32 sum x) best split ≡ split_from ring t on (j - lo) j sum best split
    split_worse less = simp (split_turn, ← q, less)

pub split_end : (ring : List Float) (t : Float) (on : Bool) (lo j : ℕ) (sum best : Float) (split : ℕ) → j ≤ lo → split_from ring t on (j - lo) j sum best split ≡ split
unfolding split_from
split_end ring t on lo j sum best split h = let e : j - lo ≡ 0 = omega arith in rw e
