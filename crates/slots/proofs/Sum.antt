-- Where no width is stopped, each is the difference of two neighbouring rounded boundaries: their sum telescopes.
use mathlib.Core.Path.{◌≡◌, ap}
use mathlib.Core.List.{List, [], ◌∷◌}
use Prim.Native.Nat.{ℕ, ◌+◌, ◌≤◌}
use native.Mathlib.Omega.{arith}
use lib.Ieee.{Float}
use Rattle.arith.specs.Carry.{bound_of, rounded_of, carried_at, width_by}
use Rattle.arith.proofs.Carry.{bound_rises, rounded_rises}
use Rattle.arith.proofs.OwnEdge.{own_edge}
use Rattle.slots.specs.Slots.{slots_from, slots_of}
use Rattle.slots.specs.Sum.{sum, last_bound, Unstopped}

-- from any edge on
sum_from : (origin : Float) (before : ℕ) (a : Float) (es : List Float) → Unstopped origin before es → rounded_of before + sum (slots_from 1 origin before a es) ≡ rounded_of (last_bound origin before es)
unfolding slots_from last_bound Unstopped sum width_by carried_at
sum_from origin before a [] U = omega arith
sum_from origin before a (e ∷ es) U =
    let b : ℕ = bound_of origin before e in
    let r : rounded_of before ≤ rounded_of b = rounded_rises before b (bound_rises origin before e) in
    let h : rounded_of b + sum (slots_from 1 origin b e es) ≡ rounded_of (last_bound origin b es) = sum_from origin b e es U.1 in
    omega (arith, r, h, U.0)

-- the widths from the first edge to the last add up
pub adds_up : (a : Float) (es : List Float) → Unstopped a 0 es → sum (slots_of 1 (a ∷ es)) ≡ rounded_of (last_bound a 0 es)
unfolding slots_of
adds_up a es U = omega (arith, sum_from a 0 a es U)

-- the first edge is one of them: its own boundary is 0
pub all_edges : (a : Float) (es : List Float) → last_bound a 0 (a ∷ es) ≡ last_bound a 0 es
unfolding last_bound
all_edges a es = ap (λ (b : ℕ). last_bound a b es) (own_edge a)
