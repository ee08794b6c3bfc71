-- The envelopes before begin's go to the ring one after another, nearest first.
use Prim.Native.Nat.{ℕ, ◌+◌}
use mathlib.Core.List.{List, [], ◌∷◌}
use lib.Ieee.{Float}
use Rattle.lane.specs.Begin.{ring_before_of}

abbrev pub back_from : List Float → ℕ → ℕ → List Float → List Float
back_from ring index k [] = ring
back_from ring index k (e ∷ es) = back_from (ring_before_of ring index k e) index (k + 1) es
