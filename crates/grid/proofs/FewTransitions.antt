-- Document 01, "Grid": fewer than five transitions use no grid.
use Prim.Native.Nat.{ℕ, ◌+◌, ◌<◌}
use mathlib.Core.List.{List, [], ◌∷◌}
use mathlib.Core.Path.{◌≡◌}
use native.Mathlib.Omega.{arith}
use lib.ListN.{length}
use lib.Ieee.{Float}
use borrow.Author.Tests.{lt-leb}
use Rattle.ieee.specs.Constants.{zero64}
use Rattle.fit.specs.Slots.{transitions_of, fold}
use Rattle.grid.specs.Guess.{runs_step, runs_of, no_runs, grid_of}
use Rattle.grid.specs.Widths.{measured_of, widths_on, fsk_widths_of}
use Rattle.grid.specs.declared.guess.Runs.{Runs}

counts : (s : Runs) (ts : List Float) → (fold runs_step s ts).count ≡ s.count + length ts
unfolding fold runs_step
counts s [] = omega arith
counts s (x ∷ xs) = let e : (fold runs_step (runs_step s x) xs).count ≡ (runs_step s x).count + length xs = counts (runs_step s x) xs in omega arith

-- the count of the runs is the number of the transitions
pub count_all : (ts : List Float) → (runs_of ts).count ≡ length ts
unfolding runs_of
count_all ts = let e : (fold runs_step no_runs ts).count ≡ 0 + length ts = counts no_runs ts in omega arith

pub few_transitions : (slots : List ℕ) → length (transitions_of slots) < 5 → fsk_widths_of slots ≡ measured_of zero64 slots
unfolding fsk_widths_of grid_of widths_on
few_transitions slots h = simp (count_all (transitions_of slots), lt-leb 5 (length (transitions_of slots)) h)
