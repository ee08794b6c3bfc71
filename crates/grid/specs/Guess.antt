-- The guesses of a frame's symbol, and the grid of the smallest cost (document 01, "Grid"). Each operation is rounded once, in the Rust's order.
use Rattle.std.specs.Prelude.{ℕ, ◌+◌, Bool, true, false, cond, ◌&&◌, List, ltb, leb, Option, Some, None, Float}
use Rattle.std.specs.Bool.{then_some}
use Rattle.std.specs.Float.{binary64}
use Rattle.std.specs.Float.Ieee.{add, sub, mul, div, lt, of_bits}
use Rattle.arith.specs.Leaves.{min_of}
use Rattle.ieee.specs.Constants.{zero64, one64}
use Rattle.fit.specs.Slots.{fold}
use Rattle.fit.specs.Fit.{grid_fit_of}
use Rattle.fit.specs.declared.Grid.{Grid}
use Rattle.grid.specs.declared.guess.Runs.{Runs}
use Rattle.grid.specs.declared.guess.Mean.{Mean}
use Rattle.grid.specs.declared.guess.Tries.{Tries}

-- GRID_MIN
abbrev pub grid_min : ℕ
grid_min = 5

-- GRID_CAND
abbrev pub grid_cand : ℕ
grid_cand = 8

-- ---- the count of the transitions and the shortest run between two
unfoldable pub shorter_of : Option Float → Float → Float → Float
shorter_of None shortest x = shortest
shorter_of (Some tp) shortest x = min_of shortest (sub binary64 x tp)

unfoldable pub runs_step : Runs → Float → Runs
runs_step s x = record { count = s.count + 1; shortest = shorter_of s.prev s.shortest x; prev = Some x }

-- f64::INFINITY, before any run
abbrev pub no_runs : Runs
no_runs = record { count = 0; shortest = of_bits binary64 0x7ff0_0000_0000_0000; prev = None }

unfoldable pub runs_of : List Float → Runs
runs_of ts = fold runs_step no_runs ts

-- ---- the runs of one symbol, shorter than 1.5 times the shortest: their sum and how many
abbrev pub one_symbol : Float → Float → Bool
one_symbol shortest d = lt d (mul binary64 (of_bits binary64 0x3ff8_0000_0000_0000) shortest)

-- the run that ends at the transition x, where it is one of these; at the first transition none ends
unfoldable pub run_to : Float → Option Float → Float → Option Float
run_to shortest None x = None
run_to shortest (Some tp) x = then_some (one_symbol shortest (sub binary64 x tp)) (sub binary64 x tp)

unfoldable pub added_of : Mean → Float → Option Float → Mean
added_of s x (Some d) = record { sum = add binary64 s.sum d; n = add binary64 s.n one64; prev = Some x }
added_of s x None = record { sum = s.sum; n = s.n; prev = Some x }

unfoldable pub mean_step : Float → Mean → Float → Mean
mean_step shortest s x = added_of s x (run_to shortest s.prev x)

abbrev pub no_mean : Mean
no_mean = record { sum = zero64; n = zero64; prev = None }

unfoldable pub mean_of : Float → List Float → Mean
mean_of shortest ts = fold (mean_step shortest) no_mean ts

-- ---- the grid of the smallest cost: from the mean of the runs of one symbol, and from each of the first GRID_CAND of them
unfoldable pub better_of : Option Grid → Option Grid → Option Grid
better_of grid None = grid
better_of None (Some g) = Some g
better_of (Some best) (Some g) = Some (cond (lt g.cost best.cost) g best)

abbrev pub passed_over : Tries → Float → Tries
passed_over s x = record { tried = s.tried; grid = s.grid; prev = Some x }

unfoldable pub tried_of : List Float → Tries → Float → Option Float → Tries
tried_of ts s x None = passed_over s x
tried_of ts s x (Some d) = cond (ltb s.tried grid_cand) (record { tried = s.tried + 1; grid = better_of s.grid (grid_fit_of ts d); prev = Some x }) (passed_over s x)

unfoldable pub try_step : List Float → Float → Tries → Float → Tries
try_step ts shortest s x = tried_of ts s x (run_to shortest s.prev x)

abbrev pub first_try : Option Grid → Tries
first_try g = record { tried = 0; grid = g; prev = None }

unfoldable pub search_of : List Float → Float → Mean → Option Grid
search_of ts shortest m = (fold (try_step ts shortest) (first_try (grid_fit_of ts (div binary64 m.sum m.n))) ts).grid

abbrev pub search_if : Bool → List Float → Float → Mean → Option Grid
search_if true ts shortest m = search_of ts shortest m
search_if false ts shortest m = None

unfoldable pub grid_of : List Float → Runs → Option Grid
grid_of ts runs = search_if (leb grid_min runs.count && lt zero64 (mean_of runs.shortest ts).n) ts runs.shortest (mean_of runs.shortest ts)
