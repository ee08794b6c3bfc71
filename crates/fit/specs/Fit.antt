-- `symbols` and `grid_fit` (document 01, "Grid"): the least-squares grid a + k t of a frame's transitions. Each operation is rounded once, in the Rust's order.
use Rattle.std.specs.Prelude.{Bool, true, cond, List, ◌≡◌, ℕ, Option, Some, None, option_map, option_and_then, Float}
use Rattle.std.specs.Bool.{then_some}
use Rattle.std.specs.Float.{binary64}
use Rattle.std.specs.Float.Ieee.{add, sub, mul, div, lt, le, of_bits}
use Rattle.ieee.specs.Rounding.{round_of}
use Rattle.arith.specs.Leaves.{abs_of, max_of}
use Rattle.ieee.specs.Constants.{zero64, one64}
use Rattle.fit.specs.Slots.{times, fold}
use Rattle.fit.specs.declared.Last.{Last}
use Rattle.fit.specs.declared.Line.{Line}
use Rattle.fit.specs.declared.Grid.{Grid}
use Rattle.fit.specs.declared.Sums.{Sums}
use Rattle.fit.specs.declared.Check.{Check}
use Rattle.fit.specs.declared.Fitted.{Fitted}

-- GRID_TOL, 0.25
abbrev pub grid_tol : Float
grid_tol = of_bits binary64 0x3fd0_0000_0000_0000

-- RUN_TOL, 0.4
abbrev pub run_tol : Float
run_tol = of_bits binary64 0x3fd9_9999_9999_999a

-- the symbols of a run of d steps, at least 1, and 1 for a NaN
unfoldable pub symbols_of : Float → Float → Float
symbols_of d t = max_of (round_of (div binary64 d t)) one64

-- the symbol number of the transition x: one run further than the transition before
unfoldable pub k_after : Option Float → Float → Float → Float → Float
k_after None k x t = k
k_after (Some tp) k x t = add binary64 k (symbols_of (sub binary64 x tp) t)

abbrev pub no_last : Last
no_last = record { k = zero64; prev = None }

-- x is the last transition, with the symbol number k
abbrev pub last_at : Float → Float → Last
last_at k x = record { k = k; prev = Some x }

-- ---- the two fits
abbrev pub summed : Sums → Float → Float → Sums
summed s k x = record {
  n = add binary64 s.n one64;
  sk = add binary64 s.sk k;
  skk = add binary64 s.skk (mul binary64 k k);
  st = add binary64 s.st x;
  skt = add binary64 s.skt (mul binary64 k x);
  last = last_at k x;
}

unfoldable pub fit_step : Float → Sums → Float → Sums
fit_step t s x = summed s (k_after s.last.prev s.last.k x t) x

abbrev pub no_sums : Sums
no_sums = record { n = zero64; sk = zero64; skk = zero64; st = zero64; skt = zero64; last = no_last }

unfoldable pub sums_of : Float → List Float → Sums
sums_of t ts = fold (fit_step t) no_sums ts

abbrev pub det : Sums → Float
det s = sub binary64 (mul binary64 s.n s.skk) (mul binary64 s.sk s.sk)

-- the slope of the line, its symbol length
abbrev pub slope : Sums → Float
slope s = div binary64 (sub binary64 (mul binary64 s.n s.skt) (mul binary64 s.sk s.st)) (det s)

-- the line's first time
abbrev pub origin : Sums → Float → Float
origin s t = div binary64 (sub binary64 s.st (mul binary64 t s.sk)) s.n

unfoldable pub line_with : Sums → Float → Option Line
line_with s t = then_some (lt zero64 t) (record { a = origin s t; t = t })

unfoldable pub line_of : Sums → Option Line
line_of s = cond (le (det s) zero64) None (line_with s (slope s))

unfoldable pub fit_of : List Float → Float → Option Line
fit_of ts t = line_of (sums_of t ts)

-- ---- the check: every run near its whole number of symbols, and every transition near its grid point
unfoldable pub run_near : Option Float → Float → Float → Bool
run_near None x t = true
run_near (Some tp) x t = le (abs_of (sub binary64 (sub binary64 x tp) (mul binary64 (symbols_of (sub binary64 x tp) t) t))) (mul binary64 run_tol t)

unfoldable pub run_after : Option Float → Float → Float → Float → Option Float
run_after prev k x t = then_some (run_near prev x t) (k_after prev k x t)

-- the distance of the transition x from its grid point, in symbols
abbrev pub distance : Float → Float → Float → Float → Float
distance a t k x = div binary64 (sub binary64 x (add binary64 a (mul binary64 k t))) t

abbrev pub checked : Check → Float → Float → Float → Option Check
checked c k r x = then_some (le (abs_of r) grid_tol) (record { cost = add binary64 c.cost (mul binary64 r r); last = last_at k x })

unfoldable pub check_step : Float → Float → Check → Float → Option Check
check_step a t c x = option_and_then (λ k. checked c k (distance a t k x) x) (run_after c.last.prev c.last.k x t)

-- a check that failed stays failed
abbrev pub check_on : Float → Float → Option Check → Float → Option Check
check_on a t c x = option_and_then (λ d. check_step a t d x) c

abbrev pub no_check : Check
no_check = record { cost = zero64; last = no_last }

-- the grid of a check that passed, with its cost
unfoldable pub answer_of : Float → Float → Check → Grid
answer_of a t c = record { a = a; t = t; cost = c.cost }

-- the grid with its cost where the check passed, and no grid where it did not
unfoldable pub check_of : List Float → Float → Float → Option Grid
check_of ts a t = option_map (answer_of a t) (fold (check_on a t) (Some no_check) ts)

unfoldable pub check_line : List Float → Line → Option Grid
check_line ts line = check_of ts line.a line.t

-- the fit once more, with the first fit's symbol
unfoldable pub second_of : List Float → Option Line → Option Grid
second_of ts first = option_and_then (λ line. option_and_then (check_line ts) (fit_of ts line.t)) first

-- what a search keeps of the mean: the line of its first fit, and the grid that the second gave
abbrev pub Known : List ℕ → Fitted → Type 0
Known ends mean = mean.grid ≡ second_of (times 0 ends) mean.line

unfoldable pub grid_fit_of : List Float → Float → Option Grid
grid_fit_of ts guess = second_of ts (fit_of ts guess)
