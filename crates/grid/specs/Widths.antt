-- `fsk_widths` (document 01, "Grid"): the run ends of a finished frame become widths in whole steps. Each operation is rounded once, in the Rust's order.
use Rattle.std.specs.Prelude.{ℕ, ◌+◌, ◌-◌, cond, List, [], ◌∷◌, length, get_or, ltb, leb, eqb, Option, Some, None, option_map, Float}
use Rattle.std.specs.Float.{binary64}
use Rattle.std.specs.Float.Ieee.{add, sub, mul}
use Rattle.ieee.specs.Rounding.{round_of}
use Rattle.arith.specs.Leaves.{width_of}
use Rattle.ieee.specs.Constants.{zero64}
use Rattle.fit.specs.Slots.{time_of, fix, transitions_of}
use Rattle.fit.specs.Fit.{symbols_of, k_after, no_last, last_at, sums_of}
use Rattle.fit.specs.declared.Grid.{Grid}
use Rattle.fit.specs.declared.Last.{Last}
use Rattle.grid.specs.Guess.{runs_of, grid_of}
use Rattle.grid.specs.declared.Clock.{Clock}
use Rattle.grid.specs.declared.Place.{Place}

-- ---- the measured times: widths of the rounded times after the start
unfoldable pub measured_of : Float → List ℕ → List ℕ
measured_of before [] = []
measured_of before (v ∷ vs) = (width_of before (round_of (time_of (fix v)))).0 ∷ measured_of (round_of (time_of (fix v))) vs

-- ---- the symbols before the first transition and up to the frame's end
unfoldable pub end_of : List ℕ → Float
end_of slots = cond (eqb (length slots) 0) zero64 (time_of (fix (get_or slots (length slots - 1) 0)))

abbrev pub clock_with : Float → Float → ℕ → Float → Float → Clock
clock_with a t count k end = record {
  t = t;
  lead = symbols_of a t;
  stop = add binary64 (add binary64 (symbols_of a t) k) (symbols_of (sub binary64 end (add binary64 a (mul binary64 k t))) t);
  n_tr = count;
}

-- k of the last transition, as the sums of a fit count it
unfoldable pub clock_of : Float → Float → ℕ → List Float → Float → Clock
clock_of a t count ts end = clock_with a t count (sums_of t ts).last.k end

-- ---- the boundaries on the grid: an empty slot has no width, a transition is on the grid, the end comes after the last
abbrev pub place_at : ℕ → Float → ℕ → Last → Place
place_at raw r seen last = record { before_raw = raw; before = r; seen = seen; last = last }

abbrev pub transition_at : Clock → Place → ℕ → Float → Place
transition_at c p v k = place_at v (round_of (mul binary64 (add binary64 c.lead k) c.t)) (p.seen + 1) (last_at k (time_of (fix v)))

unfoldable pub place_of : Clock → Place → ℕ → Place
place_of c p v =
    cond (leb v p.before_raw)
    (place_at v p.before p.seen p.last)
    (cond (ltb p.seen c.n_tr)
    (transition_at c p v (k_after p.last.prev p.last.k (time_of (fix v)) c.t))
    (place_at v (round_of (mul binary64 c.stop c.t)) p.seen p.last))

unfoldable pub on_grid_of : Clock → Place → List ℕ → List ℕ
on_grid_of c p [] = []
on_grid_of c p (v ∷ vs) = (width_of p.before (place_of c p v).before).0 ∷ on_grid_of c (place_of c p v) vs

abbrev pub at_start : Place
at_start = place_at 0 zero64 0 no_last

-- ---- the whole
unfoldable pub widths_on : Option Grid → ℕ → List ℕ → List ℕ
widths_on None count slots = measured_of zero64 slots
widths_on (Some g) count slots = on_grid_of (clock_of g.a g.t count (transitions_of slots) (end_of slots)) at_start slots

-- the clock of a frame whose transitions lie on a grid
unfoldable pub frame_clock : List ℕ → Option Clock
frame_clock slots =
    option_map (λ g. clock_of g.a g.t (runs_of (transitions_of slots)).count (transitions_of slots) (end_of slots)) (grid_of (transitions_of slots) (runs_of (transitions_of slots)))

unfoldable pub fsk_widths_of : List ℕ → List ℕ
fsk_widths_of slots = widths_on (grid_of (transitions_of slots) (runs_of (transitions_of slots))) (runs_of (transitions_of slots)).count slots
