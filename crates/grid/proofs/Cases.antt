-- The definitions by cases, at the arms of the code's matches.
use Prim.Native.Nat.{ℕ, ◌+◌, ◌<◌, ◌≤◌, ◌^◌}
use mathlib.Core.Bool.{Bool, true, false}
use mathlib.Core.List.{List, [], ◌∷◌}
use mathlib.Core.Path.{◌≡◌, refl, sym, ap, ◌∙◌}
use native.Mathlib.Omega.{arith}
use lib.Dec.{ltb}
use lib.ListN.{length, take}
use lib.Ieee.{Float, binary64, div}
use Rattle.std.specs.Prelude.{Option, Some, None, option_map}
use Rattle.fit.specs.Slots.{time_of, fix, last_rise, also, times, up_to, transitions_of, fold, CallableInFold}
use Rattle.fit.specs.Fit.{fit_of, second_of, grid_fit_of}
use Rattle.grid.specs.Guess.{no_runs, runs_step, runs_of, grid_of, try_step, first_try, search_of}
use Rattle.ieee.specs.Constants.{zero64}
use Rattle.grid.specs.Widths.{measured_of, end_of, clock_of, on_grid_of, at_start, widths_on, frame_clock, fsk_widths_of}
use Rattle.fit.specs.declared.Line.{Line}
use Rattle.fit.specs.declared.Grid.{Grid}
use Rattle.grid.specs.declared.guess.Mean.{Mean}
use Rattle.grid.specs.declared.guess.Runs.{Runs}
use Rattle.grid.specs.declared.Clock.{Clock}

-- ---- the count of the transitions is at most that of the slots
also_length : (b : Bool) (x : Float) (xs : List Float) (n : ℕ) → length xs ≤ n → length (also b x xs) ≤ n + 1
also_length true x xs n h = omega arith
also_length false x xs n h = omega arith

times_length : (before : ℕ) (ends : List ℕ) → length (times before ends) ≤ length ends
unfolding times
times_length before [] = omega arith
times_length before (v ∷ vs) = let h : length (times v vs) ≤ length vs = times_length v vs in let g : length (also (ltb before v) (time_of (fix v)) (times v vs)) ≤ length vs + 1 = also_length (ltb before v) (time_of (fix v)) (times v vs) (length vs) h in omega arith

count_step : (s : Runs) (x : Float) → (runs_step s x).count ≡ s.count + 1
unfolding runs_step
count_step s x = refl

module _ (pre : Runs → Float → Type 0) (post : Runs → Float → Runs → Type 0) (h : (s : Runs) (x : Float) → s.count < 0xffff_ffff_ffff_ffff → pre s x)
    (k : (s : Runs) (x : Float) (r : Runs) → post s x r → r ≡ runs_step s x) where
  counts : (s : Runs) (xs : List Float) → s.count + length xs < 2 ^ 63 → CallableInFold pre post s xs
  counts s [] l = tt
  counts s (x ∷ xs) l = (h s x (omega arith), λ r p. let e : r.count ≡ s.count + 1 = ap (λ (z : Runs). z.count) (k s x r p) ∙ count_step s x in counts r xs (omega arith))

  pub countable : (before : ℕ) (ends : List ℕ) → length ends < 2 ^ 63 → CallableInFold pre post no_runs (times before ends)
  countable before ends l = let t : length (times before ends) ≤ length ends = times_length before ends in counts no_runs (times before ends) (omega arith)

-- ---- the grid of the smallest cost
pub searched : (ts : List Float) (shortest : Float) (m : Mean) (line : Option Line) (g r : Option Grid) → line ≡ fit_of ts (div binary64 m.sum m.n) → g ≡ second_of ts line
    → r ≡ (fold (try_step ts shortest) (first_try g) ts).grid → r ≡ search_of ts shortest m
unfolding search_of grid_fit_of
searched ts shortest m line g r el eg er =
    er ∙ ap (λ (z : Option Grid). (fold (try_step ts shortest) (first_try z) ts).grid) (eg ∙ ap (second_of ts) el)

-- ---- the whole
clock_at : List Float → ℕ → Float → Grid → Clock
clock_at ts count end g = clock_of g.a g.t count ts end

module _ (slots : List ℕ) (last : ℕ) (runs : Runs) (g : Option Grid) (el : last ≡ last_rise slots) (er : runs ≡ runs_of (times 0 (take last slots))) (eg : g ≡ grid_of (times 0 (take last slots)) runs) where
  its : (ts : List Float) → ts ≡ times 0 (take last slots) → option_map (clock_at ts (runs_of ts).count (end_of slots)) (grid_of ts (runs_of ts)) ≡ option_map (clock_at (times 0 (take last slots)) runs.count (end_of slots)) g
  its ts e = rw (e, ← er, ← eg) refl

  clock_known : frame_clock slots ≡ option_map (clock_at (times 0 (take last slots)) runs.count (end_of slots)) g
  unfolding frame_clock transitions_of up_to clock_at
  clock_known = its (times 0 (take (last_rise slots) slots)) (ap (λ (n : ℕ). times 0 (take n slots)) (sym el))

  pub no_clock : g ≡ None → None ≡ frame_clock slots
  no_clock e = sym (clock_known ∙ ap (option_map (clock_at (times 0 (take last slots)) runs.count (end_of slots))) e)

  pub clock_there : (h : Grid) (c : Clock) → g ≡ Some h → c ≡ clock_of h.a h.t runs.count (times 0 (take last slots)) (end_of slots) → Some c ≡ frame_clock slots
  unfolding clock_at
  clock_there h c e ec = ap Some ec ∙ sym (clock_known ∙ ap (option_map (clock_at (times 0 (take last slots)) runs.count (end_of slots))) e)

-- the widths by the clock
widths_at : Option Clock → List ℕ → List ℕ
widths_at None slots = measured_of zero64 slots
widths_at (Some c) slots = on_grid_of c at_start slots

by_clock : (slots : List ℕ) → fsk_widths_of slots ≡ widths_at (frame_clock slots) slots
unfolding fsk_widths_of frame_clock widths_on widths_at
by_clock slots = go (grid_of (transitions_of slots) (runs_of (transitions_of slots)))
  where
    go : (g : Option Grid) → widths_on g (runs_of (transitions_of slots)).count slots ≡ widths_at (option_map (λ g. clock_of g.a g.t (runs_of (transitions_of slots)).count (transitions_of slots) (end_of slots)) g) slots
    go None = refl
    go (Some g) = refl

module _ (slots out : List ℕ) where
  pub widths_measured : None ≡ frame_clock slots → out ≡ measured_of zero64 slots → out ≡ fsk_widths_of slots
  unfolding widths_at
  widths_measured e eo = eo ∙ sym (by_clock slots ∙ ap (λ (c : Option Clock). widths_at c slots) (sym e))

  pub widths_on_grid : (c : Clock) → Some c ≡ frame_clock slots → out ≡ on_grid_of c at_start slots → out ≡ fsk_widths_of slots
  unfolding widths_at
  widths_on_grid c e eo = eo ∙ sym (by_clock slots ∙ ap (λ (c : Option Clock). widths_at c slots) (sym e))
