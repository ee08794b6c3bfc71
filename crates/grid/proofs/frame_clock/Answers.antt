-- The transitions are those of the slots before the last rise.
use Rattle.std.proofs.Common.{◌≡◌, Some, None, rules}
use mathlib.Core.Path.{◌∙◌}
use Rattle.grid.proofs.Cases.{no_clock, clock_there}
use Rattle.grid.proofs.frame_clock.Goals as goal

pub returns-in_err-g : goal.returns-in_err-g
returns-in_err-g c =
    let none : c.grid_of.result ≡ None = search rules in
    let answer : c.from_residual.result ≡ None = search rules in
    answer ∙ no_clock _ _ _ _ c.last_rise.ensures.0 c.runs_of-runs.ensures c.grid_of.ensures none

pub returns : goal.returns
returns c =
    let there : c.grid_of.result ≡ Some c.in_ok-g.g = search rules in
    clock_there _ _ _ _ c.last_rise.ensures.0 c.runs_of-runs.ensures c.grid_of.ensures _ _ there (rw (← c.end_of.ensures) c.clock_of.ensures)
