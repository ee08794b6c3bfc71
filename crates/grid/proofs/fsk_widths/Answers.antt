-- The clock decides between the boundaries on the grid and the measured times.
use mathlib.Core.Path.{sym, ◌∙◌}
use Rattle.grid.proofs.Cases.{widths_measured, widths_on_grid}
use Rattle.grid.proofs.fsk_widths.Goals as goal

pub returns-in-Some : goal.returns-in-Some
returns-in-Some c = widths_on_grid _ _ _ (sym c.in-Some.is ∙ c.frame_clock.ensures) c.on_grid.ensures

pub returns-in-None : goal.returns-in-None
returns-in-None c = widths_measured _ _ (sym c.in-None.is ∙ c.frame_clock.ensures) c.measured.ensures
