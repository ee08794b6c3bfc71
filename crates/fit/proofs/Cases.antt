-- Two lines of one symbol have one second fit.
use mathlib.Core.List.{List}
use mathlib.Core.Path.{◌≡◌, refl, sym, ap, ◌∙◌}
use lib.Ieee.{Float}
use Rattle.std.specs.Prelude.{Option, Some, None, option_map, option_and_then}
use Rattle.fit.specs.Fit.{fit_of, check_line, second_of}
use Rattle.fit.specs.declared.Line.{Line}
use Rattle.fit.specs.declared.Grid.{Grid}

abbrev pub symbol_of : Option Line → Option Float
symbol_of line = option_map (λ (l : Line). l.t) line

with_symbol : List Float → Option Float → Option Grid
with_symbol ts t = option_and_then (λ (t : Float). option_and_then (check_line ts) (fit_of ts t)) t

by_symbol : (ts : List Float) (line : Option Line) → second_of ts line ≡ with_symbol ts (symbol_of line)
unfolding second_of with_symbol
by_symbol ts None = refl
by_symbol ts (Some line) = refl

pub same_second : (ts : List Float) (l m : Option Line) → symbol_of l ≡ symbol_of m → second_of ts l ≡ second_of ts m
same_second ts l m e = by_symbol ts l ∙ ap (with_symbol ts) e ∙ sym (by_symbol ts m)
