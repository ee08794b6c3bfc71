-- Where the guess's first fit has the symbol of the mean's, the second fit is the mean's too.
use Rattle.std.proofs.Common.{◌≡◌, rules}
use mathlib.Core.Path.{sym, ap, ◌∙◌}
use Rattle.std.specs.Prelude.{option_map}
use Rattle.std.specs.Float.{binary64}
use Rattle.std.specs.Float.Ieee.{of_bits}
use Rattle.fit.specs.Fit.{grid_fit_of, second_of}
use Rattle.fit.proofs.Cases.{symbol_of, same_second}
use Rattle.fit.proofs.grid_fit.Goals as goal

pub returns-then-eq : goal.returns-then-eq
unfolding grid_fit_of
returns-then-eq c =
    let first : option_map (of_bits binary64) c.map.result ≡ symbol_of c.fit_with-first.result = search rules in
    let mean : option_map (of_bits binary64) c.map-2.result ≡ symbol_of c.args.mean.line = search rules in
    let alike : c.map.result ≡ c.map-2.result = search rules in
    c.requires ∙ same_second _ _ _ (sym mean ∙ sym (ap (option_map (of_bits binary64)) alike) ∙ first) ∙ ap (second_of _) c.fit_with-first.ensures
