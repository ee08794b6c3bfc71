-- A number's pattern without the sign's digit is the magnitude's.
use Rattle.std.proofs.Common.{sym, ◌∙◌}
use Rattle.std.proofs.lemmas.Float.{T_from_false}
use lib.Ieee.{binary32}
use Rattle.ieee.proofs.Nan.{told_nan}
use Rattle.arith.proofs.Magnitude.{abs_nan, abs_plain, abs_bits}
use Rattle.arith.proofs.abs.Goals as goal

pub returns-then-is_nan : goal.returns-then-is_nan
returns-then-is_nan c = abs_nan _ (told_nan _ (sym c.is_nan.ensures.value ∙ c.if-is_nan.true))

pub float_from_bits-result : goal.float_from_bits-result
float_from_bits-result c =
    abs_plain binary32 _ c.well_formed.0.1 (T_from_false _ (sym c.is_nan.ensures.value ∙ c.if-is_nan.false))

pub returns : goal.returns
returns c = abs_bits binary32 c.args.x c.well_formed.0.1
