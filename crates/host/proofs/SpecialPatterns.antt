-- `lane_sqrt_of` gives what document 01 asks of the special operands.
use mathlib.Core.Path.{refl, ap, ◌∙◌}
use lib.Ieee.{binary32, of_bits, to_bits}
use Rattle.root.specs.Root.{sqrt_of}
use Rattle.ieee.proofs.Nan.{nan_read, nan_written32}
use Rattle.root.proofs.RootSpecial.{special_roots, negative_root}
use Rattle.host.specs.SquareRoot.{lane_sqrt_of, SpecialPatterns}

pub special_patterns : SpecialPatterns lane_sqrt_of
unfolding sqrt_of of_bits to_bits
special_patterns = record {
  minus_zero = refl;
  infinity = refl;
  no_number = λ b h. ap (to_bits binary32) (ap sqrt_of (nan_read binary32 b h) ∙ special_roots.no_number) ∙ nan_written32;
  negative = λ b h k. ap (to_bits binary32) (negative_root b h k) ∙ nan_written32;
}
