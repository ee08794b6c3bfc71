-- Words read, changed and written again, in bytes of exactly their length.
use Prim.Native.Nat.{ℕ, ◌*◌}
use mathlib.Core.List.{List}
use mathlib.Core.Path.{◌≡◌, ap, ◌∙◌}
use native.Mathlib.Omega.{arith}
use lib.ListN.{length}
use Rattle.grid.specs.Widths.{fsk_widths_of}
use Rattle.words.specs.Words.{decode, encode, read_of, written_of}
use Rattle.words.proofs.Laws.{read_whole, written_whole}

pub widths_in_place : (bytes buf read widths out : List ℕ) → length bytes ≡ 4 * length buf → read ≡ read_of bytes buf → length read ≡ length buf
    → widths ≡ fsk_widths_of read → length widths ≡ length read → out ≡ written_of bytes widths → out ≡ encode (fsk_widths_of (decode bytes))
widths_in_place bytes buf read widths out h er kr ew kw eo =
    eo ∙ written_whole bytes widths (omega arith) ∙ ap encode (ew ∙ ap fsk_widths_of (er ∙ read_whole bytes buf h))
