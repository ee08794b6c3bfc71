-- `lane_fsk_widths` (document 01, "Commands" and refusal 9): the FSK widths of little-endian slots, or the refusal with nothing changed.
use Rattle.std.specs.Prelude.{ℕ, ◌/◌, ◌%◌, Bool, cond, not, ◌||◌, List, length, eqb, ltb}
use Rattle.domain.specs.Limits.{max_slots}
use Rattle.grid.specs.Widths.{fsk_widths_of}
use Rattle.words.specs.Words.{decode, encode}

-- the bytes are no multiple of 4, the slots odd, or more than max_slots
unfoldable pub refuses : ℕ → Bool
refuses n = not (eqb (n % 4) 0) || (not (eqb (n / 4 % 2) 0) || ltb max_slots (n / 4))

unfoldable pub lane_fsk_widths_of : List ℕ → ℕ × List ℕ
lane_fsk_widths_of l = cond (refuses (length l)) (9, l) (0, encode (fsk_widths_of (decode l)))
