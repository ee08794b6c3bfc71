-- Document 02, R-6: what refusals 4 and 13 ask of a serial.
use Rattle.std.specs.Prelude.{ℕ, Bool, not, ◌&&◌, leb, ltb, eqb}
use Rattle.domain.specs.Limits.{max_serial, spent_serial}

-- 4, of the lane and of both its records
abbrev pub serial_ok : ℕ → Bool
serial_ok n = leb n max_serial

-- 13, of begin and opening: "It is spent at 2^48 and above"
abbrev pub serial_left : ℕ → Bool
serial_left n = ltb n spent_serial

-- 13, of fetching a part: "record and lane serial differ or are 0"
abbrev pub serials_match : ℕ → ℕ → Bool
serials_match lane out = not (eqb out 0) && eqb out lane
