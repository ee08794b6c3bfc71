-- The lines that the listing program prints (document 01, "Commands"), as lists of bytes.
use Rattle.std.specs.Prelude.{ℕ, zero, suc, ◌+◌, ◌*◌, ◌-◌, ◌/◌, ◌%◌, ◌≤◌, Bool, false, cond, ◌≡◌, List, [], ◌∷◌, ◌++◌, length, drop, max, eqb, ltb, leb, Float, Option, Some, None, Result, Ok, Err, is_err}
use Rattle.std.proofs.lemmas.List.Edits.{sets}
use Rattle.std.specs.Float.{binary32}
use Rattle.std.specs.Float.Ieee.{to_bits}
pub use Rattle.domain.specs.Limits.{max_slots}
use Rattle.shared.specs.declared.Out.{Out}
use Rattle.shared.specs.declared.Carrier.{Carrier}
use Rattle.shared.specs.declared.Next.{Next}
use Rattle.shared.specs.declared.Next.TheVariants as next
use Rattle.shared.specs.Answers.{carrier_kind_of, carrier_first_of, carrier_second_of}

-- ---- numbers

-- the decimal digits of n, none for 0, and at most k
unfoldable pub leading : ℕ → ℕ → List ℕ
leading zero n = []
leading (suc k) n = cond (ltb 0 n) (leading k (n / 10) ++ ((48 + n % 10) ∷ [])) []

-- n in decimal, below 10^20: the last digit is there for 0 too
unfoldable pub decimal : ℕ → List ℕ
unfolding leading
decimal n = leading 19 (n / 10) ++ ((48 + n % 10) ∷ [])

-- the digits at the end of a buffer of 20 bytes, and where they start
pub record Spelled (n start : ℕ) (out : List ℕ) : Type 0 where
  pub inside : start ≤ 20
  pub digits : drop start out ≡ decimal n

-- a hexadecimal digit, in lower case
abbrev pub glyph : ℕ → ℕ
glyph d = cond (ltb d 10) (48 + d) (87 + d)

-- eight hexadecimal digits
unfoldable pub hex8 : ℕ → List ℕ
hex8 n =
    glyph (n / 0x1000_0000 % 16) ∷ glyph (n / 0x100_0000 % 16) ∷ glyph (n / 0x10_0000 % 16) ∷ glyph (n / 0x1_0000 % 16)
    ∷ glyph (n / 0x1000 % 16) ∷ glyph (n / 0x100 % 16) ∷ glyph (n / 0x10 % 16) ∷ glyph (n % 16) ∷ []

-- ---- words

-- a space and a number
abbrev pub number : ℕ → List ℕ
number n = 32 ∷ decimal n

-- a space and the bits of a float: 7fc00000 for `nan`
abbrev pub float : Float → List ℕ
float x = 32 ∷ hex8 (to_bits binary32 x)

-- `fsk` or `ook`
abbrev pub kind : ℕ → List ℕ
kind f = cond (eqb f 1) (102 ∷ 115 ∷ 107 ∷ []) (111 ∷ 111 ∷ 107 ∷ [])

-- ` angle` and its bits, or ` vector` and two, the real one first
abbrev pub carrier : Carrier → List ℕ
carrier c =
    cond (eqb (carrier_kind_of c) 1) ((32 ∷ 97 ∷ 110 ∷ 103 ∷ 108 ∷ 101 ∷ []) ++ float (carrier_first_of c))
    ((32 ∷ 118 ∷ 101 ∷ 99 ∷ 116 ∷ 111 ∷ 114 ∷ []) ++ (float (carrier_first_of c) ++ float (carrier_second_of c)))

-- all widths
unfoldable pub widths : List ℕ → List ℕ
widths [] = []
widths (w ∷ ws) = number w ++ widths ws

-- the span of a train by its index and end (document 02, R-2): end minus index, or 0 if end is smaller
abbrev pub span_of : ℕ → ℕ → ℕ
span_of index end = cond (ltb end index) 0 (end - index)

-- ---- lines

-- kind, index, end, cut mark, span
abbrev pub train_head : Out → ℕ → List ℕ
train_head o span = kind o.fsk ++ (number o.index ++ (number o.end ++ (number o.cut ++ number span)))

-- level bits, carrier, pairs, then all widths
abbrev pub train_tail : Out → List ℕ → List ℕ
train_tail o ws = float o.level ++ (carrier o.carrier ++ (number o.pairs ++ (widths ws ++ (10 ∷ []))))

unfoldable pub train_line : Out → List ℕ → List ℕ
unfolding widths
train_line o ws = train_head o (span_of o.index o.end) ++ train_tail o ws

-- a record has a line where it decides a train
unfoldable pub record_line : Out → List ℕ → List ℕ
record_line o ws = cond (eqb o.state 1) (train_line o ws) []

-- `idle` and the call's index
unfoldable pub idle_line : ℕ → List ℕ
idle_line index = (105 ∷ 100 ∷ 108 ∷ 101 ∷ []) ++ (number index ++ (10 ∷ []))

-- `carrier`, the index and the envelope's bits
unfoldable pub carrier_line : ℕ → Float → List ℕ
carrier_line index e = (99 ∷ 97 ∷ 114 ∷ 114 ∷ 105 ∷ 101 ∷ 114 ∷ []) ++ (number index ++ (float e ++ (10 ∷ [])))

-- `refused` and its number
unfoldable pub refused_line : ℕ → List ℕ
refused_line n = (114 ∷ 101 ∷ 102 ∷ 117 ∷ 115 ∷ 101 ∷ 100 ∷ []) ++ (number n ++ (10 ∷ []))

-- what a call prints: the lines of its records, `fsk` before `ook`, and then the phase line, which `stay` has none of; a
-- refused call prints its number and not the records that the lane still holds
unfoldable pub call_text : Result Next ℕ → List ℕ → ℕ → List ℕ
call_text (Ok next.Stay) records index = records
call_text (Ok next.Idle) records index = records ++ idle_line index
call_text (Ok (next.IdleAt e)) records index = records ++ carrier_line index e
call_text (Err n) records index = refused_line n

-- a line after a tag; where there is no line, nothing
unfoldable pub after_tag : List ℕ → List ℕ → List ℕ
after_tag tag [] = []
after_tag tag (b ∷ l) = tag ++ (b ∷ l)

-- The lines of a call, each after a tag, by its reply, the lines of its two records and the index of its phase line: `fsk`, `ook`, phase. A
-- refused call has its number alone. Without records `call_text` is the phase line, or that of the refusal.
unfoldable pub tagged_call : List ℕ → Result Next ℕ → List ℕ → List ℕ → ℕ → List ℕ
tagged_call tag r f o index =
    cond (is_err r) [] (after_tag tag f ++ after_tag tag o) ++ after_tag tag (call_text r [] index)

-- ---- stored in a buffer

-- the place after a text that is stored at a place of a buffer, and the buffer with it
unfoldable pub put : List ℕ → ℕ × List ℕ → ℕ × List ℕ
put w p = (p.0 + length w, sets p.1 p.0 w)

-- what a writer says: it has put the text, of at most `most` bytes
pub record Put (w : List ℕ) (most at : ℕ) (s : List ℕ) (r : ℕ) (t : List ℕ) : Type 0 where
  pub text : ◌≡◌ {A = ℕ × List ℕ} (r, t) (put w (at, s))
  pub near : r ≤ at + most

-- ---- room

-- the most that a train line of n widths takes
abbrev pub train_room : ℕ → ℕ
train_room n = 160 + 21 * n

-- the most that the lines of a call take whose parts have at most n slots each: two trains and a phase line
abbrev pub call_room : ℕ → ℕ
call_room n = 368 + 42 * n

-- the most that the lines of a call take, by the lengths of its tag and of its two parts
abbrev pub call_most : ℕ → ℕ → ℕ → ℕ
call_most tag n m = 3 * tag + (train_room n + train_room m + 48)

abbrev pub larger_of : ℕ → ℕ → ℕ
larger_of n m = max n m

-- whether a text of len bytes has that room at a place
unfoldable pub has_room : ℕ → ℕ → ℕ → Bool
has_room n len at = cond (ltb max_slots n) false (cond (ltb len at) false (leb (call_room n) (len - at)))

-- the lines of a call, stored where there is room, and the place after them; none where there is no room
unfoldable pub written_call : Result Next ℕ → Out → List ℕ → Out → List ℕ → ℕ → ℕ → List ℕ → Option ℕ × List ℕ
unfolding put call_text record_line has_room
written_call r f fs o os index at s =
    let w = call_text r (record_line f fs ++ record_line o os) index in
    cond (has_room (larger_of (length fs) (length os)) (length s) at) (Some (at + length w), sets s at w) (None, s)
