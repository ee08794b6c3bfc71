-- Document 02, R-4: the lines of an antenna's call are those of `listing`, each after the antenna's number and a blank: `3 idle 19`.
use Rattle.std.specs.Prelude.{ℕ, ◌+◌, cond, List, [], ◌∷◌, ◌++◌, Result, is_err}
use Rattle.shared.specs.declared.Next.{Next}
use Rattle.lines.specs.Line.{decimal, call_text, call_room}

-- the antenna's number and a blank
abbrev pub tag_of : ℕ → List ℕ
tag_of i = decimal i ++ (32 ∷ [])

-- a line after the number i and a blank; where there is no line, nothing: `after_tag (tag_of i)`, as `line_is` of proofs/Laws proves
unfoldable pub tagged : ℕ → List ℕ → List ℕ
tagged i [] = []
tagged i (b ∷ l) = decimal i ++ (32 ∷ b ∷ l)

-- The lines of a call by its reply, the lines of its two records and the index of its phase line: `fsk`, `ook`, phase. A refused call has its number
-- alone. Without records `call_text` is the phase line, or that of the refusal. It is `tagged_call (tag_of i)`, as `text_is` there proves.
unfoldable pub tagged_text : ℕ → Result Next ℕ → List ℕ → List ℕ → ℕ → List ℕ
tagged_text i r f o index = cond (is_err r) [] (tagged i f ++ tagged i o) ++ tagged i (call_text r [] index)

-- the most that the lines of a call take whose parts have at most n slots each: a number of 20 digits at most and a blank before each of three lines
abbrev pub tagged_room : ℕ → ℕ
tagged_room n = call_room n + 63
