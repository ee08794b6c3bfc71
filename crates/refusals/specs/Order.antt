-- Document 01, "Replies other than an answer, in checking order": the first check that fails.
use Rattle.std.specs.Prelude.{ℕ, Bool, cond, ⊤, Result, Ok, Err}
use Rattle.refusals.specs.declared.Refusal.{Refusal}
use Rattle.refusals.specs.declared.Refusal.TheVariants as refusal

-- document 01's number of each, and those of document 02: 12, the places of antennas, and 13, the serial
abbrev pub number_of : Refusal → ℕ
number_of refusal.Unknown = 1
number_of refusal.Short = 2
number_of refusal.Settings = 3
number_of refusal.Lane = 4
number_of refusal.Phase = 5
number_of refusal.Index = 6
number_of refusal.Float = 7
number_of refusal.Room = 8
number_of refusal.Places = 12
number_of refusal.Serial = 13

abbrev pub check : Refusal → Bool → Result ⊤ Refusal → Result ⊤ Refusal
check k ok rest = cond ok rest (Err k)

-- 13, the serial (document 02, R-6), "comes right after 5"
unfoldable pub first_failed : Bool → Bool → Bool → Bool → Bool → Bool → Bool → Result ⊤ Refusal
first_failed settings lane phase serial index floats room =
    check refusal.Settings settings
    (check refusal.Lane lane (check refusal.Phase phase (check refusal.Serial serial (check refusal.Index index (check refusal.Float floats (check refusal.Room room (Ok tt)))))))
