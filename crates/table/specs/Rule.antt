-- The rule of the table (document 02, R-7): "for i from 256 to 1,023, each the largest whole number whose square is at most 64 × i". Definitions only.
use Rattle.std.specs.Prelude.{ℕ, zero, suc, ◌+◌, ◌*◌, ◌≤◌, ◌<◌, Bool, true, false, ◌&&◌, cond, List, [], ◌∷◌, leb, ltb}

-- r is the largest whole number whose square is at most n
abbrev pub IsLargest : ℕ → ℕ → Type 0
IsLargest n r = (r * r ≤ n) × (n < (r + 1) * (r + 1))

-- r is the entry of i by the rule
abbrev pub Rule : ℕ → ℕ → Type 0
Rule i r = IsLargest (64 * i) r

-- the number itself: the first of k, k - 1, .. whose square is at most n
abbrev pub first_of : Bool → ℕ → ℕ → ℕ
first_of true k r = k
first_of false k r = r

unfoldable pub largest : ℕ → ℕ → ℕ
largest zero n = 0
largest (suc k) n = first_of (leb (suc k * suc k) n) (suc k) (largest k n)

abbrev pub rule_of : ℕ → ℕ
rule_of i = largest 255 (64 * i)

-- the entry of i, and 0 where there is none
abbrev pub has_entry : ℕ → Bool
has_entry i = leb 256 i && ltb i 1024

unfoldable pub entry_of : ℕ → ℕ
unfolding largest
entry_of i = cond (has_entry i) (rule_of i) 0

-- ---- the rule as a test, at one number and at each of a list, the first of them the entry of i
abbrev pub is_ruled : ℕ → ℕ → Bool
is_ruled i r = leb (r * r) (64 * i) && ltb (64 * i) ((r + 1) * (r + 1))

unfoldable pub all_ruled : ℕ → List ℕ → Bool
all_ruled i [] = true
all_ruled i (r ∷ rs) = is_ruled i r && all_ruled (suc i) rs
