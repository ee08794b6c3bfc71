-- The slots of a frame and its transitions (document 01, "Grid"; `transitions` of the Rust). A slot holds the end of a run, in 64ths of a step after the frame's start.
use Rattle.std.specs.Prelude.{ℕ, zero, suc, Bool, true, false, cond, List, [], ◌∷◌, length, take, get_or, ltb, pos, Float, Option, Some, None, MatchOption, ◌≡◌, ⊤}
use Rattle.std.specs.Float.{binary64}
use Rattle.std.specs.Float.Ieee.{div, of_int}
use Rattle.arith.specs.Leaves.{run_fix}
use Rattle.arith.specs.declared.Fix64.{Fix64}

-- f64::from(v) / RUN_FIX
unfoldable pub time_of : Fix64 → Float
time_of v = div binary64 (of_int binary64 (pos v.0)) run_fix

abbrev pub fix : ℕ → Fix64
fix v = record { 0 = v }

-- the slot before the one at i, where u stands before the first
abbrev pub slot_before : ℕ → List ℕ → ℕ → ℕ
slot_before u slots zero = u
slot_before u slots (suc j) = get_or slots j 0

-- the last index below n whose slot is above the one before it, and 0 where there is none
unfoldable pub last_rise_below : List ℕ → ℕ → ℕ
last_rise_below slots zero = 0
last_rise_below slots (suc i) = cond (ltb (slot_before 0 slots i) (get_or slots i 0)) i (last_rise_below slots i)

unfoldable pub last_rise : List ℕ → ℕ
unfolding last_rise_below
last_rise slots = last_rise_below slots (length slots)

abbrev pub also : Bool → Float → List Float → List Float
also true x xs = x ∷ xs
also false x xs = xs

-- the time of each slot that is above the one before it
unfoldable pub times : ℕ → List ℕ → List Float
unfolding time_of
times before [] = []
times before (v ∷ vs) = also (ltb before v) (time_of (fix v)) (times v vs)

unfoldable pub up_to : ℕ → List ℕ → List Float
unfolding times
up_to last slots = times 0 (take last slots)

-- `transitions`: the ends of every run with a length except the last, in order
unfoldable pub transitions_of : List ℕ → List Float
unfolding up_to last_rise
transitions_of slots = up_to (last_rise slots) slots

-- the Rust's closure over the transitions is a fold over their list
unfoldable pub fold : {S : Type 0} → (S → Float → S) → S → List Float → S
fold f s [] = s
fold f s (x ∷ xs) = fold f (f s x) xs

-- what each call asks, at each transition and whatever the calls before it returned
abbrev pub CallableInFold : {S : Type 0} → (S → Float → Type 0) → (S → Float → S → Type 0) → S → List Float → Type 0
CallableInFold pre post s [] = ⊤
CallableInFold {S} pre post s (x ∷ xs) = pre s x × ((r : S) → post s x r → CallableInFold pre post r xs)

-- a call that gives a state to go on from
abbrev pub IsSomeOf : {S : Type 0} → (S → Float → Option S → Type 0) → S → Float → S → Type 0
IsSomeOf post s x r = post s x (Some r)

-- calls over the transitions up to the first that gives none, which is then the result
abbrev pub TryFoldsTo : {S : Type 0} → (S → Float → Option S → Type 0) → S → List Float → Option S → Type 0
TryFoldsTo post s [] r = r ≡ Some s
TryFoldsTo {S} post s (x ∷ xs) r = (o : Option S) × post s x o × MatchOption o (r ≡ None) (λ q. TryFoldsTo post q xs r)
