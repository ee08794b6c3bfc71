-- A program over a stream of bytes: it makes the command at the front, prints its lines and goes on with what is after it.
use Rattle.std.specs.Prelude.{ℕ, zero, suc, ◌+◌, ◌≤◌, Bool, true, false, cond, ◌≡◌, List, [], ◌++◌, length, drop, eqb}

-- what it has between two commands, and of the bytes that are left:
pub record Machine : Type 1 where
  pub State : Type 0
  -- how many of them the command at their front takes; 0 where there is none, and where the stream ends with it
  pub size : List ℕ → ℕ
  -- whether more are waited for before it is made; `true`: no byte will come
  pub waits : Bool → List ℕ → Bool
  -- what it leads to, and the lines that it prints
  pub next : State → List ℕ → State
  pub text : State → List ℕ → List ℕ
  -- the most bytes that its lines take
  pub most : State → List ℕ → ℕ

-- what may come after the bytes that are there: nothing where they are the last
abbrev pub May : Bool → List ℕ → Type 0
May last t = last ≡ true → t ≡ []

-- bytes that come after s leave the command at its front as it is
pub record Settled (M : Machine) (s t : List ℕ) : Type 0 where
  pub size_same : M.size (s ++ t) ≡ M.size s
  pub next_same : (p : M.State) → M.next p (s ++ t) ≡ M.next p s
  pub text_same : (p : M.State) → M.text p (s ++ t) ≡ M.text p s

-- what is asked of the parts of a program
pub record Orderly (M : Machine) : Type 0 where
  -- a command takes no more bytes than there are
  pub fits : (s : List ℕ) → M.size s ≤ length s
  -- nothing is printed of nothing, which waits for bytes
  pub none_waits : (last : Bool) → M.waits last [] ≡ true
  pub none_printed : (p : M.State) → M.text p [] ≡ []
  -- where no byte will come, only nothing is waited for
  pub all_used : (s : List ℕ) → M.waits true s ≡ true → s ≡ []
  -- bytes that are no command change nothing
  pub stays : (p : M.State) (s : List ℕ) → M.size s ≡ 0 → M.next p s ≡ p
  -- a command that is not waited for is the same whatever comes after it
  pub settled : (last : Bool) (s t : List ℕ) → May last t → M.waits last s ≡ false → Settled M s t

-- the lines of at most n commands: those of the first, and, unless the stream ends with it, of what is after it
unfoldable pub listed : (M : Machine) → ℕ → M.State → List ℕ → List ℕ
listed M zero p s = []
listed M (suc n) p s = M.text p s ++ cond (eqb (M.size s) 0) [] (listed M n (M.next p s) (drop (M.size s) s))

-- the lines of a stream: each command has a byte at least
unfoldable pub printed_of : (M : Machine) → M.State → List ℕ → List ℕ
unfolding listed
printed_of M p s = listed M (suc (length s)) p s

-- the commands in the first n bytes of a stream, one after another, lead from p to a state
pub data Turns (M : Machine) (p : M.State) (u : List ℕ) : ℕ → M.State → Type 0 where
  none : Turns M p u 0 p
  more : {n m : ℕ} {q r : M.State} → Turns M p u n q → (M.size (drop n u) ≡ 0 → ⊥)
      → m ≡ n + M.size (drop n u) → r ≡ M.next q (drop n u) → Turns M p u m r
