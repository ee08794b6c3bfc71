-- What is said of the commands of a block of bytes, and that block after block prints the lines of the unbroken stream (`program_prints` in
-- proofs/Printed).
use Rattle.std.specs.Prelude.{ℕ, ◌+◌, ◌<◌, ◌≤◌, Bool, true, false, cond, ◌≡◌, ◌⊎◌, List, [], ◌++◌, length, take, drop, eqb}
use Rattle.stream.specs.declared.Stop.{Stop}
use Rattle.stream.specs.declared.Stop.TheVariants.{Waiting, NoRoom, Ended}
use Rattle.stream.specs.declared.Ran.{Ran}
use Rattle.stream.specs.declared.Turned.{Turned}
use Rattle.stream.specs.Machine.{Machine, May, Settled, printed_of, Turns}

-- ---- commands of a block

-- bytes that come after s leave the command at a place as it is
abbrev pub Seen : Machine → List ℕ → ℕ → List ℕ → Type 0
Seen M s from t = Settled M (drop from s) t

-- Commands from a place of s on lead from p to q, and all but the last print nothing: w, and the lines of what is left, are the lines of the
-- whole. Where no byte is taken the stream ends, with nothing changed.
pub record Passed (M : Machine) (p : M.State) (s : List ℕ) (from used : ℕ) (w : List ℕ) (q : M.State) : Type 0 where
  pub onward : from ≤ used
  pub inside : used ≤ length s
  pub left : (o : M.State) (t : List ℕ) → Seen M s from t → (used ≡ from → ⊥) → Turns M o (s ++ t) from p → Turns M o (s ++ t) used q
  pub ended : used ≡ from → (M.size (drop from s) ≡ 0) × (q ≡ p)
  pub same : (t : List ℕ) → Seen M s from t → w ++ cond (eqb used from) [] (printed_of M q (drop used s ++ t)) ≡ printed_of M p (drop from s ++ t)

-- ---- a block, and how it was left: `Ran` of src/lib.rt

-- whether the stream has ended
abbrev pub is_over : Stop → Bool
is_over Waiting = false
is_over NoRoom = false
is_over Ended = true

-- whether the text has no room
abbrev pub is_full : Stop → Bool
is_full Waiting = false
is_full NoRoom = true
is_full Ended = false

-- where the turns of a block stop: at bytes that no command begins with, or at a beginning of one that no more will come of, which ends
-- the stream; where the next command waits for bytes; or where the text has too few bytes left for its lines
pub data Stopped (M : Machine) (s : List ℕ) (last : Bool) (r : Ran) (q : M.State) (y : List ℕ) : Type 0 where
  ends : r.stop ≡ Ended → M.waits last (drop r.used s) ≡ false → M.size (drop r.used s) ≡ 0 → Stopped M s last r q y
  waiting : r.stop ≡ Waiting → M.waits last (drop r.used s) ≡ true → Stopped M s last r q y
  no_room : r.stop ≡ NoRoom → M.waits last (drop r.used s) ≡ false → length y < r.at + M.most q (drop r.used s) → Stopped M s last r q y

-- what the turns of a block say: whatever comes after it, the lines printed and those of what is left are the lines of the whole; the
-- commands of the bytes used lead to the state that is left; and where they stop
pub record Streamed (M : Machine) (p : M.State) (s : List ℕ) (last : Bool) (r : Ran) (q : M.State) (y : List ℕ) : Type 0 where
  pub inside : r.used ≤ length s
  pub room : r.at ≤ length y
  pub printed : (t : List ℕ) → May last t → take r.at y ++ cond (is_over r.stop) [] (printed_of M q (drop r.used s ++ t)) ≡ printed_of M p (s ++ t)
  pub left : (t : List ℕ) → May last t → Turns M p (s ++ t) r.used q
  pub stopped : Stopped M s last r q y

-- ---- a turn

-- the command at a place of s is not waited for; the commands taken lead from p to q, and their lines stand in the text from `at` on: x before
-- the turn, y after it
pub record Turn (M : Machine) (p : M.State) (s : List ℕ) (last : Bool) (from at : ℕ) (x : List ℕ) (z : Turned) (q : M.State) (y : List ℕ) : Type 0 where
  pub ready : M.waits last (drop from s) ≡ false
  pub near : z.at ≤ length x
  pub text : List ℕ
  pub puts : take z.at y ≡ take at x ++ text
  pub passes : Passed M p s from z.used text q

-- there is no turn: the turns stop at the place, where the stream goes on, and nothing is changed
pub record Stays (M : Machine) (p : M.State) (s : List ℕ) (last : Bool) (from at : ℕ) (x : List ℕ) (stop : Stop) (q : M.State) (y : List ℕ) : Type 0 where
  pub stopped : Stopped M s last (record { used = from; at = at; stop = stop }) p x
  pub on : is_over stop ≡ false
  pub same : q ≡ p
  pub kept : y ≡ x

-- ---- block after block

-- the blocks of a stream from the state p on: of the bytes u that came they printed w, and they left the state q and the bytes v, which no
-- command has taken. `last` says that no byte will come after u, `ended` that the stream has ended. Each block has what the one before
-- left and the bytes c that came since, if any: none once no byte will come
pub data Blocks (M : Machine) (p : M.State) : (last ended : Bool) → (u w : List ℕ) → (q : M.State) → (v : List ℕ) → Type 0 where
  none : Blocks M p false false [] [] p []
  more : {q o : M.State} {u w v c x y : List ℕ} {last end : Bool} {r : Ran}
      → Blocks M p last false u w q v → May last c → (last ≡ true → end ≡ true) → Streamed M q (v ++ c) end r o y → x ≡ drop r.used (v ++ c)
      → Blocks M p end (is_over r.stop) (u ++ c) (w ++ take r.at y) o x

-- the stream is over: it has ended, or no byte will come and none is left
abbrev pub Over : Bool → Bool → List ℕ → Type 0
Over last ended v = (ended ≡ true) ⊎ ((last ≡ true) × (v ≡ []))
