-- What `calls::steps` says of steps one after another, wherever they stand, up to the first that prints; and `calls::pass` of the commands of a
-- stream, taken so.
use Rattle.std.specs.Prelude.{ℕ, ◌+◌, Bool, true, false, not, ◌&&◌, ◌≡◌, List, [], ◌∷◌, length, eqb, Result, Ok, Err}
use Rattle.shared.specs.declared.Next.{Next}
use Rattle.shared.specs.declared.Next.TheVariants as next
use Rattle.lane.specs.Answers.{Reply, answer_of}
use Rattle.lane.specs.declared.StepArgs.{StepArgs}
use Rattle.commands.specs.declared.Command.TheVariants.{Step}
use Rattle.reached.specs.Reached.{Sound}
use Rattle.stream.specs.Blocks.{Passed}
use Rattle.calls.specs.declared.Lent.{Lent}
use Rattle.calls.specs.Turn.{State, called, called_text, most_of, Shown}
use Rattle.calls.specs.Stream.{machine}

-- a call that prints nothing: it stays, and decides no record
abbrev pub quiet_of : {E : Type 0} → Result Next E → ℕ → ℕ → Bool
quiet_of (Err k) f o = false
quiet_of (Ok next.Stay) f o = not (eqb f 1) && not (eqb o 1)
quiet_of (Ok next.Idle) f o = false
quiet_of (Ok (next.IdleAt e)) f o = false

-- the last call prints nothing
abbrev pub Quiet : Reply → State → Type 0
Quiet r q = quiet_of r q.0.burst.out_fsk.state q.0.burst.out_ook.state ≡ true

-- ---- steps one after another, wherever they stand

-- the call of the step a on q, which leaves n and the buffers' lengths
pub record Stepped (q : State) (a : StepArgs) (r : Reply) (n : State) : Type 0 where
  pub gave : (answer_of r n.0, n.1, n.2) ≡ called q (Ok (Step a))
  pub ook : length n.1 ≡ length q.1
  pub fsk : length n.2 ≡ length q.2

-- steps from a place on lead from p to q, each of `size` bytes and one that At says to stand at its place: all but the last print nothing, and
-- the last answers r
pub data Went (At : ℕ → StepArgs → Type 0) (size : ℕ) (p : State) (from : ℕ) : ℕ → Reply → State → Type 0 where
  first : {a : StepArgs} {r : Reply} {q : State} → At from a → Stepped p a r q → Went At size p from (from + size) r q
  further : {used : ℕ} {r : Reply} {q : State} {a : StepArgs} {z : Reply} {n : State}
      → Went At size p from used r q → Quiet r q → At used a → Stepped q a z n → Went At size p from (used + size) z n

-- ---- what is said of commands that were taken

-- commands from a place of s on lead from p to q, all but the last print nothing, and the last answers `reply`; the lane stays sound, and the
-- parts that are printed have room in a text that has it for any call from p on
pub record Took (p : State) (s : List ℕ) (from used : ℕ) (reply : Reply) (q : State) : Type 0 where
  pub sound : Sound q.0
  pub shown : Shown (answer_of reply q.0, q.1, q.2) (most_of p)
  pub passes : Passed machine p s from used (called_text (answer_of reply q.0, q.1, q.2)) q

-- ---- a lane with its buffers, which are lent

abbrev pub state_of : Lent → State
state_of l = (l.lane, l.ook.now, l.fsk.now)

-- which buffers they are
abbrev pub buffers_of : Lent → List ℕ
buffers_of l = l.ook.ghost_name ∷ l.fsk.ghost_name ∷ []
