-- Lists of calls of sixteen antennas, what one of them hears, and the lane alone.
use Rattle.std.specs.Prelude.{ℕ, zero, suc, Bool, true, false, not, ◌&&◌, List, [], ◌∷◌, map, replicate, eqb}
use Rattle.lane.specs.declared.Lane.{Lane}
use Rattle.lane.specs.Answers.{Reply, refusal_number_of}
use Rattle.lane.specs.Step.{new_lane}
use Rattle.commands.specs.Command.{Found}
use Rattle.calls.specs.Turn.{State, Called, called, next}
use Rattle.among.specs.Among.{antennas, Lanes, answer_to, after_call}

-- the number of an antenna, and a command for it
abbrev pub Sent : Type 0
Sent = ℕ × Found

-- the lanes after a list of calls
unfoldable pub after_all : Lanes → List Sent → Lanes
after_all p [] = p
after_all p (c ∷ cs) = after_all (after_call p c.0 c.1) cs

-- sixteen lanes that never had settings, with these buffers
abbrev pub new_lanes : List (List ℕ) → List (List ℕ) → Lanes
new_lanes ook fsk = (replicate antennas new_lane, ook, fsk)

-- the lanes but lane i
unfoldable pub others : List Lane → ℕ → List Lane
others [] i = []
others (l ∷ ls) zero = ls
others (l ∷ ls) (suc i) = l ∷ others ls i

-- ---- what an antenna hears

abbrev pub met12 : Reply → Bool
met12 r = eqb (refusal_number_of r) 12

unfoldable pub keep_if : {A : Type 0} → Bool → A → List A → List A
keep_if true x xs = x ∷ xs
keep_if false x xs = xs

-- the commands of antenna j with their answers, "with the calls that met 12 left out"
unfoldable pub heard : ℕ → Lanes → List Sent → List (Found × Called)
heard j p [] = []
heard j p (c ∷ cs) =
    let a : Called = answer_to p c.0 c.1 in
    keep_if (eqb c.0 j && not (met12 a.0.reply)) (c.1, a) (heard j (after_call p c.0 c.1) cs)

abbrev pub commands_of : List (Found × Called) → List Found
commands_of hs = map (λ (h : Found × Called). h.0) hs

abbrev pub answers_of : List (Found × Called) → List Called
answers_of hs = map (λ (h : Found × Called). h.1) hs

-- ---- a lane alone: its answers to a list of commands, and where it is after them

unfoldable pub alone : State → List Found → List Called
alone p [] = []
alone p (k ∷ ks) = called p k ∷ alone (next (called p k)) ks

unfoldable pub alone_after : State → List Found → State
alone_after p [] = p
alone_after p (k ∷ ks) = alone_after (next (called p k)) ks
