-- What is said of commands that were taken (`Took`), of one and of steps one after another, and of their lines (`Turn`).
use Prim.Native.Nat.{ℕ, ◌+◌, ◌≤◌, ◌<◌}
use mathlib.Core.Bool.{Bool, true, false, not}
use mathlib.Core.Path.{◌≡◌, refl, ap, sym, ◌∙◌, subst}
use mathlib.Core.List.{List, []}
use native.Mathlib.Omega.{arith}
use lib.ListN.{length, take, drop, length-drop}
use lib.Dec.{eqb}
use Rattle.std.specs.Prelude.{Some, Ok, Err}
use borrow.Author.Tests.{not-true}
use Rattle.shared.proofs.Tests.{both_true, clash}
use Rattle.lane.specs.declared.Lane.{Lane}
use Rattle.shared.specs.declared.Next.TheVariants.{Stay, Idle, IdleAt}
use Rattle.lane.specs.declared.StepArgs.{StepArgs}
use Rattle.lane.specs.Answers.{Reply, answer_of}
use Rattle.lane.specs.Step.{stepped}
use Rattle.reached.specs.Reached.{Sound}
use Rattle.commands.specs.declared.Command.TheVariants.{Step}
use Rattle.commands.specs.Command.{Found, decoded, size_of, step_of, is_step_of}
use Rattle.commands.proofs.Stream.{step_there, step_given}
use Rattle.lines.specs.Line.{record_line, call_text, has_room, put}
use Rattle.lines.proofs.Room.{room_there}
use Rattle.stream.specs.declared.Stop.TheVariants.{Waiting, NoRoom}
use Rattle.stream.specs.Blocks.{waiting, no_room, Turn, Stays}
use Rattle.stream.proofs.Taken.{stored, passed_one, passed_then}
use Rattle.calls.specs.Turn.{State, Called, called, next, answer_text, called_text, text_of, waits, most_of, Shown}
use Rattle.calls.specs.Steps.{quiet_of, Stepped, Went, Took}
use Rattle.calls.specs.Stream.{machine}
use Rattle.calls.proofs.Laws.{there, shown_most, called_short, too_few_left}
use Rattle.calls.specs.Orderly.{step_settled}
use Rattle.calls.proofs.Orderly.{orderly}
use Rattle.calls.proofs.Silent.{call_sound, kept_room, Steps, none, some, steps_sound, went_all}

-- ---- a step among the commands

pub called_step : (p : State) (k : Found) (a : StepArgs) → k ≡ Ok (Step a) → stepped p.0 a p.1 p.2 ≡ called p k
unfolding called
called_step p k a e = ap (called p) (sym e)

-- the bytes of a step are there
pub step_room : (s : List ℕ) (used : ℕ) (a : StepArgs) → Ok (Step a) ≡ decoded (drop used s) → used + 25 ≤ length s
step_room s used a e = omega (arith, (step_there (drop used s) (ap is_step_of (sym e))).0, length-drop used s)

-- ---- the one command at a place, by itself
pub took_one : (p : State) (s : List ℕ) (from : ℕ) (k : Found) (used : ℕ) (r : Reply) (q : State) (size : ℕ) → from < length s → Sound p.0
    → k ≡ decoded (drop from s) → waits true k ≡ false → size ≡ size_of k → used ≡ from + size → (answer_of r q.0, q.1, q.2) ≡ called p k
    → length q.1 ≡ length p.1 → length q.2 ≡ length p.2 → Took p s from used r q
took_one p s from k used r q size inside sound is_k ready is_size is_used is_c is_ook is_fsk =
    record {
      sound = subst (λ (c : Called). Sound c.0.lane) (sym is_c) (call_sound p k sound);
      shown = subst (λ (c : Called). Shown c (most_of p)) (sym is_c) (shown_most p k ready (ap (λ (c : Called). length c.1) (sym is_c) ∙ is_ook) (ap (λ (c : Called). length c.2) (sym is_c) ∙ is_fsk));
      passes =
          passed_one machine orderly p s from used _ _ (omega arith) (is_used ∙ ap (λ (n : ℕ). from + n) (is_size ∙ ap size_of is_k))
          (ap called_text is_c ∙ sym (there k _ ready) ∙ ap (λ (d : Found). text_of d (called p d)) is_k) (ap next is_c ∙ ap (λ (d : Found). next (called p d)) is_k);
    }

-- ---- steps one after another

silent : (r : Reply) (l : Lane) (ook fsk : List ℕ) → quiet_of r l.burst.out_fsk.state l.burst.out_ook.state ≡ true → answer_text r l ook fsk ≡ []
unfolding answer_text call_text record_line
silent (Err k) l ook fsk h = clash (sym h)
silent (Ok Stay) l ook fsk h =
    let f = l.burst.out_fsk in
    let o = l.burst.out_ook in
    let b = both_true (not (eqb f.state 1)) (not (eqb o.state 1)) h in
    simp (not-true (eqb f.state 1) b.0, not-true (eqb o.state 1) b.1)
silent (Ok Idle) l ook fsk h = clash (sym h)
silent (Ok (IdleAt e)) l ook fsk h = clash (sym h)

-- the steps so far, from p on
abbrev pub StepsTaken : State → List ℕ → ℕ → ℕ → Reply → State → Type 0
StepsTaken p s from used r q = Steps (λ (u : ℕ) (z : Reply) (n : State). Took p s from u z n) p from used r q

-- one step more
module _ {p : State} {s : List ℕ} {from used : ℕ} {r : Reply} {q : State} (a : StepArgs) (end : ℕ) (z : Reply) (n : State) (sound : Sound p.0) (so : StepsTaken p s from used r q)
    (inside : used < length s) (is_a : Ok (Step a) ≡ decoded (drop used s)) (is_end : end ≡ used + 25) (step : Stepped q a z n) where
  one : Took q s used end z n
  one = took_one q s used (Ok (Step a)) end z n 25 inside (steps_sound sound so) is_a refl refl is_end step.gave step.ook step.fsk

  step_on : Took p s from end z n
  step_on = go so
    where
      go : StepsTaken p s from used r q → Took p s from end z n
      go (none e d) = subst (λ (o : State). Took o s from end z n) d (subst (λ (f : ℕ). Took q s f end z n) e one)
      go (some up quiet keeps still g) =
          record {
            sound = one.sound;
            shown = subst (Shown (answer_of z n.0, n.1, n.2)) (kept_room keeps) one.shown;
            passes =
                passed_then machine orderly p s from used _ q end _ n g.passes (silent r q.0 q.1 q.2 quiet) up
                (λ t. step_settled (drop used s) t (ap is_step_of (sym is_a))) (omega (arith, is_end)) one.passes;
          }

-- steps wherever a step is decoded
pub steps_taken : {At : ℕ → StepArgs → Type 0} (p : State) (s : List ℕ) (from used : ℕ) (r : Reply) (q : State) → Sound p.0
    → ((at : ℕ) (a : StepArgs) → At at a → Some a ≡ step_of (decoded (drop at s))) → Went At 25 p from used r q → Took p s from used r q
steps_taken p s from used r q sound is went =
    went_all (λ (u : ℕ) (z : Reply) (n : State). Took p s from u z n) sound (omega arith)
    (λ used r q a z n so here step.
    let there = step_given (decoded (drop used s)) a (sym (is used a here)) in
    step_on a (used + 25) z n sound so (omega (arith, step_room s used a there)) there refl step) went

-- ---- commands with their lines

pub turn_made : (p : State) (s : List ℕ) (last : Bool) (from at : ℕ) (x y : List ℕ) (used e : ℕ) (r : Reply) (q : State) → waits last (decoded (drop from s)) ≡ false
    → Took p s from used r q → has_room (most_of p) (length x) at ≡ true
    → ◌≡◌ {A = ℕ × List ℕ} (e, y) (put (called_text (answer_of r q.0, q.1, q.2)) (at, x)) → Turn machine p s last from at x (record { used = used; at = e }) q y
unfolding put
turn_made p s last from at x y used e r q ready h room puts =
    let c : Called = (answer_of r q.0, q.1, q.2) in
    let w : List ℕ = called_text c in
    let is_at : e ≡ at + length w = ap (λ (e : ℕ × List ℕ). e.0) puts in
    let fits : at + length w ≤ length x = omega (arith, called_short c (most_of p) h.shown, (room_there (most_of p) (length x) at room).1) in
    record {
      ready = ready;
      near = omega (arith, fits, is_at);
      text = w;
      puts = ap (λ (e : ℕ × List ℕ). take e.0 e.1) puts ∙ stored x w at fits;
      passes = h.passes;
    }

-- ---- no turn

-- the command waits for bytes
pub turn_waits : (p : State) (s : List ℕ) (last : Bool) (from at : ℕ) (x : List ℕ) → waits last (decoded (drop from s)) ≡ true → Stays machine p s last from at x Waiting p x
turn_waits p s last from at x w = record { stopped = waiting refl w; on = refl; same = refl; kept = refl }

-- the text has no room
pub turn_full : (p : State) (s : List ℕ) (last : Bool) (from at : ℕ) (x : List ℕ) → waits last (decoded (drop from s)) ≡ false → at ≤ length x → has_room (most_of p) (length x) at ≡ false
    → Stays machine p s last from at x NoRoom p x
turn_full p s last from at x w near few =
    record { stopped = no_room refl w (too_few_left p (length x) at near few); on = refl; same = refl; kept = refl }
