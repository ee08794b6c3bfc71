-- A lane that turns idle frees its place: one lane fewer is out of idle, so that the next call finds fewer than four others.
use Prim.Native.Nat.{ℕ, ◌+◌, ◌<◌}
use mathlib.Core.Bool.{Bool, true, false, ◌&&◌}
use mathlib.Core.Path.{◌≡◌, refl, sym, ◌∙◌, ap, subst}
use native.Mathlib.Omega.{arith}
use lib.ListN.{length, set}
use lib.Dec.{leb}
use borrow.Author.Tests.{lt-leb}
use Rattle.lane.specs.declared.Lane.{Lane}
use Rattle.lane.specs.Step.{new_lane}
use Rattle.commands.specs.Command.{Found}
use Rattle.calls.specs.Turn.{State, called}
use Rattle.among.specs.Among.{places, called_among, Lanes, lane_at, outs, others_out, answer_to, after_call}
use Rattle.among.specs.Settled.{is_begin_of, late_of}
use Rattle.among.proofs.Laws.{outs_set}
use Rattle.antenna_laws.specs.Theorems.{PlaceFreed, NextLetIn}
use Rattle.antenna_laws.proofs.One.{among_alone, answer_own, after_own, after_other}
use Rattle.antenna_laws.proofs.Four.{out_busy, out_idle}

pub place_freed : PlaceFreed
unfolding PlaceFreed
place_freed p i k s t =
    let l : Lane = (answer_to p i k).0.lane in
    let there : i < length p.0 = omega (arith, t.antenna, s.lanes) in
    let one : outs (set p.0 i l) + 1 ≡ outs p.0 = omega (arith, outs_set p.0 i new_lane l there, out_busy (lane_at p i).0 t.was_out, out_idle l t.is_idle) in
    subst (λ (q : Lanes). outs q.0 + 1 ≡ outs p.0) (sym (after_own p i k t.antenna)) one

-- fewer than four others out of idle: the answer is the lone lane's
free : (n : ℕ) (p : State) (k : Found) → n < places → called_among n p k ≡ called p k
free n p k h = among_alone n p k (go (is_begin_of k))
  where
    go : (b : Bool) → (b && (leb places n && late_of (called p k).0.reply)) ≡ false
    go true = ap (λ (c : Bool). c && late_of (called p k).0.reply) (lt-leb places n h)
    go false = refl

pub next_let_in : NextLetIn
unfolding NextLetIn PlaceFreed
next_let_in p i j k m s four t h other =
    let q : Lanes = after_call p i k in
    let few : others_out q.0 j < places = omega (arith, place_freed p i k s t, four) in
    (few, answer_own q j m h ∙ free (others_out q.0 j) (lane_at q j) m few ∙ ap (λ (z : State). called z m) (after_other p i j k other))
