-- One call of one antenna: since the lane alone never answers 12, among others the answer is 12 where `meets` says, with nothing changed, and the
-- lane's own elsewhere; and no other lane is changed.
use Prim.Native.Nat.{ℕ, ◌<◌, ◌≤◌}
use mathlib.Core.Bool.{Bool, true, false, cond, ◌&&◌, false≢true}
use mathlib.Core.Path.{◌≡◌, refl, sym, ◌∙◌, ap}
use mathlib.Core.List.{[]}
use native.Mathlib.Omega.{arith}
use lib.ListN.{length-set}
use lib.Seq.{get_or-set_same, get_or-set_other, set-get_or}
use lib.Dec.{leb, ltb}
use borrow.Author.Tests.{ltb-true, ltb-false, ne_eqb, lt-ltb, le-ltb}
use Rattle.std.specs.Prelude.{Ok, Err}
use Rattle.refusals.specs.declared.Refusal.TheVariants as refusal
use Rattle.lane.specs.Answers.{refusal_number_of}
use Rattle.shared.proofs.Cases.{either}
use Rattle.lane.specs.Step.{new_lane, refuse}
use Rattle.commands.specs.Command.{Found}
use Rattle.commands.specs.declared.Command.TheVariants.{Open, OpenCarry, Begin, Step, Close}
use Rattle.calls.specs.Turn.{State, Called, called, next, unchanged}
use Rattle.among.specs.Among.{antennas, places, called_among, Lanes, lane_at, put_at, others_out, no_antenna, answer_to, after_call, Sized}
use Rattle.among.specs.Settled.{is_begin_of, late_of, settled_of}
use Rattle.among.proofs.Laws.{settled}
use Rattle.antenna_laws.specs.Calls.{met12}
use Rattle.antenna_laws.proofs.Answers.{never_twelve}

-- ---- among n others out of idle

abbrev pub meets : ℕ → State → Found → Bool
meets n p k = is_begin_of k && (leb places n && late_of (called p k).0.reply)

pub among_alone : (n : ℕ) (p : State) (k : Found) → meets n p k ≡ false → called_among n p k ≡ called p k
unfolding settled_of
among_alone n p k h = settled n p k ∙ ap (λ (b : Bool). (cond b (refuse refusal.Places p.0) (called p k).0, (called p k).1, (called p k).2)) h

pub among_twelve : (n : ℕ) (p : State) (k : Found) → meets n p k ≡ true → called_among n p k ≡ unchanged (Err refusal.Places) p
unfolding settled_of called
among_twelve n p (Ok (Begin b)) h = settled n p (Ok (Begin b)) ∙ ap (λ (c : Bool). (cond c (refuse refusal.Places p.0) (called p (Ok (Begin b))).0, p.1, p.2)) h
among_twelve n p (Ok (Open s)) h = absurd (false≢true h)
among_twelve n p (Ok (OpenCarry s)) h = absurd (false≢true h)
among_twelve n p (Ok (Step s)) h = absurd (false≢true h)
among_twelve n p (Ok Close) h = absurd (false≢true h)
among_twelve n p (Err m) h = absurd (false≢true h)

pub among_met : (n : ℕ) (p : State) (k : Found) → met12 (called_among n p k).0.reply ≡ meets n p k
among_met n p k = go (meets n p k) refl
  where
    go : (b : Bool) → meets n p k ≡ b → met12 (called_among n p k).0.reply ≡ b
    go true q = ap (λ (c : Called). met12 c.0.reply) (among_twelve n p k q)
    go false q = ap (λ (c : Called). met12 c.0.reply) (among_alone n p k q) ∙ ne_eqb (refusal_number_of (called p k).0.reply) 12 (never_twelve p k)

-- ---- antenna i of sixteen

module _ (p : Lanes) (i : ℕ) (k : Found) where
  pub answer_own : i < antennas → answer_to p i k ≡ called_among (others_out p.0 i) (lane_at p i) k
  unfolding answer_to
  answer_own h = rw (lt-ltb i antennas h) refl

  pub after_own : i < antennas → after_call p i k ≡ put_at p i (next (answer_to p i k))
  unfolding after_call
  after_own h = rw (lt-ltb i antennas h) refl

  pub answer_none : antennas ≤ i → answer_to p i k ≡ unchanged (no_antenna k) (lane_at p i)
  unfolding answer_to
  answer_none h = rw (le-ltb i antennas h) refl

  pub after_none : antennas ≤ i → after_call p i k ≡ p
  unfolding after_call
  after_none h = rw (le-ltb i antennas h) refl

-- whether there is such an antenna
pub inside : (i : ℕ) {P : Type 0} → (i < antennas → P) → (antennas ≤ i → P) → P
inside i {P} f g = go (ltb i antennas) refl
  where
    go : (b : Bool) → ltb i antennas ≡ b → P
    go true q = f (ltb-true i antennas q)
    go false q = g (ltb-false i antennas q)

-- ---- the lanes after it

put_sized : (p : Lanes) (i : ℕ) (q : State) → Sized p → Sized (put_at p i q)
put_sized p i q s = record { lanes = length-set p.0 i q.0 ∙ s.lanes; ooks = length-set p.1 i q.1 ∙ s.ooks; fsks = length-set p.2 i q.2 ∙ s.fsks }

pub after_sized : (p : Lanes) (i : ℕ) (k : Found) → Sized p → Sized (after_call p i k)
unfolding after_call
after_sized p i k s = either Sized (ltb i antennas) (put_sized p i (next (answer_to p i k)) s) s

-- the antenna's own lane is the one that the answer has
pub put_own : (p : Lanes) (i : ℕ) (q : State) → i < antennas → Sized p → lane_at (put_at p i q) i ≡ q
put_own p i q h s =
    simp (
      get_or-set_same p.0 i q.0 new_lane (omega (arith, h, s.lanes)),
      get_or-set_same p.1 i q.1 [] (omega (arith, h, s.ooks)),
      get_or-set_same p.2 i q.2 [] (omega (arith, h, s.fsks)),
    )

pub after_lane : (p : Lanes) (i : ℕ) (k : Found) → i < antennas → Sized p → lane_at (after_call p i k) i ≡ next (answer_to p i k)
after_lane p i k h s = ap (λ (q : Lanes). lane_at q i) (after_own p i k h) ∙ put_own p i (next (answer_to p i k)) h s

-- and the others stay
put_other : (p : Lanes) (i j : ℕ) (q : State) → (i ≡ j → ⊥) → lane_at (put_at p i q) j ≡ lane_at p j
put_other p i j q h =
    let n : j ≡ i → ⊥ = λ e. h (sym e) in
    simp (get_or-set_other p.0 i j q.0 new_lane n, get_or-set_other p.1 i j q.1 [] n, get_or-set_other p.2 i j q.2 [] n)

pub after_other : (p : Lanes) (i j : ℕ) (k : Found) → (i ≡ j → ⊥) → lane_at (after_call p i k) j ≡ lane_at p j
unfolding after_call
after_other p i j k h = either (λ (q : Lanes). lane_at q j ≡ lane_at p j) (ltb i antennas) (put_other p i j (next (answer_to p i k)) h) refl

-- a lane put back changes nothing
pub put_back : (p : Lanes) (i : ℕ) → put_at p i (lane_at p i) ≡ p
put_back p i = simp (set-get_or p.0 i new_lane, set-get_or p.1 i [], set-get_or p.2 i [])
