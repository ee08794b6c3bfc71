-- At most four lanes are out of idle: a call takes a place only by an accepted begin, and that finds fewer than four others out.
use Prim.Native.Nat.{ℕ, ◌+◌, ◌<◌, ◌≤◌}
use mathlib.Core.Bool.{Bool, true, false, true≢false}
use mathlib.Core.Path.{◌≡◌, refl, sym, ◌∙◌, ap, subst}
use mathlib.Core.Logic.{◌⊎◌, inl, inr}
use mathlib.Core.List.{List, [], ◌∷◌}
use native.Mathlib.Omega.{arith}
use lib.ListN.{length, set}
use lib.Dec.{leb}
use borrow.Author.Tests.{leb-false}
use Rattle.std.specs.Prelude.{⊤, Result, Ok, Err}
use Rattle.shared.specs.declared.Settings.{Settings}
use Rattle.refusals.specs.declared.Refusal.{Refusal}
use Rattle.lane.specs.declared.Answer.{Answer}
use Rattle.lane.specs.declared.Lane.{Lane}
use Rattle.lane.specs.declared.BeginArgs.{BeginArgs}
use Rattle.lane.specs.declared.StepArgs.{StepArgs}
use Rattle.lane.specs.Refusals.{open_refusal, begin_refusal, step_refusal, close_refusal}
use Rattle.lane.specs.Idle.{idle_lane}
use Rattle.lane.specs.Advance.{advance_of}
use Rattle.lane.specs.Close.{close_of}
use Rattle.lane.specs.Serial.{stamp_of, stamped_with}
use Rattle.lane.specs.Step.{new_lane, refuse, unless_refused, opened, begun, stepped, closed}
use Rattle.lane.proofs.Refusals.{by_refusal}
use Rattle.commands.specs.Command.{Found}
use Rattle.commands.specs.declared.Command.TheVariants.{Open, OpenCarry, Begin, Step, Close}
use Rattle.calls.specs.Turn.{State, Called, called}
use Rattle.pulses.proofs.Accepted.{step_tells, close_tells}
use Rattle.among.specs.Among.{antennas, places, called_among, Lanes, lane_at, out_of, outs, others_out, answer_to, after_call, Sized}
use Rattle.among.specs.Settled.{late_of}
use Rattle.among.proofs.Laws.{out_one, outs_at, outs_set, outs_new}
use Rattle.antenna_laws.specs.Calls.{Sent, new_lanes, after_all}
use Rattle.antenna_laws.specs.Theorems.{AtMostFour, FourStay, FourFromNew}
use Rattle.antenna_laws.proofs.One.{among_alone, among_twelve, answer_own, after_own, after_none, after_sized, inside}

pub out_busy : (l : Lane) → (l.phase ≡ 0 → ⊥) → out_of l ≡ 1
unfolding out_of
out_busy l h = grind arith

pub out_idle : (l : Lane) → l.phase ≡ 0 → out_of l ≡ 0
unfolding out_of
out_idle l h = grind arith

-- ---- an opening, a step and a close take no place

open_takes : (l : Lane) (s : Settings) → out_of (opened l s).lane ≤ out_of l
unfolding opened stamp_of idle_lane
open_takes l s =
    by_refusal (λ (a : Answer). out_of a.lane ≤ out_of l) (open_refusal l s)
    (λ q. omega (arith, out_idle (stamp_of (l.serial + 1) (idle_lane 1 s)) refl))
    (λ r q. omega arith)

-- a step and a close are accepted only of a lane that is out of idle
busy_takes : (k : Result ⊤ Refusal) (l : Lane) (a : Called) (ook fsk : List ℕ) → (k ≡ Ok tt → l.phase ≡ 0 → ⊥) → out_of (unless_refused k a (λ r. (refuse r l, ook, fsk))).0.lane ≤ out_of l
busy_takes (Ok u) l a ook fsk h = omega (arith, out_busy l (h refl), out_one a.0.lane)
busy_takes (Err r) l a ook fsk h = omega arith

step_takes : (l : Lane) (s : StepArgs) (ook fsk : List ℕ) → out_of (stepped l s ook fsk).0.lane ≤ out_of l
unfolding stepped
step_takes l s ook fsk = busy_takes (step_refusal l s (length ook) (length fsk)) l (stamped_with l (advance_of l s ook fsk)) ook fsk (step_tells l s (length ook) (length fsk))

close_takes : (l : Lane) (ook fsk : List ℕ) → out_of (closed l ook fsk).0.lane ≤ out_of l
unfolding closed
close_takes l ook fsk = busy_takes (close_refusal l (length ook) (length fsk)) l (stamped_with l (close_of l ook fsk)) ook fsk (close_tells l (length ook) (length fsk))

-- ---- a begin that is not refused takes one, and finds it

-- a begin that comes before 12 is refused
early_begin : (l : Lane) (b : BeginArgs) (ook fsk : List ℕ) → late_of (begun l b ook fsk).reply ≡ false → (begun l b ook fsk).lane ≡ l
unfolding begun
early_begin l b ook fsk = by_refusal (λ (a : Answer). late_of a.reply ≡ false → a.lane ≡ l) (begin_refusal l b (length ook) (length fsk)) (λ q h. absurd (true≢false h)) (λ r q h. refl)

begin_takes : (n : ℕ) (p : State) (b : BeginArgs) → (out_of (called_among n p (Ok (Begin b))).0.lane ≤ out_of p.0) ⊎ (n < places)
unfolding called
begin_takes n p b = go (leb places n) (late_of (begun p.0 b p.1 p.2).reply) refl refl
  where
    kept : {l : Lane} → l ≡ p.0 → out_of l ≤ out_of p.0
    kept e = omega (arith, ap out_of e)

    go : (full late : Bool) → leb places n ≡ full → late_of (begun p.0 b p.1 p.2).reply ≡ late → (out_of (called_among n p (Ok (Begin b))).0.lane ≤ out_of p.0) ⊎ (n < places)
    go true true e f = inl (kept (ap (λ (c : Called). c.0.lane) (among_twelve n p (Ok (Begin b)) (rw (e, f) refl))))
    go true false e f = inl (kept (ap (λ (c : Called). c.0.lane) (among_alone n p (Ok (Begin b)) (rw (e, f) refl)) ∙ early_begin p.0 b p.1 p.2 f))
    go false late e f = inr (leb-false places n e)

-- a call takes no place, or finds one
takes : (n : ℕ) (p : State) (k : Found) → (out_of (called_among n p k).0.lane ≤ out_of p.0) ⊎ (n < places)
unfolding called_among called
takes n p (Ok (Open s)) = inl (open_takes p.0 s)
takes n p (Ok (OpenCarry s)) = inl (open_takes p.0 s)
takes n p (Ok (Begin b)) = begin_takes n p b
takes n p (Ok (Step s)) = inl (step_takes p.0 s p.1 p.2)
takes n p (Ok Close) = inl (close_takes p.0 p.1 p.2)
takes n p (Err m) = inl (omega arith)

-- ---- of all lanes

stays : (p : Lanes) (i : ℕ) (k : Found) → Sized p → i < antennas → outs p.0 ≤ places → outs (set p.0 i (answer_to p i k).0.lane) ≤ places
stays p i k s h f =
    let l : Lane = (answer_to p i k).0.lane in
    let there : i < length p.0 = omega (arith, h, s.lanes) in
    let own : out_of l ≡ out_of (called_among (others_out p.0 i) (lane_at p i) k).0.lane = ap (λ (c : Called). out_of c.0.lane) (answer_own p i k h) in
    elim (takes (others_out p.0 i) (lane_at p i) k) [
      | inl q ↦ omega (arith, q, own, f, outs_set p.0 i new_lane l there)
      | inr q ↦ omega (arith, q, own, out_one l, outs_at p.0 i new_lane there, outs_set p.0 i new_lane l there)
    ]

pub four_stay : FourStay
unfolding FourStay
four_stay p i k s f =
    inside i
    (λ h. subst (λ (q : Lanes). outs q.0 ≤ places) (sym (after_own p i k h)) (stays p i k s h f))
    (λ h. subst (λ (q : Lanes). outs q.0 ≤ places) (sym (after_none p i k h)) f)

all_stay : (p : Lanes) (cs : List Sent) → Sized p → outs p.0 ≤ places → outs (after_all p cs).0 ≤ places
unfolding after_all FourStay
all_stay p [] s f = f
all_stay p (c ∷ cs) s f = all_stay (after_call p c.0 c.1) cs (after_sized p c.0 c.1 s) (four_stay p c.0 c.1 s f)

pub at_most_four : AtMostFour
unfolding AtMostFour
at_most_four p cs s e = all_stay p cs s (omega (arith, e))

pub new_sized : (ook fsk : List (List ℕ)) → length ook ≡ antennas → length fsk ≡ antennas → Sized (new_lanes ook fsk)
new_sized ook fsk h g = record { lanes = refl; ooks = h; fsks = g }

pub four_from_new : FourFromNew
unfolding FourFromNew AtMostFour
four_from_new ook fsk cs h g = at_most_four (new_lanes ook fsk) cs (new_sized ook fsk h g) (outs_new antennas new_lane refl)
