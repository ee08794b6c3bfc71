-- An accepted call raises the serial by 1, whatever the lane, and puts it in both records; a refused one leaves the lane. So along a list the
-- serials count up.
use Prim.Native.Nat.{ℕ, zero, suc, ◌+◌, ◌<◌}
use mathlib.Core.Bool.{true, cond, not}
use mathlib.Core.Path.{◌≡◌, refl, sym, ap, ◌∙◌, subst}
use mathlib.Core.List.{List, [], ◌∷◌, ◌++◌}
use native.Mathlib.Nat.{not-suc-le-zero}
use native.Mathlib.Omega.{arith}
use lib.Dec.{eqb}
use Rattle.std.specs.Prelude.{⊤, Result, Ok}
use Rattle.refusals.specs.declared.Refusal.{Refusal}
use Rattle.shared.specs.declared.Next.{Next}
use lib.ListN.{length, get_or}
use Rattle.lane.specs.declared.Answer.{Answer}
use Rattle.lane.specs.declared.Lane.{Lane}
use Rattle.lane.specs.declared.StepArgs.{StepArgs}
use Rattle.lane.specs.Advance.{advance_of, fill_of, settle_of}
use Rattle.lane.specs.Answers.{reply_number_of}
use Rattle.lane.specs.Begin.{lead_lane}
use Rattle.lane.specs.Idle.{idle_lane}
use Rattle.shared.proofs.Tests.{clash}
use Rattle.lane.proofs.Refusals.{by_refusal}
use Rattle.lane.proofs.PartLaws.{part_named}
use Rattle.lane.specs.Refusals.{open_refusal, begin_refusal, step_refusal, close_refusal}
use Rattle.lane.specs.Serial.{stamp_of, stamped}
use Rattle.lane.specs.Close.{idle_with, close_of}
use Rattle.lane.specs.Step.{new_lane, refuse, unless_refused, stay, opened, begun, stepped, closed}
use Rattle.reached.proofs.Accepted.{step_ways, close_ways}
use Rattle.reached.specs.Serials.{Call, opening, begin, step, close, answer_to, accepted, serials, count_from, Counted, NoTwoAlike, InBoth, BothFetched}

-- a stamped answer to l, or a refusal of it
data Answers (l : Lane) (a : Answer) : Type 0 where
  raises : (b : Answer) → accepted b ≡ true → a ≡ stamped l b → Answers l a
  refuses : (k : Refusal) → a ≡ refuse k l → Answers l a

abbrev Is : Answer × List ℕ × List ℕ → Type 0
Is r = accepted r.0 ≡ true

-- an answer that is alone, or has the buffers with it
by_check : {A : Type 0} (answer : A → Answer) (l : Lane) (k : Result ⊤ Refusal) (b : Answer) {a : A} {g : Refusal → A} → accepted b ≡ true → answer a ≡ stamped l b
    → ((n : Refusal) → answer (g n) ≡ refuse n l) → Answers l (answer (unless_refused k a g))
by_check answer l k b t s r = by_refusal (λ x. Answers l (answer x)) k (λ q. raises b t s) (λ n q. refuses n (r n))

-- a sample is never answered by a refusal
next_accepted : (n : Next) → not (eqb (reply_number_of {E = Refusal} (Ok n)) 3) ≡ true
next_accepted n = grind arith

advance_accepted : (l : Lane) (s : StepArgs) (ook fsk : List ℕ) → Is (advance_of l s ook fsk)
unfolding fill_of settle_of
advance_accepted l s ook fsk = step_ways Is l s ook fsk (λ ld ring. refl) (λ ld ring r. next_accepted r.0.next)

close_accepted : (l : Lane) (ook fsk : List ℕ) → Is (close_of l ook fsk)
unfolding idle_with
close_accepted l ook fsk = close_ways Is l ook fsk (λ b o. refl)

answers : (l : Lane) (c : Call) → Answers l (answer_to l c)
unfolding opened begun stepped closed
answers l (opening p) = by_check (λ (a : Answer). a) l (open_refusal l p) (stay (idle_lane 1 p)) refl refl (λ n. refl)
answers l (begin b ook fsk) = by_check (λ (a : Answer). a) l (begin_refusal l b (length ook) (length fsk)) (stay (lead_lane l b)) refl refl (λ n. refl)
answers l (step s ook fsk) = by_check (λ (r : Answer × List ℕ × List ℕ). r.0) l (step_refusal l s (length ook) (length fsk)) (advance_of l s ook fsk).0 (advance_accepted l s ook fsk) refl (λ n. refl)
answers l (close ook fsk) = by_check (λ (r : Answer × List ℕ × List ℕ). r.0) l (close_refusal l (length ook) (length fsk)) (close_of l ook fsk).0 (close_accepted l ook fsk) refl (λ n. refl)

-- ---- one call

pub in_both : (l : Lane) (c : Call) → accepted (answer_to l c) ≡ true → ((answer_to l c).lane.serial ≡ l.serial + 1) × InBoth (answer_to l c).lane
unfolding stamp_of
in_both l c t = go (answer_to l c) (answers l c) t
  where
    go : (a : Answer) → Answers l a → accepted a ≡ true → (a.lane.serial ≡ l.serial + 1) × InBoth a.lane
    go a (raises b y e) t = subst (λ (x : Answer). (x.lane.serial ≡ l.serial + 1) × InBoth x.lane) (sym e) (refl, record { ook = refl; fsk = refl })
    go a (refuses k e) t = clash (sym t ∙ ap accepted e)

pub both_fetched : BothFetched
both_fetched l c ook fsk t =
    let h = in_both l c t in
    let m = (answer_to l c).lane in (
      part_named m m.burst.out_ook ook fsk h.1.ook (omega (arith, h.0, h.1.ook)),
      part_named m m.burst.out_fsk ook fsk h.1.fsk (omega (arith, h.0, h.1.fsk)),
    )

-- ---- a list of calls

count : (cs : List Call) (l : Lane) → serials l cs ≡ count_from (l.serial + 1) (length (serials l cs))
unfolding serials count_from stamp_of
count [] l = refl
count (c ∷ cs) l = go (answer_to l c) (answers l c) (count cs)
  where
    more : Answer → List ℕ
    more a = cond (accepted a) (a.lane.serial ∷ []) [] ++ serials a.lane cs

    go : (a : Answer) → Answers l a → ((m : Lane) → serials m cs ≡ count_from (m.serial + 1) (length (serials m cs))) → more a ≡ count_from (l.serial + 1) (length (more a))
    go a (raises b t e) rest =
        subst (λ (x : Answer). more x ≡ count_from (l.serial + 1) (length (more x))) (sym e)
        (simp t (ap (λ (ns : List ℕ). (l.serial + 1) ∷ ns) (rest (stamp_of (l.serial + 1) b.lane))))
    go a (refuses k e) rest = subst (λ (x : Answer). more x ≡ count_from (l.serial + 1) (length (more x))) (sym e) (rest l)

pub counted : Counted
unfolding new_lane idle_lane
counted cs = count cs new_lane

at_place : (n k i : ℕ) → i < k → get_or (count_from n k) i 0 ≡ n + i
unfolding count_from
at_place n zero i h = absurd (not-suc-le-zero h)
at_place n (suc k) zero h = omega arith
at_place n (suc k) (suc i) h = let e : get_or (count_from (n + 1) k) i 0 ≡ n + 1 + i = at_place (n + 1) k i (omega arith) in omega (arith, e)

pub no_two_alike : NoTwoAlike
no_two_alike cs i j h g e =
    let k = length (serials new_lane cs) in
    let at : (i : ℕ) → i < k → get_or (serials new_lane cs) i 0 ≡ 1 + i = λ i h. ap (λ (ns : List ℕ). get_or ns i 0) (counted cs) ∙ at_place 1 k i h in
    omega (arith, at i h, at j g, e)
