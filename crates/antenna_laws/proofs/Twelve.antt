-- 12 is given in its one case and in no other: the lane alone never gives it, and among others `meets` says where.
use Prim.Native.Nat.{ℕ, zero, suc, ◌+◌, ◌<◌}
use mathlib.Core.Bool.{true, ◌&&◌, false≢true}
use mathlib.Core.Path.{◌≡◌, refl, sym, ◌∙◌, ap}
use mathlib.Core.Logic.{◌⊎◌, inl, inr}
use mathlib.Core.List.{List, [], ◌∷◌}
use native.Mathlib.Omega.{arith}
use native.Mathlib.Nat.{not-suc-le-zero, le_of_suc-le-suc}
use lib.ListN.{length, get_or}
use lib.Dec.{eqb, leb}
use borrow.Author.Tests.{leb-true, le-leb}
use Rattle.shared.proofs.Tests.{both_true}
use Rattle.lane.specs.declared.Answer.{Answer}
use Rattle.lane.specs.declared.Lane.{Lane}
use Rattle.lane.specs.declared.BeginArgs.{BeginArgs}
use Rattle.std.specs.Prelude.{Ok, Err}
use Rattle.shared.specs.declared.Next.TheVariants.{Stay}
use Rattle.refusals.specs.declared.Refusal.{Refusal}
use Rattle.refusals.specs.declared.Refusal.TheVariants as refusal
use Rattle.refusals.specs.Order.{number_of}
use Rattle.lane.specs.Answers.{Reply, refusal_number_of}
use Rattle.lane.specs.Refusals.{begin_refusal}
use Rattle.lane.specs.Step.{new_lane, begun}
use Rattle.lane.proofs.Refusals.{by_refusal}
use Rattle.commands.specs.Command.{Found}
use Rattle.commands.specs.declared.Command.TheVariants.{Open, OpenCarry, Begin, Step, Close}
use Rattle.commands.specs.declared.Missing.TheVariants as missing
use Rattle.calls.specs.Turn.{State, Called, called, next, unchanged}
use Rattle.among.specs.Among.{antennas, places, Lanes, lane_at, put_at, out_of, outs, others_out, no_antenna, answer_to}
use Rattle.among.specs.Settled.{is_begin_of, late_of}
use Rattle.antenna_laws.specs.Calls.{others, met12}
use Rattle.antenna_laws.specs.Theorems.{TwelveKeeps, OthersCounted, Twelve, TwelveExactly, NeverAlone}
use Rattle.antenna_laws.proofs.Answers.{never_twelve}
use Rattle.antenna_laws.proofs.One.{meets, among_twelve, answer_own, after_own, answer_none, inside, put_back}
use Rattle.antenna_laws.proofs.Alone.{met_own, own_twelve}

pub never_alone : NeverAlone
unfolding NeverAlone
never_alone p k e = never_twelve p k (ap refusal_number_of e)

-- ---- the number of the others

others_sum : (ls : List Lane) (i : ℕ) (d : Lane) → i < length ls → outs ls ≡ out_of (get_or ls i d) + outs (others ls i)
unfolding outs others
others_sum [] i d h = absurd (not-suc-le-zero h)
others_sum (l ∷ ls) zero d h = refl
others_sum (l ∷ ls) (suc i) d h = omega (arith, others_sum ls i d (le_of_suc-le-suc h))

pub others_counted : OthersCounted
unfolding OthersCounted
others_counted ls i h = omega (arith, others_sum ls i new_lane h)

-- ---- where 12 is given

none_twelve : (k : Found) → refusal_number_of (no_antenna k) ≡ 12 → ⊥
none_twelve (Ok k) e = omega arith
none_twelve (Err missing.End) e = omega arith
none_twelve (Err missing.Unknown) e = omega arith
none_twelve (Err missing.Short) e = omega arith

module _ (p : Lanes) (i : ℕ) (k : Found) (e : (answer_to p i k).0.reply ≡ Err refusal.Places) where
  there : i < antennas
  there = inside i (λ h. h) (λ h. absurd (none_twelve k (ap (λ (c : Called). refusal_number_of c.0.reply) (sym (answer_none p i k h)) ∙ ap refusal_number_of e)))

  met : met12 (answer_to p i k).0.reply ≡ true
  met = ap met12 e

pub twelve_keeps : TwelveKeeps
unfolding TwelveKeeps
twelve_keeps p i k e =
    let h = there p i k e in
    let same : answer_to p i k ≡ unchanged (Err refusal.Places) (lane_at p i) = own_twelve p i k h (met p i k e) in
    (same, after_own p i k h ∙ ap (λ (c : Called). put_at p i (next c)) same ∙ put_back p i)

-- no other refusal has the number 8
is_eighth : (k : Refusal) → eqb (number_of k) 8 ≡ true → k ≡ refusal.Room
is_eighth k h = grind arith

-- a begin that 12 comes before is accepted, or refused by 8
late_begin : (l : Lane) (b : BeginArgs) (ook fsk : List ℕ) → late_of (begun l b ook fsk).reply ≡ true → ((begun l b ook fsk).reply ≡ Ok Stay) ⊎ ((begun l b ook fsk).reply ≡ Err refusal.Room)
unfolding begun
late_begin l b ook fsk =
    by_refusal (λ (a : Answer). late_of a.reply ≡ true → (a.reply ≡ Ok Stay) ⊎ (a.reply ≡ Err refusal.Room)) (begin_refusal l b (length ook) (length fsk))
    (λ q h. inl refl)
    (λ r q h. inr (ap (λ (x : Refusal). Err x) (is_eighth r h)))

late_is : (p : State) (k : Found) → is_begin_of k ≡ true → late_of (called p k).0.reply ≡ true → ((called p k).0.reply ≡ Ok Stay) ⊎ ((called p k).0.reply ≡ Err refusal.Room)
unfolding called
late_is p (Ok (Begin b)) h = late_begin p.0 b p.1 p.2
late_is p (Ok (Open s)) h = absurd (false≢true h)
late_is p (Ok (OpenCarry s)) h = absurd (false≢true h)
late_is p (Ok (Step s)) h = absurd (false≢true h)
late_is p (Ok Close) h = absurd (false≢true h)
late_is p (Err m) h = absurd (false≢true h)

is_late : (r : Reply) → (r ≡ Ok Stay) ⊎ (r ≡ Err refusal.Room) → late_of r ≡ true
is_late r h = grind arith

given : (p : Lanes) (i : ℕ) (k : Found) → (answer_to p i k).0.reply ≡ Err refusal.Places → Twelve p i k
given p i k e =
    let h = there p i k e in
    let n = others_out p.0 i in
    let r = (called (lane_at p i) k).0.reply in
    let a = both_true (is_begin_of k) (leb places n && late_of r) (sym (met_own p i k h) ∙ met p i k e) in
    let b = both_true (leb places n) (late_of r) a.1 in
    record { antenna = h; begins = a.0; full = leb-true places n b.0; late = late_is (lane_at p i) k a.0 b.1 }

gives : (p : Lanes) (i : ℕ) (k : Found) → Twelve p i k → (answer_to p i k).0.reply ≡ Err refusal.Places
gives p i k t =
    let n = others_out p.0 i in
    let r = (called (lane_at p i) k).0.reply in
    let m : meets n (lane_at p i) k ≡ true = rw t.begins (rw (le-leb places n t.full) (is_late r t.late)) in
    ap (λ (c : Called). c.0.reply) (answer_own p i k t.antenna ∙ among_twelve n (lane_at p i) k m)

pub twelve_exactly : TwelveExactly
unfolding TwelveExactly
twelve_exactly p i k = (given p i k, gives p i k)
