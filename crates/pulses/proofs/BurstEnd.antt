-- What the train and the slots hold at a burst's end is demand 3 of that burst.
use mathlib.Core.Path.{◌≡◌, refl, sym, ap, ◌∙◌, subst}
use mathlib.Core.Bool.{Bool, true, false}
use mathlib.Core.Option.{some}
use mathlib.Core.List.{List, [], ◌∷◌, ◌++◌, map}
use Prim.Native.Nat.{ℕ, ◌+◌, ◌-◌, ◌*◌, ◌≤◌, ◌<◌, min}
use native.Mathlib.Omega.{arith}
use lib.Dec.{leb, ltb}
use borrow.Author.Tests.{leb-true, leb-false, le-leb}
use lib.ListN.{length, length-take, take}
use lib.Seq.{take_all, take-append_seam, take-append-add, length-take-le}
use lib.Ieee.{Float, nan}
use Rattle.shared.specs.declared.Settings.{Settings}
use Rattle.shared.specs.declared.Out.{Out}
use Rattle.shared.specs.Counts.{bit}
use Rattle.refusals.proofs.Domain.{InDomain}
use Rattle.lane.specs.Part.{front, named_of}
use Rattle.pulses.specs.Runs.{Sample, Pulse, pulses}
use Rattle.pulses.proofs.Edges.{both, flat, same_length, edges_emitted, widths_emitted}
use Rattle.pulses.proofs.TrainState.{Edges, flat_length, Claim, no_pulse, gives}
use Rattle.slots.specs.Slots.{slots_from, slots_of}
use Rattle.slots.proofs.Slots.{slots_length, Heads}
use Rattle.arith.specs.Carry.{width_by}
use Rattle.pulses.proofs.OokSample.{given}
use Rattle.pulses.specs.Yardstick.{Given, given_by}
use Rattle.pulses.specs.Demand.{firsts, width, slots_between, TrainOf, Gives}

take_min : {A : Type 0} (n : ℕ) (l : List A) → take (min (length l) n) l ≡ take n l
take_min n l = go (leb (length l) n) refl
  where
    go : (b : Bool) → leb (length l) n ≡ b → take (min (length l) n) l ≡ take n l
    go true q =
        let h : length l ≤ n = leb-true (length l) n q in
        take_all (min (length l) n) l (omega arith) ∙ sym (take_all n l h)
    go false q =
        let h : n < length l = leb-false (length l) n q in
        let e : min (length l) n ≡ n = omega arith in
        rw e

-- without carry the even slots are the pulses' widths
firsts_from : (o : Float) (k : ℕ) (a b : Float) (qs : List Edges) (r : List ℕ) → length r ≤ 1 → firsts (slots_from 0 o k a (b ∷ flat qs) ++ r) ≡ map (both width) ((a, b) ∷ qs)
unfolding firsts both flat slots_from width_by
firsts_from o k a b [] [] h = refl
firsts_from o k a b [] (x ∷ []) h = refl
firsts_from o k a b [] (x ∷ y ∷ r) h = absurd (omega arith)
firsts_from o k a b (q ∷ qs) r h = ap {B = List ℕ} (λ l. width a b ∷ l) (firsts_from o k q.0 q.1 qs r h)

firsts_slots : (qs : List Edges) (r : List ℕ) → 1 ≤ length qs → length r ≤ 1 → firsts (slots_of 0 (flat qs) ++ r) ≡ map (both width) qs
unfolding slots_of flat
firsts_slots [] r l h = absurd (omega arith)
firsts_slots (q ∷ qs) r l h = firsts_from q.0 0 q.0 q.1 qs r h

slots_count : (carry : ℕ) (qs : List Edges) → 1 ≤ length qs → length (slots_of carry (flat qs)) ≡ 2 * length qs - 1
unfolding slots_of flat
slots_count carry [] l = absurd (omega arith)
slots_count carry (q ∷ qs) l = slots_length carry q.0 0 q.0 (q.1 ∷ flat qs) ∙ omega (arith, flat_length qs)

-- the part of an OOK record whose pairs fit
part_ook : (out : Out) (ook fsk : List ℕ) → out.state ≡ 1 → out.fsk ≡ 0 → 2 * out.pairs ≤ length ook → named_of out ook fsk ≡ take (2 * out.pairs) ook
unfolding named_of front
part_ook out ook fsk s f h = rw (s, f, le-leb (2 * out.pairs) (length ook) h)

pub given_none : (out : Out) (part : List ℕ) → out.state ≡ 0 → given_by out part ≡ []
unfolding given_by
given_none out part q = rw q

given_one : (out : Out) (part : List ℕ) → out.state ≡ 1 → given_by out part ≡ record { out = out; part = part } ∷ []
unfolding given_by
given_one out part q = rw q

-- the part that is fetched is the one that the record names
module _ (p : Settings) (D : InDomain p) (xs : List (Sample Float)) (out : Out) (ook fsk part : List ℕ) (names : part ≡ named_of out ook fsk) where
  abbrev train : Given
  train = record { out = out; part = part }

  same : length (given p xs) ≡ length (pulses p.min_steps xs)
  same = same_length width nan p.min_steps xs D.min_steps.0

  train_of_lem : 1 ≤ out.pairs → out.state ≡ 1 → out.fsk ≡ 0 → out.pairs ≡ min (length (given p xs)) p.max_pulses → out.cut ≡ bit (ltb p.max_pulses (length (given p xs)))
      → Heads (slots_of p.carry (flat (take out.pairs (given p xs)))) ook → 2 * out.pairs ≤ length ook → TrainOf p (pulses p.min_steps xs) train
  unfolding slots_between
  train_of_lem some_pair qs' qf qn qc S r = record {
    kind = qf;
    pairs = qn ∙ ap (λ (n : ℕ). min n p.max_pulses) same;
    whole = ap length (names ∙ part_ook out ook fsk qs' qf r) ∙ length-take-le (2 * out.pairs) ook r;
    widths = λ off. ap (map some)
        (ap firsts split ∙ firsts_part off)
        ∙ ap (λ (es : List Edges). map some (map (both width) es)) listed
        ∙ widths_emitted width nan p.min_steps p.max_pulses xs D.min_steps.0;
    cut = qc ∙ ap (λ (n : ℕ). bit (ltb p.max_pulses n)) same;
    slots =
        ap some (ap (take (2 * out.pairs - 1)) split ∙ ap (λ (n : ℕ). take n (ss ++ take 1 S.rest)) (sym count) ∙ take-append_seam ss (take 1 S.rest))
        ∙ ap (λ (qs : List Edges). some (slots_of p.carry (flat qs))) listed
        ∙ ap (slots_between p.carry) (sym (edges_emitted width nan p.min_steps p.max_pulses xs D.min_steps.0));
  }
    where
      qs : List Edges
      qs = take out.pairs (given p xs)

      ss : List ℕ
      ss = slots_of p.carry (flat qs)

      few : length qs ≡ out.pairs
      few = length-take-le out.pairs (given p xs) (omega arith)

      count : length ss ≡ 2 * out.pairs - 1
      count = slots_count p.carry qs (omega (arith, few)) ∙ ap (λ (n : ℕ). 2 * n - 1) few

      listed : qs ≡ take p.max_pulses (given p xs)
      listed = ap (λ (n : ℕ). take n (given p xs)) qn ∙ take_min p.max_pulses (given p xs)

      split : part ≡ ss ++ take 1 S.rest
      split =
          let e : 2 * out.pairs ≡ length ss + 1 = omega (arith, count) in
          names ∙ part_ook out ook fsk qs' qf r ∙ ap (take (2 * out.pairs)) S.split ∙ ap (λ (n : ℕ). take n (ss ++ S.rest)) e ∙ take-append-add ss S.rest 1

      firsts_part : p.carry ≡ 0 → firsts (ss ++ take 1 S.rest) ≡ map (both width) qs
      firsts_part off = ap (λ (c : ℕ). firsts (slots_of c (flat qs) ++ take 1 S.rest)) off ∙ firsts_slots qs (take 1 S.rest) (omega (arith, few)) (omega (arith, length-take 1 S.rest))

  pub claim_gives : Claim p.carry p.max_pulses (given p xs) out ook → Gives p (pulses p.min_steps xs) (given_by out part)
  unfolding Gives
  claim_gives C = go (pulses p.min_steps xs) refl C
    where
      go : (ps : List (Pulse Float)) → pulses p.min_steps xs ≡ ps → Claim p.carry p.max_pulses (given p xs) out ook → Gives p ps (given_by out part)
      go [] q (no_pulse qp qs) = given_none out part qs
      go [] q (gives l qs qf qn qc S r) = absurd (omega (arith, same, ap length q))
      go (x ∷ ps) q (no_pulse qp qs) = absurd (omega (arith, same, ap length q, ap length qp))
      go (x ∷ ps) q (gives l qs qf qn qc S r) = (train, given_one out part qs, subst (λ (l : List (Pulse Float)). TrainOf p l train) q (train_of_lem (omega (arith, D.max_pulses.0)) qs qf qn qc S r))
