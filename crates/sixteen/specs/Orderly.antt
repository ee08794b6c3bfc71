-- The program of sixteen antennas is one over a stream: what stands at the front of the bytes is the same whatever comes after it, once it is not
-- waited for. The lemmas stand here too: the impl of `Station` names `orderly`, and what a contract names may not use the proofs of its own crate.
use Prim.Native.Nat.{ℕ, ◌<◌}
use mathlib.Core.Bool.{Bool, true, false, cond}
use mathlib.Core.Path.{◌≡◌, refl, sym, ◌∙◌, ap}
use mathlib.Core.List.{List, [], ◌∷◌, ◌++◌}
use native.Mathlib.Omega.{arith}
use lib.ListN.{length, drop}
use lib.Seq.{set-get_or}
use lib.Dec.{eqb, ltb}
use borrow.Author.Tests.{eqb-true, eqb-false}
use Rattle.std.specs.Prelude.{Ok, Err}
use Rattle.lane.specs.Answers.{Reply}
use Rattle.lane.specs.Step.{new_lane}
use Rattle.commands.specs.Command.{Found, size_of}
use Rattle.commands.proofs.Stream.{taken}
use Rattle.commands.specs.Stream.{whole}
use Rattle.calls.specs.Turn.{Called, unchanged, missed, called, waits}
use Rattle.calls.specs.Orderly.{only_end}
use Rattle.calls.proofs.Orderly.{waits_whole}
use Rattle.addressed.specs.Addressed.{addressed_of, antenna_of, addressed_size}
use Rattle.addressed.proofs.Laws.{size_fits, addressed_more, antenna_more, some_there, none_there}
use Rattle.among.specs.Among.{antennas, called_among, Lanes, put_at, lane_at, answer_to, after_call}
use Rattle.stream.specs.Machine.{Settled, Orderly}
use Rattle.stream.proofs.Taken.{settles, some_left}
use Rattle.sixteen.specs.Sixteen.{spoken_text, machine}

-- a lane put back where it was
pub put_own : (all : Lanes) (i : ℕ) → put_at all i (lane_at all i) ≡ all
put_own all i = simp (set-get_or all.0 i new_lane, set-get_or all.1 i [], set-get_or all.2 i [])

-- what is no command changes nothing
stays_put : (all : Lanes) (i : ℕ) (r : Reply) (b : Bool) → (let c : Called = cond {A = Called} b (unchanged r (lane_at all i)) (unchanged r (lane_at all i)) in cond b (put_at all i (c.0.lane, c.1, c.2)) all) ≡ all
stays_put all i r true = put_own all i
stays_put all i r false = refl

pub no_call : (all : Lanes) (i : ℕ) (k : Found) → size_of k ≡ 0 → after_call all i k ≡ all
unfolding after_call answer_to called_among called
no_call all i (Ok k) h = absurd (taken k h)
no_call all i (Err m) h = stays_put all i (missed m) (ltb i antennas)

-- and prints the same of whatever antenna
none_text_lem : (i j : ℕ) (k : Found) (c d : Called) → size_of k ≡ 0 → spoken_text i k c ≡ spoken_text j k d
none_text_lem i j (Ok k) c d h = absurd (taken k h)
none_text_lem i j (Err m) c d h = refl

size_none : (k : Found) → addressed_size k ≡ 0 → size_of k ≡ 0
size_none (Ok k) h = absurd (omega (arith, h))
size_none (Err m) h = refl

-- a whole command
module _ (s t : List ℕ) (w : whole (addressed_of s) ≡ true) where
  abbrev k : Found
  k = addressed_of s

  same : addressed_of (s ++ t) ≡ k
  same = addressed_more s t w

  next_more : (all : Lanes) → after_call all (antenna_of (s ++ t)) (addressed_of (s ++ t)) ≡ after_call all (antenna_of s) k
  next_more all = ap (after_call all (antenna_of (s ++ t))) same ∙ go (eqb (size_of k) 0) refl
    where
      go : (b : Bool) → eqb (size_of k) 0 ≡ b → after_call all (antenna_of (s ++ t)) k ≡ after_call all (antenna_of s) k
      go true q = no_call all (antenna_of (s ++ t)) k (eqb-true (size_of k) 0 q) ∙ sym (no_call all (antenna_of s) k (eqb-true (size_of k) 0 q))
      go false q = ap (λ (i : ℕ). after_call all i k) (antenna_more s t w (eqb-false (size_of k) 0 q))

  text_more : (all : Lanes) → spoken_text (antenna_of (s ++ t)) (addressed_of (s ++ t)) (answer_to all (antenna_of (s ++ t)) (addressed_of (s ++ t))) ≡ spoken_text (antenna_of s) k (answer_to all (antenna_of s) k)
  text_more all = ap (λ (d : Found). spoken_text (antenna_of (s ++ t)) d (answer_to all (antenna_of (s ++ t)) d)) same ∙ go (eqb (size_of k) 0) refl
    where
      go : (b : Bool) → eqb (size_of k) 0 ≡ b → spoken_text (antenna_of (s ++ t)) k (answer_to all (antenna_of (s ++ t)) k) ≡ spoken_text (antenna_of s) k (answer_to all (antenna_of s) k)
      go true q = none_text_lem (antenna_of (s ++ t)) (antenna_of s) k _ _ (eqb-true (size_of k) 0 q)
      go false q = ap (λ (i : ℕ). spoken_text i k (answer_to all i k)) (antenna_more s t w (eqb-false (size_of k) 0 q))

  pub whole_settled : Settled machine s t
  whole_settled = record { size_same = ap addressed_size same; next_same = next_more; text_same = text_more }

used_all : (s : List ℕ) → waits true (addressed_of s) ≡ true → s ≡ []
used_all [] w = refl
used_all (b ∷ o) w = absurd (only_end (addressed_of (b ∷ o)) (some_there b o) w)

pub orderly : Orderly machine
orderly =
    record {
      fits = size_fits;
      none_waits = λ last. ap (waits last) none_there;
      none_printed = λ all. ap (λ (k : Found). spoken_text 0 k (answer_to all 0 k)) none_there;
      all_used = used_all;
      stays = λ all s h. no_call all (antenna_of s) (addressed_of s) (size_none (addressed_of s) h);
      settled = settles machine (λ s t w. whole_settled s t (waits_whole (addressed_of s) w));
    }

-- where a byte is, a command is there
pub bytes_there : (s : List ℕ) (from : ℕ) (k : Found) → from < length s → k ≡ addressed_of (drop from s) → waits true k ≡ false
bytes_there s from k inside is_k = ap (waits true) is_k ∙ some_left machine orderly s from inside
