-- How a list refutes a program: three tests of a list that is run on it. Where demand 3 holds each passes, so a list in which one fails
-- refutes the program.
use mathlib.Core.Path.{◌≡◌, refl, sym, ap, ◌∙◌}
use mathlib.Core.Bool.{Bool, true, false, cond, ◌&&◌}
use mathlib.Core.Option.{Option, none, some}
use mathlib.Core.List.{List, [], ◌∷◌, ◌++◌, append-nil}
use Prim.Native.Nat.{ℕ, ◌-◌, ◌*◌, min}
use lib.Dec.{ltb, eqb}
use borrow.Author.Tests.{eqb-true, eqb-false, eq-eqb}
use lib.ListN.{length, take}
use lib.Ieee.{Float}
use Rattle.shared.specs.declared.Settings.{Settings}
use Rattle.shared.specs.Counts.{bit}
use Rattle.shared.proofs.Cases.{by_test}
use Rattle.pulses.specs.Runs.{Pulse, edges}
use Rattle.pulses.specs.Yardstick.{Call, Given}
use Rattle.pulses.specs.Demand.{Program, Place, slots_between, Gives, settings_at, pulses_at, Holds, Each, NoneYet, Demand3}
use Rattle.pulses.specs.Auto.{EachWhere, Demand3Where, InMode}
use Rattle.pulses.specs.Ran.{Ran, ran}
use Rattle.pulses.specs.Hollow.{Fails}
use Rattle.shared.proofs.Tests.{clash}

-- ---- the tests
-- kind, pairs, cut mark and the slots from the first pulse to the last, as trains tell them and as a record asks them
unfoldable pub told : List Given → List ℕ
told [] = []
told (g ∷ gs) = g.out.fsk ∷ g.out.pairs ∷ g.out.cut ∷ (take (2 * g.out.pairs - 1) g.part ++ told gs)

unfoldable pub numbers : Option (List ℕ) → List ℕ
numbers none = []
numbers (some ns) = ns

unfoldable pub asked : Settings → List (Pulse Float) → List ℕ
asked p [] = []
asked p (q ∷ qs) =
    0 ∷ min (length (q ∷ qs)) p.max_pulses ∷ bit (ltb p.max_pulses (length (q ∷ qs)))
    ∷ numbers (slots_between p.carry (edges p.min_steps (take p.max_pulses (q ∷ qs))))

unfoldable pub parts : List Given → List ℕ
parts [] = []
parts (g ∷ gs) = g.part ++ parts gs

unfoldable pub equal : List ℕ → List ℕ → Bool
equal [] [] = true
equal [] (y ∷ ys) = false
equal (x ∷ xs) [] = false
equal (x ∷ xs) (y ∷ ys) = eqb x y && equal xs ys

-- of a burst that ended: its trains tell what its record asks; their slots are those of demand 2's definition. Of one under way:
-- there is no train yet.
pub data Test : Type 0 where
  by_pulses : Test
  by_slots : Test
  under_way : Test

-- of every burst in mode m
unfoldable pub every : {W : Program} → ℕ → (Place W → Bool) → List (Place W) → Bool
every m f [] = true
every m f (k ∷ ks) = cond (eqb (settings_at k).mode m) (f k) true && every m f ks

unfoldable pub tells_asked : {W : Program} → Place W → Bool
tells_asked k = equal (told k.trains) (asked (settings_at k) (pulses_at k))

unfoldable pub passes : {W : Program} → Test → Ran W → Bool
unfolding told numbers asked parts equal every tells_asked
passes by_pulses r = every 0 (λ k. tells_asked k) r.ended
passes by_slots r = every 0 (λ k. equal (parts k.trains) (parts k.yard.trains)) r.ended
passes under_way r = cond (eqb r.last.yard.lane.phase 0) true (cond (eqb (settings_at r.last).mode 0) (equal (told r.last.trains) []) true)

-- ---- each passes where demand 3 holds
equal_same : (xs ys : List ℕ) → xs ≡ ys → equal xs ys ≡ true
unfolding equal
equal_same xs ys q = rw q (go ys)
  where
    go : (l : List ℕ) → equal l l ≡ true
    go [] = refl
    go (x ∷ l) = rw (eq-eqb x x refl) (go l)

tells : (p : Settings) (ps : List (Pulse Float)) (ts : List Given) → Gives p ps ts → told ts ≡ asked p ps
unfolding Gives told asked numbers
tells p [] ts q = ap told q
tells p (q ∷ qs) ts (g, e, T) = ap told e ∙ rw (ap numbers T.slots, T.kind, T.pairs, T.cut, append-nil)

module _ {W : Program} where
  each_passes : (m : ℕ) (f : Place W → Bool) → ((k : Place W) → Holds k → f k ≡ true) → (ks : List (Place W)) → EachWhere (InMode m) ks → every m f ks ≡ true
  unfolding EachWhere every
  each_passes m f h [] E = refl
  each_passes m f h (k ∷ ks) E = rw (each_passes m f h ks E.1) (go (eqb (settings_at k).mode m) refl)
    where
      go : (o : Bool) → eqb (settings_at k).mode m ≡ o → (cond o (f k) true && true) ≡ true
      go true q = rw (h k (E.0 (eqb-true (settings_at k).mode m q)))
      go false q = refl

  -- demand 3's bursts are those in mode 0
  in_ook : (ks : List (Place W)) → Each ks → EachWhere (InMode 0) ks
  unfolding Each EachWhere
  in_ook [] E = tt
  in_ook (k ∷ ks) E = (E.0, in_ook ks E.1)

  tells_asked_lem : (k : Place W) → Holds k → tells_asked k ≡ true
  unfolding tells_asked
  tells_asked_lem k H = equal_same (told k.trains) (asked (settings_at k) (pulses_at k)) (tells (settings_at k) (pulses_at k) k.trains H.gives)

  waits : (k : Place W) → NoneYet k → cond (eqb k.yard.lane.phase 0) true (cond (eqb (settings_at k).mode 0) (equal (told k.trains) []) true) ≡ true
  unfolding told equal
  waits k N =
      let passed : Bool → Type 0 = λ (b : Bool). b ≡ true in
      by_test passed (eqb k.yard.lane.phase 0) (λ q. refl)
      (λ q. by_test passed (eqb (settings_at k).mode 0) (λ o. rw (N (eqb-false k.yard.lane.phase 0 q) (eqb-true (settings_at k).mode 0 o))) (λ o. refl))

  all_pass : (t : Test) (r : Ran W) → Each r.ended → NoneYet r.last → passes t r ≡ true
  unfolding passes
  all_pass by_pulses r E N = each_passes 0 _ tells_asked_lem r.ended (in_ook r.ended E)
  all_pass by_slots r E N = each_passes 0 _ (λ k H. equal_same (parts k.trains) (parts k.yard.trains) (ap parts H.numbers)) r.ended (in_ook r.ended E)
  all_pass under_way r E N = waits r.last N

-- a list that is handed on, in which the program does not pass
pub refuted : (t : Test) (W : Program) (cs : List Call) → (ran W cs).handed ≡ true → passes t (ran W cs) ≡ false → Fails W
unfolding Demand3 ran
refuted t W cs h q D = clash (sym (all_pass t (ran W cs) (D cs h).0 (D cs h).1) ∙ q)

-- and a list in which it does not tell what the records of its bursts in mode m ask
pub refuted_in : (m : ℕ) (W : Program) (cs : List Call) → (ran W cs).handed ≡ true → every m (λ k. tells_asked k) (ran W cs).ended ≡ false → Demand3Where (InMode m) W → ⊥
unfolding Demand3Where ran
refuted_in m W cs h q D = clash (sym (each_passes m _ tells_asked_lem (ran W cs).ended (D cs h).0) ∙ q)
