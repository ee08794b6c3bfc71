-- One sample in OOK mode: the low samples at the end of the record are no more than the run is long, and a run that is long enough ends the burst.
use mathlib.Core.Path.{◌≡◌, refl, sym}
use mathlib.Core.Bool.{Bool, true, false, ◌||◌}
use mathlib.Core.List.{List, [], ◌∷◌, ◌++◌}
use Prim.Native.Nat.{ℕ, suc, ◌+◌, ◌≤◌, ◌<◌}
use native.Mathlib.Omega.{arith}
use lib.Dec.{leb, eqb}
use lib.Ieee.{Float}
use borrow.Author.Tests.{lt-leb, lt-ltb, eqb-true, eqb-false}
use Rattle.ook.specs.declared.Env.{Env}
use Rattle.run.specs.declared.Run.{Run}
use Rattle.ook.specs.declared.Train.{Train}
use Rattle.ook.specs.Types.{Done}
use Rattle.shared.proofs.Cases.{either}
use Rattle.shared.specs.declared.Out.{Out}
use Rattle.shared.specs.declared.Settings.{Settings}
use Rattle.shared.specs.declared.Next.TheVariants.{Idle}
use Rattle.shared.specs.Counts.{sat_add_of}
use Rattle.run.specs.Run.{move_of, lengthen_of, rejoin_of, begin_run_of, due_of}
use Rattle.ook.specs.Run.{advance_of}
use Rattle.domain.specs.Limits.{max_steps}
use Rattle.refusals.proofs.Domain.{InDomain}
use Rattle.envelope.specs.declared.Absence.{Absence}
use Rattle.envelope.specs.Act.{confirm_if}
use Rattle.envelope.specs.Tail.{carrier_of, gone_of, has_pulses_of, gap_over_of, wait_of, tail_of}
use Rattle.pulses.specs.Runs.{Sample, sample}
use Rattle.shared.proofs.Tests.{clash}
use Rattle.pulses.proofs.RunState.{run_after}
use Rattle.quiet.specs.Quiet.{wait, shortest, lows_from, quiet_from}

-- ---- one sample more
-- how many low samples are last after one of this level, n before it
unfoldable pub lows_after : ℕ → Bool → ℕ
lows_after n true = 0
lows_after n false = suc n

module _ {E : Type 0} where
  pub lows_snoc : (n : ℕ) (xs : List (Sample E)) (l : Bool) (e : E) → lows_from n (xs ++ (sample l e ∷ [])) ≡ lows_after (lows_from n xs) l
  unfolding lows_from lows_after
  lows_snoc n [] true e = refl
  lows_snoc n [] false e = refl
  lows_snoc n (sample true d ∷ xs) l e = lows_snoc 0 xs l e
  lows_snoc n (sample false d ∷ xs) l e = lows_snoc (suc n) xs l e

  -- a record without w low samples in a row, and fewer than w with the new one
  pub loud_snoc : (w n : ℕ) (xs : List (Sample E)) (l : Bool) (e : E) → quiet_from w n xs ≡ false → lows_after (lows_from n xs) l < w → quiet_from w n (xs ++ (sample l e ∷ [])) ≡ false
  unfolding quiet_from lows_from lows_after
  loud_snoc w n [] true e q h = refl
  loud_snoc w n [] false e q h = rw (lt-leb w (suc n) h)
  loud_snoc w n (sample true d ∷ xs) l e q h = loud_snoc w 0 xs l e q h
  loud_snoc w n (sample false d ∷ xs) l e q h = go (leb w (suc n)) (λ z. loud_snoc w (suc n) xs l e z h) q
    where
      go : (b : Bool) → (quiet_from w (suc n) xs ≡ false → quiet_from w (suc n) (xs ++ (sample l e ∷ [])) ≡ false)
          → (b || quiet_from w (suc n) xs) ≡ false → (b || quiet_from w (suc n) (xs ++ (sample l e ∷ []))) ≡ false
      go true later z = clash z
      go false later z = later z

-- ---- how many
-- low samples are enough to end a burst with these settings: their run counts, and it is longer than the gap. Beyond a count's limit none would be.
pub record Enough (p : Settings) (w : ℕ) : Type 0 where
  pub counts : p.min_steps ≤ w
  pub longer : p.gap_steps < w
  pub small : w ≤ max_steps + 1

pub wait_enough : (p : Settings) → InDomain p → Enough p (wait p)
wait_enough p D = record { counts = omega arith; longer = omega arith; small = omega (arith, D.min_steps.1, D.gap_steps.1) }

pub shortest_enough : (p : Settings) → InDomain p → Enough p (shortest p)
shortest_enough p D = record { counts = omega arith; longer = omega arith; small = omega (arith, D.min_steps.1, D.gap_steps.1) }

-- ---- the run
-- what the envelope's run is, n low samples being the last
pub record Long (n : ℕ) (r : Run) : Type 0 where
  pub flag : r.confirmed ≤ 1
  pub low : r.level ≡ 0 → n ≤ r.run_len
  pub high : (r.level ≡ 0 → ⊥) → n ≡ 0

-- a sample's level, where n low ones are far fewer than a count can be
pub long_after : (n : ℕ) (s : Env) (on : Bool) (t : Float) (i : ℕ) → n ≤ max_steps → Long n s.run → Long (lows_after n on) (run_after s on t i).run
unfolding advance_of lengthen_of rejoin_of begin_run_of sat_add_of lows_after
long_after n s true t i h L = go (eqb 1 s.run.level) (eqb s.run.confirmed 0) refl
  where
    go : (a b : Bool) → eqb 1 s.run.level ≡ a → Long 0 (advance_of (move_of a b) s true t i).run
    go true b q = record { flag = L.flag; low = λ e. omega arith; high = λ e. refl }
    go false true q = record { flag = omega arith; low = λ e. omega arith; high = λ e. refl }
    go false false q = record { flag = omega arith; low = λ e. omega arith; high = λ e. refl }
long_after n s false t i h L = go (eqb 0 s.run.level) (eqb s.run.confirmed 0) refl
  where
    go : (a b : Bool) → eqb 0 s.run.level ≡ a → Long (suc n) (advance_of (move_of a b) s false t i).run
    go true b q = record { flag = L.flag; low = λ e. omega (arith, L.low e, h); high = λ e. absurd (e (sym (eqb-true 0 s.run.level q))) }
    go false true q = let z : n ≡ 0 = L.high (λ e. eqb-false 0 s.run.level q (sym e)) in record { flag = omega arith; low = λ e. omega (arith, z); high = λ e. absurd (e refl) }
    go false false q = let z : n ≡ 0 = L.high (λ e. eqb-false 0 s.run.level q (sym e)) in record { flag = omega arith; low = λ e. omega (arith, z); high = λ e. absurd (e refl) }

-- it counts from min_steps samples on
pub record Counts (m : ℕ) (v : Run) (w : Run) : Type 0 where
  pub same_level : w.level ≡ v.level
  pub same_length : w.run_len ≡ v.run_len
  pub sure : m ≤ w.run_len → w.confirmed ≡ 1
  pub flag : w.confirmed ≤ 1

pub confirmed_counts : (m : ℕ) (v : Env) → v.run.confirmed ≤ 1 → Counts m v.run (confirm_if (due_of v.run m) v).run
unfolding confirm_if due_of
confirmed_counts m v h = grind arith

-- ---- the end
-- the envelope is gone and the carrier is away: a low run longer than the gap ends the burst, with pulses and without
pub tail_ends : (p : Settings) → InDomain p → (e high : Float) (r : Run) (a : Absence) (t : Train) (out : Out) (ook : List ℕ)
    → r.confirmed ≡ 1 → a.p_level ≡ 0 → a.p_confirmed ≡ 1 → a.frames ≡ 0 → p.gap_steps < r.run_len
    → (tail_of p false e r a high t out ook).0.next ≡ Idle
unfolding tail_of carrier_of gone_of wait_of gap_over_of
tail_ends p D e high r a t out ook qc ql qp qf h =
    rw (qc, ql, qp, qf, lt-ltb p.gap_steps r.run_len h, lt-ltb p.pre_timeout r.run_len (omega (arith, D.pre_timeout.1))) (either (λ (r : Done × List ℕ). r.0.next ≡ Idle) (has_pulses_of t) refl refl)
