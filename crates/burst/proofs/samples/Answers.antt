-- By its loop's law, what is left from here gives the whole. An end stays the end (`samples_stop`), so that
-- the loop may stop there.
use Rattle.std.proofs.Common.{◌≡◌, ℕ, zero, suc, ◌+◌, ◌-◌, ◌<◌, ◌≤◌, true, false, List, sym, refl, ap, ◌∙◌, arith, rules}
use lib.Ieee.{Float}
use borrow.Author.Tests.{not-true, not-false}
use Rattle.shared.specs.Answers.{is_stay_of}
use Rattle.shared.specs.declared.Settings.{Settings}
use Rattle.envelope.specs.declared.At.{At}
use Rattle.burst.specs.Sample.{sample_of}
use Rattle.burst.specs.Lead.{onward}
use Rattle.burst.specs.Core.{samples_from}
use Rattle.burst.specs.Types.{Sampled}
use Rattle.burst.proofs.samples.Goals as goal
use Rattle.burst.proofs.samples.Goals.{else-loop-i-test, then-loop-i-test+then-not-is_stay}

module _ (p : Settings) (at : ℕ → At) (ring : List Float) where
  -- an end stays the end
  samples_stop : (k i : ℕ) (s : Sampled × List ℕ × List ℕ) → is_stay_of s.0.next ≡ false → samples_from p at ring k i s ≡ s
  unfolding samples_from
  samples_stop zero i s h = refl
  samples_stop (suc k) i s h = rw h (samples_stop k (i + 1) s h)

  samples_end : (n i : ℕ) (s : Sampled × List ℕ × List ℕ) → n ≤ i → samples_from p at ring (n - i) i s ≡ s
  unfolding samples_from
  samples_end n i s h = let e : n - i ≡ 0 = omega arith in rw e

  -- a turn of the loop
  samples_turn : (n i : ℕ) (s : Sampled × List ℕ × List ℕ) (a : At) (r : Sampled × List ℕ × List ℕ) → i < n → is_stay_of s.0.next ≡ true → a ≡ at i
      → r ≡ sample_of p a ring s.0.burst s.1 s.2 → samples_from p at ring (n - (i + 1)) (i + 1) r ≡ samples_from p at ring (n - i) i s
  unfolding samples_from
  samples_turn n i s a r h stays ea er =
      let e : n - i ≡ suc (n - (i + 1)) = omega arith in
      let one : onward p (at i) ring s ≡ sample_of p (at i) ring s.0.burst s.1 s.2 = rw stays in
      ap (samples_from p at ring (n - (i + 1)) (i + 1)) (er ∙ ap (λ (x : At). sample_of p x ring s.0.burst s.1 s.2) ea ∙ sym one) ∙ rw e

pub loop-i-preserved : goal.loop-i-preserved
loop-i-preserved g c = (
  λ at reads. samples_turn _ _ _ _ _ _ _ _ c.loop-i-test.true c.loop-i.invariant.1 (reads _ _ c.loop-i-test.true c.read.ensures) c.sample-w.ensures ∙ c.loop-i.invariant.0 at reads,
  sym c.is_stay.ensures ∙ not-false _ c.if-not-is_stay.false-raw,
  search rules,
  search rules,
  search rules,
)

pub returns : goal.returns
returns g c = λ at reads. elim c.loop-i-test.branch [
  | else-loop-i-test w ↦ rw (w.cs-is, w.ook-is, w.fsk-is, w.w-is) (sym (samples_end _ _ _ _ _ _ w.loop-i-test.false) ∙ c.loop-i.invariant.0 at reads)
  | then-loop-i-test+then-not-is_stay w ↦
      rw (w.cs-is, w.ook-is, w.fsk-is, w.w-is)
      (sym (samples_stop _ _ _ _ _ _ (sym w.is_stay.ensures ∙ not-true _ w.if-not-is_stay.true-raw))
      ∙ samples_turn _ _ _ _ _ _ _ _ w.loop-i-test.true c.loop-i.invariant.1 (reads _ _ w.loop-i-test.true w.read.ensures) w.sample-w.ensures
      ∙ c.loop-i.invariant.0 at reads)
]
