-- In lead or in a burst, the definition with the same tests gives the answer.
use mathlib.Core.Path.{ap, sym, ◌∙◌}
use mathlib.Core.List.{List}
use Prim.Native.Nat.{ℕ}
use native.Mathlib.Omega.{arith}
use borrow.Author.Tests.{eq-eqb, ne_eqb}
use Rattle.burst.specs.Types.{Burst}
use Rattle.lane.specs.Begin.{cleared_of}
use Rattle.lane.specs.Close.{idle_with, end_burst_of, close_of}
use Rattle.lane.specs.Step.{closed}
use Rattle.lane.proofs.Refusals.{close_left}
use Rattle.lane.proofs.close.Goals as goal
use Rattle.lane.proofs.close.Goals.{then-l-eq1, else-l-eq1}

pub overflow_add-serial : goal.overflow_add-serial
overflow_add-serial c = omega (arith, close_left c.args.l _ _ (sym c.close_refusal.ensures ∙ c.in_default.is))

pub returns : goal.returns
unfolding closed close_of idle_with
returns c =
    elim c.if-l-eq1.branch [
      | then-l-eq1 w ↦ simp (
        ← c.close_refusal.ensures,
        c.in_default.is,
        eq-eqb _ 1 w.if-l-eq1.true,
        w.ook-is,
        c.idle_with.ensures (cleared_of c.args.l.burst) (w.burst-is ∙ w.clear_records-burst.ensures),
      )
      | else-l-eq1 w ↦ let both = w.end_burst-burst.ensures in simp (
        ← c.close_refusal.ensures,
        c.in_default.is,
        ne_eqb _ 1 w.if-l-eq1.false,
        w.ook-is ∙ ap (λ (x : Burst × List ℕ). x.1) both,
        c.idle_with.ensures (end_burst_of c.args.l.burst c.args.ook.now).0 (w.burst-is ∙ ap (λ (x : Burst × List ℕ). x.0) both),
      )
    ]
