-- Refused; a sample that does not fill the lead-in; and where the ways meet that samples are taken on, one of the burst, or those of the lead-in
-- that this one fills: each is a law of proofs/Ways.
use Prim.Native.Nat.{◌+◌}
use mathlib.Core.Path.{◌≡◌, refl, ap, sym, ◌∙◌}
use mathlib.Core.List.{List}
use lib.Ieee.{Float}
use lib.ListN.{length}
use Rattle.std.proofs.Common.{rules}
use Rattle.std.specs.Prelude.{Ok}
use Rattle.burst.specs.Core.{at_in_of}
use borrow.Author.Tests.{lt-ltb, le-ltb}
use Rattle.step.proofs.Ways.{core_of, core_fills, core_samples}
use Rattle.step.proofs.step_core.Goals as goal
use Rattle.step.proofs.step_core.Goals.{then-leads+else-m-len, else-leads}

long : {xs ys : List Float} → xs ≡ ys → length xs ≡ length ys
long e = ap (λ (x : List Float). length x) e

pub returns-in-Err : goal.returns-in-Err
returns-in-Err c = (simp (← c.core_refusal.ensures, c.in-Err.is), refl, refl, refl)

pub returns-then-m-len : goal.returns-then-m-len
returns-then-m-len c =
    let args = c.args in
    let adds = c.lead_add.ensures in (
      core_fills args.c args.s args.es.now args.re.now args.im.now args.ring.now args.cs.now args.ook.now args.fsk.now
          c.core_refusal.result _ c.core_refusal.ensures _ c.clear_core.result c.in_default.is
          c.ring_put.ensures c.clear_core.ensures c.lead_add.new.es c.lead_add.new.re c.lead_add.new.im (core_of args.c args.c.phase args.s.index args.s.x c.lead_add.result c.clear_core.result (args.c.serial + 1))
          c.lead_add.result c.lead_len-len.result _ _ _ refl refl refl c.if-leads.true-raw adds.0 c.lead_len-len.ensures (lt-ltb _ _ c.if-m-len.true) refl
          _ refl,
      adds.1,
      adds.2,
      adds.3,
    )

pub returns : goal.returns
returns c =
    let args = c.args in
    let told =
    core_samples args.c args.s args.es.now args.re.now args.im.now args.ring.now args.cs.now args.ook.now args.fsk.now
    c.core_refusal.result _ c.core_refusal.ensures _ c.clear_core.result c.in_default.is
    c.ring_put.ensures c.clear_core.ensures c.if-leads.es c.if-leads.re c.if-leads.im c.if-leads.m
    c.samples-w.result _ _ _ c.at_of-q.result _ c.if-leads.n c.phase_of.result (Ok c.samples-w.result.next)
    c.at_of-q.ensures c.phase_of.ensures refl (c.samples-w.ensures (at_in_of _ c.at_of-q.result c.if-leads.es c.if-leads.re c.if-leads.im) (λ i a below given. search rules)) in
    elim c.if-leads.branch [
      | then-leads+else-m-len w ↦ (
        told.1 w.lead_add.result w.lead_len-len.result w.first_burst-m.result _ _ _ w.es-is w.re-is w.im-is w.if-leads.true-raw w.if-leads.true-raw w.lead_add.ensures.0
            (w.lead_add.ensures.2 ∙ c.requires.1 ∙ sym c.requires.2 ∙ sym w.lead_add.ensures.3) w.lead_len-len.ensures (le-ltb _ _ w.if-m-len.false) w.n-is w.first_burst-m.ensures w.m-is,
        long w.es-is ∙ w.lead_add.ensures.1,
        long w.re-is ∙ w.lead_add.ensures.2,
        long w.im-is ∙ w.lead_add.ensures.3,
      )
      | else-leads w ↦ (told.0 w.if-leads.false-raw w.if-leads.false-raw w.n-is w.es-is w.re-is w.im-is w.m-is, long w.es-is, long w.re-is, long w.im-is)
    ]
