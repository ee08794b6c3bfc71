-- A slot that rises takes one call, and a call that gives none ends the walk.
use Rattle.std.proofs.Common.{◌≡◌, None, rules}
use mathlib.Core.Path.{refl}
use Rattle.fit.proofs.Passes.{left_start, left_call, left_try, left_stop, left_flat, left_end}
use Rattle.fit.proofs.try_transitions.Goals as goal
use Rattle.fit.proofs.try_transitions.Goals.{then-before-v+in_ok-s, else-before-v}

pub loop-v-init : goal.loop-v-init
loop-v-init g c = left_start _ _ _ _ c.requires

pub step-requires : goal.step-requires
step-requires g c = left_call c.loop-v.invariant c.loop-v-test.true c.if-before-v.true c.time_of.ensures

pub returns-in_err-s : goal.returns-in_err-s
returns-in_err-s g c =
    let none : c.step.result ≡ None = search rules in
    let answer : c.from_residual.result ≡ None = search rules in
    rw answer (left_stop c.loop-v.invariant c.loop-v-test.true c.if-before-v.true c.time_of.ensures (rw (← none) c.step.ensures))

pub loop-v-preserved : goal.loop-v-preserved
loop-v-preserved g c =
    elim c.if-before-v.branch [
      | then-before-v+in_ok-s w ↦
          rw (w.s-is, w.before-is) (left_try c.loop-v.invariant c.loop-v-test.true w.if-before-v.true w.time_of.ensures _ w.in_ok-s.ensures)
      | else-before-v w ↦ rw (w.s-is, w.before-is) (left_flat c.loop-v.invariant c.loop-v-test.true w.if-before-v.false)
    ]

pub returns : goal.returns
returns g c = left_end c.loop-v.invariant _ c.loop-v-test.false refl
