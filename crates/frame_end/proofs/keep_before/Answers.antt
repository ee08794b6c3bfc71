-- By its loop's law, what is left from here gives the whole.
use Rattle.std.proofs.Common.{sym, ◌∙◌}
use native.Mathlib.Numerals.{unary_clauses}
use Rattle.frame_end.specs.Cut.{keep_before_of}
use Rattle.frame_end.proofs.Cut.{kept_over, kept_next, kept_end}
use Rattle.frame_end.proofs.keep_before.Goals as goal

pub loop-k-init : goal.loop-k-init
unfolding keep_before_of
loop-k-init c = simp (unary_clauses, c.start_kept-s.ensures)

pub returns-then-s-limit : goal.returns-then-s-limit
returns-then-s-limit c = sym (kept_over _ _ _ _ _ _ c.loop-k-test.true c.if-s-limit.true) ∙ c.loop-k.invariant

pub loop-k-preserved : goal.loop-k-preserved
loop-k-preserved c = sym (kept_next _ _ _ _ _ _ _ _ _ c.loop-k-test.true c.if-s-limit.false c.get.ensures c.gap_at.ensures c.keep_next-s.ensures) ∙ c.loop-k.invariant

pub returns-after-loop-k : goal.returns-after-loop-k
returns-after-loop-k c = sym (kept_end _ _ _ _ _ _ c.loop-k-test.false) ∙ c.loop-k.invariant
