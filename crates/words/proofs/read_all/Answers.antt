-- The words read so far and those of the rest are the whole list's.
use borrow.Author.Rules.{rules}
use lib.ListN.{length-set}
use mathlib.Core.Path.{refl, sym, ◌∙◌}
use native.Mathlib.Omega.{arith}
use Rattle.words.proofs.WordLoops.{read_turn, read_end}
use Rattle.words.proofs.read_all.Goals as goal

pub loop-i-preserved : goal.loop-i-preserved
loop-i-preserved c =
    let inv = c.loop-i.invariant in (
      read_turn _ _ _ _ _ c.requires inv.1 (omega (arith, inv.1, c.loop-i-test.true)) c.u32_at.ensures ∙ inv.0,
      simp length-set inv.1,
      simp length-set (omega arith),
    )

pub returns : goal.returns
returns c =
    let inv = c.loop-i.invariant in
    sym (read_end _ _ _ _ c.requires inv.1 (omega (arith, inv.1, c.loop-i-test.false))) ∙ inv.0

pub loop-i-init : goal.loop-i-init
loop-i-init c = (refl, refl, search rules)

pub loop-i-smaller : goal.loop-i-smaller
loop-i-smaller c = simp length-set (omega arith)
