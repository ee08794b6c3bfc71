-- The bytes written so far and those of the rest are the whole list's.
use borrow.Author.Rules.{rules}
use mathlib.Core.Path.{refl, sym, ◌∙◌}
use Rattle.words.proofs.WordLoops.{write_turn, write_length, write_end}
use Rattle.words.proofs.write_all.Goals as goal

pub loop-i-preserved : goal.loop-i-preserved
loop-i-preserved c =
    let inv = c.loop-i.invariant in
    let put = c.put_word.ensures in (
      write_turn _ _ _ _ _ c.requires inv.1 c.loop-i-test.true put ∙ inv.0,
      write_length _ _ _ _ _ inv.1 put,
      search rules,
    )

pub returns : goal.returns
returns c =
    let inv = c.loop-i.invariant in
    sym (write_end _ _ _ _ c.requires inv.1 c.loop-i-test.false) ∙ inv.0

pub loop-i-init : goal.loop-i-init
loop-i-init c = (refl, refl, search rules)
