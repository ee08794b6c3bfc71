use Prim.Native.Nat.{ℕ, ◌+◌, ◌-◌}
use mathlib.Core.Path.{◌≡◌, sym, ap, ◌∙◌}
use mathlib.Core.List.{◌++◌}
use native.Mathlib.Omega.{arith}
use lib.ListN.{length, drop, length-set}
use borrow.Author.Rules.{rules}
use Rattle.lines.specs.Line.{leading}
use Rattle.lines.proofs.Laws.{spell_turn, spell_start, spell_none, spell_full}
use Rattle.lines.proofs.spell.Goals as goal

pub loop-i-init : goal.loop-i-init
loop-i-init c =
    let e : length c.args.out.now ≡ 20 = c.requires in
    (spell_start c.args.out.now c.args.n e, length-set c.args.out.now 19 _ ∙ e)

pub returns-then-rest-eq0 : goal.returns-then-rest-eq0
returns-then-rest-eq0 c =
    let l = c.loop-i in
    let e : l.i - 1 + 1 ≡ l.i = omega arith in
    record {
      inside = omega arith;
      digits = ap (λ (i : ℕ). drop i l.out) e ∙ spell_none l.out l.i ∙ ap (λ (r : ℕ). leading l.i r ++ drop l.i l.out) (sym c.if-rest-eq0.true) ∙ l.invariant.0;
    }

pub loop-i-preserved : goal.loop-i-preserved
loop-i-preserved c =
    let l = c.loop-i in
    (spell_turn l.out l.i l.rest (omega arith) (omega arith) (omega arith) ∙ l.invariant.0, length-set l.out (l.i - 1) _ ∙ l.invariant.1)

pub returns : goal.returns
returns c =
    let l = c.loop-i in
    let z : 0 ≡ l.i = omega arith in
    record { inside = search rules; digits = ap (λ (i : ℕ). drop i l.out) z ∙ spell_full l.out l.i l.rest (omega arith) ∙ l.invariant.0 }
