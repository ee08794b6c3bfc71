use mathlib.Core.Path.{◌≡◌, ap, ◌∙◌}
use native.Mathlib.Omega.{arith}
use Prim.Native.Nat.{ℕ, ◌-◌, ◌*◌, ◌≤◌}
use lib.ListN.{length}
use Rattle.std.proofs.Common.{rules}
use Rattle.lines.proofs.Writers.{then, same, within, none, at_start}
use Rattle.table.specs.Rule.{rule_of}
use Rattle.roots.specs.Text.{lines_of}
use Rattle.roots.proofs.Written.{turn}
use Rattle.roots.proofs.put_lines.Goals as goal

pub loop-i-init : goal.loop-i-init
unfolding lines_of
loop-i-init c = none _ _

pub loop-i-preserved : goal.loop-i-preserved
loop-i-preserved c =
    let i = c.loop-i.i in
    within _ (omega arith) (same (turn i _ (omega arith) c.rule.ensures) (then c.loop-i.invariant c.put_line.ensures))

pub returns : goal.returns
returns c =
    let l = c.loop-i in
    let last : l.i ≡ 1024 = omega arith in
    let room : 21 * (l.i - 256) ≤ length c.new-t.result.bytes.now = omega (arith, ap length c.new-t.ensures.held) in
    let p = at_start c.new-t.ensures.place room l.invariant (search rules) in
    record { inside = p.1; text = p.2 ∙ ap (λ (i : ℕ). lines_of rule_of (i - 256) 256) last }
