use Rattle.std.proofs.Common.{◌∷◌, List, ℕ, ◌∙◌, ap, arith}
use Rattle.lines.specs.Line.{hex8}
use Rattle.lines.proofs.Hex.{hex_turn, hex_all}
use Rattle.lines.proofs.Writers.{then, same, within, none}
use Rattle.lines.proofs.Text.put_float.Goals as goal

pub loop-k-init : goal.loop-k-init
loop-k-init c = none _ _

pub loop-k-preserved : goal.loop-k-preserved
loop-k-preserved c =
    let n = c.bits_of_f32-n.result in
    let k = c.loop-k.k in
    within _ (omega arith) (same (rw (c.glyph.ensures) (hex_turn n k c.loop-k-test.true c.loop-k.auto.k)) (then c.loop-k.invariant c.put_byte-in-loop-k.ensures))

pub returns : goal.returns
returns c =
    let bits = hex_all c.bits_of_f32-n.result c.loop-k.k c.loop-k-test.false ∙ ap hex8 c.bits_of_f32-n.ensures in
    within _ (omega arith) (same (ap (λ (l : List ℕ). 32 ∷ l) bits) (then c.put_byte.ensures c.loop-k.invariant))
