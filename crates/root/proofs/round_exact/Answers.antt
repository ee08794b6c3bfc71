-- What is kept is rounded in one of two ways (`RootAssembled.antt`).
use Rattle.std.proofs.Common.{sym, ◌∙◌, arith}
use lib.Ieee.{binary32}
use Rattle.ieee.proofs.Nan.{plain_read}
use Rattle.root.proofs.RootAssembled.{assembled, with_more, with_none}
use Rattle.root.proofs.round_exact.Goals as goal
use Rattle.root.proofs.round_exact.Goals.{then-e, else-e}

pub float_from_bits-result : goal.float_from_bits-result
float_from_bits-result c =
    elim c.if-e.branch [
      | then-e w ↦ plain_read binary32 _ (omega (arith, w.kept-is))
      | else-e w ↦ plain_read binary32 _ (omega (arith, w.kept-is))
    ]

pub returns : goal.returns
returns c =
    let e = c.args.e in
    elim c.if-e.branch [
      | then-e w ↦ assembled e.root e.more e.power c.if-e.kept (with_more e.root e.more w.if-e.true ∙ sym w.kept-is) (omega (arith, w.kept-is)) (omega (arith, w.kept-is)) c.requires.2
      | else-e w ↦ assembled e.root e.more e.power c.if-e.kept (with_none e.root e.more w.if-e.false ∙ sym w.kept-is) (omega (arith, w.kept-is)) (omega (arith, w.kept-is)) c.requires.2
    ]
