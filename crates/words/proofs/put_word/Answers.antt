use Rattle.std.proofs.Common.{arith, ◌∙◌}
use Rattle.words.proofs.Places.{put_four}
use Rattle.words.proofs.put_word.Goals as goal

pub returns : goal.returns
returns c = put_four c.args.bytes.now _ c.args.p _ c.args.v (omega (arith, c.requires)) (omega arith) (c.copy_from_slice.ensures.after ∙ c.to_le_bytes.ensures)
