-- A slot past the end leaves the list (`set_out`).
use lib.Seq.{set_out}
use Rattle.std.proofs.Common.{sym}
use Rattle.shared.proofs.put.Goals as goal

pub returns-else-i-pairs : goal.returns-else-i-pairs
returns-else-i-pairs c = sym (set_out _ _ _ c.if-i-pairs.false)
