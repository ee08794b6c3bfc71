use Rattle.exports.specs.Leaf.{leaf_of}
use Rattle.exports.proofs.leaf.Goals as goal

pub returns-in-2 : goal.returns-in-2
unfolding leaf_of
returns-in-2 c = simp (c.in-2.is, ← c.f64_of_bits-in-2.ensures, ← c.of_numbers.ensures)
