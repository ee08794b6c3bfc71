-- The remainder and what is missing to u tell the three cases of `closest`.
use Rattle.ieee.proofs.Values.{closest_below, closest_above, closest_tie}
use Rattle.ieee.proofs.closest_div.Goals as goal

pub returns-then-rest-over : goal.returns-then-rest-over
returns-then-rest-over c = closest_below _ _ c.requires.1 c.if-rest-over.true

pub returns-then-over-rest : goal.returns-then-over-rest
returns-then-over-rest c = closest_above _ _ c.requires.1 c.if-over-rest.true

pub returns-else-over-rest : goal.returns-else-over-rest
returns-else-over-rest c = closest_tie _ _ c.requires.1 c.if-rest-over.false c.if-over-rest.false
