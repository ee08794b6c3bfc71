use Rattle.among.proofs.Laws.{settled_call, settled_answer}
use Rattle.among.proofs.call.Goals as goal

pub returns : goal.returns
returns c = settled_call _ _ _ _ _ _ _ c.call-a.ensures (settled_answer _ _ _ _ _ c.settle-reply.ensures)
