-- The lane's own answer with refusal 12 in its place, or the refusal of an antenna that is not there.
use mathlib.Core.Path.{◌∙◌}
use borrow.Author.Tests.{lt-ltb, le-ltb}
use Rattle.among.proofs.Laws.{settled_answer, settled_call}
use Rattle.sixteen.proofs.Taken.{no_step, one_here, one_none}
use Rattle.sixteen.proofs.call_one.Goals as goal

pub returns-then-q-lt16 : goal.returns-then-q-lt16
returns-then-q-lt16 c =
    λ h.
    settled_call _ _ _ _ _ _ _ (c.call_other-a.ensures (no_step _ _ h (lt-ltb _ _ c.if-q-lt16.true))) (settled_answer _ _ _ _ _ c.settle-reply.ensures)
    ∙ one_here c.args.q _ (lt-ltb _ _ c.if-q-lt16.true)

pub returns : goal.returns
returns c = λ h. one_none c.args.q _ _ (le-ltb _ _ c.if-q-lt16.false) c.no_antenna.ensures
