use Rattle.calls.proofs.shown.Goals as goal

pub returns-then-is_err : goal.returns-then-is_err
returns-then-is_err g c = simp (← c.is_err.ensures.value, c.if-is_err.true) (cc)

pub returns : goal.returns
returns g c = simp (← c.is_err.ensures.value, c.if-is_err.false) c.part.ensures
