use mathlib.Core.Path.{sym, ◌∙◌}
use native.Mathlib.Omega.{arith}
use Rattle.lines.proofs.Writers.{same, within, none}
use Rattle.lane.specs.Answers.{answer_of}
use Rattle.sixteen.proofs.Taken.{none_spoken, heard_spoken, quiet_spoken}
use Rattle.sixteen.proofs.put_spoken.Goals as goal

pub returns-in-Err : goal.returns-in-Err
returns-in-Err c =
    let a = c.args in
    within _ (omega arith) (same (none_spoken a.q.antenna a.q.command _ (answer_of a.r a.l.now, a.ook.now, a.fsk.now) c.in-Err.is) c.put_none.ensures)

pub returns-then-quiet : goal.returns-then-quiet
returns-then-quiet c =
    let a = c.args in
    same (quiet_spoken a.q.antenna a.q.command _ a.r a.l.now a.ook.now a.fsk.now c.in_default.is (sym c.is_quiet-quiet.ensures ∙ c.if-quiet.true)) (none _ _)

pub returns : goal.returns
returns c =
    let a = c.args in
    same (heard_spoken a.q.antenna a.q.command _ (answer_of a.r a.l.now, a.ook.now, a.fsk.now) c.in_default.is) c.put_heard.ensures
