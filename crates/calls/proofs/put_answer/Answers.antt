-- A refused call prints no record, and the others their parts.
use Rattle.calls.proofs.Laws.{in_number, answered}
use Rattle.calls.proofs.put_answer.Goals as goal

pub returns : goal.returns
returns c =
    answered _ _ c.args.ook.now c.args.fsk.now _ _ _ _ _ _ _ _ c.requires (in_number c.args.r _ c.map_err.ensures.cases)
    c.shown-fs.ensures c.shown-os.ensures c.call_lines.ensures c.unwrap_or.ensures
