use mathlib.Core.Path.{sym, ap, ◌∙◌}
use Rattle.calls.specs.Turn.{waits}
use Rattle.calls.proofs.Laws.{room_shown}
use Rattle.calls.proofs.Taken.{turn_made, turn_full}
use Rattle.calls.proofs.turn.Goals as goal

pub returns-then-not-has_room_for-clause-turned : goal.returns-then-not-has_room_for-clause-turned
returns-then-not-has_room_for-clause-turned c =
    turn_full _ _ _ _ _ _ (ap (waits c.args.last) (sym c.decode_at-k.ensures) ∙ sym c.waits.ensures ∙ c.if-waits.false) c.requires.2 (sym c.has_room_for.ensures ∙ c.if-not-has_room_for.true)

pub put_answer-at-requires : goal.put_answer-at-requires
put_answer-at-requires c = room_shown _ _ _ _ c.pass-g.ensures.shown (sym c.has_room_for.ensures ∙ c.if-not-has_room_for.false)

pub returns-clause-turned : goal.returns-clause-turned
returns-clause-turned c =
    turn_made _ _ _ _ _ _ _ _ _ _ _ (ap (waits c.args.last) (sym c.decode_at-k.ensures) ∙ sym c.waits.ensures ∙ c.if-waits.false) c.pass-g.ensures
    (sym c.has_room_for.ensures ∙ c.if-not-has_room_for.false) c.put_answer-at.ensures
