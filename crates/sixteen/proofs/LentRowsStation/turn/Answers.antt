-- The rows that are lent are those of the antenna's lane, and the count beside the lanes follows it.
use mathlib.Core.Path.{refl, sym, ap, ◌∙◌}
use Rattle.calls.specs.Turn.{waits}
use Rattle.among.proofs.Laws.{counted}
use Rattle.sixteen.specs.Lent.{rows_of}
use Rattle.sixteen.proofs.Rows.{sized_put, sound_set}
use Rattle.sixteen.proofs.Turns.{lent_among, lent_sound, lent_left, lent_fits, lent_count, turn_row, turn_full}
use Rattle.sixteen.proofs.LentRowsStation.turn.Goals as goal

pub returns-then-not-has_room_for-clause-turned : goal.returns-then-not-has_room_for-clause-turned
returns-then-not-has_room_for-clause-turned c =
    let among = lent_among c.args.self.now c.requires.0 c.antenna_at-antenna.result c.row_of-j.result c.row_of-j.ensures _ _ refl in
    turn_full (rows_of c.args.self.now) _ _ _ _ _ c.antenna_at-antenna.result _ among.own
    (ap (waits c.args.last) (sym c.command_at-command.ensures) ∙ sym c.waits.ensures ∙ c.if-waits.false) c.antenna_at-antenna.ensures.0
    (sym c.has_room_for.ensures ∙ c.if-not-has_room_for.true)

pub overflow_sub-others : goal.overflow_sub-others
overflow_sub-others c = lent_left c.args.self.now c.requires.0 c.antenna_at-antenna.result c.row_of-j.result c.row_of-j.ensures _ _ (c.from.ensures ∙ counted c.is_out.result ∙ c.is_out.ensures)

pub turn-t-requires : goal.turn-t-requires
turn-t-requires c = (
  record { inside = c.requires.1; command_is = c.command_at-command.ensures; antenna_is = c.antenna_at-antenna.ensures.0 },
  lent_sound c.args.self.now c.requires.0 c.antenna_at-antenna.result c.row_of-j.result c.row_of-j.ensures _,
  sym c.has_room_for.ensures ∙ c.if-not-has_room_for.false,
)

pub overflow_add-out : goal.overflow_add-out
overflow_add-out c =
    record {
      fits =
          lent_fits c.args.self.now c.requires.0 c.antenna_at-antenna.result c.row_of-j.result c.row_of-j.ensures _ _ (c.from.ensures ∙ counted c.is_out.result ∙ c.is_out.ensures) c.turn-t.new.lane _
          (c.from-2.ensures ∙ counted c.is_out-2.result ∙ c.is_out-2.ensures);
    }

pub returns-clause-turned : goal.returns-clause-turned
returns-clause-turned c =
    turn_row _ (rows_of c.args.self.now) _ (c.turn-t.new.lane, c.turn-t.new.ook, c.turn-t.new.fsk) c.row_of-j.result _ _ _ _ _ _ _
    (lent_among c.args.self.now c.requires.0 c.antenna_at-antenna.result c.row_of-j.result c.row_of-j.ensures _ _ (c.from.ensures ∙ counted c.is_out.result ∙ c.is_out.ensures)) c.row_of-j.ensures
    (ap (waits c.args.last) (sym c.command_at-command.ensures) ∙ sym c.waits.ensures ∙ c.if-waits.false) c.turn-t.ensures

pub returns-clause-sound : goal.returns-clause-sound
returns-clause-sound c =
    record {
      sized = sized_put (rows_of c.args.self.now) c.row_of-j.result (c.turn-t.new.lane, c.turn-t.new.ook, c.turn-t.new.fsk) c.requires.0.sized;
      lanes = sound_set c.args.self.now.lanes c.row_of-j.result c.turn-t.new.lane c.requires.0.lanes c.turn-t.ensures.sound;
      count =
          lent_count c.args.self.now c.requires.0 c.antenna_at-antenna.result c.row_of-j.result c.row_of-j.ensures _ _ (c.from.ensures ∙ counted c.is_out.result ∙ c.is_out.ensures) c.turn-t.new.lane _
          (c.from-2.ensures ∙ counted c.is_out-2.result ∙ c.is_out-2.ensures);
    }
