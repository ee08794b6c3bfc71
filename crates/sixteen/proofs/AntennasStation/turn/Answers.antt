-- The channel that is asked is that of its antenna's row, and the count beside the channels follows its lane.
use mathlib.Core.Path.{refl, sym, ap, ◌∙◌}
use Rattle.calls.specs.Turn.{waits}
use Rattle.among.proofs.Laws.{counted}
use Rattle.sixteen.specs.Spoken.{state_of}
use Rattle.sixteen.proofs.Turns.{asked_among, sound_there, others_left, out_fits, sound_after, turn_put, turn_full}
use Rattle.sixteen.proofs.AntennasStation.turn.Goals as goal

pub returns-then-not-has_room-clause-turned : goal.returns-then-not-has_room-clause-turned
returns-then-not-has_room-clause-turned c =
    let among = asked_among c.args.self.now c.requires.0 c.antenna_at-antenna.result c.row_of-j.result c.row_of-j.ensures _ _ refl in
    turn_full (state_of c.args.self.now) _ _ _ _ _ c.antenna_at-antenna.result _ among.own
    (ap (waits c.args.last) (sym c.command_at-command.ensures) ∙ sym c.waits.ensures ∙ c.if-waits.false) c.antenna_at-antenna.ensures.0
    (sym c.has_room.ensures ∙ c.if-not-has_room.true)

pub overflow_sub-others : goal.overflow_sub-others
overflow_sub-others c = others_left c.args.self.now c.requires.0 c.antenna_at-antenna.result c.row_of-j.result c.row_of-j.ensures _ _ (c.from.ensures ∙ counted c.is_out.result ∙ c.is_out.ensures)

pub turn-t-requires : goal.turn-t-requires
turn-t-requires c = (
  record { inside = c.requires.1; command_is = c.command_at-command.ensures; antenna_is = c.antenna_at-antenna.ensures.0 },
  sound_there c.args.self.now c.requires.0 c.antenna_at-antenna.result c.row_of-j.result c.row_of-j.ensures _,
  sym c.has_room.ensures ∙ c.if-not-has_room.false,
)

pub overflow_add-self : goal.overflow_add-self
overflow_add-self c =
    record {
      fits =
          out_fits c.args.self.now c.requires.0 c.antenna_at-antenna.result c.row_of-j.result c.row_of-j.ensures _ _ (c.from.ensures ∙ counted c.is_out.result ∙ c.is_out.ensures) c.turn-t.new.self.lane _
          (c.from-2.ensures ∙ counted c.is_out-2.result ∙ c.is_out-2.ensures);
    }

pub returns-clause-turned : goal.returns-clause-turned
returns-clause-turned c =
    turn_put _ c.args.self.now.channels _ c.turn-t.new.self c.row_of-j.result _ _ _ _ _ _ _
    (asked_among c.args.self.now c.requires.0 c.antenna_at-antenna.result c.row_of-j.result c.row_of-j.ensures _ _ (c.from.ensures ∙ counted c.is_out.result ∙ c.is_out.ensures)) c.row_of-j.ensures
    (ap (waits c.args.last) (sym c.command_at-command.ensures) ∙ sym c.waits.ensures ∙ c.if-waits.false) c.turn-t.ensures

pub returns-clause-sound : goal.returns-clause-sound
returns-clause-sound c =
    sound_after c.args.self.now c.requires.0 c.antenna_at-antenna.result c.row_of-j.result c.row_of-j.ensures _ _ (c.from.ensures ∙ counted c.is_out.result ∙ c.is_out.ensures) c.turn-t.new.self _
    (c.from-2.ensures ∙ counted c.is_out-2.result ∙ c.is_out-2.ensures) c.turn-t.ensures.sound
