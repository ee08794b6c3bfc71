-- What the commands taken say, with their lines in the text, where it has room.
use mathlib.Core.Path.{refl}
use lib.ListN.{length}
use Rattle.sixteen.proofs.Taken.{room_spoken, turn_told}
use Rattle.sixteen.proofs.turn.Goals as goal

pub put_answer-at-requires : goal.put_answer-at-requires
put_answer-at-requires c = room_spoken _ (length c.args.text.now) c.args.at _ _ _ _ c.requires.2 c.pass-g.ensures.shown

pub returns : goal.returns
returns c =
    let g = c.pass-g in
    turn_told _ _ _ _ _ _ _ g.result _ _ refl g.ensures (room_spoken _ (length c.args.text.now) c.args.at _ _ _ _ c.requires.2 g.ensures.shown) c.put_answer-at.ensures
