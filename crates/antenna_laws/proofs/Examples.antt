-- Every row of the examples holds: by computation from the definitions that the contracts cite.
use mathlib.Core.Path.{refl}
use Rattle.calls.specs.Turn.{called}
use Rattle.pulses.specs.Ran.{ran}
use Rattle.among.specs.Among.{begin_refusal_among, begun_among, called_among, out_of, outs, answer_to, after_call}
use Rattle.antenna_laws.specs.Examples.{last_reply, shown, lows, table, Right}

pub shown_right : Right table
unfolding shown last_reply lows ran called begin_refusal_among begun_among called_among out_of outs answer_to after_call
shown_right = refl
