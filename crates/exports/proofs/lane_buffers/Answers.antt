-- The block is the whole stream.
use mathlib.Core.Path.{sym, subst}
use Rattle.reached.specs.Reached.{Sound, unopened}
use Rattle.exports.proofs.Left.{left_within}
use Rattle.exports.proofs.lane_buffers.Goals as goal

pub returns : goal.returns
returns c =
    left_within _ _ _ _ _ _ _ _ _ c.new_lane.ensures c.block.ensures.streamed

pub block-requires : goal.block-requires
block-requires c = subst Sound (sym c.new_lane.ensures) unopened
