-- What feeding a program's bytes to it says (`feeds_more` and `feeds_over` in proofs/Feeds: feed after feed, its lines are those of the whole
-- stream).
use Rattle.std.specs.Prelude.{ℕ, ◌≤◌, Bool, cond, ◌≡◌, List, length, take, drop}
use Rattle.stream.specs.declared.Stop.{Stop}
use Rattle.stream.specs.declared.Stop.TheVariants.{Waiting, NoRoom, Ended}
use Rattle.stream.specs.declared.Ran.{Ran}
use Rattle.stream.specs.declared.Fed.{Fed}
use Rattle.stream.specs.Machine.{Machine}
use Rattle.stream.specs.Blocks.{Streamed}

-- the stream is over too where the next command would wait for bytes and none will come
abbrev pub stop_of : Bool → Stop → Stop
stop_of last Waiting = cond last Ended Waiting
stop_of last NoRoom = NoRoom
stop_of last Ended = Ended

-- the bytes s are a block, of which the text y has the lines; what no command has taken is at the front of the buffer b; and the stream is
-- over where the block ended it, or where no byte will come and the text had room for every call
pub record Feeds (M : Machine) (p : M.State) (s : List ℕ) (last : Bool) (f : Fed) (q : M.State) (b y : List ℕ) : Type 0 where
  pub ran : Ran
  pub block : Streamed M p s last ran q y
  pub inside : f.left ≤ length b
  pub kept : take f.left b ≡ drop ran.used s
  pub at_is : f.at ≡ ran.at
  pub stop_is : f.stop ≡ stop_of last ran.stop
