use mathlib.Core.Path.{refl}
use native.Mathlib.Omega.{arith}
use lib.ListN.{length-set}
use Rattle.lines.specs.Line.{put}
use Rattle.lines.proofs.Text.put_byte.Goals as goal

pub returns : goal.returns
unfolding put
returns c = record { same = refl; long = length-set _ _ _; put = record { text = refl; near = omega arith } }
