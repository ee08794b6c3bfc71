use Prim.Native.Nat.{◌-◌, ◌^◌, ◌<◌}
use mathlib.Core.Path.{◌≡◌}
use lib.ListN.{length}
use Rattle.std.specs.Prelude.{Some}
use Rattle.lane.specs.declared.Lane.{Lane}
use Rattle.step.specs.Core.{joined_of}
use Rattle.reached.specs.Reached.{Sound}
use Rattle.calls.specs.Turn.{State}
use Rattle.calls.specs.Steps.{Went}
use Rattle.calls.proofs.Silent.{Steps}
use Rattle.calls.proofs.steps.Given as goal

abbrev pub invariant-loop-b : goal.invariant-loop-b
invariant-loop-b g v =
    let p : State = (joined_of v.initial.c v.initial.es v.initial.re v.initial.im v.initial.ring v.initial.cs, v.initial.ook, v.initial.fsk) in
    let l : Lane = joined_of v.c v.es v.re v.im v.ring v.cs in
    (length v.es ≡ 16) × (length v.re ≡ 17) × (length v.im ≡ 17) × (v.used < 2 ^ 64) × Sound p.0
    × Steps (Went (λ at b. goal.F-post g v.step_at at (Some b)) v.size p v.from) p v.from v.used v.reply (l, v.ook, v.fsk)

abbrev pub decreases-loop-b : goal.decreases-loop-b
decreases-loop-b g l = 2 ^ 64 - l.used
