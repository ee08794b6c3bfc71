use Rattle.std.proofs.Common.{◌≡◌, Bool, true, false, cond, refl}
use Rattle.run.specs.Run.{with_confirmed}
use Rattle.presence.specs.declared.Pres.{Pres}
use Rattle.presence.specs.Move.{with_run}
use Rattle.presence.specs.Presence.{sure_if_of, presence_of}
use Rattle.presence.proofs.presence.Goals as goal

-- the run of a presence that is due to count, in its struct
sure_held : (due : Bool) (s : Pres) → sure_if_of due s ≡ with_run (cond due (with_confirmed 1 s.run) s.run) s
unfolding sure_if_of
sure_held true s = refl
sure_held false s = refl

pub returns : goal.returns
unfolding presence_of
returns c =
    simp (← c.advance-l.ensures, ← c.due-due.ensures, ← c.ends_of-ends.ensures, sure_held, ← c.confirm_if.ensures, ← c.end_if-ended.ensures, ← c.carrier_if.ensures)
