-- `fsk_run_step` (source document 000): the run machine of the frequency levels.
use Rattle.std.specs.Prelude.{ℕ, Bool, false, cond, not, List, ◌==◌, nat_eq, Float}
use Rattle.shared.specs.Counts.{bit}
use Rattle.run.specs.Run.{with_confirmed, move_of, rejoin_of, begin_run_of, due_of}
use Rattle.run.specs.declared.Move.{Move}
use Rattle.run.specs.declared.Move.TheVariants.{Same, Glitch, Begins}
use Rattle.run.specs.Run as run
use Rattle.fsk.specs.Commit.{fsk_commit_of}
use Rattle.fsk.specs.Makers.{runs_of, with_run, ran_of, ran_by}
use Rattle.fsk.specs.declared.Committed.{Committed}
use Rattle.fsk.specs.declared.Runs.{Runs}
use Rattle.fsk.specs.declared.Ran.{Ran}

unfoldable pub lengthen_of : Runs → Runs
lengthen_of r = with_run (run.lengthen_of r.run) r

-- the run is confirmed: the one before it is final
unfoldable pub confirm_of : ℕ → Runs → Committed → Bool → List ℕ → Ran × List ℕ
confirm_of max_pulses r c upper fsk =
    cond (r.fsk_has_prev == 1)
    (ran_by (runs_of (with_confirmed 1 r.run) 0) (fsk_commit_of max_pulses c (not upper) r.run.t_prev r.run.t_run fsk))
    (ran_of (with_run (with_confirmed 1 r.run) r) c, fsk)

unfoldable pub confirm_due_of : ℕ → ℕ → Runs → Committed → Bool → List ℕ → Ran × List ℕ
confirm_due_of max_pulses fsk_min r c upper fsk = cond (due_of r.run fsk_min) (confirm_of max_pulses r c upper fsk) (ran_of r c, fsk)

-- a run that is over before it counts is a glitch only where the one before it still waits to be committed
unfoldable pub is_glitch_of : ℕ → ℕ → Bool
is_glitch_of confirmed fsk_has_prev = cond (confirmed == 0) (nat_eq fsk_has_prev 1) false

-- what a sample of this level does to the run
abbrev pub meets_of : Runs → ℕ → Move
meets_of r level = move_of (nat_eq level r.run.level) (is_glitch_of r.run.confirmed r.fsk_has_prev)

-- the runs after a sample of this level; the one before a run that begins waits for it to be confirmed
abbrev pub move_runs_of : Move → Runs → ℕ → Float → Runs
move_runs_of Same r level tc = lengthen_of r
move_runs_of Glitch r level tc = runs_of (rejoin_of r.run level) 0
move_runs_of Begins r level tc = runs_of (begin_run_of r.run level tc) 1

-- a glitch confirms nothing: the run that it goes back to is confirmed
unfoldable pub fsk_run_step_of : ℕ → ℕ → Runs → Committed → Bool → Float → List ℕ → Ran × List ℕ
fsk_run_step_of max_pulses fsk_min r c upper tc fsk =
    confirm_due_of max_pulses fsk_min (move_runs_of (meets_of r (bit upper)) r (bit upper) tc) c upper fsk
