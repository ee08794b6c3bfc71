-- The run machine (source document 000): what `sample`, `presence` and `fsk_run_step` do to a run with each sample, once for all three.
use Rattle.std.specs.Prelude.{ℕ, Bool, true, false, cond, leb, eqb, Float}
use Rattle.std.specs.Float.Ieee.{lt, le}
use Rattle.arith.specs.Leaves.{edge_of, cross_of}
use Rattle.shared.specs.Counts.{sat_add_of}
use Rattle.run.specs.declared.Run.{Run}
use Rattle.run.specs.declared.Crossing.{Crossing}
use Rattle.run.specs.declared.Move.{Move}
use Rattle.run.specs.declared.Move.TheVariants.{Same, Glitch, Begins}

-- edge(idx, cross(..)): where a run that begins with this sample has its edge
unfoldable pub edge_at : Crossing → Float
edge_at c = edge_of c.idx (cross_of c.before c.at c.thr)

-- the level: `x >= thr` while high, else `x > thr`
unfoldable pub is_high_of : Bool → Float → Float → Bool
is_high_of up x thr = cond up (le thr x) (lt thr x)

-- the makers: a run from its fields, and with one of its fields changed
abbrev pub run_of : ℕ → ℕ → ℕ → ℕ → Float → Float → Run
run_of level run_len confirmed prev_len t_run t_prev =
    record { level = level; run_len = run_len; confirmed = confirmed; prev_len = prev_len; t_run = t_run; t_prev = t_prev }

abbrev pub with_length : ℕ → Run → Run
with_length n r = run_of r.level n r.confirmed r.prev_len r.t_run r.t_prev

abbrev pub with_confirmed : ℕ → Run → Run
with_confirmed confirmed r = run_of r.level r.run_len confirmed r.prev_len r.t_run r.t_prev

abbrev pub with_start : Float → Run → Run
with_start t r = run_of r.level r.run_len r.confirmed r.prev_len t r.t_prev

-- what a sample does: it is of the run's level (same), or it is not and the run is too short to count (short), a glitch, or a run begins
abbrev pub move_of : Bool → Bool → Move
move_of same short = cond same Same (cond short Glitch Begins)

-- what a sample of this level does to the run
abbrev pub meets_of : Run → ℕ → Move
meets_of r level = move_of (eqb level r.level) (eqb r.confirmed 0)

-- a run begins with the sample
abbrev pub begins_of : Move → Bool
begins_of Same = false
begins_of Glitch = false
begins_of Begins = true

-- one sample more
unfoldable pub lengthen_of : Run → Run
lengthen_of r = with_length (sat_add_of r.run_len 1) r

-- a glitch: the run joins the previous one, which is confirmed
unfoldable pub rejoin_of : Run → ℕ → Run
rejoin_of r level = run_of level (sat_add_of (sat_add_of r.prev_len r.run_len) 1) 1 r.prev_len r.t_prev r.t_prev

-- a run begins, with its edge at tc
unfoldable pub begin_run_of : Run → ℕ → Float → Run
begin_run_of r level tc = run_of level 1 0 r.run_len tc r.t_run

-- the run after a sample of this level
abbrev pub moved_of : Move → Run → ℕ → Float → Run
moved_of Same r level tc = lengthen_of r
moved_of Glitch r level tc = rejoin_of r level
moved_of Begins r level tc = begin_run_of r level tc

-- `confirmed == 0 && run_len >= steps`: the run counts from this sample on
unfoldable pub due_of : Run → ℕ → Bool
due_of r steps = cond (eqb r.confirmed 0) (leb steps r.run_len) false

-- the run counts, where that is due
abbrev pub confirm_if_of : Bool → Run → Run
confirm_if_of due r = cond due (with_confirmed 1 r) r

-- a low run at the time t, confirmed, of no samples
unfoldable pub start_run_of : Float → Run
start_run_of t = run_of 0 0 1 0 t t
