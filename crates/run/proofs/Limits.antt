-- Laws of the definitions in specs/Limits: the run machine leads from a run within its limits to another.
use Prim.Native.Nat.{ℕ, ◌≤◌}
use native.Mathlib.Omega.{arith}
use lib.Ieee.{Float}
use Rattle.run.specs.declared.Run.{Run}
use Rattle.run.specs.declared.Move.{Move}
use Rattle.run.specs.declared.Move.TheVariants.{Same, Glitch, Begins}
use Rattle.run.specs.Run.{with_confirmed, lengthen_of, rejoin_of, begin_run_of, moved_of, start_run_of}
use Rattle.run.specs.Limits.{RunWithin}

pub lengthen_within : (r : Run) → RunWithin r → RunWithin (lengthen_of r)
unfolding lengthen_of
lengthen_within r h = omega arith

pub rejoin_within : (r : Run) (level : ℕ) → level ≤ 1 → RunWithin (rejoin_of r level)
unfolding rejoin_of
rejoin_within r level flag = omega arith

pub begin_run_within : (r : Run) (level : ℕ) (tc : Float) → level ≤ 1 → RunWithin (begin_run_of r level tc)
unfolding begin_run_of
begin_run_within r level tc flag = omega arith

pub moved_within : (m : Move) (r : Run) (level : ℕ) (tc : Float) → level ≤ 1 → RunWithin r → RunWithin (moved_of m r level tc)
moved_within Same r level tc flag h = lengthen_within r h
moved_within Glitch r level tc flag h = rejoin_within r level flag
moved_within Begins r level tc flag h = begin_run_within r level tc flag

pub sure_within : (r : Run) → RunWithin r → RunWithin (with_confirmed 1 r)
sure_within r h = omega arith

pub start_run_within : (t : Float) → RunWithin (start_run_of t)
unfolding start_run_of
start_run_within t = omega arith
