-- What document 01's domain tells of the counts: in a run that does not yet count and in a train with room, one more is one more.
use mathlib.Core.Path.{◌≡◌, ◌∙◌}
use Prim.Native.Nat.{ℕ, suc, ◌<◌}
use native.Mathlib.Omega.{arith}
use Rattle.shared.specs.declared.Settings.{Settings}
use Rattle.shared.specs.Counts.{sat_add_of, inc}
use Rattle.shared.proofs.Counts.{inc_exact}
use Rattle.refusals.proofs.Domain.{InDomain}

pub run_grows : (p : Settings) → InDomain p → (n : ℕ) → n < p.min_steps → sat_add_of n 1 ≡ suc n
unfolding sat_add_of
run_grows p D n h = omega (arith, D.min_steps.1)

pub pairs_grow : (p : Settings) → InDomain p → (n : ℕ) → n < p.max_pulses → inc n ≡ suc n
pairs_grow p D n h = inc_exact n (omega (arith, D.max_pulses.1)) ∙ omega arith
