-- Every row of the examples holds, and no lower bound does: by computation from the definitions that the contracts cite.
use mathlib.Core.Path.{◌≡◌, refl, sym}
use mathlib.Core.Bool.{true}
use mathlib.Core.List.{List, [], ◌∷◌, ◌++◌}
use Prim.Native.Nat.{ℕ, ◌-◌, ◌<◌}
use native.Mathlib.Omega.{arith}
use Rattle.shared.specs.declared.Settings.{Settings}
use Rattle.pulses.specs.Yardstick.{Call, accepts, handed_on, unused}
use Rattle.pulses.specs.Demand.{Program, Place, the_lane, start, after, after_all}
use Rattle.pulses.specs.Lists.{lo}
use Rattle.pulses.specs.Hollow.{silent}
use Rattle.pulses.specs.Ran.{ran}
use Rattle.shared.proofs.Tests.{clash}
use Rattle.quiet.specs.Quiet.{wait, shortest, lows_from, quiet_from, EndsBy, EachEnds, QuietEnds, brought, counted, Waits, WaitKnown}
use Rattle.quiet.specs.Examples.{shown, opens, pulse, table, Right, deaf, late}

pub shown_right : Right table
unfolding shown ran counted brought lows_from
shown_right = refl

-- ---- one call of a list
module _ (w : Settings → ℕ) (W : Program) where
  one_ends : (cs : List Call) (k : Place W) (c : Call) → EachEnds w W k (cs ++ (c ∷ [])) → EndsBy w W (after_all W k cs) c
  unfolding EachEnds after_all
  one_ends [] k c E = E.0
  one_ends (d ∷ cs) k c E = one_ends cs (after W (accepts k.yard d) k d) c E.1

  last_ends : (cs : List Call) (c : Call) → QuietEnds w W → handed_on unused (cs ++ (c ∷ [])) ≡ true → EndsBy w W (after_all W (start W) cs) c
  unfolding QuietEnds
  last_ends cs c Q h = one_ends cs (start W) c (Q (cs ++ (c ∷ [])) h)

-- ---- one lower than R-9's bound: four low samples after M6's pulse, and the burst goes on
pub one_lower_fails : QuietEnds (λ p. wait p - 1) the_lane → ⊥
unfolding ran EndsBy quiet_from
one_lower_fails Q = clash (sym (last_ends (λ p. wait p - 1) the_lane (opens 2 4 ++ pulse 4 3) (lo 18) Q refl refl (refl, refl)))

pub one_lower_unknown : WaitKnown (λ p. wait p - 1) → ⊥
unfolding ran WaitKnown Waits counted brought lows_from
one_lower_unknown K = let h : 9 < 9 = K (opens 2 4 ++ pulse 4 4) (λ q. omega (arith, q)) refl in omega arith

-- and lower than the least one, where min_steps is the larger: two low samples
pub sooner_fails : QuietEnds (λ p. shortest p - 1) the_lane → ⊥
unfolding ran EndsBy quiet_from
sooner_fails Q = clash (sym (last_ends (λ p. shortest p - 1) the_lane (opens 3 2 ++ pulse 8 1) (lo 20) Q refl refl (refl, refl)))

-- ---- the programs
pub deaf_fails : QuietEnds wait deaf → ⊥
unfolding ran EndsBy quiet_from silent
deaf_fails Q = clash (sym (last_ends wait deaf (opens 2 4 ++ pulse 4 4) (lo 19) Q refl refl (refl, refl)))

pub late_fails : QuietEnds wait late → ⊥
unfolding ran EndsBy quiet_from late
late_fails Q = clash (sym (last_ends wait late (opens 2 4 ++ pulse 4 4) (lo 19) Q refl refl (refl, refl)))
