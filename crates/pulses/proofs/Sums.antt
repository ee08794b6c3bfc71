-- The sum of R-1 follows from demand 3, so that it holds of every program that meets it, and of the lane.
use mathlib.Core.Path.{◌≡◌, sym, ap, ◌∙◌, subst}
use mathlib.Core.Option.{Option}
use mathlib.Core.List.{List, [], ◌∷◌}
use Prim.Native.Nat.{ℕ}
use native.Mathlib.Omega.{arith}
use lib.ListN.{length}
use lib.Ieee.{Float}
use Rattle.arith.specs.Carry.{rounded_of}
use Rattle.shared.specs.declared.Settings.{Settings}
use Rattle.slots.specs.Slots.{slots_of}
use Rattle.slots.specs.Sum.{sum}
use Rattle.slots.proofs.Sum.{adds_up, all_edges}
use Rattle.pulses.specs.Runs.{Pulse}
use Rattle.pulses.specs.Yardstick.{Given, Yardstick}
use Rattle.pulses.specs.Demand.{Program, the_lane, Place, start, bursts, slots_between, TrainOf, Gives, settings_at, pulses_at, Each, Demand3}
use Rattle.pulses.specs.Sums.{AddsUp, EachAdds, SumsUp}
use Rattle.pulses.specs.Auto.{EachWhere, Demand3Where, EachAddsWhere, SumsUpWhere, StaysZero, FindsNone}
use Rattle.pulses.proofs.Refuted.{numbers}
use Rattle.pulses.proofs.Theorem.{demand_3, auto_pulses, auto_pulses_wide}

train_adds : (p : Settings) (ps : List (Pulse Float)) (g : Given) → TrainOf p ps g → p.carry ≡ 1 → AddsUp p ps g
unfolding AddsUp slots_between numbers
train_adds p ps g T c a es q U =
    ap sum (ap numbers T.slots ∙ ap (λ (o : Option (List Float)). numbers (slots_between p.carry o)) q ∙ ap (λ (n : ℕ). slots_of n (a ∷ es)) c)
    ∙ adds_up a es U ∙ ap rounded_of (sym (all_edges a es))

gives_adds : (p : Settings) (ps : List (Pulse Float)) (ts : List Given) → Gives p ps ts → p.carry ≡ 1 → (g : Given) → ts ≡ g ∷ [] → AddsUp p ps g
unfolding Gives
gives_adds p [] ts G c g q = absurd (omega (arith, ap length (sym G ∙ q)))
gives_adds p (x ∷ ps) ts (h, e, T) c g q = let same : h ≡ g = cc in subst (AddsUp p (x ∷ ps)) same (train_adds p (x ∷ ps) h T c)

each_adds : {W : Program} (ks : List (Place W)) → Each ks → EachAdds ks
unfolding Each EachAdds
each_adds [] E = tt
each_adds (k ∷ ks) E = ((λ o c g q. gives_adds (settings_at k) (pulses_at k) k.trains (E.0 o).gives c g q), each_adds ks E.1)

all_sum_up : (W : Program) → Demand3 W → SumsUp W
unfolding Demand3 SumsUp
all_sum_up W D cs h = each_adds (bursts W (start W) cs) (D cs h).0

pub lane_sums_up : SumsUp the_lane
lane_sums_up = all_sum_up the_lane demand_3

-- and of the bursts of which C is true, where demand 3 holds of them
module _ (C : Yardstick → Type 0) where
  each_adds_where : {W : Program} (ks : List (Place W)) → EachWhere C ks → EachAddsWhere C ks
  unfolding EachWhere EachAddsWhere
  each_adds_where [] E = tt
  each_adds_where (k ∷ ks) E = ((λ o c g q. gives_adds (settings_at k) (pulses_at k) k.trains (E.0 o).gives c g q), each_adds_where ks E.1)

  sum_up_where : (W : Program) → Demand3Where C W → SumsUpWhere C W
  unfolding Demand3Where SumsUpWhere
  sum_up_where W D cs h = each_adds_where (bursts W (start W) cs) (D cs h).0

pub auto_sums_up : SumsUpWhere StaysZero the_lane
auto_sums_up = sum_up_where StaysZero the_lane auto_pulses

pub auto_sums_up_wide : SumsUpWhere FindsNone the_lane
auto_sums_up_wide = sum_up_where FindsNone the_lane auto_pulses_wide
