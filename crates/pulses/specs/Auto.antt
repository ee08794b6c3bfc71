-- Document 02, R-9: "The pulse listing should also hold in Auto mode for every burst in which demand 2's `fsk_phase` stays 0." `InAuto` says it of
-- a program, and `auto_pulses` in proofs/Theorem is `InAuto the_lane`. Beside it stand the wider claim, that of every Auto burst in which demand 2's
-- definition has found no frame, and R-1's sum in both.
use Rattle.std.specs.Prelude.{◌≡◌, true, List, [], ◌∷◌, ℕ}
use Rattle.pulses.specs.Yardstick.{Call, Given, Yardstick, unused, handed_on}
use Rattle.pulses.specs.Demand.{Program, Place, start, bursts, after_all, settings_at, pulses_at, Holds}
use Rattle.pulses.specs.Sums.{AddsUp}

-- ---- demand 3 and R-1's sum, of the bursts that C is true of
module _ (C : Yardstick → Type 0) where
  unfoldable pub EachWhere : {W : Program} → List (Place W) → Type 0
  EachWhere [] = Unit {0}
  EachWhere (k ∷ ks) = (C k.yard → Holds k) × EachWhere ks

  abbrev pub NoneYetWhere : {W : Program} → Place W → Type 0
  NoneYetWhere k = (k.yard.lane.phase ≡ 0 → ⊥) → C k.yard → k.trains ≡ []

  unfoldable pub Demand3Where : Program → Type 0
  Demand3Where W = (cs : List Call) → handed_on unused cs ≡ true → EachWhere (bursts W (start W) cs) × NoneYetWhere (after_all W (start W) cs)

  unfoldable pub EachAddsWhere : {W : Program} → List (Place W) → Type 0
  EachAddsWhere [] = Unit {0}
  EachAddsWhere (k ∷ ks) = (C k.yard → (settings_at k).carry ≡ 1 → (g : Given) → k.trains ≡ g ∷ [] → AddsUp (settings_at k) (pulses_at k) g) × EachAddsWhere ks

  unfoldable pub SumsUpWhere : Program → Type 0
  SumsUpWhere W = (cs : List Call) → handed_on unused cs ≡ true → EachAddsWhere (bursts W (start W) cs)

-- ---- which bursts
abbrev pub InMode : ℕ → Yardstick → Type 0
InMode m y = y.lane.settings.mode ≡ m

-- mode 2
abbrev pub Auto : Yardstick → Type 0
Auto y = InMode 2 y

unfoldable pub AllZero : List ℕ → Type 0
AllZero [] = Unit {0}
AllZero (n ∷ ns) = (n ≡ 0) × AllZero ns

-- "in which demand 2's `fsk_phase` stays 0": it is 0 after every sample of the record
abbrev pub StaysZero : Yardstick → Type 0
StaysZero y = Auto y × AllZero y.phases

-- The wider claim. `begin_burst` leaves the `fsk_phase` of the burst before in place, 1 it may be, until a carrier begins a frame of its own.
-- What matters to the pulses is whether a frame is found: demand 2's count `frames`, which `begin_burst` sets to 0.
abbrev pub FindsNone : Yardstick → Type 0
FindsNone y = Auto y × (y.lane.burst.frames ≡ 0)

abbrev pub InAuto : Program → Type 0
InAuto W = Demand3Where StaysZero W

abbrev pub InAutoWide : Program → Type 0
InAutoWide W = Demand3Where FindsNone W
