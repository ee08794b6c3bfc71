-- Document 02, R-1: "over demand 3's lists and where no width was stopped at its ceiling, the widths from first pulse to last add up to the
-- last pulse's rounded end boundary". `SumsUp` says it of a program; proofs/Sums has it of every program that meets demand 3.
use Rattle.std.specs.Prelude.{◌≡◌, true, List, [], ◌∷◌, ◌-◌, ◌*◌, take, Float}
use Rattle.std.proofs.Math.Option.{some}
use Rattle.arith.specs.Carry.{rounded_of}
use Rattle.shared.specs.declared.Settings.{Settings}
use Rattle.slots.specs.Sum.{sum, last_bound, Unstopped}
use Rattle.pulses.specs.Runs.{Pulse, edges}
use Rattle.pulses.specs.Yardstick.{Call, Given, unused, handed_on}
use Rattle.pulses.specs.Demand.{Program, Place, start, bursts, settings_at, pulses_at}

-- A train of a burst with carry: where the listed pulses have the edges a, es in order and no width between two neighbours was stopped, the
-- slots up to the last pulse add up to the rounded boundary of the last edge.
unfoldable pub AddsUp : Settings → List (Pulse Float) → Given → Type 0
AddsUp p ps g = (a : Float) (es : List Float) → edges p.min_steps (take p.max_pulses ps) ≡ some (a ∷ es) → Unstopped a 0 es
    → sum (take (2 * g.out.pairs - 1) g.part) ≡ rounded_of (last_bound a 0 (a ∷ es))

-- each train of each OOK burst (mode 0) with carry
unfoldable pub EachAdds : {W : Program} → List (Place W) → Type 0
EachAdds [] = Unit {0}
EachAdds (k ∷ ks) = ((settings_at k).mode ≡ 0 → (settings_at k).carry ≡ 1 → (g : Given) → k.trains ≡ g ∷ [] → AddsUp (settings_at k) (pulses_at k) g) × EachAdds ks

unfoldable pub SumsUp : Program → Type 0
SumsUp W = (cs : List Call) → handed_on unused cs ≡ true → EachAdds (bursts W (start W) cs)
