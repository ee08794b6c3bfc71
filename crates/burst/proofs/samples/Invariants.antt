use Rattle.std.proofs.Common.{◌≡◌, ◌-◌, ◌<◌, ◌≤◌, ℕ, true, length}
use Rattle.shared.specs.Answers.{is_stay_of}
use Rattle.envelope.specs.declared.At.{At}
use Rattle.burst.specs.Core.{whole_burst, whole_sampled, samples_from, samples_of}
use Rattle.burst.proofs.samples.Given as goal

abbrev pub invariant-loop-i : goal.invariant-loop-i
invariant-loop-i g l =
    ((at : ℕ → At) → ((i : ℕ) (a : At) → i < l.n → goal.F-post g l.read i a → a ≡ at i)
    → samples_from l.p at l.ring (l.n - l.i) l.i (whole_sampled l.cs l.w, l.ook, l.fsk) ≡ samples_of l.p at l.ring l.n (whole_burst l.initial.cs l.fn.b) l.initial.ook l.initial.fsk)
    × (is_stay_of l.w.next ≡ true) × (l.i ≤ l.n) × (length l.ook ≡ length l.initial.ook) × (length l.fsk ≡ length l.initial.fsk)
