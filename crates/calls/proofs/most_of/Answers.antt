use Prim.Native.Nat.{ℕ, ◌*◌, min}
use mathlib.Core.Path.{ap, ◌∙◌}
use Rattle.lines.specs.Line.{max_slots}
use Rattle.calls.specs.Turn.{slots_of}
use Rattle.calls.proofs.most_of.Goals as goal

pub returns : goal.returns
unfolding slots_of
returns c = c.min-2.ensures ∙ ap (λ (n : ℕ). min n max_slots) (c.min.ensures ∙ ap (λ (n : ℕ). min (2 * c.args.pulses) n) c.max.ensures)
