-- The widths written so far and those of the rest are the whole list's.
use Rattle.std.proofs.Common.{rules}
use Rattle.grid.proofs.Writes.{write_turn, write_end}
use Rattle.arith.specs.declared.Steps.{Steps}
use Rattle.arith.specs.Leaves.{width_of}
use mathlib.Core.Path.{◌≡◌, refl, ap, ◌∙◌}
use Rattle.grid.specs.Widths.{place_of, on_grid_of, at_start}
use Rattle.grid.specs.declared.Place.{Place}
use Rattle.grid.proofs.on_grid.Goals as goal

pub loop-v-preserved : goal.loop-v-preserved
unfolding on_grid_of
loop-v-preserved c =
    write_turn c.loop-v.invariant (place_of _) (λ (p q : Place). (width_of p.before q.before).0) (λ v vs. refl)
    c.loop-v-test.true c.place_after-p.ensures (ap (λ (s : Steps). s.0) c.width.ensures)

pub returns : goal.returns
unfolding on_grid_of
returns c =
    let start : c.default-p.result ≡ at_start = search rules in
    write_end c.loop-v.invariant refl c.loop-v-test.false ∙ ap (λ (p : Place). on_grid_of c.args.c p c.args.slots.now) start
