-- Each turn is one command more.
use Prim.Native.Nat.{ℕ, ◌+◌, ◌≤◌}
use mathlib.Core.Path.{◌≡◌, refl, sym, ap, ◌∙◌}
use mathlib.Core.List.{List}
use native.Mathlib.Omega.{arith}
use lib.ListN.{length, drop, length-drop}
use Rattle.std.specs.Prelude.{Ok}
use Rattle.commands.specs.declared.Command.{Command}
use Rattle.commands.specs.Command.{decoded, command_size, size_of}
use Rattle.commands.proofs.Stream.{size_fits, taken}
use Rattle.stream.specs.Machine.{none}
use Rattle.exports.proofs.Left.{left_whole, one_more}
use borrow.Author.Rules.{rules}
use Rattle.exports.proofs.lane_buffers_lent.Goals as goal

-- a command at a place of the bytes ends inside them
inside : (s : List ℕ) (at : ℕ) (k : Command) (size : ℕ) → Ok k ≡ decoded (drop at s) → size ≡ command_size k → at ≤ length s → at + size ≤ length s
inside s at k size dk ds h = omega (arith, ds ∙ ap size_of dk, size_fits (drop at s), length-drop at s, h)

pub overflow_add-used : goal.overflow_add-used
overflow_add-used c =
    record { fits = omega (arith, inside c.args.commands.now _ _ _ c.in-Ok.ensures c.size-used.ensures c.loop-k.invariant.0, c.well_formed.0) }

pub loop-k-smaller : goal.loop-k-smaller
loop-k-smaller c =
    let some : c.size-used.result ≡ 0 → ⊥ = λ e. taken c.in-Ok.k (sym c.size-used.ensures ∙ e) in
    omega (arith, inside c.args.commands.now _ _ _ c.in-Ok.ensures c.size-used.ensures c.loop-k.invariant.0, some)

pub loop-k-preserved : goal.loop-k-preserved
loop-k-preserved c =
    let bytes = c.args.commands.now in (
      inside bytes _ _ _ c.in-Ok.ensures c.size-used.ensures c.loop-k.invariant.0,
      omega arith,
      omega arith,
      one_more _ _ bytes c.loop-k.used _ _ _ c.loop-k.invariant.3 c.in-Ok.ensures c.size-used.ensures c.call.ensures,
    )

pub returns : goal.returns
returns c =
    let v = c.loop-k in
    left_whole _ v.used _ _ _ _ _ _ c.new_lane-l.ensures v.invariant.0 v.invariant.3 (ap size_of (sym c.in_default.ensures))

pub loop-k-init : goal.loop-k-init
loop-k-init c = (search rules, refl, refl, none)
