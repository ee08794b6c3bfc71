-- The number, and then the blank, which is named so that another byte is told apart from it at once.
use mathlib.Core.List.{[], ◌∷◌}
use mathlib.Core.Path.{ap}
use lib.ListN.{length}
use native.Mathlib.Omega.{arith}
use borrow.Author.Rules.{rules}
use Rattle.lines.proofs.Writers.{then, at_start}
use Rattle.std.proofs.Common.{◌≤◌, ◌≡◌, take, length-take}
use Rattle.tagged.specs.Tagged.{tag_of}
use Rattle.tagged.proofs.tag.Goals as goal

pub returns : goal.returns
returns c =
    let at = c.put_byte.new.self.at in
    let all = c.room-1.given.0 in
    let p : (at ≤ 21) × (at ≤ length all) × (take at all ≡ tag_of c.args.i) =
    at_start c.new-t.ensures.place (omega (arith, ap length c.new-t.ensures.held)) (then {v = 32 ∷ []} c.put_decimal.ensures c.put_byte.ensures) (search rules)
    in (
      omega (arith, p.0, p.1, length-take at all),
      p.2,
    )
