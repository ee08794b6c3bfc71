use Prim.Native.Nat.{ℕ, ◌<◌, ◌≤◌}
use mathlib.Core.Path.{◌≡◌, refl, ap, ◌∙◌}
use mathlib.Core.List.{List, ◌∷◌}
use lib.ListN.{length, get_or, drop}
use borrow.Author.Tests.{lt-ltb, le-ltb}
use Rattle.commands.specs.Command.{decoded}
use Rattle.commands.proofs.Rest.{rest_all, got_or}
use Rattle.addressed.specs.Addressed.{without_antenna, addressed_of}
use Rattle.addressed.proofs.command_at.Goals as goal

few : (u v : List ℕ) → u ≡ v → length u < 2 → without_antenna (decoded v) ≡ addressed_of v
unfolding addressed_of
few u v e h = simp (← e, lt-ltb (length u) 2 h)

enough : (u o v : List ℕ) → u ≡ v → o ≡ drop 2 u → 2 ≤ length u → decoded (get_or u 0 0 ∷ o) ≡ addressed_of v
unfolding addressed_of
enough u o v e q h = simp (← e, q, le-ltb (length u) 2 h)

pub returns-then-u-lt2 : goal.returns-then-u-lt2
returns-then-u-lt2 c =
    c.without_antenna.ensures ∙ ap without_antenna c.decode_at.ensures
    ∙ few _ _ (got_or c.args.s.now c.args.at _ _ _ c.get.ensures.lookup c.unwrap_or-u.ensures refl) c.if-u-lt2.true

pub returns : goal.returns
returns c =
    c.decode_by.ensures ∙ enough _ _ _ (got_or c.args.s.now c.args.at _ _ _ c.get.ensures.lookup c.unwrap_or-u.ensures refl) (rest_all _ 2) c.if-u-lt2.false
