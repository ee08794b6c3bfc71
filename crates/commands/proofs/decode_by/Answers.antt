-- By the command byte, and whether the operand bytes are there.
use Prim.Native.Nat.{ℕ, suc}
use mathlib.Core.Bool.{false}
use mathlib.Core.Path.{◌≡◌}
use mathlib.Core.List.{List, ◌∷◌}
use native.Mathlib.Omega.{arith}
use lib.Dec.{ltb}
use borrow.Author.Tests.{lt-ltb, le-ltb, ne_eqb}
use borrow.Author.Rules.{rules}
use Rattle.std.specs.Prelude.{Err}
use Rattle.commands.specs.declared.Missing.TheVariants as missing
use Rattle.commands.specs.Command.{decoded}
use Rattle.commands.proofs.decode_by.Goals as goal

some : (n : ℕ) → ltb (suc n) 1 ≡ false
some n = le-ltb (suc n) 1 (omega arith)

pub returns-in-1 : goal.returns-in-1
unfolding decoded
returns-in-1 c = simp (some, c.in-1.is, le-ltb _ _ c.if-o-ge37.true, ← c.settings_of.ensures)

pub returns-in-2 : goal.returns-in-2
unfolding decoded
returns-in-2 c = simp (some, c.in-2.is, le-ltb _ _ c.if-o-ge60.true, ← c.begin_args.ensures)

pub returns-in-3 : goal.returns-in-3
unfolding decoded
returns-in-3 c = simp (some, c.in-3.is, le-ltb _ _ c.if-o-ge24.true, ← c.step_args.ensures)

pub returns-in-4 : goal.returns-in-4
unfolding decoded
returns-in-4 c = simp (some, c.in-4.is, le-ltb _ _ c.if-o-ge38.true, ← c.carry_settings_of.ensures)

pub returns-in-5 : goal.returns-in-5
unfolding decoded
returns-in-5 c = simp (some, c.in-5.is)

pub returns-in-1-to-4 : goal.returns-in-1-to-4
unfolding decoded
returns-in-1-to-4 c = simp (some, c.in-1.is, lt-ltb _ _ c.if-o-ge37.false)

pub returns-in-1-to-4-2 : goal.returns-in-1-to-4-2
unfolding decoded
returns-in-1-to-4-2 c = simp (some, c.in-2.is, lt-ltb _ _ c.if-o-ge60.false)

pub returns-in-1-to-4-3 : goal.returns-in-1-to-4-3
unfolding decoded
returns-in-1-to-4-3 c = simp (some, c.in-3.is, lt-ltb _ _ c.if-o-ge24.false)

pub returns-in-1-to-4-4 : goal.returns-in-1-to-4-4
unfolding decoded
returns-in-1-to-4-4 c = simp (some, c.in-4.is, lt-ltb _ _ c.if-o-ge38.false)

unknown : (b : ℕ) (o : List ℕ) → (b ≡ 1 → ⊥) → (b ≡ 2 → ⊥) → (b ≡ 3 → ⊥) → (b ≡ 4 → ⊥) → (b ≡ 5 → ⊥) → Err missing.Unknown ≡ decoded (b ∷ o)
unfolding decoded
unknown b o h i j k l = simp (some, ne_eqb b 1 h, ne_eqb b 2 i, ne_eqb b 3 j, ne_eqb b 4 k, ne_eqb b 5 l)

pub returns-in_default : goal.returns-in_default
returns-in_default c = unknown _ _ (search rules) (search rules) (search rules) (search rules) (search rules)
