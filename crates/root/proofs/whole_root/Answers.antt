-- Two steps of Newton's from the table's digits reach the root, or the next number (`RootFromTable.antt`).
use native.Mathlib.Nat.{div-le_self}
use native.Mathlib.Omega.{arith}
use Rattle.root.proofs.RootFromTable.{guess, Newton, newton}
use Rattle.root.proofs.whole_root.Goals as goal
use Rattle.root.proofs.whole_root.Goals.{After-first_digits}

facts : (c : After-first_digits) → Newton c.args.n c.first_digits.result
facts c = newton c.args.n c.first_digits.result c.requires c.first_digits.ensures

pub overflow_add-h : goal.overflow_add-h
overflow_add-h c = omega (arith, (facts c.before).guess_most, div-le_self c.args.n (guess c.args.n c.first_digits.result))

pub overflow_cast-d : goal.overflow_cast-d
overflow_cast-d c = omega (arith, (facts c).digits)

pub overflow_add-d : goal.overflow_add-d
overflow_add-d c = omega (arith, (facts c).digits)

pub overflow_mul-d : goal.overflow_mul-d
overflow_mul-d c = omega (arith, (facts c).digits)

pub overflow_add-d-2 : goal.overflow_add-d-2
overflow_add-d-2 c = omega (arith, (facts c).guess_most)

pub overflow_cast-n : goal.overflow_cast-n
overflow_cast-n c = omega (arith, (facts c).guess_most)

pub nonzero_div-h : goal.nonzero_div-h
nonzero_div-h c = omega (arith, (facts c.before).guess_least)

pub overflow_mul-h : goal.overflow_mul-h
overflow_mul-h c = rw c.from-g.ensures (omega (arith, (facts c.before).square_most))

pub returns-then-n-h : goal.returns-then-n-h
returns-then-n-h c = rw c.from-g.ensures ((facts c.before.before).one_less (rw c.from-g.ensures at c.if-n-h.true))

pub returns-else-n-h : goal.returns-else-n-h
returns-else-n-h c = rw c.from-g.ensures ((facts c.before.before).as_it_is (rw c.from-g.ensures at c.if-n-h.false))
