-- What the calls ensure; a boundary is never below the one before.
use Rattle.std.proofs.Common.{ℕ, ◌≤◌, sym, subst}
use Rattle.arith.proofs.Carry.{bound_rises}
use Rattle.arith.proofs.Signed.{carried_made}
use Rattle.arith.proofs.boundaries.carried_at.Goals as goal

pub between-requires : goal.between-requires
between-requires c =
    let a = c.args in
    subst (λ (b : ℕ). a.before ≤ b) (sym c.bound_of-bound.ensures) (bound_rises a.origin a.before a.t)

pub returns : goal.returns
returns c =
    let a = c.args in
    carried_made a.origin a.before a.t c.bound_of-bound.result c.between.result c.remainder.result
    c.bound_of-bound.ensures c.between.ensures c.remainder.ensures
