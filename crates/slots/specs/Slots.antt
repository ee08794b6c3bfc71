-- The slots of a train by its edges: of each pulse its edge and that of its closing run, in order. So the slots are the widths between
-- neighbouring edges, pulse and gap in turn, and both modes take them by one definition (`width_by`).
use Rattle.std.specs.Prelude.{List, [], ◌∷◌, ℕ, Float}
use Rattle.arith.specs.declared.Carried.{Carried}
use Rattle.arith.specs.Carry.{width_by}

-- from edge a on, whose boundary is before; origin is the first pulse's edge
unfoldable pub slots_from : ℕ → Float → ℕ → Float → List Float → List ℕ
slots_from carry origin before a [] = []
slots_from carry origin before a (b ∷ es) =
    let q : Carried = width_by carry origin before a b in
    q.width.0 ∷ slots_from carry origin q.bound b es

-- the first pulse's edge has the boundary 0
unfoldable pub slots_of : ℕ → List Float → List ℕ
unfolding slots_from
slots_of carry [] = []
slots_of carry (a ∷ es) = slots_from carry a 0 a es
