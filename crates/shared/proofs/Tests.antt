-- The parts of a test that holds.
use Rattle.std.proofs.Common.{◌≡◌, ℕ, Bool, true, false, ◌&&◌, ◌||◌, refl, arith}

-- a test that holds and does not
pub clash : {A : Type 0} → true ≡ false → A
clash q = absurd (let y : ◌≡◌ {A = ℕ} 0 1 = cc in omega arith)

pub both_true : (a b : Bool) → (a && b) ≡ true → (a ≡ true) × (b ≡ true)
both_true true b h = (refl, h)
both_true false b h = let z : ◌≡◌ {A = Bool} false true = h in (cc, cc)

-- the other side where one does not hold
pub other_true : (a b : Bool) → (a || b) ≡ true → a ≡ false → b ≡ true
other_true true b h q = cc
other_true false b h q = h

pub six_true : (a b c d e f : Bool) → (a && b && c && d && e && f) ≡ true → (a ≡ true) × (b ≡ true) × (c ≡ true) × (d ≡ true) × (e ≡ true) × (f ≡ true)
six_true a b c d e f q =
    let f₁ : ((a && b && c && d && e) ≡ true) × (f ≡ true) = both_true (a && b && c && d && e) f q in
    let e₁ : ((a && b && c && d) ≡ true) × (e ≡ true) = both_true (a && b && c && d) e f₁.0 in
    let d₁ : ((a && b && c) ≡ true) × (d ≡ true) = both_true (a && b && c) d e₁.0 in
    let c₁ : ((a && b) ≡ true) × (c ≡ true) = both_true (a && b) c d₁.0 in
    let b₁ : (a ≡ true) × (b ≡ true) = both_true a b c₁.0 in
    (b₁.0, b₁.1, c₁.1, d₁.1, e₁.1, f₁.1)
