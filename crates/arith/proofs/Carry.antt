-- Laws of the definitions in specs/Carry.
use Rattle.std.proofs.Common.{◌≡◌, ℕ, suc, ◌+◌, ◌-◌, ◌*◌, ◌%◌, ◌<◌, ◌≤◌, Bool, true, false, cond, eqb, ltb, pos, negsuc, ◌+ℤ◌, ◌≤ℤ◌, refl, ap, arith, le→leb, ltb-false, ltb-true, le-ltb}
use lib.Signed.{le_z_yes}
use lib.Ieee.{Float}
use Rattle.domain.specs.Limits.{max_bound}
use Rattle.arith.specs.Leaves.{width_of}
use Rattle.arith.specs.Carry.{bound_of, rounded_of, remainder_of, carried_at, width_by}

-- ---- laws
pub bound_rises : (origin : Float) (before : ℕ) (t : Float) → before ≤ bound_of origin before t
unfolding bound_of
bound_rises origin before t = omega arith

pub bound_within : (origin : Float) (before : ℕ) (t : Float) → before ≤ max_bound → bound_of origin before t ≤ max_bound
unfolding bound_of
bound_within origin before t h = omega arith

pub rounded_rises : (a b : ℕ) → a ≤ b → rounded_of a ≤ rounded_of b
rounded_rises a b h = omega arith

-- a tie goes up, and no other whole number is nearer
pub rounded_nearest : (b : ℕ) → (64 * rounded_of b ≤ b + 32) × (b < 64 * rounded_of b + 32)
rounded_nearest b = (omega arith, omega arith)

-- the remainder is from -32 to 31, and 64 times the rounded value with it is the boundary
pub remainder_range : (b : ℕ) → (negsuc 31 ≤ℤ remainder_of b) × (remainder_of b ≤ℤ pos 31)
remainder_range b = go ((b + 32) % 64) (omega arith) (ltb ((b + 32) % 64) 32) refl
  where
    go : (n : ℕ) → n < 64 → (o : Bool) → ltb n 32 ≡ o → (negsuc 31 ≤ℤ cond o (negsuc (32 - suc n)) (pos (n - 32))) × (cond o (negsuc (32 - suc n)) (pos (n - 32)) ≤ℤ pos 31)
    go n h true q = (le_z_yes (le→leb (32 - suc n) 31 (omega arith)), le_z_yes tt)
    go n h false q = (le_z_yes tt, le_z_yes (le→leb (n - 32) 31 (omega arith)))

pub remainder_whole : (b : ℕ) → pos (64 * rounded_of b) +ℤ remainder_of b ≡ pos b
remainder_whole b = go ((b + 32) % 64) (64 * rounded_of b) (omega arith) (ltb ((b + 32) % 64) 32) refl
  where
    go : (n m : ℕ) → m + n ≡ b + 32 → (o : Bool) → ltb n 32 ≡ o → pos m +ℤ cond o (negsuc (32 - suc n)) (pos (n - 32)) ≡ pos b
    go n m h true q =
        let l : n < 32 = ltb-true n 32 q in
        let e : suc (32 - suc n) ≡ 32 - n = omega arith in
        rw (e, le-ltb m (32 - n) (omega arith)) (ap pos (omega arith))
    go n m h false q = let l : 32 ≤ n = ltb-false n 32 q in ap pos (omega arith)

-- in either mode a held boundary stays within refusal 4's limit
pub taken_within : (carry : ℕ) (origin : Float) (before : ℕ) (a b : Float) → before ≤ max_bound → (width_by carry origin before a b).bound ≤ max_bound
unfolding width_by carried_at
taken_within carry origin before a b h = go (eqb carry 1)
  where
    go : (o : Bool) → (cond o (carried_at origin before b) (record { width = width_of a b; remainder = pos 0; bound = before })).bound ≤ max_bound
    go true = bound_within origin before b h
    go false = h
