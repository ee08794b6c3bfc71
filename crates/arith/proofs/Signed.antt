-- A remainder in 64ths is within an i32, and is what the machine's signed difference gives.
use Rattle.std.proofs.Common.{◌≡◌, ℕ, suc, ◌+◌, ◌-◌, ◌%◌, ◌<◌, Bool, true, false, cond, ltb, ℤ, pos, negsuc, ◌-ℤ◌, sym, ap, ◌∙◌, subst, arith, w32, SFits, to_z, of_z}
use lib.IntN.{sub_ℕ}
use mir.ValLaws.{to_z_pos, to_z-of_z}
use lib.Ieee.{Float}
use Rattle.arith.specs.declared.Steps.{Steps}
use Rattle.arith.specs.declared.Carried.{Carried}
use Rattle.arith.specs.Carry.{bound_of, between_of, remainder_of, carried_at}

less_fits : (n : ℕ) → n < 64 → SFits w32 (sub_ℕ n 32)
less_fits n h = go (ltb n 32)
  where
    go : (o : Bool) → SFits w32 (cond o (negsuc (32 - suc n)) (pos (n - 32)))
    go true = record { sfits = omega arith }
    go false = record { sfits = omega arith }

pub remainder_fits : (b : ℕ) → SFits w32 (remainder_of b)
remainder_fits b = less_fits ((b + 32) % 64) (omega arith)

-- the difference in the machine's reading
pub read_less : (n : ℕ) → n < 64 → to_z w32 n -ℤ pos 32 ≡ sub_ℕ n 32
read_less n h = ap (λ (z : ℤ). z -ℤ pos 32) (to_z_pos w32 n (omega arith))

pub read_fits : (n : ℕ) → n < 64 → SFits w32 (to_z w32 n -ℤ pos 32)
read_fits n h = subst (SFits w32) (sym (read_less n h)) (less_fits n h)

pub read_remainder : (b : ℕ) → to_z w32 (of_z w32 (to_z w32 ((b % 64 + 32) % 64) -ℤ pos 32)) ≡ remainder_of b
read_remainder b =
    let n = (b % 64 + 32) % 64 in
    let h : n < 64 = omega arith in
    let e : n ≡ (b + 32) % 64 = omega arith in
    to_z-of_z w32 (to_z w32 n -ℤ pos 32) (read_fits n h) ∙ read_less n h ∙ ap (λ (k : ℕ). sub_ℕ k 32) e

pub kept_remainder : (b : ℕ) (z : ℤ) → z ≡ remainder_of b → to_z w32 (of_z w32 z) ≡ remainder_of b
kept_remainder b z q = to_z-of_z w32 z (subst (SFits w32) (sym q) (remainder_fits b)) ∙ q

pub carried_made : (origin : Float) (before : ℕ) (t : Float) (b : ℕ) (w : Steps) (z : ℤ) → b ≡ bound_of origin before t → w ≡ between_of before b → z ≡ remainder_of b
    → ◌≡◌ {A = Carried} (record { width = w; remainder = to_z w32 (of_z w32 z); bound = b }) (carried_at origin before t)
unfolding carried_at
carried_made origin before t b w z qb qw qz = rw (kept_remainder b z qz, qw, qb)
