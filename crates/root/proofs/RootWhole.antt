-- `whole_root` is the largest whole number whose square is at most n. There is one such number (`root_unique`, of the table's laws).
use mathlib.Core.Path.{◌≡◌}
use mathlib.Core.Bool.{Bool, true, false, not, cond}
use Prim.Native.Nat.{ℕ, zero, suc, ◌+◌, ◌*◌, ◌/◌, ◌^◌, ◌≤◌, ◌<◌}
use native.Mathlib.Nat.{mul-mul-mul_comm, pow-suc}
use native.Mathlib.Omega.{arith}
use lib.Dec.{T, leb, leb→le, nleb→lt}
use Rattle.root.specs.Root.{whole_root, IsRoot}

-- from the root s of n / 4: the root of n is 2 * s or one more
four_le : (n s : ℕ) → s * s ≤ n / 4 → (2 * s) * (2 * s) ≤ n
four_le n s h =
    let e : (2 * s) * (2 * s) ≡ 4 * (s * s) = mul-mul-mul_comm 2 s 2 s in
    omega arith

four_lt : (n s : ℕ) → n / 4 < (s + 1) * (s + 1) → n < (2 * s + 1 + 1) * (2 * s + 1 + 1)
four_lt n s h =
    let two : 2 * s + 1 + 1 ≡ 2 * (s + 1) = omega arith in
    let e : (2 * (s + 1)) * (2 * (s + 1)) ≡ 4 * ((s + 1) * (s + 1)) = mul-mul-mul_comm 2 (s + 1) 2 (s + 1) in
    let k : n < (2 * (s + 1)) * (2 * (s + 1)) = omega arith in
    rw two k

quarter_lt : (k n : ℕ) → n < 4 ^ suc k → n / 4 < 4 ^ k
quarter_lt k n h =
    let e : 4 ^ suc k ≡ 4 ^ k * 4 = pow-suc 4 k in
    omega arith

no_digits : (n : ℕ) → n < 4 ^ 0 → IsRoot n 0
no_digits n h = omega arith

pub whole_root_is : (k n : ℕ) → n < 4 ^ k → IsRoot n (whole_root k n)
unfolding whole_root
whole_root_is zero n h = no_digits n h
whole_root_is (suc k) n h =
    let s = whole_root k (n / 4) in
    let ih : IsRoot (n / 4) s = whole_root_is k (n / 4) (quarter_lt k n h) in
    go s ih (leb ((2 * s + 1) * (2 * s + 1)) n) (leb→le ((2 * s + 1) * (2 * s + 1)) n) (nleb→lt ((2 * s + 1) * (2 * s + 1)) n)
  where
    go : (s : ℕ) → IsRoot (n / 4) s → (b : Bool) → (T b → (2 * s + 1) * (2 * s + 1) ≤ n) → (T (not b) → n < (2 * s + 1) * (2 * s + 1)) → IsRoot n (cond b (2 * s + 1) (2 * s))
    go s ih true y z = (y tt, four_lt n s ih.1)
    go s ih false y z = (four_le n s ih.0, z tt)
