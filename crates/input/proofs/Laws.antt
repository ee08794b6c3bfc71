-- What a read leaves in the buffer, where nothing is read, and when a program goes on.
use Prim.Native.Nat.{ℕ, ◌+◌, ◌≤◌}
use mathlib.Core.Bool.{Bool, true, false, ◌||◌}
use mathlib.Core.Path.{◌≡◌, refl, sym, ◌∙◌, ap}
use mathlib.Core.List.{List, ◌++◌}
use native.Mathlib.Omega.{arith}
use lib.ListN.{length, take, drop, take-append-drop}
use lib.Seq.{take_at, length-take-le, take-append-add}
use Rattle.input.specs.declared.Input.{Input}
use Rattle.input.specs.Input.{Quiet}

pub front : (n : ℕ) (l z : List ℕ) → n ≤ length l → take n (take n l ++ z) ≡ take n l
front n l z h = take_at (take n l) z n (length-take-le n l h)

-- nothing is read
pub quiet : (last full : Bool) (i : Input) → i.came ≡ 0 → i.last ≡ last → Quiet last full i
quiet last full i n e = record { none_after = λ h. n; ended_stays = λ h. e ∙ h; none_while = λ h. n }

-- or the input has not ended, and all that was there is answered
never : (b : Bool) (A : Type 0) → b ≡ false → b ≡ true → A
never b A f t = let z : ◌≡◌ {A = Bool} false true = sym f ∙ t in let n : ◌≡◌ {A = ℕ} 0 1 = cc in absurd (omega arith)

none_of : (a b c : Bool) → ((a || b) || c) ≡ false → (a ≡ false) × (b ≡ false)
none_of true b c h = (h, let z : ◌≡◌ {A = Bool} true false = h in cc)
none_of false true c h = (refl, h)
none_of false false c h = (refl, refl)

pub reading : (last full other : Bool) (i : Input) → ((last || full) || other) ≡ false → Quiet last full i
reading last full other i h =
    let n = none_of last full other h in
    record { none_after = never last _ n.0; ended_stays = never last _ n.0; none_while = never full _ n.1 }

-- a program goes on only where the stream is not over
pub first_false : (a b : Bool) → (a || b) ≡ false → a ≡ false
first_false true b h = h
first_false false b h = refl

-- and where nothing failed
pub second_false : (a b : Bool) → (a || b) ≡ false → b ≡ false
second_false true b h = let z : ◌≡◌ {A = Bool} true false = h in cc
second_false false b h = h

-- the bytes that came stand after those that were there
pub came_after : (have n : ℕ) (x : List ℕ) → have ≤ length x → take (have + n) x ≡ take have x ++ take n (drop have x)
came_after have n x h =
    ap (take (have + n)) (sym (take-append-drop have x))
    ∙ ap (λ (k : ℕ). take (k + n) (take have x ++ drop have x)) (sym (length-take-le have x h))
    ∙ take-append-add (take have x) (drop have x) n
