-- `s.get(a..)` is what `drop` leaves, and past the end `drop` leaves nothing.
use Prim.Native.Nat.{ℕ, ◌-◌, ◌<◌}
use mathlib.Core.Logic.{◌⊎◌, inl, inr}
use mathlib.Core.Path.{◌≡◌, ap, sym, subst, ◌∙◌}
use mathlib.Core.List.{List, []}
use native.Mathlib.Omega.{arith}
use denote.Ref.{Bor}
use lib.ListN.{length, take, drop, length-drop, drop_of_length-le}
use lib.Seq.{take_all}
use Rattle.std.specs.Prelude.{Option, Some, None, unwrap_or}
use Rattle.std.specs.Slice.{IsGetRangeResult}

pub rest_all : (s : List ℕ) (a : ℕ) → take (length s - a) (drop a s) ≡ drop a s
rest_all s a = take_all (length s - a) (drop a s) (omega (arith, length-drop a s))

pub rest_gone : (s : List ℕ) (a : ℕ) → (length s < a) ⊎ (length s < length s) → drop a s ≡ []
rest_gone s a (inl h) = drop_of_length-le s {i = a} (omega arith)
rest_gone s a (inr h) = absurd (omega arith)

pub got_none : (s : List ℕ) (a : ℕ) (g : Option (Bor (List ℕ))) → IsGetRangeResult s a (length s) g → g ≡ None → drop a s ≡ []
got_none s a g h e = rest_gone s a (subst (IsGetRangeResult s a (length s)) e h).0

pub got_some : (s : List ℕ) (a : ℕ) (g : Option (Bor (List ℕ))) (u : Bor (List ℕ)) → IsGetRangeResult s a (length s) g → g ≡ Some u → u.now ≡ drop a s
got_some s a g u h e = (subst (IsGetRangeResult s a (length s)) e h).0.2 ∙ rest_all s a

pub got_or : (s : List ℕ) (a : ℕ) (g : Option (Bor (List ℕ))) (u d : Bor (List ℕ)) → IsGetRangeResult s a (length s) g → u ≡ unwrap_or g d → d.now ≡ [] → u.now ≡ drop a s
got_or s a (Some x) u d h e n = ap (λ (v : Bor (List ℕ)). v.now) e ∙ h.0.2 ∙ rest_all s a
got_or s a None u d h e n = ap (λ (v : Bor (List ℕ)). v.now) e ∙ n ∙ sym (rest_gone s a h.0)
