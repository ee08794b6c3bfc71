-- An array's default, all of whose places are the default of its elements.
use Prim.Native.Nat.{ℕ, zero, suc, ◌<◌}
use mathlib.Core.Path.{◌≡◌, refl, ap, ◌∙◌}
use mathlib.Core.List.{List, [], ◌∷◌}
use native.Mathlib.Omega.{arith}
use lib.ListN.{length, get_or, replicate}
use lib.Ieee.{Float}
use Rattle.std.specs.Array.{AllOfLen}
use Rattle.ieee.specs.Constants.{zero32}
use Rattle.arith.specs.declared.C32.{C32}
use Rattle.shared.specs.Counts.{zero_c32}
use Rattle.burst.specs.declared.Lead.{Lead}
use Rattle.lane.specs.Idle.{no_lead}

same_all : {A : Type 0} (d : A) (xs : List A) (n : ℕ) → length xs ≡ n → ((i : ℕ) → i < n → get_or xs i d ≡ d) → xs ≡ replicate n d
same_all d [] zero h f = refl
same_all d [] (suc n) h f = absurd (omega (arith, h))
same_all d (x ∷ xs) zero h f = absurd (omega (arith, h))
same_all {A} d (x ∷ xs) (suc n) h f =
    ap (λ (y : A). y ∷ xs) (f 0 (omega arith)) ∙ ap (λ (t : List A). d ∷ t) (same_all d xs n (omega (arith, h)) (λ i k. f (suc i) (omega (arith, k))))

pub all_default : {A : Type 0} {P : A → Type 0} {xs : List A} {n : ℕ} (d : A) → ((x : A) → P x → x ≡ d) → AllOfLen P xs n → xs ≡ replicate n d
all_default {A} {P} {xs} {n} d is a = same_all d xs n a.long (λ i h. is (get_or xs i d) (a.at i d h))

pub no_sample : (x : C32) → (x.re ≡ zero32) × (x.im ≡ zero32) → x ≡ zero_c32
no_sample x h = made x.re x.im h.0 h.1
  where
    made : (re im : Float) → re ≡ zero32 → im ≡ zero32 → record { re = re; im = im } ≡ zero_c32
    made re im p q = simp (p, q)

pub lead_default : {P : Float → Type 0} {Q : C32 → Type 0} (l : Lead) → ((x : Float) → P x → x ≡ zero32) → ((x : C32) → Q x → x ≡ zero_c32)
    → (l.lead_at ≡ 0) × ((l.lead_n ≡ 0) × (AllOfLen P l.lead_e 16 × AllOfLen Q l.lead_x 17)) → l ≡ no_lead
lead_default l p q (a, (n, (e, x))) = made l.lead_at l.lead_n l.lead_e l.lead_x a n (all_default zero32 p e) (all_default zero_c32 q x)
  where
    made : (at n : ℕ) (es : List Float) (xs : List C32) → at ≡ 0 → n ≡ 0 → es ≡ replicate 16 zero32 → xs ≡ replicate 17 zero_c32
        → record { lead_at = at; lead_n = n; lead_e = es; lead_x = xs } ≡ no_lead
    made at n es xs a b c d = simp (a, b, c, d)
