-- The samples of a lead-in from their real and imaginary parts: a place stored, read, and their number.
use Prim.Native.Nat.{ℕ, zero, suc}
use mathlib.Core.Path.{◌≡◌, refl, ap}
use mathlib.Core.List.{List, [], ◌∷◌}
use native.Mathlib.Omega.{arith}
use lib.ListN.{set, get_or, length}
use lib.Ieee.{Float, nan}
use Rattle.arith.specs.declared.C32.{C32}
use Rattle.step.specs.Core.{zip_of, reals_of, imaginaries_of}

pub zip_set : (re im : List Float) (i : ℕ) (x : C32) → set (zip_of re im) i x ≡ zip_of (set re i x.re) (set im i x.im)
unfolding zip_of
zip_set [] im i x = refl
zip_set (r ∷ re) [] zero x = refl
zip_set (r ∷ re) [] (suc i) x = refl
zip_set (r ∷ re) (m ∷ im) zero x = refl
zip_set (r ∷ re) (m ∷ im) (suc i) x = ap (λ (t : List C32). record { re = r; im = m } ∷ t) (zip_set re im i x)

pub zip_read : (re im : List Float) (i : ℕ) → length re ≡ length im → get_or (zip_of re im) i (record { re = nan; im = nan }) ≡ record { re = get_or re i nan; im = get_or im i nan }
unfolding zip_of
zip_read [] [] i h = refl
zip_read [] (m ∷ im) i h = absurd (omega (arith, h))
zip_read (r ∷ re) [] i h = absurd (omega (arith, h))
zip_read (r ∷ re) (m ∷ im) zero h = refl
zip_read (r ∷ re) (m ∷ im) (suc i) h = zip_read re im i (omega (arith, h))

pub zip_length : (re im : List Float) → length re ≡ length im → length (zip_of re im) ≡ length re
unfolding zip_of
zip_length [] im h = refl
zip_length (r ∷ re) [] h = absurd (omega (arith, h))
zip_length (r ∷ re) (m ∷ im) h = omega (arith, zip_length re im (omega (arith, h)))

pub zip_parts : (xs : List C32) → zip_of (reals_of xs) (imaginaries_of xs) ≡ xs
unfolding zip_of
zip_parts [] = refl
zip_parts (x ∷ xs) = ap (λ (t : List C32). x ∷ t) (zip_parts xs)
