-- A sample is put where its two parts are (`zip_set`), and past the end nothing is stored.
use Prim.Native.Nat.{ℕ, ◌+◌, ◌≤◌}
use mathlib.Core.Path.{◌≡◌, refl, sym, ◌∙◌}
use mathlib.Core.List.{List}
use native.Mathlib.Omega.{arith}
use lib.Seq.{set_out}
use lib.Ieee.{Float}
use Rattle.arith.specs.declared.C32.{C32}
use Rattle.shared.specs.Counts.{inc}
use Rattle.burst.specs.Lead.{lead_add_of}
use lib.ListN.{set, length, length-set}
use Rattle.step.specs.Core.{zip_of, lead_in}
use Rattle.step.proofs.Zips.{zip_set, zip_length}
use Rattle.step.proofs.lead_add.Goals as goal
use Rattle.step.proofs.lead_add.Goals.{then-i-lt16, else-i-lt16}

-- a sample joins the lead-in, unless that has no place left
lead_adds : (at n r : ℕ) (es re im : List Float) (e : Float) (x : C32) → r ≡ inc n
    → lead_in at r (set es n e) (set re (n + 1) x.re) (set im (n + 1) x.im) ≡ lead_add_of (lead_in at n es re im) e x
unfolding lead_add_of
lead_adds at n r es re im e x h = simp (h, zip_set re im (n + 1) x)

lead_full : (at n r : ℕ) (es re im : List Float) (e : Float) (x : C32) → 16 ≤ n → length es ≡ 16 → length re ≡ 17 → length im ≡ 17 → r ≡ inc n
    → lead_in at r es re im ≡ lead_add_of (lead_in at n es re im) e x
unfolding lead_add_of
lead_full at n r es re im e x h a b d q = simp (q, set_out es n e (omega (arith, h, a)), set_out (zip_of re im) (n + 1) x (omega (arith, h, b, zip_length re im (b ∙ sym d))))

pub returns : goal.returns
unfolding inc
returns c =
    elim c.if-i-lt16.branch [
      | then-i-lt16 w ↦ (
        λ at. simp (w.es-is, w.re-is, w.im-is) (lead_adds at _ _ _ _ _ _ _ refl),
        simp (w.es-is, length-set),
        simp (w.re-is, length-set),
        simp (w.im-is, length-set),
      )
      | else-i-lt16 w ↦ (
        λ at. simp (w.es-is, w.re-is, w.im-is) (lead_full at _ _ _ _ _ _ _ w.if-i-lt16.false c.requires.0 c.requires.1 c.requires.2 refl),
        simp w.es-is,
        simp w.re-is,
        simp w.im-is,
      )
    ]
