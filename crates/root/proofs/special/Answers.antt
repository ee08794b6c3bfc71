-- Each test tells one kind of special operand, and what passes them all is none (`RootSpecial.antt`).
use Rattle.std.proofs.Common.{◌≡◌, Bool, true, false, T, refl, subst, sym, ap, ◌∙◌, arith, Some}
use Rattle.std.specs.Bool.{then_some}
use lib.Ieee.{Float, inf, binary32, eq, lt, is_nan, of_bits}
use Rattle.ieee.specs.Constants.{zero32}
use Rattle.root.specs.Root.{special_of}
use Rattle.root.specs.RootSteps.{IsSpecial, a_zero, plus_infinity, no_number, negative}
use Rattle.ieee.proofs.Nan.{told, told_nan, nan_read}
use Rattle.root.proofs.RootSpecial.{special_step, infinity_is, none_of_these}
use Rattle.root.proofs.special.Goals as goal
use Rattle.root.proofs.special.Goals.{then-is_nan-via-then-is_nan, then-is_nan-via-else-is_nan+then-x, then-is_nan-via-else-is_nan+else-x+then-x-2}

infinity_read : of_bits binary32 2139095040 ≡ inf false
unfolding of_bits
infinity_read = refl

none_is : (x : Float) → is_nan x ≡ false → eq x zero32 ≡ false → eq x (inf false) ≡ false → lt x zero32 ≡ false → IsSpecial x → ⊥
none_is x n z i l (a_zero t) = subst T z t
none_is x n z i l (plus_infinity t) = subst T i t
none_is x n z i l (no_number t) = subst T n t
none_is x n z i l (negative t) = subst T l t

pub returns-then-is_nan : goal.returns-then-is_nan
returns-then-is_nan c =
    let x = c.args.x in
    elim c.then-is_nan.branch [
      | then-is_nan-via-then-is_nan w ↦
          let e = told_nan x (sym c.is_nan.ensures.value ∙ w.if-is_nan.true) in
          ap Some e ∙ sym special_step.no_number ∙ ap special_of (sym e)
      | then-is_nan-via-else-is_nan+then-x w ↦ sym (special_step.a_zero x (told w.if-x.true))
      | then-is_nan-via-else-is_nan+else-x+then-x-2 w ↦
          let e = infinity_is x (told (ap (eq x) (sym infinity_read) ∙ w.if-x-2.true)) in
          ap Some e ∙ sym special_step.plus_infinity ∙ ap special_of (sym e)
    ]

below : (x : Float) → is_nan x ≡ false → eq x zero32 ≡ false → eq x (inf false) ≡ false → (l : Bool) → lt x zero32 ≡ l → then_some l (of_bits binary32 0x7fc0_0000) ≡ special_of x
below x n z i true e = ap Some (nan_read binary32 0x7fc0_0000 (omega arith)) ∙ sym (special_step.negative x (told e))
below x n z i false e = sym (none_of_these x (none_is x n z i e))

pub returns : goal.returns
returns c =
    let x = c.args.x in
    c.then_some.ensures ∙ below x (sym c.is_nan.ensures.value ∙ c.if-is_nan.false) c.if-x.false (ap (eq x) (sym infinity_read) ∙ c.if-x-2.false) (lt x zero32) refl
