-- Lines after a tag. A line has a byte, so with its tag it is the tag and the line.
use Prim.Native.Nat.{ℕ, ◌<◌}
use mathlib.Core.Bool.{Bool, true, false, cond}
use mathlib.Core.Path.{◌≡◌, refl, ap, sym, ◌∙◌}
use mathlib.Core.List.{List, [], ◌∷◌, ◌++◌}
use Rattle.std.proofs.lemmas.List.{append-nil}
use native.Mathlib.Omega.{arith}
use native.Mathlib.Nat.{not-suc-le-zero}
use lib.ListN.{length}
use lib.Dec.{eqb}
use lib.Ieee.{Float}
use Rattle.shared.specs.declared.Out.{Out}
use Rattle.shared.specs.declared.Next.{Next}
use Rattle.shared.specs.declared.Next.TheVariants.{Stay, Idle, IdleAt}
use Rattle.std.specs.Prelude.{Result, Ok, Err, is_err}
use Rattle.lines.specs.Line.{train_line, record_line, idle_line, carrier_line, refused_line, call_text, after_tag, tagged_call}

pub tagged_some : (t l : List ℕ) → 0 < length l → t ++ l ≡ after_tag t l
unfolding after_tag
tagged_some t [] h = absurd (not-suc-le-zero h)
tagged_some t (b ∷ l) h = refl

pub no_tag : (l : List ℕ) → after_tag [] l ≡ l
unfolding after_tag
no_tag [] = refl
no_tag (b ∷ l) = refl

-- ---- a record's line

kind_some : (b : Bool) (x y : List ℕ) → 0 < length ((cond b (102 ∷ 115 ∷ 107 ∷ []) (111 ∷ 111 ∷ 107 ∷ []) ++ x) ++ y)
kind_some true x y = omega arith
kind_some false x y = omega arith

train_some : (o : Out) (ws : List ℕ) → 0 < length (train_line o ws)
unfolding train_line
train_some o ws = kind_some (eqb o.fsk 1) _ _

pub record_tagged : (t : List ℕ) (o : Out) (ws : List ℕ) → eqb o.state 1 ≡ true → t ++ train_line o ws ≡ after_tag t (record_line o ws)
unfolding record_line
record_tagged t o ws q = simp q (tagged_some t (train_line o ws) (train_some o ws))

pub record_none : (t : List ℕ) (o : Out) (ws : List ℕ) → eqb o.state 1 ≡ false → [] ≡ after_tag t (record_line o ws)
unfolding record_line after_tag
record_none t o ws q = simp q

-- ---- the phase line, or that of a refusal

module _ (t : List ℕ) (index : ℕ) (r : Result Next ℕ) where
  pub refused_tagged : (n : ℕ) → r ≡ Err n → t ++ refused_line n ≡ after_tag t (call_text r [] index)
  unfolding call_text refused_line
  refused_tagged n e = tagged_some t (refused_line n) (omega arith) ∙ ap (λ (x : Result Next ℕ). after_tag t (call_text x [] index)) (sym e)

  pub stay_tagged : r ≡ Ok Stay → [] ≡ after_tag t (call_text r [] index)
  unfolding call_text after_tag
  stay_tagged e = ap (λ (x : Result Next ℕ). after_tag t (call_text x [] index)) (sym e)

  pub idle_tagged : r ≡ Ok Idle → t ++ idle_line index ≡ after_tag t (call_text r [] index)
  unfolding call_text idle_line
  idle_tagged e = tagged_some t (idle_line index) (omega arith) ∙ ap (λ (x : Result Next ℕ). after_tag t (call_text x [] index)) (sym e)

  pub carrier_tagged : (a : Float) → r ≡ Ok (IdleAt a) → t ++ carrier_line index a ≡ after_tag t (call_text r [] index)
  unfolding call_text carrier_line
  carrier_tagged a e = tagged_some t (carrier_line index a) (omega arith) ∙ ap (λ (x : Result Next ℕ). after_tag t (call_text x [] index)) (sym e)

  -- ---- a call

  pub refused_call : (f o : List ℕ) → is_err r ≡ true → after_tag t (call_text r [] index) ≡ tagged_call t r f o index
  unfolding tagged_call
  refused_call f o q = simp q

  pub accepted_call : (f o : List ℕ) → is_err r ≡ false → (after_tag t f ++ after_tag t o) ++ after_tag t (call_text r [] index) ≡ tagged_call t r f o index
  unfolding tagged_call
  accepted_call f o q = simp q

-- with no tag it is what one lane's call prints
pub call_untagged : (r : Result Next ℕ) (f o : List ℕ) (index : ℕ) → tagged_call [] r f o index ≡ call_text r (f ++ o) index
unfolding tagged_call call_text
call_untagged (Err n) f o index = no_tag (refused_line n)
call_untagged (Ok Stay) f o index = simp (no_tag, append-nil)
call_untagged (Ok Idle) f o index = simp no_tag
call_untagged (Ok (IdleAt e)) f o index = simp no_tag
