use Prim.Native.Nat.{ℕ}
use mathlib.Core.Path.{◌≡◌, refl, ap, sym, subst, ◌∙◌}
use mathlib.Core.List.{List, [], ◌∷◌}
use native.Mathlib.Omega.{arith}
use denote.Ref.{Bor}
use lib.ListN.{length}
use Rattle.std.specs.List.{IsFirstAndRest}
use Rattle.std.specs.Prelude.{Option, Some, None, Result, Ok, Err, IsErrAnd, MatchOption, ok_or}
use Rattle.commands.specs.declared.Missing.{Missing}
use Rattle.commands.specs.declared.Missing.TheVariants as missing
use Rattle.commands.specs.Command.{Found, decoded}
use Rattle.commands.proofs.Rest.{got_none, got_some}
use Rattle.commands.proofs.Stream.{none_there}
use Rattle.commands.proofs.decode_at.Goals as goal

-- what is not there is the end
at_end : {A : Type 0} (g : Option A) (e : Missing) (r : Found) → ◌≡◌ {A = Result A Missing} (Err e) (ok_or g missing.End) → g ≡ None → IsErrAnd r (λ m. m ≡ e) → r ≡ Err missing.End
at_end {A} g e (Err m) h n is =
    let z : ◌≡◌ {A = Result A Missing} (Err e) (Err missing.End) = h ∙ ap (λ (x : Option A). ok_or x missing.End) n in
    ap (λ (k : Missing). Err k) (is ∙ (cc))
at_end g e (Ok k) h n is = absurd is

empty : (s : List ℕ) → length s ≡ 0 → s ≡ []
empty [] h = refl
empty (b ∷ o) h = absurd (omega (arith, h))

-- the first of some bytes and those after it
abbrev First : List ℕ → Option (Bor ℕ × Bor (List ℕ)) → Type 0
First u g = MatchOption g (length u ≡ 0) (λ p. IsFirstAndRest u p.0.now p.1.now)

none_first : (u : List ℕ) (g : Option (Bor ℕ × Bor (List ℕ))) → First u g → g ≡ None → u ≡ []
none_first u g h e = empty u (subst (First u) e h)

some_first : (u : List ℕ) (g : Option (Bor ℕ × Bor (List ℕ))) (b : Bor ℕ) (o : Bor (List ℕ)) → First u g → g ≡ Some (b, o) → b.now ∷ o.now ≡ u
some_first u g b o h e = sym (subst (First u) e h).0

pub returns-in_err-u : goal.returns-in_err-u
returns-in_err-u c =
    at_end _ _ _ c.in_err-u.ensures.value c.in_err-u.ensures.ok_part c.from_residual.ensures.1
    ∙ sym (ap decoded (got_none _ _ _ c.get.ensures.lookup c.in_err-u.ensures.ok_part) ∙ none_there)

pub returns-in_err-b : goal.returns-in_err-b
returns-in_err-b c =
    let there = got_some _ _ _ _ c.get.ensures.lookup c.in_ok-u.ensures.ok_part in
    at_end _ _ _ c.in_err-b.ensures.value c.in_err-b.ensures.ok_part c.from_residual-in_err-b.ensures.1
    ∙ sym (ap decoded (sym there ∙ none_first _ _ c.split_first.ensures.cases c.in_err-b.ensures.ok_part) ∙ none_there)

pub returns : goal.returns
returns c =
    let there = got_some _ _ _ _ c.get.ensures.lookup c.in_ok-u.ensures.ok_part in
    c.decode_by.ensures ∙ ap decoded (some_first _ _ _ _ c.split_first.ensures.cases c.in_ok-b.ensures.ok_part ∙ there)
