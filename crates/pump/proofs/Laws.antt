-- What is known of a call's result where it failed.
use Rattle.std.proofs.Common.{Bool, true, false, ◌≡◌, refl, Result, Ok, Err, is_ok, MatchResult}
use Rattle.std.specs.Prelude.{IsErr}

module _ {T E : Type 0} where
  pub not_ok : (r : Result T E) → IsErr r → is_ok r ≡ false
  not_ok (Ok v) h = let z : ◌≡◌ {A = Bool} false true = h in cc
  not_ok (Err e) h = refl

  pub at_error : (P : T → Type 0) (Q : Type 0) (r : Result T E) → IsErr r → Q → MatchResult r P (λ e. Q)
  at_error P Q (Ok v) h q = let z : ◌≡◌ {A = Bool} false true = h in cc
  at_error P Q (Err e) h q = q
