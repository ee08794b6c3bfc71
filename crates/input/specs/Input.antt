-- What a read of a live input says.
use Rattle.std.specs.Prelude.{ℕ, ◌+◌, ◌≤◌, Bool, true, ◌≡◌, List, length, take}
use Rattle.input.specs.declared.Input.{Input}

-- so many bytes come after the first `have` of the buffer b, which stay
pub record Came (b : List ℕ) (have came : ℕ) (x : List ℕ) : Type 0 where
  pub inside : have + came ≤ length x
  pub front : take have x ≡ take have b

-- none come once the input has ended, nor where bytes that are there may still be answered
pub record Quiet (last full : Bool) (i : Input) : Type 0 where
  pub none_after : last ≡ true → i.came ≡ 0
  pub ended_stays : last ≡ true → i.last ≡ true
  pub none_while : full ≡ true → i.came ≡ 0
