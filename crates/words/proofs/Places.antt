-- The bytes of a number at a place.
use Prim.Native.Nat.{ℕ, ◌+◌, ◌≤◌}
use mathlib.Core.List.{List, ◌++◌, append_assoc}
use mathlib.Core.Path.{◌≡◌, sym, ◌∙◌}
use lib.ListN.{length, take, drop}
use lib.Seq.{drop-drop, sets-eq}
use Rattle.words.specs.Words.{word, put_at}

-- the four bytes of a number written from p on
pub put_four : (l ws : List ℕ) (p k v : ℕ) → p + 4 ≤ length l → k ≡ 4 → ws ≡ word v → take p l ++ (ws ++ drop k (drop p l)) ≡ put_at l p v
unfolding put_at
put_four l ws p k v h f e = rw (e, f, drop-drop 4 p l) (sym (sets-eq (word v) l p h ∙ append_assoc (take p l) (word v) (drop (p + 4) l)))
