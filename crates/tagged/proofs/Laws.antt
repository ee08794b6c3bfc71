-- The lines of an antenna's call are the lines of a call after its tag.
use Prim.Native.Nat.{ℕ}
use mathlib.Core.Path.{◌≡◌, refl}
use mathlib.Core.List.{List, [], ◌∷◌, append_assoc}
use Rattle.std.specs.Prelude.{Result}
use Rattle.shared.specs.declared.Next.{Next}
use Rattle.lines.specs.Line.{decimal, after_tag, tagged_call}
use Rattle.tagged.specs.Tagged.{tag_of, tagged, tagged_text}

pub line_is : (i : ℕ) (l : List ℕ) → after_tag (tag_of i) l ≡ tagged i l
unfolding after_tag tagged
line_is i [] = refl
line_is i (b ∷ l) = append_assoc (decimal i) (32 ∷ []) (b ∷ l)

pub text_is : (i : ℕ) (t : List ℕ) (r : Result Next ℕ) (f o : List ℕ) (index : ℕ) → t ≡ tag_of i → tagged_call t r f o index ≡ tagged_text i r f o index
unfolding tagged_call tagged_text
text_is i t r f o index e = simp (e, line_is)
