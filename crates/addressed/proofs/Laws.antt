-- Laws of the commands of sixteen antennas that a reader of a stream needs. With two bytes there the command is the one that its bytes are
-- without the second, so each law is that of `listing`'s decoder; with one byte no command fits but one that no antenna would change.
use Prim.Native.Nat.{ℕ, suc, ◌<◌, ◌≤◌}
use mathlib.Core.Bool.{Bool, true, false}
use mathlib.Core.Path.{◌≡◌, refl, ap, sym, ◌∙◌}
use mathlib.Core.List.{List, [], ◌∷◌, ◌++◌}
use native.Mathlib.Omega.{arith}
use native.Mathlib.Nat.{not-suc-le-zero}
use lib.ListN.{length, get_or, drop}
use lib.Dec.{eqb}
use borrow.Author.Tests.{le-ltb, ne_eqb, eq-eqb}
use Rattle.commands.specs.declared.Command.TheVariants.{Open, OpenCarry, Begin, Step, Close}
use Rattle.commands.specs.declared.Missing.TheVariants as missing
use Rattle.commands.specs.Command.{Found, step_of, step_args_of, decoded, size_of, is_step_of}
use Rattle.commands.specs.Stream.{whole}
use Rattle.shared.proofs.Tests.{clash}
use Rattle.commands.proofs.Stream.{decoded_more, no_step_given, is_end, a_step, some_there as some_decoded, size_fits as fits, step_there as step_in, long_front as front}
use Rattle.std.specs.Prelude.{Some, None, Ok, Err}
use Rattle.addressed.specs.Addressed.{without_antenna, addressed_of, antenna_of, addressed_size}

-- ---- the layout

-- the antenna put in after the command byte c: the bytes decode to the command that they are without it, and to that antenna
pub addressed_by : (c i : ℕ) (o : List ℕ) → addressed_of (c ∷ i ∷ o) ≡ decoded (c ∷ o)
unfolding addressed_of
addressed_by c i o = simp (le-ltb (suc (suc (length o))) 2 (omega arith))

pub antenna_by : (c i : ℕ) (o : List ℕ) → antenna_of (c ∷ i ∷ o) ≡ i
antenna_by c i o = refl

-- and bytes of which there are two are such a layout
pub laid_out : (s : List ℕ) → 2 ≤ length s → get_or s 0 0 ∷ antenna_of s ∷ drop 2 s ≡ s
laid_out [] h = absurd (not-suc-le-zero h)
laid_out (c ∷ []) h = absurd (omega arith)
laid_out (c ∷ i ∷ o) h = refl

-- without the antenna
pub addressed_lone : (c : ℕ) → addressed_of (c ∷ []) ≡ without_antenna (decoded (c ∷ []))
unfolding addressed_of
addressed_lone c = refl

-- ---- where the bytes end

pub none_there : addressed_of [] ≡ Err missing.End
unfolding addressed_of decoded
none_there = refl

-- without the antenna only 05 differs: what says the same of it and of bytes that are short says the same
lone : {A : Type 0} (F : Found → A) → F (Err missing.Short) ≡ F (Ok Close) → (k : Found) → F (without_antenna k) ≡ F k
lone F h (Ok (Open p)) = refl
lone F h (Ok (OpenCarry p)) = refl
lone F h (Ok (Begin b)) = refl
lone F h (Ok (Step s)) = refl
lone F h (Ok Close) = h
lone F h (Err m) = refl

pub some_there : (b : ℕ) (o : List ℕ) → is_end (addressed_of (b ∷ o)) ≡ false
some_there b [] = ap is_end (addressed_lone b) ∙ lone is_end refl (decoded (b ∷ [])) ∙ some_decoded b []
some_there b (i ∷ o) = ap is_end (addressed_by b i o) ∙ some_decoded b o

-- ---- a command that lies in the bytes takes no more of them than there are

-- of one byte nothing is a command with an antenna
lone_none : (k : Found) → size_of k ≤ 1 → addressed_size (without_antenna k) ≡ 0
lone_none (Ok (Open p)) h = absurd (omega arith)
lone_none (Ok (OpenCarry p)) h = absurd (omega arith)
lone_none (Ok (Begin b)) h = absurd (omega arith)
lone_none (Ok (Step s)) h = absurd (omega arith)
lone_none (Ok Close) h = refl
lone_none (Err m) h = refl

grown : (k : Found) (m : ℕ) → size_of k ≤ m → addressed_size k ≤ suc m
grown (Ok k) m h = omega (arith, h)
grown (Err n) m h = omega arith

pub size_fits : (s : List ℕ) → addressed_size (addressed_of s) ≤ length s
size_fits [] = simp none_there (omega arith)
size_fits (b ∷ []) = simp (addressed_lone, lone_none (decoded (b ∷ [])) (fits (b ∷ []))) (omega arith)
size_fits (b ∷ i ∷ o) = simp addressed_by (grown (decoded (b ∷ o)) (suc (length o)) (fits (b ∷ o)))

-- no command takes more than 62 bytes
pub size_small : (k : Found) → size_of k ≤ 61
size_small (Ok (Open p)) = omega arith
size_small (Ok (OpenCarry p)) = omega arith
size_small (Ok (Begin b)) = omega arith
size_small (Ok (Step s)) = omega arith
size_small (Ok Close) = omega arith
size_small (Err m) = omega arith

-- ---- bytes that come after a whole command change nothing

-- one byte is whole only where no command begins with it
lone_whole : (k : Found) → size_of k ≤ 1 → whole (without_antenna k) ≡ true → k ≡ Err missing.Unknown
lone_whole (Err missing.End) h w = clash (sym w)
lone_whole (Ok (Open p)) h w = absurd (omega arith)
lone_whole (Ok (OpenCarry p)) h w = absurd (omega arith)
lone_whole (Ok (Begin b)) h w = absurd (omega arith)
lone_whole (Ok (Step s)) h w = absurd (omega arith)
lone_whole (Err missing.Unknown) h w = refl
lone_whole (Err missing.Short) h w = clash (sym w)
lone_whole (Ok Close) h w = clash (sym w)

unknown_lone : (b : ℕ) → whole (addressed_of (b ∷ [])) ≡ true → decoded (b ∷ []) ≡ Err missing.Unknown
unknown_lone b w = lone_whole (decoded (b ∷ [])) (fits (b ∷ [])) (sym (ap whole (addressed_lone b)) ∙ w)

nothing_whole : whole (addressed_of []) ≡ true → ⊥
nothing_whole w = clash (sym w ∙ ap whole none_there)

pub addressed_more : (s t : List ℕ) → whole (addressed_of s) ≡ true → addressed_of (s ++ t) ≡ addressed_of s
addressed_more [] t w = absurd (nothing_whole w)
addressed_more (b ∷ []) [] w = refl
addressed_more (b ∷ []) (i ∷ o) w =
    let q = unknown_lone b w in
    addressed_by b i o ∙ decoded_more (b ∷ []) o (ap whole q) ∙ q ∙ sym (addressed_lone b ∙ ap without_antenna q)
addressed_more (b ∷ i ∷ o) t w =
    addressed_by b i (o ++ t) ∙ decoded_more (b ∷ o) t (sym (ap whole (addressed_by b i o)) ∙ w) ∙ sym (addressed_by b i o)

pub antenna_more : (s t : List ℕ) → whole (addressed_of s) ≡ true → (size_of (addressed_of s) ≡ 0 → ⊥) → antenna_of (s ++ t) ≡ antenna_of s
antenna_more [] t w n = absurd (nothing_whole w)
antenna_more (b ∷ []) t w n = absurd (n (ap size_of (addressed_lone b ∙ ap without_antenna (unknown_lone b w))))
antenna_more (b ∷ i ∷ o) t w n = refl

-- ---- a step at the front of the bytes

-- a step has its operand bytes and its antenna's
pub step_there : (s : List ℕ) → is_step_of (addressed_of s) ≡ true → 26 ≤ length s
step_there [] e = clash (sym e ∙ ap is_step_of none_there)
step_there (b ∷ []) e =
    absurd (omega (arith, (step_in (b ∷ []) (sym (ap is_step_of (addressed_lone b) ∙ lone is_step_of refl (decoded (b ∷ []))) ∙ e)).0))
step_there (b ∷ i ∷ o) e = omega (arith, (step_in (b ∷ o) (sym (ap is_step_of (addressed_by b i o)) ∙ e)).0)

-- so its size is 26
pub step_size : (k : Found) → is_step_of k ≡ true → addressed_size k ≡ 26
step_size k e = ap addressed_size (a_step k e).is

-- and its operands are those from place 2 on
pub step_operands : (s : List ℕ) → is_step_of (addressed_of s) ≡ true → Ok (Step (step_args_of (drop 2 s))) ≡ addressed_of s
step_operands [] e = absurd (omega (arith, step_there [] e))
step_operands (b ∷ []) e = absurd (omega (arith, step_there (b ∷ []) e))
step_operands (b ∷ i ∷ o) e = (step_in (b ∷ o) (sym (ap is_step_of (addressed_by b i o)) ∙ e)).1 ∙ sym (addressed_by b i o)

-- 25 bytes and fewer are no step, and with 26 the command byte tells
pub short_front : (s : List ℕ) → length s < 26 → is_step_of (addressed_of s) ≡ false
short_front s h = go (is_step_of (addressed_of s)) refl
  where
    go : (b : Bool) → is_step_of (addressed_of s) ≡ b → b ≡ false
    go true q = absurd (omega (arith, step_there s q))
    go false q = refl

pub long_front : (s : List ℕ) → 26 ≤ length s → eqb (get_or s 0 0) 3 ≡ is_step_of (addressed_of s)
long_front [] h = absurd (omega arith)
long_front (b ∷ []) h = absurd (omega arith)
long_front (b ∷ i ∷ o) h = front (b ∷ o) (omega arith) ∙ sym (ap is_step_of (addressed_by b i o))

-- fewer bytes, or another command byte, give none
pub short_given : (s : List ℕ) → length s < 26 → step_of (addressed_of s) ≡ None
short_given s h = no_step_given (addressed_of s) (short_front s h)

pub other_given : (s : List ℕ) → 26 ≤ length s → (get_or s 0 0 ≡ 3 → ⊥) → step_of (addressed_of s) ≡ None
other_given s h n = no_step_given (addressed_of s) (sym (long_front s h) ∙ ne_eqb (get_or s 0 0) 3 n)

-- and otherwise the operands
pub step_front : (s : List ℕ) → 26 ≤ length s → get_or s 0 0 ≡ 3 → step_of (addressed_of s) ≡ Some (step_args_of (drop 2 s))
step_front s h e = sym (ap step_of (step_operands s (sym (long_front s h) ∙ eq-eqb (get_or s 0 0) 3 e)))
