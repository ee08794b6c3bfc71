-- Laws of the lines' definitions.
use Prim.Native.Nat.{ℕ, zero, suc, ◌+◌, ◌-◌, ◌/◌, ◌%◌, ◌<◌, ◌≤◌}
use mathlib.Core.Bool.{Bool, true, false, cond}
use mathlib.Core.Path.{◌≡◌, refl, sym, ◌∙◌, ap}
use mathlib.Core.List.{List, [], ◌∷◌, ◌++◌}
use native.Mathlib.Omega.{arith}
use native.Mathlib.Nat.{add-zero, add-suc, suc-add, add_assoc, not-suc-le-zero}
use native.Mathlib.Numerals.{sub-one}
use lib.ListN.{length, set, take, drop, get_or, length-append, length-drop, drop_of_length-le}
use lib.Seq.{take_all, sets, append_snoc}
use Rattle.std.proofs.Common.{append_assoc}
use Rattle.std.proofs.lemmas.List.{take_more, append-nil}
use lib.Dec.{ltb}
use borrow.Author.Tests.{lt-ltb}
use Rattle.lines.specs.Line.{Spelled, leading, decimal, number, widths, put, Put}

-- ---- put

pub sets_append : (a b l : List ℕ) (i : ℕ) → sets (sets l i a) (i + length a) b ≡ sets l i (a ++ b)
sets_append [] b l i = ap (λ (k : ℕ). sets l k b) (add-zero i)
sets_append (x ∷ a) b l i = ap (λ (k : ℕ). sets (sets (set l i x) (suc i) a) k b) (add-suc i (length a) ∙ sym (suc-add i (length a))) ∙ sets_append a b (set l i x) (suc i)

pub put_put : (a b : List ℕ) (p : ℕ × List ℕ) → put b (put a p) ≡ put (a ++ b) p
unfolding put
put_put a b p =
    ap (λ (t : List ℕ). (p.0 + length a + length b, t)) (sets_append a b p.1 p.0)
    ∙ ap (λ (k : ℕ). (k, sets p.1 p.0 (a ++ b))) (add_assoc p.0 (length a) (length b) ∙ ap (λ (n : ℕ). p.0 + n) (sym (length-append a b)))

-- ---- digits

pub drop_set_here : (l : List ℕ) (i v : ℕ) → i < length l → drop i (set l i v) ≡ v ∷ drop (suc i) l
drop_set_here [] i v h = absurd (not-suc-le-zero h)
drop_set_here (x ∷ l) zero v h = refl
drop_set_here (x ∷ l) (suc i) v h = drop_set_here l i v (omega arith)

pub leading_turn : (l : List ℕ) (k n : ℕ) → k < length l → 0 < n
    → leading k (n / 10) ++ drop k (set l k (48 + n % 10)) ≡ leading (suc k) n ++ drop (suc k) l
unfolding leading
leading_turn l k n h p = simp (drop_set_here l k (48 + n % 10) h, lt-ltb 0 n p, append_snoc)

pub leading_zero : (k : ℕ) → leading k 0 ≡ []
unfolding leading
leading_zero zero = refl
leading_zero (suc k) = refl

shorter : (b : Bool) (l : List ℕ) (d k : ℕ) → length l ≤ k → length (cond b (l ++ (d ∷ [])) []) ≤ suc k
shorter true l d k h = omega (arith, length-append l (d ∷ []))
shorter false l d k h = omega arith

pub length_leading : (k n : ℕ) → length (leading k n) ≤ k
unfolding leading
length_leading zero n = omega arith
length_leading (suc k) n = shorter (ltb 0 n) (leading k (n / 10)) (48 + n % 10) k (length_leading k (n / 10))

pub length_decimal : (n : ℕ) → length (decimal n) ≤ 20
unfolding decimal
length_decimal n = omega (arith, length-append (leading 19 (n / 10)) ((48 + n % 10) ∷ []), length_leading 19 (n / 10))

-- one digit more
pub spell_turn : (l : List ℕ) (i n : ℕ) → 0 < i → i ≤ length l → 0 < n
    → leading (i - 1) (n / 10) ++ drop (i - 1) (set l (i - 1) (48 + n % 10)) ≡ leading i n ++ drop i l
spell_turn l zero n a h p = absurd (not-suc-le-zero a)
spell_turn l (suc k) n a h p = rw sub-one (leading_turn l k n h p)

-- the first digit
pub spell_start : (l : List ℕ) (n : ℕ) → length l ≡ 20 → leading 19 (n / 10) ++ drop 19 (set l 19 (48 + n % 10)) ≡ decimal n
unfolding decimal
spell_start l n e = simp (drop_set_here l 19 (48 + n % 10) (omega arith), drop_of_length-le l {i = 20} (omega arith))

-- the digits as a part of the buffer
pub spelled_part : {n start : ℕ} {out : List ℕ} → Spelled n start out → length out ≡ 20 → take (20 - start) (drop start out) ≡ decimal n
spelled_part {n} {start} {out} h e = take_all (20 - start) (drop start out) (omega (arith, length-drop start out)) ∙ h.digits

pub spell_none : (l : List ℕ) (i : ℕ) → drop i l ≡ leading i 0 ++ drop i l
spell_none l i = simp leading_zero

pub spell_full : (l : List ℕ) (i n : ℕ) → i ≤ 0 → drop i l ≡ leading i n ++ drop i l
unfolding leading
spell_full l zero n h = refl
spell_full l (suc i) n h = absurd (not-suc-le-zero h)

-- ---- writers

-- a text, and then another after it
pub then : {w v s t u : List ℕ} {m n at a r : ℕ} → Put w m at s a t → Put v n a t r u → Put (w ++ v) (m + n) at s r u
then {w} {v} {s} {t} {u} {m} {n} {at} {a} {r} p q =
    record { text = q.text ∙ ap (put v) p.text ∙ put_put w v (at, s); near = omega (arith, p.near, q.near) }

-- a text that equals another
pub same : {w v s t : List ℕ} {m at r : ℕ} → w ≡ v → Put w m at s r t → Put v m at s r t
same {w} {v} {s} {t} {m} {at} {r} e p = record { text = p.text ∙ ap (λ (x : List ℕ). put x (at, s)) e; near = p.near }

pub within : {w s t : List ℕ} {m at r : ℕ} (n : ℕ) → m ≤ n → Put w m at s r t → Put w n at s r t
within {w} {s} {t} {m} {at} {r} n h p = record { text = p.text; near = omega (arith, p.near) }

-- what a writer of bytes says, by the text that the bytes are
pub said : {w v s t : List ℕ} {at r : ℕ} → w ≡ v → Put w (length w) at s r t → Put v (length v) at s r t
said {w} {v} {s} {t} {at} {r} e p = within (length v) (omega (arith, ap length e)) (same e p)

-- ---- the widths

widths_append : (a b : List ℕ) → widths (a ++ b) ≡ widths a ++ widths b
unfolding widths
widths_append [] b = refl
widths_append (w ∷ a) b = ap (λ (l : List ℕ). number w ++ l) (widths_append a b) ∙ sym (append_assoc (number w) (widths a) (widths b))

-- one width more
pub widths_more : (ws : List ℕ) (i w : ℕ) → i < length ws → w ≡ get_or ws i 0 → widths (take i ws) ++ number w ≡ widths (take (i + 1) ws)
unfolding widths
widths_more ws i w h e = rw (take_more ws i 0 h) (rw (widths_append (take i ws) (get_or ws i 0 ∷ [])) (simp (e, append-nil)))

pub put_none : (t : List ℕ) (a m : ℕ) → Put [] m a t a t
unfolding put
put_none t a m = record { text = simp add-zero; near = omega arith }
