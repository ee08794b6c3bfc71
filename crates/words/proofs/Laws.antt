-- A number written is read again, and bytes read are written again; `byte_at` to `float_at` go through bytes place by place.
use Prim.Native.Nat.{ℕ, ◌+◌, ◌*◌, ◌/◌, ◌%◌, ◌<◌, ◌≤◌}
use mathlib.Core.Bool.{not}
use mathlib.Core.Path.{◌≡◌, refl, sym, ◌∙◌, ap}
use mathlib.Core.List.{List, [], ◌∷◌, ◌++◌, append_assoc}
use native.Mathlib.Omega.{arith}
use native.Mathlib.Numerals.{add-one}
use lib.ListN.{length, get_or, drop}
use lib.Seq.{drop-cons}
use lib.Dec.{T}
use lib.Ieee.{Float, binary32, of_bits, to_bits, fits, is_nan}
use lib.Ieee.Bits.{of_bits-to_bits, to_bits-of_bits, to_bits-lt}
use borrow.Author.Tests.{eq-eqb}
use Rattle.words.specs.Words.{joined, u32_at, u64_at, f32_at, decode, word, word64, float, encode, read_of, written_of, Word}

abbrev pub Bytes : List ℕ → Type 0
Bytes o = (i : ℕ) → get_or o i 0 < 256

abbrev pub Number : Float → Type 0
Number x = T (not (is_nan x))

-- ---- written and read

-- the number of a word's bytes
abbrev pub back : ℕ → ℕ
back n = joined (n % 0x100) (n / 0x100 % 0x100) (n / 0x1_0000 % 0x100) (n / 0x100_0000 % 0x100)

by_turns : (n : ℕ) → Word n → joined (n % 0x100) (n / 0x100 % 0x100) (n / 0x100 / 0x100 % 0x100) (n / 0x100 / 0x100 / 0x100 % 0x100) ≡ n
by_turns n h = omega arith

pub word_back : (n : ℕ) → Word n → back n ≡ n
word_back n h =
    let p : n / 0x1_0000 ≡ n / 0x100 / 0x100 = omega arith in
    let q : n / 0x100_0000 ≡ n / 0x100 / 0x100 / 0x100 = omega arith in
    rw (p, q) (by_turns n h)

pub word64_back : (n : ℕ) → n < 0x1_0000_0000_0000_0000 → back (n % 0x1_0000_0000) + back (n / 0x1_0000_0000) * 0x1_0000_0000 ≡ n
word64_back n h = omega (arith, word_back (n % 0x1_0000_0000) (omega arith), word_back (n / 0x1_0000_0000) (omega arith))

pub float_back : (x : Float) → T (fits binary32 x) → of_bits binary32 (back (to_bits binary32 x)) ≡ x
float_back x h = ap (of_bits binary32) (word_back (to_bits binary32 x) (to_bits-lt binary32 x h)) ∙ of_bits-to_bits binary32 x h

-- a whole list
pub data Words : List ℕ → Type 0 where
  none : Words []
  more : {v : ℕ} {vs : List ℕ} → Word v → Words vs → Words (v ∷ vs)

pub list_back : (vs : List ℕ) → Words vs → decode (encode vs) ≡ vs
unfolding decode encode
list_back [] none = refl
list_back (v ∷ vs) (more h k) = ap (λ (n : ℕ). n ∷ decode (encode vs)) (word_back v h) ∙ ap (λ (l : List ℕ). v ∷ l) (list_back vs k)

-- in bytes of exactly their length the words are read and written
pub read_whole : (bytes buf : List ℕ) → length bytes ≡ 4 * length buf → read_of bytes buf ≡ decode bytes
unfolding read_of
read_whole bytes buf h = simp (eq-eqb (length bytes) (4 * length buf) h)

pub written_whole : (bytes buf : List ℕ) → length bytes ≡ 4 * length buf → written_of bytes buf ≡ encode buf
unfolding written_of
written_whole bytes buf h = simp (eq-eqb (length bytes) (4 * length buf) h)

-- ---- read and written

digits : (a b c d : ℕ) → a < 256 → b < 256 → c < 256 → d < 256 → word (joined a b c d) ≡ a ∷ b ∷ c ∷ d ∷ []
digits a b c d ha hb hc hd =
    let n = joined a b c d in
    let p : n / 0x100 ≡ b + c * 0x100 + d * 0x1_0000 = omega arith in
    let q : n / 0x1_0000 ≡ c + d * 0x100 = omega arith in
    let r : n / 0x100_0000 ≡ d = omega arith in
    let e0 : n % 0x100 ≡ a = omega arith in
    let e1 : (b + c * 0x100 + d * 0x1_0000) % 0x100 ≡ b = omega arith in
    let e2 : (c + d * 0x100) % 0x100 ≡ c = omega arith in
    let e3 : d % 0x100 ≡ d = omega arith in
    simp (p, q, r, e0, e1, e2, e3)

halves : (a b : ℕ) → a < 0x1_0000_0000 → b < 0x1_0000_0000 → word64 (a + b * 0x1_0000_0000) ≡ word a ++ word b
halves a b ha hb =
    let n = a + b * 0x1_0000_0000 in
    let e : n % 0x1_0000_0000 ≡ a = omega arith in
    let d : n / 0x1_0000_0000 ≡ b = omega arith in
    simp (e, d)

-- the byte at i, and what comes after it at j
pub byte_at : (o : List ℕ) (i j : ℕ) → j ≡ i + 1 → i < length o → drop i o ≡ get_or o i 0 ∷ drop j o
byte_at o i j e h = rw (e, add-one) (drop-cons o i 0 h)

-- the number at i, and what comes after it at j
module _ (o : List ℕ) (all : Bytes o) where
  in_word : (i : ℕ) → Word (u32_at o i)
  unfolding u32_at
  in_word i = omega (arith, all i, all (i + 1), all (i + 2), all (i + 3))

  four : (i j : ℕ) → j ≡ i + 4 → j ≤ length o → word (u32_at o i) ++ drop j o ≡ drop i o
  unfolding u32_at
  four i j e h =
      ap (λ (w : List ℕ). w ++ drop j o)
      (digits (get_or o i 0) (get_or o (i + 1) 0) (get_or o (i + 2) 0) (get_or o (i + 3) 0) (all i) (all (i + 1)) (all (i + 2)) (all (i + 3)))
      ∙ sym
      (byte_at o i (i + 1) refl (omega arith)
      ∙ ap (λ (l : List ℕ). get_or o i 0 ∷ l)
      (byte_at o (i + 1) (i + 2) (omega arith) (omega arith)
      ∙ ap (λ (l : List ℕ). get_or o (i + 1) 0 ∷ l)
      (byte_at o (i + 2) (i + 3) (omega arith) (omega arith)
      ∙ ap (λ (l : List ℕ). get_or o (i + 2) 0 ∷ l) (byte_at o (i + 3) j (omega arith) (omega arith)))))

  pub word_at : (i j : ℕ) → j ≡ i + 4 → j ≤ length o → {r : List ℕ} → r ≡ drop j o → word (u32_at o i) ++ r ≡ drop i o
  word_at i j e h d = ap (λ (l : List ℕ). word (u32_at o i) ++ l) d ∙ four i j e h

  pub word64_at : (i j : ℕ) → j ≡ i + 8 → j ≤ length o → {r : List ℕ} → r ≡ drop j o → word64 (u64_at o i) ++ r ≡ drop i o
  unfolding u64_at
  word64_at i j e h {r} d =
      ap (λ (w : List ℕ). w ++ r) (halves (u32_at o i) (u32_at o (i + 4)) (in_word i) (in_word (i + 4)))
      ∙ append_assoc (word (u32_at o i)) (word (u32_at o (i + 4))) r
      ∙ word_at i (i + 4) refl (omega arith) (word_at (i + 4) j (omega arith) h d)

  pub float_at : (i j : ℕ) → j ≡ i + 4 → j ≤ length o → Number (f32_at o i) → {r : List ℕ} → r ≡ drop j o → float (f32_at o i) ++ r ≡ drop i o
  float_at i j e h n {r} d =
      ap (λ (b : ℕ). word b ++ r) (to_bits-of_bits binary32 (u32_at o i) (in_word i) n) ∙ word_at i j e h d
