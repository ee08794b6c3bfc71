-- The loops that read words from bytes and write them there: a turn and the end of each.
use Prim.Native.Nat.{ℕ, suc, ◌+◌, ◌*◌, ◌<◌, ◌≤◌}
use mathlib.Core.List.{List, ◌∷◌, ◌++◌, append_assoc, append-nil}
use mathlib.Core.Path.{◌≡◌, refl, ap, ◌∙◌}
use native.Mathlib.Omega.{arith}
use native.Mathlib.Numerals.{add-one}
use lib.ListN.{length, take, drop, get_or, set, length-append, drop_of_length-le}
use lib.Seq.{drop-cons, take-suc-set, append_snoc, take_all, take_at, length-take-le, length-sets, sets-eq}
use Rattle.words.specs.Words.{u32_at, decode, word, encode, put_at}
use Rattle.words.proofs.Laws.{byte_at}

-- ---- one word read
decode_at : (l : List ℕ) (p : ℕ) → p + 3 < length l → decode (drop p l) ≡ u32_at l p ∷ decode (drop (p + 4) l)
unfolding decode u32_at
decode_at l p h =
    rw (byte_at l p (p + 1) refl (omega arith), byte_at l (p + 1) (p + 2) (omega arith) (omega arith), byte_at l (p + 2) (p + 3) (omega arith) (omega arith), byte_at l (p + 3) (p + 4) (omega arith) (omega arith))

-- the loop that reads words into a buffer
pub read_turn : (l buf : List ℕ) (m i w : ℕ) → length l ≡ 4 * m → length buf ≡ m → i < length buf → w ≡ u32_at l (4 * i)
    → take (i + 1) (set buf i w) ++ decode (drop (4 * (i + 1)) l) ≡ take i buf ++ decode (drop (4 * i) l)
read_turn l buf m i w n k h ew =
    let f : 4 * i + 3 < length l = omega arith in
    let e : 4 * (i + 1) ≡ 4 * i + 4 = omega arith in
    rw (e, decode_at l (4 * i) f, ← ew, add-one i, take-suc-set buf i w h) (append_snoc (take i buf) w (decode (drop (4 * i + 4) l)))

pub read_end : (l buf : List ℕ) (m i : ℕ) → length l ≡ 4 * m → length buf ≡ m → length buf ≤ i → take i buf ++ decode (drop (4 * i) l) ≡ buf
unfolding decode
read_end l buf m i n q h =
    let k : length l ≤ 4 * i = omega arith in
    rw (drop_of_length-le l k, take_all i buf h) (append-nil buf)

-- ---- one word written
length_put : (l : List ℕ) (p v : ℕ) → length (put_at l p v) ≡ length l
unfolding put_at
length_put l p v = length-sets l p (word v)

put_take : (l : List ℕ) (p v : ℕ) → p + 4 ≤ length l → take (p + 4) (put_at l p v) ≡ take p l ++ word v
unfolding put_at
put_take l p v h =
    let k : p ≤ length l = omega arith in
    let n : length (take p l ++ word v) ≡ p + 4 = length-append (take p l) (word v) ∙ ap (λ (x : ℕ). x + 4) (length-take-le p l k) in
    ap (take (p + 4)) (sets-eq (word v) l p h) ∙ take_at (take p l ++ word v) (drop (p + 4) l) (p + 4) n

-- the loop that writes the words of a buffer
pub write_turn : (l l' buf : List ℕ) (m i : ℕ) → m ≡ 4 * length buf → length l ≡ m → i < length buf → l' ≡ put_at l (4 * i) (get_or buf i 0)
    → take (4 * (i + 1)) l' ++ encode (drop (i + 1) buf) ≡ take (4 * i) l ++ encode (drop i buf)
unfolding encode
write_turn l l' buf m i n q h el =
    let k : 4 * i + 4 ≤ length l = omega arith in
    let e : 4 * (i + 1) ≡ 4 * i + 4 = omega arith in
    rw (el, e, put_take l (4 * i) (get_or buf i 0) k, add-one i, drop-cons buf i 0 h) (append_assoc (take (4 * i) l) (word (get_or buf i 0)) (encode (drop (suc i) buf)))

pub write_length : (l l' : List ℕ) (m p v : ℕ) → length l ≡ m → l' ≡ put_at l p v → length l' ≡ m
write_length l l' m p v q el = rw (el, length_put l p v) q

pub write_end : (l buf : List ℕ) (m i : ℕ) → m ≡ 4 * length buf → length l ≡ m → length buf ≤ i → take (4 * i) l ++ encode (drop i buf) ≡ l
unfolding encode
write_end l buf m i n q h =
    let k : length l ≤ 4 * i = omega arith in
    rw (drop_of_length-le buf h, take_all (4 * i) l k) (append-nil l)
