-- How long the lines are at most, and what a text that has room has room for.
use Prim.Native.Nat.{ℕ, ◌+◌, ◌*◌, ◌-◌, ◌≤◌}
use mathlib.Core.Bool.{Bool, true, false, cond}
use mathlib.Core.Path.{◌≡◌, refl, sym, subst}
use mathlib.Core.List.{List, [], ◌∷◌, ◌++◌}
use native.Mathlib.Omega.{arith}
use lib.ListN.{length, length-append}
use lib.Dec.{T, eqb, ltb, leb}
use lib.Ieee.{Float}
use borrow.Author.Tests.{ltb-false, leb-true}
use Rattle.shared.specs.declared.Out.{Out}
use Rattle.shared.specs.declared.Carrier.{Carrier}
use Rattle.shared.specs.declared.Carrier.TheVariants.{Angle, Vector}
use Rattle.std.specs.Prelude.{Result, Ok, Err}
use Rattle.shared.specs.declared.Next.{Next}
use Rattle.shared.specs.declared.Next.TheVariants as next
use Rattle.lines.specs.Line.{hex8, number, float, carrier, widths, train_head, train_tail, train_line, record_line, idle_line, carrier_line, refused_line, call_text, max_slots, train_room, call_room, larger_of, has_room}
use Rattle.lines.proofs.Laws.{length_decimal}

-- ---- lengths

length_float : (x : Float) → length (float x) ≡ 9
unfolding hex8
length_float x = refl

length_kind : (b : Bool) → length {A = ℕ} (cond b (102 ∷ 115 ∷ 107 ∷ []) (111 ∷ 111 ∷ 107 ∷ [])) ≡ 3
length_kind true = refl
length_kind false = refl

length_carrier : (k : Carrier) → length (carrier k) ≤ 25
length_carrier (Angle a) = omega (arith, length_float a)
length_carrier (Vector re im) = omega (arith, length-append (float re) (float im), length_float re, length_float im)

length_widths : (ws : List ℕ) → length (widths ws) ≤ 21 * length ws
unfolding widths
length_widths [] = omega arith
length_widths (w ∷ ws) = omega (arith, length-append (number w) (widths ws), length_decimal w, length_widths ws)

length_head : (o : Out) (span : ℕ) → length (train_head o span) ≤ 87
length_head o span =
    simp length-append
    (omega (arith, length_kind (eqb o.fsk 1), length_decimal o.index, length_decimal o.end, length_decimal o.cut, length_decimal span))

length_tail : (o : Out) (ws : List ℕ) → length (train_tail o ws) ≤ 73 + 21 * length ws
length_tail o ws =
    simp length-append
    (omega (arith, length_float o.level, length_carrier o.carrier, length_decimal o.pairs, length_widths ws))

length_joined : (o : Out) (span : ℕ) (ws : List ℕ) → length (train_head o span ++ train_tail o ws) ≤ train_room (length ws)
length_joined o span ws =
    omega (arith, length-append (train_head o span) (train_tail o ws), length_head o span, length_tail o ws)

length_train : (o : Out) (ws : List ℕ) → length (train_line o ws) ≤ train_room (length ws)
unfolding train_line
length_train o ws = length_joined o _ ws

length_record : (o : Out) (ws : List ℕ) → length (record_line o ws) ≤ train_room (length ws)
unfolding record_line
length_record o ws = go (eqb o.state 1)
  where
    go : (b : Bool) → length (cond b (train_line o ws) []) ≤ train_room (length ws)
    go true = length_train o ws
    go false = omega arith

length_phase : (r : Result Next ℕ) (w : List ℕ) (index : ℕ) → length (call_text r w index) ≤ length w + 48
unfolding call_text idle_line carrier_line refused_line
length_phase (Err n) w index = simp length-append (omega (arith, length_decimal n))
length_phase (Ok next.Stay) w index = omega arith
length_phase (Ok next.Idle) w index = simp length-append (omega (arith, length_decimal index))
length_phase (Ok (next.IdleAt e)) w index = simp length-append (omega (arith, length_decimal index, length_float e))

pub length_call : (r : Result Next ℕ) (f : Out) (fs : List ℕ) (o : Out) (os : List ℕ) (index : ℕ)
    → length (call_text r (record_line f fs ++ record_line o os) index) ≤ train_room (length fs) + train_room (length os) + 48
length_call r f fs o os index =
    omega (
      arith,
      length_phase r (record_line f fs ++ record_line o os) index,
      length-append (record_line f fs) (record_line o os),
      length_record f fs,
      length_record o os,
    )

-- ---- room

all_pass : (a b c : Bool) → cond a false (cond b false c) ≡ true → (a ≡ false) × (b ≡ false) × (c ≡ true)
all_pass false false c e = (refl, refl, e)
all_pass false true c e = absurd (subst T (sym e) tt)
all_pass true b c e = absurd (subst T (sym e) tt)

pub room_there : (n len at : ℕ) → has_room n len at ≡ true → (n ≤ max_slots) × (at + call_room n ≤ len)
unfolding has_room
room_there n len at e =
    let h = all_pass (ltb max_slots n) (ltb len at) (leb (call_room n) (len - at)) e in
    let p = ltb-false max_slots n h.0 in
    let q = ltb-false len at h.1 in
    let s = leb-true (call_room n) (len - at) h.2 in
    (p, omega arith)

pub larger_left : (n m : ℕ) → n ≤ larger_of n m
larger_left n m = omega arith

pub larger_right : (n m : ℕ) → m ≤ larger_of n m
larger_right n m = omega arith

-- what call_lines needs of its text
pub parts_fit : (n m len at : ℕ) → has_room (larger_of n m) len at ≡ true → at + (train_room n + train_room m + 48) ≤ len
parts_fit n m len at e = omega (arith, (room_there (larger_of n m) len at e).1, larger_left n m, larger_right n m)
