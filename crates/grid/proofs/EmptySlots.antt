-- Document 01, "Grid": an empty slot, one that is not above the slot before it, has width 0, for every list of u32.
use Prim.Native.Nat.{ℕ, zero, suc, ◌+◌, ◌*◌, ◌-◌, ◌^◌, ◌<◌, ◌≤◌}
use mathlib.Core.Bool.{Bool, true, false, cond}
use mathlib.Core.Path.{◌≡◌, refl, sym, ap, ◌∙◌, subst}
use native.Mathlib.Nat.{mul-pos, mul_assoc, mul-one, mul_comm, mul_right_comm, mul-le-mul_right, lt_of_lt_of_le}
use native.Mathlib.Omega.{arith}
use lib.Pow.{pow_mono, shl_lt}
use lib.Dec.{ltb, leb}
use lib.ListN.{get_or}
use mathlib.Core.List.{List, [], ◌∷◌}
use lib.IntN.{pos}
use borrow.Author.Tests.{ltb-false, le-leb}
use lib.Ieee.{Float, nan, inf, fin, Format, binary64, prec, emax, low, up, down, add, sub, neg, div, sum, round, units, odd, of_int, of_bits}
use lib.Ieee.Exact.{HasValue, round_exact}
use lib.Ieee.Fits.{down_pos}
use lib.Ieee.Scale.{round_same}
use Rattle.ieee.specs.Rounding.{round_of, half_up}
use Rattle.arith.specs.Leaves.{run_fix, whole_of, nearest_in, width_of}
use Rattle.ieee.specs.Constants.{zero64}
use Rattle.ieee.proofs.HalfUp.{round_of_at}
use Rattle.arith.proofs.OwnEdge.{round_flat, nearest_flat, no_width}
use Rattle.fit.specs.Slots.{time_of, fix, slot_before, transitions_of}
use Rattle.grid.specs.Guess.{runs_of, grid_of}
use Rattle.grid.specs.Widths.{measured_of, place_of, on_grid_of, at_start, widths_on, fsk_widths_of}
use Rattle.grid.specs.declared.Clock.{Clock}
use Rattle.grid.specs.declared.Place.{Place}
use Rattle.fit.specs.declared.Grid.{Grid}
use Rattle.std.specs.Prelude.{Option, Some, None}

-- the rounded time of a slot
abbrev boundary : ℕ → Float
boundary v = round_of (time_of (fix v))

empty_slot : (c : Clock) (p : Place) (v : ℕ) → v ≤ p.before_raw → (width_of p.before (place_of c p v).before).0 ≡ 0
unfolding place_of
empty_slot c p v h = simp (le-leb v p.before_raw h) (no_width p.before)

-- what is round_of with a minus sign is no width
below_odd : (d q k l : ℕ) → nearest_in 32 (odd d true q k l) ≡ 0
unfolding odd nearest_in
below_odd d zero k l = refl
below_odd d (suc q) k l = refl

below_units : (f : Format) (q k : ℕ) → nearest_in 32 (units f true q k) ≡ 0
unfolding units
below_units f q k = go (ltb (q * 2 ^ k) (2 ^ (low f + suc (emax f))))
  where
    infinite : nearest_in 32 (inf true) ≡ 0
    infinite = unfold nearest_in in refl

    go : (b : Bool) → nearest_in 32 (cond b (odd (suc (prec f)) true q k (low f)) (inf true)) ≡ 0
    go true = below_odd (suc (prec f)) q k (low f)
    go false = infinite

below : (f : Format) (n c : ℕ) → nearest_in 32 (round f true n c) ≡ 0
unfolding round
below f n c = below_units f _ _

-- the difference of two whole numbers, the first not above
pick_sum : (a b c : ℕ) → 0 < c → a ≤ b → nearest_in 32 (cond (ltb a b) (round binary64 true (b - a) c) (round binary64 false (a - b) c)) ≡ 0
pick_sum a b c h l = go (ltb a b) refl
  where
    go : (t : Bool) → ltb a b ≡ t → nearest_in 32 (cond t (round binary64 true (b - a) c) (round binary64 false (a - b) c)) ≡ 0
    go true e = below binary64 (b - a) c
    go false e =
        let g : b ≤ a = ltb-false a b e in
        nearest_flat 32 _ (round_flat false (a - b) c (omega arith) h)

not_above : (x y : Float) (a b : ℕ) → HasValue x false a 1 → HasValue y false b 1 → a ≤ b → whole_of (sub binary64 x y) ≡ 0
unfolding sub add neg sum
not_above nan y a b v w l = absurd v
not_above (inf s) y a b v w l = absurd v
not_above (fin s m e) nan a b v w l = absurd w
not_above (fin s m e) (inf t) a b v w l = absurd w
not_above (fin true m e) (fin t n d) a b v w l = let z : ◌≡◌ {A = Bool} true false = v.0 in absurd (mathlib.Core.Bool.true≢false z)
not_above (fin false m e) (fin true n d) a b v w l = let z : ◌≡◌ {A = Bool} true false = w.0 in absurd (mathlib.Core.Bool.true≢false z)
not_above (fin false m e) (fin false n d) a b v w l =
    let p : m * up e ≡ a * down e = sym (mul-one (m * up e)) ∙ v.1 in
    let q : n * up d ≡ b * down d = sym (mul-one (n * up d)) ∙ w.1 in
    let g : m * up e * down d ≤ n * up d * down e =
    subst (λ (z : ℕ). z * down d ≤ n * up d * down e) (sym p)
    (subst (λ (z : ℕ). a * down e * down d ≤ z * down e) (sym q)
    (subst (λ (z : ℕ). z ≤ b * down d * down e) (mul_right_comm a (down d) (down e)) (mul-le-mul_right (down e) (mul-le-mul_right (down d) l)))) in
    pick_sum (m * up e * down d) (n * up d * down e) (down e * down d) (mul-pos (down_pos e) (down_pos d)) g

-- ---- the value of a boundary
exact : (v den j : ℕ) → 0 < den → v < 2 ^ 53 → j ≤ 1074 → 2 ^ 1074 ≡ 2 ^ j * den → HasValue (round binary64 false v den) false v den
exact v den j h l k e =
    let r : 53 + j ≤ 1074 + 1024 = omega arith in
    round_exact binary64 false v den v j h l (lt_of_lt_of_le (shl_lt 53 j l) (pow_mono r)) (ap (λ (z : ℕ). v * z) e ∙ sym (mul_assoc v (2 ^ j) den))

int_value : (v : ℕ) → v < 2 ^ 53 → HasValue (of_int binary64 (pos v)) false v 1
unfolding of_int
int_value v l = exact v 1 1074 (omega arith) l (omega arith) refl

over : (x : Float) (v : ℕ) → HasValue x false v 1 → div binary64 x run_fix ≡ round binary64 false v 64
unfolding div of_bits
over nan v h = absurd h
over (inf s) v h = absurd h
over (fin true m e) v h = let z : ◌≡◌ {A = Bool} true false = h.0 in absurd (mathlib.Core.Bool.true≢false z)
over (fin false m e) v h =
    let p : m * up e ≡ v * down e = sym (mul-one (m * up e)) ∙ h.1 in
    round_same binary64 false (m * up e * 1) (64 * down e) v 64 (mul-pos (omega arith) (down_pos e)) (omega arith) (let q : m * up e * 1 ≡ v * down e = h.1 in ap (λ (z : ℕ). z * 64) q ∙ mul_assoc v (down e) 64 ∙ ap (λ (z : ℕ). v * z) (mul_comm (down e) 64))

time_value : (v : ℕ) → v < 2 ^ 53 → HasValue (time_of (fix v)) false v 64
unfolding time_of
time_value v l =
    subst (λ (x : Float). HasValue x false v 64) (sym (over (of_int binary64 (pos v)) v (int_value v l))) (exact v 64 1068 (omega arith) l (omega arith) refl)

half_small : (v : ℕ) → v < 2 ^ 53 → half_up v 64 < 2 ^ 53
half_small v l = omega arith

boundary_value : (v : ℕ) → v < 2 ^ 53 → HasValue (boundary v) false (half_up v 64) 1
boundary_value v l =
    subst (λ (x : Float). HasValue x false (half_up v 64) 1) (sym (round_of_at (time_of (fix v)) false v 64 (omega arith) (time_value v l)))
    (exact (half_up v 64) 1 1074 (omega arith) (half_small v l) (omega arith) refl)

empty_measured : (u v : ℕ) → v ≤ u → u < 2 ^ 32 → whole_of (sub binary64 (boundary v) (boundary u)) ≡ 0
empty_measured u v h l =
    let g : half_up v 64 ≤ half_up u 64 = omega arith in
    not_above (boundary v) (boundary u) (half_up v 64) (half_up u 64) (boundary_value v (omega arith)) (boundary_value u (omega arith)) g

-- ---- the whole list: document 01's "an empty slot has width 0"
pub Slots : List ℕ → Type 0
Slots [] = Unit {0}
Slots (v ∷ vs) = (v < 2 ^ 32) × Slots vs

before_next : (u v : ℕ) (vs : List ℕ) (i : ℕ) → slot_before u (v ∷ vs) (suc i) ≡ slot_before v vs i
before_next u v vs zero = refl
before_next u v vs (suc i) = refl

empty_in_measured : (u : ℕ) (l : List ℕ) (i : ℕ) → u < 2 ^ 32 → Slots l → get_or l i 0 ≤ slot_before u l i → get_or (measured_of (boundary u) l) i 0 ≡ 0
unfolding measured_of Slots
empty_in_measured u [] i h s e = refl
empty_in_measured u (v ∷ vs) zero h s e = empty_measured u v e h
empty_in_measured u (v ∷ vs) (suc i) h s e = empty_in_measured v vs i s.0 s.1 (subst (λ (z : ℕ). get_or vs i 0 ≤ z) (before_next u v vs i) e)

raw_of : (v : ℕ) (a b : Bool) (x y z : Place) → x.before_raw ≡ v → y.before_raw ≡ v → z.before_raw ≡ v → (cond {A = Place} a x (cond {A = Place} b y z)).before_raw ≡ v
raw_of v true b x y z p q r = p
raw_of v false true x y z p q r = q
raw_of v false false x y z p q r = r

place_raw : (c : Clock) (p : Place) (v : ℕ) → (place_of c p v).before_raw ≡ v
unfolding place_of
place_raw c p v = raw_of v (leb v p.before_raw) (ltb p.seen c.n_tr) _ _ _ refl refl refl

empty_in_grid : (c : Clock) (p : Place) (l : List ℕ) (i : ℕ) → get_or l i 0 ≤ slot_before p.before_raw l i → get_or (on_grid_of c p l) i 0 ≡ 0
unfolding on_grid_of
empty_in_grid c p [] i e = refl
empty_in_grid c p (v ∷ vs) zero e = empty_slot c p v e
empty_in_grid c p (v ∷ vs) (suc i) e =
    empty_in_grid c (place_of c p v) vs i (subst (λ (u : ℕ). get_or vs i 0 ≤ slot_before u vs i) (sym (place_raw c p v)) (subst (λ (z : ℕ). get_or vs i 0 ≤ z) (before_next p.before_raw v vs i) e))

start : boundary 0 ≡ zero64
unfolding time_of round_of div of_int of_bits round
start = refl

pub empty : (slots : List ℕ) (i : ℕ) → Slots slots → get_or slots i 0 ≤ slot_before 0 slots i → get_or (fsk_widths_of slots) i 0 ≡ 0
unfolding fsk_widths_of widths_on
empty slots i s e = go (grid_of (transitions_of slots) (runs_of (transitions_of slots))) (runs_of (transitions_of slots)).count
  where
    go : (g : Option Grid) (count : ℕ) → get_or (widths_on g count slots) i 0 ≡ 0
    go None count = subst (λ (z : Float). get_or (measured_of z slots) i 0 ≡ 0) start (empty_in_measured 0 slots i (omega arith) s e)
    go (Some g) count = empty_in_grid _ at_start slots i e
