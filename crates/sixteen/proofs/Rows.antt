-- One lane in its row among sixteen: what it is after another was put there, and that the number of the others stays.
use Prim.Native.Nat.{ℕ, zero, suc, ◌<◌}
use mathlib.Core.Bool.{Bool, true, false, cond}
use mathlib.Core.Path.{◌≡◌, refl, ◌∙◌, ap}
use mathlib.Core.List.{List, [], ◌∷◌}
use native.Mathlib.Omega.{arith}
use native.Mathlib.Nat.{not-suc-le-zero, le_of_suc-le-suc}
use lib.ListN.{length, set, get_or, length-set, replicate}
use lib.Seq.{get_or-set_same, set-set}
use lib.Dec.{ltb}
use borrow.Author.Tests.{ltb-true}
use Rattle.lane.specs.declared.Lane.{Lane}
use Rattle.lane.specs.Step.{new_lane}
use Rattle.reached.specs.Reached.{Sound}
use Rattle.calls.specs.Turn.{State}
use Rattle.among.specs.Among.{antennas, Lanes, lane_at, put_at, out_of, others_out, Sized}
use Rattle.among.proofs.Laws.{outs_at, outs_set}
use Rattle.sixteen.specs.Sixteen.{row_of}
use Rattle.sixteen.specs.Spoken.{Among, AllSound}

-- there is such a row
pub row_in : (i : ℕ) → row_of i < antennas
row_in i = go (ltb i antennas) refl
  where
    go : (b : Bool) → ltb i antennas ≡ b → cond b i 0 < antennas
    go true q = ltb-true i antennas q
    go false q = omega arith

pub put_again : (all : Lanes) (i : ℕ) (q r : State) → put_at (put_at all i q) i r ≡ put_at all i r
put_again all i q r = simp (set-set all.0 i q.0 r.0, set-set all.1 i q.1 r.1, set-set all.2 i q.2 r.2)

pub sized_put : (all : Lanes) (i : ℕ) (q : State) → Sized all → Sized (put_at all i q)
sized_put all i q s = record { lanes = length-set all.0 i q.0 ∙ s.lanes; ooks = length-set all.1 i q.1 ∙ s.ooks; fsks = length-set all.2 i q.2 ∙ s.fsks }

own_after : (all : Lanes) (i : ℕ) (q : State) → i < antennas → Sized all → lane_at (put_at all i q) i ≡ q
own_after all i q h s =
    simp (
      get_or-set_same all.0 i q.0 new_lane (omega (arith, s.lanes)),
      get_or-set_same all.1 i q.1 [] (omega (arith, s.ooks)),
      get_or-set_same all.2 i q.2 [] (omega (arith, s.fsks)),
    )

others_after : (ls : List Lane) (i : ℕ) (m : Lane) → i < length ls → others_out (set ls i m) i ≡ others_out ls i
others_after ls i m h = omega (arith, ap out_of (get_or-set_same ls i m new_lane h), outs_at ls i new_lane h, outs_set ls i new_lane m h)

-- the antenna is asked again
pub among_after : (all : Lanes) (i n : ℕ) (p q : State) → Among all i n p → Among (put_at all (row_of i) q) i n q
among_after all i n p q a =
    record {
      sized = sized_put all (row_of i) q a.sized;
      own = own_after all (row_of i) q (row_in i) a.sized;
      count = others_after all.0 (row_of i) q.0 (omega (arith, row_in i, a.sized.lanes)) ∙ a.count;
    }

-- ---- sound lanes

pub sound_at : (ls : List Lane) (i : ℕ) (d : Lane) → AllSound ls → i < length ls → Sound (get_or ls i d)
unfolding AllSound
sound_at [] i d h b = absurd (not-suc-le-zero b)
sound_at (l ∷ ls) zero d h b = h.0
sound_at (l ∷ ls) (suc i) d h b = sound_at ls i d h.1 (le_of_suc-le-suc b)

pub sound_set : (ls : List Lane) (i : ℕ) (m : Lane) → AllSound ls → Sound m → AllSound (set ls i m)
unfolding AllSound
sound_set [] i m h s = tt
sound_set (l ∷ ls) zero m h s = (s, h.1)
sound_set (l ∷ ls) (suc i) m h s = (h.0, sound_set ls i m h.1 s)

pub sound_new : (n : ℕ) (l : Lane) → Sound l → AllSound (replicate n l)
unfolding AllSound
sound_new zero l s = tt
sound_new (suc n) l s = (s, sound_new n l s)
