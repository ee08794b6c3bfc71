-- A turn: the row holds the lane that is asked, and what is left in it is what the stream's command leads to. Of sixteen lanes with buffers first,
-- then of channels, and of lanes whose buffers are lent.
use Prim.Native.Nat.{ℕ, ◌+◌, ◌-◌, ◌<◌, ◌≤◌, ◌^◌}
use mathlib.Core.Bool.{Bool, true, false}
use mathlib.Core.Path.{◌≡◌, refl, sym, ◌∙◌, ap, subst}
use mathlib.Core.List.{List, []}
use native.Mathlib.Omega.{arith}
use lib.ListN.{length, drop, set, get_or, length-set}
use Rattle.std.proofs.lemmas.List.{map-set, get_or-map, length-map}
use Rattle.std.proofs.Common.{map}
use Rattle.lane.specs.declared.Lane.{Lane}
use Rattle.lane.specs.Step.{new_lane}
use Rattle.reached.specs.Reached.{Sound}
use Rattle.calls.specs.Turn.{State, waits, most_of}
use Rattle.addressed.specs.Addressed.{addressed_of, antenna_of}
use Rattle.tagged.specs.Tagged.{tagged_room}
use Rattle.among.specs.Among.{antennas, Lanes, lane_at, put_at, out_of, outs, others_out, Sized}
use Rattle.among.proofs.Laws.{any_default, outs_take, outs_fit, outs_put}
use Rattle.stream.specs.declared.Stop.TheVariants.{Waiting, NoRoom}
use Rattle.stream.specs.declared.Turned.{Turned}
use Rattle.stream.specs.Blocks.{waiting, no_room, Passed, Turn, Stays}
use Rattle.sixteen.specs.declared.Asked.{Asked}
use Rattle.sixteen.specs.declared.Channel.{Channel}
use Rattle.sixteen.specs.declared.Antennas.{Antennas}
use Rattle.sixteen.specs.declared.LentRows.{LentRows}
use Rattle.sixteen.specs.Sixteen.{row_of, machine}
use Rattle.sixteen.specs.Spoken.{Among, Told, has_tagged_room, AllSound, held, lanes_of, state_of, IsSound}
use Rattle.sixteen.specs.Lent.{rows_of, RowsSound}
use Rattle.sixteen.proofs.Rows.{row_in, sound_at, sound_set}
use Rattle.sixteen.proofs.Taken.{no_room_left}

-- ---- the lane of a row, and the count kept beside the lanes

module _ (all : Lanes) (sized : Sized all) (i j : ℕ) (is_j : j ≡ row_of i) (l : Lane) (own : get_or all.0 j new_lane ≡ l) where
  inside : j < length all.0
  inside = omega (arith, row_in i, is_j, sized.lanes)

  row_sound : AllSound all.0 → Sound l
  row_sound h = subst Sound own (sound_at all.0 j new_lane h inside)

  module _ (out : ℕ) (count : out ≡ outs all.0) (w : ℕ) (is_w : w ≡ out_of l) where
    own_out : w ≡ out_of (get_or all.0 j new_lane)
    own_out = is_w ∙ ap out_of (sym own)

    row_left : w ≤ out
    row_left = outs_take all.0 j new_lane w out own_out count inside

    row_among : (p : State) → lane_at all j ≡ p → Among all i (out - w) p
    row_among p at =
        record {
          sized = sized;
          own = ap (lane_at all) (sym is_j) ∙ at;
          count = ap (others_out all.0) (sym is_j) ∙ ap (λ (n : ℕ). outs all.0 - n) (sym own_out) ∙ ap (λ (n : ℕ). n - w) (sym count);
        }

    row_fits : (m : Lane) (o : ℕ) → o ≡ out_of m → out - w + o < 2 ^ 32
    row_fits m o is_o = outs_fit all.0 m w out o is_o count sized.lanes

    row_count : (m : Lane) (o : ℕ) → o ≡ out_of m → out - w + o ≡ outs (set all.0 j m)
    row_count m o is_o = outs_put all.0 j new_lane m w out o own_out count is_o inside

-- ---- the channel of a row

abbrev pub lane_in : Channel → Lane
lane_in c = c.lane

held_at : (cs : List Channel) (j : ℕ) (d : Channel) → j < length cs → lane_at (lanes_of cs) j ≡ held (get_or cs j d)
held_at cs j d h =
    simp (
      get_or-map (λ (c : Channel). c.lane) cs j d new_lane h,
      get_or-map (λ (c : Channel). c.ook) cs j d [] h,
      get_or-map (λ (c : Channel). c.fsk) cs j d [] h,
    )

pub held_put : (cs : List Channel) (j : ℕ) (c : Channel) → lanes_of (set cs j c) ≡ put_at (lanes_of cs) j (held c)
held_put cs j c =
    simp (
      map-set (λ (c : Channel). c.lane) cs j c,
      map-set (λ (c : Channel). c.ook) cs j c,
      map-set (λ (c : Channel). c.fsk) cs j c,
    )

pub sized_lanes : (cs : List Channel) → length cs ≡ antennas → Sized (lanes_of cs)
sized_lanes cs h =
    record {
      lanes = length-map cs (λ (c : Channel). c.lane) ∙ h;
      ooks = length-map cs (λ (c : Channel). c.ook) ∙ h;
      fsks = length-map cs (λ (c : Channel). c.fsk) ∙ h;
    }

module _ (a : Antennas) (sound : IsSound a) (i j : ℕ) (is_j : j ≡ row_of i) (d : Channel) where
  abbrev c : Channel
  c = get_or a.channels j d

  pub there : j < length a.channels
  there = omega (arith, row_in i, is_j, sound.sized)

  sized : Sized (state_of a)
  sized = sized_lanes a.channels sound.sized

  own_lane : get_or (state_of a).0 j new_lane ≡ c.lane
  own_lane = get_or-map (λ (c : Channel). c.lane) a.channels j d new_lane there

  pub sound_there : Sound c.lane
  sound_there = row_sound (state_of a) sized i j is_j c.lane own_lane sound.lanes

  -- and the count kept beside the lanes
  module _ (w : ℕ) (is_w : w ≡ out_of c.lane) where
    pub others_left : w ≤ a.out
    others_left = row_left (state_of a) sized i j is_j c.lane own_lane a.out sound.count w is_w

    pub asked_among : Among (state_of a) i (a.out - w) (held c)
    asked_among = row_among (state_of a) sized i j is_j c.lane own_lane a.out sound.count w is_w (held c) (held_at a.channels j d there)

    pub out_fits : (m : Lane) (o : ℕ) → o ≡ out_of m → a.out - w + o < 2 ^ 32
    out_fits = row_fits (state_of a) sized i j is_j c.lane own_lane a.out sound.count w is_w

    pub sound_after : (n : Channel) (o : ℕ) → o ≡ out_of n.lane → Sound n.lane → IsSound (record { channels = set a.channels j n; out = a.out - w + o })
    sound_after n o is_o h =
        let e : map lane_in (set a.channels j n) ≡ set (state_of a).0 j n.lane = map-set lane_in a.channels j n in
        record {
          sized = length-set a.channels j n ∙ sound.sized;
          lanes = subst AllSound (sym e) (sound_set (state_of a).0 j n.lane sound.lanes h);
          count = row_count (state_of a) sized i j is_j c.lane own_lane a.out sound.count w is_w n.lane o is_o ∙ ap outs (sym e);
        }

-- ---- lanes whose buffers are lent

module _ (r : LentRows) (sound : RowsSound r) (i j : ℕ) (is_j : j ≡ row_of i) (d : Lane) where
  abbrev all : Lanes
  all = rows_of r

  abbrev l : Lane
  l = get_or r.lanes j d

  row_there : j < antennas
  row_there = omega (arith, row_in i, is_j)

  own_row : get_or r.lanes j new_lane ≡ l
  own_row = any_default r.lanes j new_lane d (omega (arith, row_there, sound.sized.lanes))

  pub lent_sound : Sound l
  lent_sound = row_sound all sound.sized i j is_j l own_row sound.lanes

  module _ (w : ℕ) (is_w : w ≡ out_of l) where
    pub lent_left : w ≤ r.out
    lent_left = row_left all sound.sized i j is_j l own_row r.out sound.count w is_w

    pub lent_among : Among all i (r.out - w) (l, get_or r.ook.now j [], get_or r.fsk.now j [])
    lent_among = row_among all sound.sized i j is_j l own_row r.out sound.count w is_w _ (ap (λ (m : Lane). (m, get_or r.ook.now j [], get_or r.fsk.now j [])) own_row)

    pub lent_fits : (m : Lane) (o : ℕ) → o ≡ out_of m → r.out - w + o < 2 ^ 32
    lent_fits = row_fits all sound.sized i j is_j l own_row r.out sound.count w is_w

    pub lent_count : (m : Lane) (o : ℕ) → o ≡ out_of m → r.out - w + o ≡ outs (set r.lanes j m)
    lent_count = row_count all sound.sized i j is_j l own_row r.out sound.count w is_w

-- ---- a turn, or none

-- the lane is put back in its row
pub turn_row : (q : Asked) (all : Lanes) (p n : State) (j : ℕ) (s : List ℕ) (last : Bool) (from at : ℕ) (x y : List ℕ) (z : Turned)
    → Among all q.antenna q.others p → j ≡ row_of q.antenna → waits last (addressed_of (drop from s)) ≡ false → Told q p s from at x z n y
    → Turn machine all s last from at x z (put_at all j n) y
turn_row q all p n j s last from at x y z among is_j ready told =
    record {
      ready = ready;
      near = told.near;
      text = told.text;
      puts = told.puts;
      passes = subst (Passed machine all s from z.used told.text) (ap (λ (i : ℕ). put_at all i n) (sym is_j)) (told.passes all among);
    }

-- or its channel
pub turn_put : (q : Asked) (cs : List Channel) (p : State) (n : Channel) (j : ℕ) (s : List ℕ) (last : Bool) (from at : ℕ) (x y : List ℕ) (z : Turned)
    → Among (lanes_of cs) q.antenna q.others p → j ≡ row_of q.antenna → waits last (addressed_of (drop from s)) ≡ false → Told q p s from at x z (held n) y
    → Turn machine (lanes_of cs) s last from at x z (lanes_of (set cs j n)) y
turn_put q cs p n j s last from at x y z among is_j ready told =
    subst (λ (all : Lanes). Turn machine (lanes_of cs) s last from at x z all y) (sym (held_put cs j n)) (turn_row q (lanes_of cs) p (held n) j s last from at x y z among is_j ready told)

module _ (all : Lanes) (s : List ℕ) (last : Bool) (from at : ℕ) (x : List ℕ) where
  -- the command waits for bytes
  pub turn_waits : waits last (addressed_of (drop from s)) ≡ true → Stays machine all s last from at x Waiting all x
  turn_waits w = record { stopped = waiting refl w; on = refl; same = refl; kept = refl }

  -- the text has no room
  pub turn_full : (i : ℕ) (p : State) → lane_at all (row_of i) ≡ p → waits last (addressed_of (drop from s)) ≡ false → i ≡ antenna_of (drop from s) → has_tagged_room (most_of p) (length x) at ≡ false
      → Stays machine all s last from at x NoRoom all x
  turn_full i p own ready is_i few =
      record {
        stopped =
            no_room refl ready
            (subst (λ (n : ℕ). length x < at + tagged_room (most_of (lane_at all (row_of n)))) is_i
            (subst (λ (q : State). length x < at + tagged_room (most_of q)) (sym own) (no_room_left p (length x) at few)));
        on = refl;
        same = refl;
        kept = refl;
      }
