-- What a call prints has room where `most_of` says so: no part that is printed is longer than its buffer, nor than two slots for each pulse.
use Prim.Native.Nat.{ℕ, ◌+◌, ◌*◌, ◌-◌, ◌<◌, ◌≤◌, max}
use mathlib.Core.Bool.{Bool, true, false, cond}
use mathlib.Core.Path.{◌≡◌, refl, ◌∙◌, ap}
use mathlib.Core.List.{List, ◌++◌}
use native.Mathlib.Omega.{arith}
use lib.ListN.{length, take, length-take}
use lib.Seq.{sets}
use lib.Dec.{eqb, leb}
use borrow.Author.Tests.{leb-false, le-ltb, le-leb}
use Rattle.std.specs.Prelude.{Result, Ok, Err, is_ok, IsErrAnd, MatchResult}
use Rattle.shared.specs.declared.Next.TheVariants.{Stay, Idle, IdleAt}
use Rattle.shared.specs.declared.Next.{Next}
use Rattle.shared.specs.declared.Out.{Out}
use Rattle.shared.proofs.Tests.{clash}
use Rattle.refusals.specs.Order.{number_of}
use Rattle.lane.specs.declared.Lane.{Lane}
use Rattle.lane.specs.Answers.{Reply, reply_number_of}
use Rattle.lane.specs.declared.StepArgs.{StepArgs}
use Rattle.lane.specs.Step.{stepped, closed}
use Rattle.lane.specs.Part.{front, named_of, part_refusal, part_of}
use Rattle.commands.specs.Command.{Found}
use Rattle.commands.specs.declared.Command.TheVariants.{Open, OpenCarry, Begin, Step, Close}
use Rattle.commands.specs.declared.Missing.TheVariants as missing
use Rattle.std.specs.Prelude.{Option, unwrap_or}
use Rattle.lines.specs.Line.{max_slots, call_room, larger_of, has_room, record_line, call_text, written_call, put}
use Rattle.lines.proofs.Room.{room_there, length_call}
use Rattle.reached.proofs.Records.{PartsFit, parts_fit_step, parts_fit_close, parts_fit_begin, parts_fit_open, slots_step, slots_close, answered_step, answered_close, answered_begin, answered_open}
use Rattle.calls.specs.Turn.{State, Called, called, shown_of, by_number, answer_text, called_text, text_of, waits, slots_of, most_of, Shown}

-- ---- room

-- no part is longer than the buffer that it is of
front_short : (n most : ℕ) (s : List ℕ) → length s ≤ most → length (front n s) ≤ most
unfolding front
front_short n most s h = go (leb n (length s))
  where
    go : (b : Bool) → length (cond b (take n s) (take 0 s)) ≤ most
    go true = omega (arith, length-take n s)
    go false = omega arith

part_short : (l : Lane) (r : Out) (ook fsk : List ℕ) (most : ℕ) → length ook ≤ most → length fsk ≤ most → length (part_of l r ook fsk) ≤ most
unfolding part_of named_of
part_short l r ook fsk most h g = go (is_ok (part_refusal l r)) (eqb r.state 1) (eqb r.fsk 1)
  where
    go : (a b d : Bool) → length (cond a (cond b (cond d (front (2 * r.pairs) fsk) (front (2 * r.pairs) ook)) (take 0 ook)) (take 0 ook)) ≤ most
    go true true true = front_short (2 * r.pairs) most fsk g
    go true true false = front_short (2 * r.pairs) most ook h
    go true false d = omega arith
    go false b d = omega arith

larger_short : (n m most : ℕ) → n ≤ most → m ≤ most → larger_of n m ≤ most
larger_short n m most h g = omega arith

-- room for longer parts is room for shorter ones
room_less : (n most len at : ℕ) → n ≤ most → has_room most len at ≡ true → has_room n len at ≡ true
unfolding has_room
room_less n most len at h e =
    let k = room_there most len at e in
    simp (
      le-ltb max_slots n (omega (arith, k.0)),
      le-ltb len at (omega (arith, k.1)),
      le-leb (call_room n) (len - at) (omega (arith, k.1)),
    )

-- ---- the parts that a call prints

-- and more of them never count
slots_most : (pulses ook fsk : ℕ) → slots_of pulses ook fsk ≤ max_slots
unfolding slots_of
slots_most pulses ook fsk = omega arith

-- so a text has no room for a call only where too few of its bytes are left
pub too_few_left : (p : State) (len at : ℕ) → at ≤ len → has_room (most_of p) len at ≡ false → len < at + call_room (most_of p)
unfolding has_room
too_few_left p len at h e =
    let n = slots_most p.0.settings.max_pulses (length p.1) (length p.2) in
    let few : leb (call_room (most_of p)) (len - at) ≡ false = simp (le-ltb max_slots (most_of p) n, le-ltb len at h) at e in
    omega (arith, leb-false (call_room (most_of p)) (len - at) few, h)

-- a record's part, where the call is not refused
shown_by : (r : Reply) (l : Lane) (o : Out) (ook fsk : List ℕ) (most : ℕ) → ((reply_number_of r ≡ 3 → ⊥) → length (part_of l o ook fsk) ≤ most) → length (shown_of r l o ook fsk) ≤ most
shown_by (Err n) l o ook fsk most h = omega arith
shown_by (Ok Stay) l o ook fsk most h = h (λ e. omega (arith, e))
shown_by (Ok Idle) l o ook fsk most h = h (λ e. omega (arith, e))
shown_by (Ok (IdleAt x)) l o ook fsk most h = h (λ e. omega (arith, e))

shown_fits : (c : Called) (most : ℕ) → ((reply_number_of c.0.reply ≡ 3 → ⊥) → PartsFit most c.0.lane c.1 c.2) → Shown c most
shown_fits c most h =
    record {
      fsk_shown = shown_by c.0.reply c.0.lane c.0.lane.burst.out_fsk c.1 c.2 most (λ n. (h n).fsk_part);
      ook_shown = shown_by c.0.reply c.0.lane c.0.lane.burst.out_ook c.1 c.2 most (λ n. (h n).ook_part);
    }

-- parts in two slots for each pulse, of buffers as long as before the call, where the pulses are document 01's 65,536 at most
parts_held : (p : State) (c : Called) → length c.1 ≡ length p.1 → length c.2 ≡ length p.2 → 2 * p.0.settings.max_pulses ≤ max_slots
    → PartsFit (2 * p.0.settings.max_pulses) c.0.lane c.1 c.2 → PartsFit (most_of p) c.0.lane c.1 c.2
unfolding slots_of
parts_held p c h g d f =
    let longer : ℕ = max (length p.1) (length p.2) in
    let l = c.0.lane in
    let short : (o : Out) → length (part_of l o c.1 c.2) ≤ longer = λ o. part_short l o c.1 c.2 longer (omega (arith, h)) (omega (arith, g)) in
    let within : (o : Out) → length (part_of l o c.1 c.2) ≤ 2 * p.0.settings.max_pulses → length (part_of l o c.1 c.2) ≤ most_of p =
    λ o k. omega (arith, k, d, short o) in
    record { ook_part = within l.burst.out_ook f.ook_part; fsk_part = within l.burst.out_fsk f.fsk_part }

-- so have a step and a close that are accepted
step_shown : (p : State) (s : StepArgs) → length (called p (Ok (Step s))).1 ≡ length p.1 → length (called p (Ok (Step s))).2 ≡ length p.2 → Shown (called p (Ok (Step s))) (most_of p)
unfolding called
step_shown p s h g =
    let c = stepped p.0 s p.1 p.2 in
    shown_fits c (most_of p) (λ n.
    let e = answered_step p.0 s p.1 p.2 n in
    parts_held p c h g (slots_step p.0 s (length p.1) (length p.2) e) (parts_fit_step p.0 s p.1 p.2 e c.1 c.2))

close_shown : (p : State) → length (called p (Ok Close)).1 ≡ length p.1 → length (called p (Ok Close)).2 ≡ length p.2 → Shown (called p (Ok Close)) (most_of p)
unfolding called
close_shown p h g =
    let c = closed p.0 p.1 p.2 in
    shown_fits c (most_of p) (λ n.
    let e = answered_close p.0 p.1 p.2 n in
    parts_held p c h g (slots_close p.0 (length p.1) (length p.2) e) (parts_fit_close p.0 p.1 p.2 e c.1 c.2))

-- no part that a call prints has more slots than `most_of` says; nothing is said where there is no command
pub shown_most : (p : State) (k : Found) → waits true k ≡ false → length (called p k).1 ≡ length p.1 → length (called p k).2 ≡ length p.2 → Shown (called p k) (most_of p)
unfolding called
shown_most p (Err missing.End) w h g = clash w
shown_most p (Ok (Open s)) w h g = shown_fits (called p (Ok (Open s))) (most_of p) (λ n. parts_fit_open p.0 s (answered_open p.0 s n) (most_of p) p.1 p.2)
shown_most p (Ok (OpenCarry s)) w h g = shown_fits (called p (Ok (OpenCarry s))) (most_of p) (λ n. parts_fit_open p.0 s (answered_open p.0 s n) (most_of p) p.1 p.2)
shown_most p (Ok (Begin b)) w h g = shown_fits (called p (Ok (Begin b))) (most_of p) (λ n. parts_fit_begin p.0 b p.1 p.2 (answered_begin p.0 b p.1 p.2 n) (most_of p) p.1 p.2)
shown_most p (Ok (Step s)) w h g = step_shown p s h g
shown_most p (Err missing.Unknown) w h g = record { fsk_shown = omega arith; ook_shown = omega arith }
shown_most p (Err missing.Short) w h g = record { fsk_shown = omega arith; ook_shown = omega arith }
shown_most p (Ok Close) w h g = close_shown p h g

-- a refused call prints no record, so that its lines are those without the parts
shown_text : (r : Reply) (l : Lane) (ook fsk : List ℕ)
    → call_text (by_number r) (record_line l.burst.out_fsk (shown_of r l l.burst.out_fsk ook fsk) ++ record_line l.burst.out_ook (shown_of r l l.burst.out_ook ook fsk)) l.last ≡ answer_text r l ook fsk
unfolding answer_text call_text
shown_text (Err n) l ook fsk = refl
shown_text (Ok Stay) l ook fsk = refl
shown_text (Ok Idle) l ook fsk = refl
shown_text (Ok (IdleAt e)) l ook fsk = refl

-- std's map_err by the number of a refusal
pub in_number : (r : Reply) (z : Result Next ℕ) → MatchResult r (λ n. z ≡ Ok n) (λ k. IsErrAnd z (λ m. m ≡ number_of k)) → z ≡ by_number r
in_number (Ok n) z h = h
in_number (Err k) (Ok n) h = absurd h
in_number (Err k) (Err m) h = ap (λ (j : ℕ). Err j) h

pub answered : (r : Reply) (l : Lane) (ook fsk fs os x y : List ℕ) (at e : ℕ) (w : Option ℕ) (z : Result Next ℕ)
    → has_room (larger_of (length (shown_of r l l.burst.out_fsk ook fsk)) (length (shown_of r l l.burst.out_ook ook fsk))) (length x) at ≡ true
    → z ≡ by_number r → fs ≡ shown_of r l l.burst.out_fsk ook fsk → os ≡ shown_of r l l.burst.out_ook ook fsk
    → ◌≡◌ {A = Option ℕ × List ℕ} (w, y) (written_call z l.burst.out_fsk fs l.burst.out_ook os l.last at x) → e ≡ unwrap_or w at
    → ◌≡◌ {A = ℕ × List ℕ} (e, y) (put (answer_text r l ook fsk) (at, x))
unfolding written_call put
answered r l ook fsk fs os x y at e w z room dz df dg q de =
    ap (λ (n : ℕ). (n, y)) de ∙ ap (λ (p : Option ℕ × List ℕ). (unwrap_or p.0 at, p.1)) q ∙ rw (dz, df, dg) (rw room (ap (λ (v : List ℕ). (at + length v, sets x at v)) (shown_text r l ook fsk)))

-- the room that a turn has is room for the parts of its call
pub room_shown : (c : Called) (most len at : ℕ) → Shown c most → has_room most len at ≡ true
    → has_room (larger_of (length (shown_of c.0.reply c.0.lane c.0.lane.burst.out_fsk c.1 c.2)) (length (shown_of c.0.reply c.0.lane c.0.lane.burst.out_ook c.1 c.2))) len at ≡ true
room_shown c most len at h room = room_less _ most len at (larger_short _ _ most h.fsk_shown h.ook_shown) room

pub called_short : (c : Called) (most : ℕ) → Shown c most → length (called_text c) ≤ call_room most
called_short c most h =
    let r = c.0.reply in
    let l = c.0.lane in
    let f = l.burst.out_fsk in
    let o = l.burst.out_ook in
    omega (
      arith,
      ap length (shown_text r l c.1 c.2),
      length_call (by_number r) f (shown_of r l f c.1 c.2) o (shown_of r l o c.1 c.2) l.last,
      h.fsk_shown,
      h.ook_shown,
    )

-- a command that is there prints the lines of its call
pub there : (k : Found) (c : Called) → waits true k ≡ false → text_of k c ≡ called_text c
there (Ok k) c w = refl
there (Err missing.End) c w = clash w
there (Err missing.Unknown) c w = refl
there (Err missing.Short) c w = refl
