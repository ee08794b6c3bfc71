-- What is said of an antenna's commands that were taken (`Heard`), of one and of steps one after another, and of their lines (`Told`). Among the
-- other lanes each is one command of the stream, since the lane is put back in its row.
use Prim.Native.Nat.{ℕ, ◌+◌, ◌-◌, ◌≤◌, ◌<◌}
use mathlib.Core.Bool.{Bool, true, false, not, cond, ◌&&◌}
use mathlib.Core.Path.{◌≡◌, refl, ap, sym, ◌∙◌, subst}
use mathlib.Core.List.{List, []}
use native.Mathlib.Omega.{arith}
use lib.ListN.{length, take, drop, length-drop}
use lib.Dec.{eqb, ltb, leb}
use borrow.Author.Tests.{ltb-true, ltb-false, not-true, eqb-true, eq-eqb}
use Rattle.shared.proofs.Tests.{both_true, clash}
use Rattle.lane.specs.declared.Lane.{Lane}
use Rattle.std.specs.Prelude.{Result, Ok, Err, Option, Some, None}
use Rattle.shared.specs.declared.Next.{Next}
use Rattle.shared.specs.declared.Next.TheVariants.{Stay, Idle, IdleAt}
use Rattle.refusals.specs.declared.Refusal.{Refusal}
use Rattle.refusals.specs.declared.Refusal.TheVariants as refusal
use Rattle.lane.specs.declared.StepArgs.{StepArgs}
use Rattle.lane.specs.Answers.{Reply, answer_of}
use Rattle.lane.specs.Step.{refuse}
use Rattle.reached.specs.Reached.{Sound}
use Rattle.commands.specs.declared.Command.{Command}
use Rattle.commands.specs.declared.Command.TheVariants.{Step}
use Rattle.commands.specs.declared.Missing.{Missing}
use Rattle.commands.specs.declared.Missing.TheVariants as missing
use Rattle.commands.specs.Command.{Found, step_of, is_step_of}
use Rattle.commands.proofs.Stream.{step_given, a_step}
use Rattle.lines.specs.Line.{call_text, record_line, train_room, has_room, put, Put}
use Rattle.lines.proofs.Room.{room_there}
use Rattle.lines.proofs.Writers as lines
use Rattle.lines.specs.declared.Text.{Text}
use Rattle.lines.specs.Text.{Puts}
use Rattle.calls.specs.Turn.{State, Called, unchanged, called, next, shown_of, by_number, waits, most_of}
use Rattle.calls.specs.Turn.{Shown}
use Rattle.calls.proofs.Laws.{shown_most, too_few_left}
use Rattle.calls.specs.Steps.{quiet_of, Quiet, Stepped, Went}
use Rattle.calls.specs.Orderly.{step_whole}
use Rattle.calls.proofs.Silent.{Kept, kept_room, Steps, none, some, steps_sound, went_all}
use Rattle.addressed.specs.Addressed.{addressed_of, antenna_of, addressed_size}
use Rattle.addressed.proofs.Laws.{size_fits, step_there}
use Rattle.tagged.specs.Tagged.{tagged, tagged_text, tagged_room}
use Rattle.among.specs.Among.{antennas, places, called_among, Lanes, lane_at, put_at, others_out, no_antenna, answer_to, after_call}
use Rattle.among.specs.Settled.{is_begin_of, late_of, settled_of}
use Rattle.among.proofs.Laws.{settled, among_sound}
use Rattle.stream.specs.Blocks.{Seen, Passed}
use Rattle.stream.proofs.Taken.{stored, passed_one, passed_then}
use Rattle.sixteen.specs.declared.Asked.{Asked}
use Rattle.calls.specs.declared.Past.{Past}
use Rattle.stream.specs.declared.Turned.{Turned}
use Rattle.sixteen.specs.Sixteen.{heard_text, none_text, spoken_text, row_of, machine}
use Rattle.sixteen.specs.Spoken.{Among, one_of, Heard, spoken_room, has_tagged_room, Told}
use Rattle.sixteen.proofs.Rows.{put_again, among_after}
use Rattle.sixteen.specs.Orderly.{put_own, orderly, whole_settled}

abbrev pub past_of : ℕ → Reply → Past
past_of used r = record { used = used; reply = r }

-- ---- the answer to one command

refused_shown : (n : Refusal) (l : Lane) (ook fsk : List ℕ) (most : ℕ) → Shown (record { reply = Err n; lane = l }, ook, fsk) most
refused_shown n l ook fsk most = record { fsk_shown = omega arith; ook_shown = omega arith }

-- a refusal prints its number, whatever the lane
refused_text : (i : ℕ) (n : Refusal) (p q : State) → heard_text i (unchanged (Err n) p) ≡ heard_text i (unchanged (Err n) q)
unfolding heard_text tagged_text call_text
refused_text i n p q = refl

none_answers : (i : ℕ) (k : Found) (p q : State) → spoken_text i k (unchanged (no_antenna k) p) ≡ spoken_text i k (unchanged (no_antenna k) q)
none_answers i (Ok k) p q = refused_text i refusal.Index p q
none_answers i (Err m) p q = refl

none_shown : (k : Found) (p : State) (most : ℕ) → waits true k ≡ false → Shown (unchanged (no_antenna k) p) most
none_shown (Ok k) p most w = refused_shown refusal.Index p.0 p.1 p.2 most
none_shown (Err missing.End) p most w = clash w
none_shown (Err missing.Unknown) p most w = refused_shown refusal.Unknown p.0 p.1 p.2 most
none_shown (Err missing.Short) p most w = refused_shown refusal.Short p.0 p.1 p.2 most

among_shown : (n : ℕ) (p : State) (k : Found) → waits true k ≡ false → length (called_among n p k).1 ≡ length p.1 → length (called_among n p k).2 ≡ length p.2 → Shown (called_among n p k) (most_of p)
unfolding settled_of
among_shown n p k w h g =
    let e = settled n p k in
    let own : Shown (called p k) (most_of p) = shown_most p k w (ap (λ (c : Called). length c.1) (sym e) ∙ h) (ap (λ (c : Called). length c.2) (sym e) ∙ g) in
    subst (λ (c : Called). Shown c (most_of p)) (sym e) (go own (is_begin_of k && (leb places n && late_of (called p k).0.reply)))
  where
    go : Shown (called p k) (most_of p) → (b : Bool) → Shown (cond b (refuse refusal.Places p.0) (called p k).0, (called p k).1, (called p k).2) (most_of p)
    go own true = refused_shown refusal.Places p.0 (called p k).1 (called p k).2 (most_of p)
    go own false = own

module _ (a : Asked) (p : State) where
  abbrev i : ℕ
  i = a.antenna

  abbrev k : Found
  k = a.command

  abbrev here : Bool → Called
  here b = cond {A = Called} b (called_among a.others p k) (unchanged (no_antenna k) p)

  one_sound : Sound p.0 → Sound (one_of a p).0.lane
  unfolding one_of
  one_sound h = go (ltb i antennas)
    where
      go : (b : Bool) → Sound (here b).0.lane
      go true = among_sound a.others p k h
      go false = h

  one_shown : waits true k ≡ false → length (one_of a p).1 ≡ length p.1 → length (one_of a p).2 ≡ length p.2 → Shown (one_of a p) (most_of p)
  unfolding one_of
  one_shown w = go (ltb i antennas)
    where
      go : (b : Bool) → length (here b).1 ≡ length p.1 → length (here b).2 ≡ length p.2 → Shown (here b) (most_of p)
      go true h g = among_shown a.others p k w h g
      go false h g = none_shown k p (most_of p) w

  -- among the others it is the antenna's answer
  module _ (all : Lanes) (A : Among all i a.others p) where
    own : ltb i antennas ≡ true → lane_at all i ≡ p
    own q = sym (ap (λ (b : Bool). lane_at all (cond b i 0)) q) ∙ A.own

    count : ltb i antennas ≡ true → others_out all.0 i ≡ a.others
    count q = sym (ap (λ (b : Bool). others_out all.0 (cond b i 0)) q) ∙ A.count

    same : ltb i antennas ≡ true → called_among a.others p k ≡ called_among (others_out all.0 i) (lane_at all i) k
    same q = ap (λ (n : ℕ). called_among n p k) (sym (count q)) ∙ ap (λ (l : State). called_among (others_out all.0 i) l k) (sym (own q))

    abbrev there : Bool → Called
    there b = cond {A = Called} b (called_among (others_out all.0 i) (lane_at all i) k) (unchanged (no_antenna k) (lane_at all i))

    one_text : spoken_text i k (one_of a p) ≡ spoken_text i k (answer_to all i k)
    unfolding one_of answer_to
    one_text = go (ltb i antennas) refl
      where
        go : (b : Bool) → ltb i antennas ≡ b → spoken_text i k (here b) ≡ spoken_text i k (there b)
        go true q = ap (spoken_text i k) (same q)
        go false q = none_answers i k p (lane_at all i)

    one_after : put_at all (row_of i) (next (one_of a p)) ≡ after_call all i k
    unfolding one_of after_call answer_to
    one_after = go (ltb i antennas) refl
      where
        go : (b : Bool) → ltb i antennas ≡ b → put_at all (cond b i 0) (next (here b)) ≡ cond b (put_at all i (next (there b))) all
        go true q = ap (λ (c : Called). put_at all i (next c)) (same q)
        go false q =
            let e : lane_at all 0 ≡ p = sym (ap (λ (b : Bool). lane_at all (cond b i 0)) q) ∙ A.own in
            ap (λ (l : State). put_at all 0 (l.0, l.1, l.2)) (sym e) ∙ put_own all 0

-- as the code has it: the lane's answer where there is such an antenna, and its refusal where there is none
pub one_here : (a : Asked) (p : State) → ltb a.antenna antennas ≡ true → called_among a.others p a.command ≡ one_of a p
unfolding one_of
one_here a p h = simp h

pub one_none : (a : Asked) (p : State) (r : Reply) → ltb a.antenna antennas ≡ false → r ≡ no_antenna a.command → unchanged r p ≡ one_of a p
unfolding one_of
one_none a p r h e = simp (h, e)

pub no_step : (b d : Bool) → (b && d) ≡ false → d ≡ true → b ≡ false
no_step true d h e = sym e ∙ h
no_step false d h e = refl

-- the one command at a place, by itself
pub heard_one : (a : Asked) (p : State) (s : List ℕ) (from : ℕ) (r : Past) (q : State) (size : ℕ) → from ≤ length s → Sound p.0
    → a.command ≡ addressed_of (drop from s) → a.antenna ≡ antenna_of (drop from s) → waits true a.command ≡ false
    → size ≡ addressed_size a.command → r.used ≡ from + size → (answer_of r.reply q.0, q.1, q.2) ≡ one_of a p
    → length q.1 ≡ length p.1 → length q.2 ≡ length p.2 → Heard a p s from r q
heard_one a p s from r q size inside sound is_k is_i ready is_size is_used is_c is_ook is_fsk =
    record {
      onward = omega (arith, is_used);
      inside = omega (arith, e, size_fits (drop from s), length-drop from s);
      sound = subst (λ (c : Called). Sound c.0.lane) (sym is_c) (one_sound a p sound);
      shown = subst (λ (c : Called). Shown c (most_of p)) (sym is_c) (one_shown a p ready (ap (λ (c : Called). length c.1) (sym is_c) ∙ is_ook) (ap (λ (c : Called). length c.2) (sym is_c) ∙ is_fsk));
      passes = λ all A. passed_one machine orderly all s from r.used _ _ inside e (is_w all A) (is_q all A);
    }
  where
    u : List ℕ
    u = drop from s

    e : r.used ≡ from + addressed_size (addressed_of u)
    e = is_used ∙ ap (λ (n : ℕ). from + n) (is_size ∙ ap addressed_size is_k)

    is_w : (all : Lanes) → Among all a.antenna a.others p → spoken_text a.antenna a.command (answer_of r.reply q.0, q.1, q.2) ≡ spoken_text (antenna_of u) (addressed_of u) (answer_to all (antenna_of u) (addressed_of u))
    is_w all A =
        ap (spoken_text a.antenna a.command) is_c ∙ one_text a p all A
        ∙ ap (λ (j : ℕ). spoken_text j a.command (answer_to all j a.command)) is_i
        ∙ ap (λ (d : Found). spoken_text (antenna_of u) d (answer_to all (antenna_of u) d)) is_k

    is_q : (all : Lanes) → Among all a.antenna a.others p → put_at all (row_of a.antenna) q ≡ after_call all (antenna_of u) (addressed_of u)
    is_q all A =
        ap (λ (c : Called). put_at all (row_of a.antenna) (next c)) is_c ∙ one_after a p all A
        ∙ ap (λ (j : ℕ). after_call all j a.command) is_i
        ∙ ap (λ (d : Found). after_call all (antenna_of u) d) is_k

-- ---- steps one after another

-- a step that stays and decides no record prints nothing
silent : (i : ℕ) (r : Reply) (l : Lane) (ook fsk : List ℕ) → quiet_of r l.burst.out_fsk.state l.burst.out_ook.state ≡ true → heard_text i (answer_of r l, ook, fsk) ≡ []
unfolding heard_text tagged_text tagged call_text record_line
silent i (Err k) l ook fsk h = clash (sym h)
silent i (Ok Stay) l ook fsk h =
    let f = l.burst.out_fsk in
    let o = l.burst.out_ook in
    let b = both_true (not (eqb f.state 1)) (not (eqb o.state 1)) h in
    simp (not-true (eqb f.state 1) b.0, not-true (eqb o.state 1) b.1)
silent i (Ok Idle) l ook fsk h = clash (sym h)
silent i (Ok (IdleAt e)) l ook fsk h = clash (sym h)

step_text : (i : ℕ) (k : Found) (c : Called) → is_step_of k ≡ true → spoken_text i k c ≡ heard_text i c
step_text i k c h = ap (λ (d : Found). spoken_text i d c) (a_step k h).is

-- the steps so far, from p on
abbrev pub StepsHeard : Asked → State → List ℕ → ℕ → ℕ → Reply → State → Type 0
StepsHeard a p s from used r q = Steps (λ (u : ℕ) (z : Reply) (n : State). Heard a p s from (past_of u z) n) p from used r q

-- the bytes of a step are there
pub step_room : (s : List ℕ) (used : ℕ) (b : StepArgs) → Ok (Step b) ≡ addressed_of (drop used s) → used + 26 ≤ length s
step_room s used b e = omega (arith, step_there (drop used s) (ap is_step_of (sym e)), length-drop used s)

module _ (a : Asked) (p : State) (s : List ℕ) (from used : ℕ) (r : Reply) (q : State) (b : StepArgs) (end : ℕ) (z : Reply) (n : State)
    (here : ltb a.antenna antennas ≡ true) (steps : is_step_of a.command ≡ true) (sound : Sound p.0) (so : StepsHeard a p s from used r q)
    (inside : used < length s) (is_b : Ok (Step b) ≡ addressed_of (drop used s)) (is_i : a.antenna ≡ antenna_of (drop used s)) (is_end : end ≡ used + 26) (step : Stepped q b z n) where
  abbrev asked : Asked
  asked = record { others = a.others; antenna = a.antenna; command = Ok (Step b) }

  lone : called q (Ok (Step b)) ≡ one_of asked q
  unfolding one_of called_among
  lone = simp here

  one : Heard asked q s used (past_of end z) n
  one = heard_one asked q s used (past_of end z) n 26 (omega arith) (steps_sound sound so) is_b is_i refl refl is_end (step.gave ∙ lone) step.ook step.fsk

  sees : (t : List ℕ) → Seen machine s used t
  sees t = whole_settled (drop used s) t (step_whole (addressed_of (drop used s)) (ap is_step_of (sym is_b)))

  -- its lines are those of the first command, which is a step too
  same_lines : (c : Called) → spoken_text a.antenna (Ok (Step b)) c ≡ spoken_text a.antenna a.command c
  same_lines c = sym (step_text a.antenna a.command c steps)

  -- one step more
  step_on : Heard a p s from (past_of end z) n
  step_on = go so
    where
      c : Called
      c = (answer_of z n.0, n.1, n.2)

      first : used ≡ from → q ≡ p → Heard a p s from (past_of end z) n
      first e d =
          let f : Heard asked p s from (past_of end z) n = subst (λ (o : State). Heard asked o s from (past_of end z) n) d (subst (λ (m : ℕ). Heard asked q s m (past_of end z) n) e one) in
          record {
            onward = f.onward;
            inside = f.inside;
            sound = f.sound;
            shown = f.shown;
            passes = λ all A. subst (λ (w : List ℕ). Passed machine all s from end w (put_at all (row_of a.antenna) n)) (same_lines c) (f.passes all A);
          }

      further : from < used → Quiet r q → Kept p q → Heard a p s from (past_of used r) q → Heard a p s from (past_of end z) n
      further up quiet keeps h =
          record {
            onward = omega (arith, is_end);
            inside = one.inside;
            sound = one.sound;
            shown = subst (Shown c) (kept_room keeps) one.shown;
            passes = λ all A.
                subst (Passed machine all s from end (spoken_text a.antenna a.command c)) (put_again all (row_of a.antenna) q n)
                (subst (λ (w : List ℕ). Passed machine all s from end w (put_at (put_at all (row_of a.antenna) q) (row_of a.antenna) n)) (same_lines c)
                (passed_then machine orderly all s from used _ (put_at all (row_of a.antenna) q) end _ _ (h.passes all A)
                (step_text a.antenna a.command _ steps ∙ silent a.antenna r q.0 q.1 q.2 quiet) up sees (omega (arith, is_end))
                (one.passes (put_at all (row_of a.antenna) q) (among_after all a.antenna a.others p q A))));
          }

      go : StepsHeard a p s from used r q → Heard a p s from (past_of end z) n
      go (none e d) = first e d
      go (some up quiet keeps still h) = further up quiet keeps h

-- what stands at a place for the antenna i
abbrev pub For : ℕ → List ℕ → Option StepArgs
For i u = cond (eqb (antenna_of u) i) (step_of (addressed_of u)) None

-- a step of it
pub step_here : (u : List ℕ) (i : ℕ) (b : StepArgs) → Some b ≡ For i u → (Ok (Step b) ≡ addressed_of u) × (i ≡ antenna_of u)
step_here u i b h = go (eqb (antenna_of u) i) refl h
  where
    go : (e : Bool) → eqb (antenna_of u) i ≡ e → Some b ≡ cond e (step_of (addressed_of u)) None → (Ok (Step b) ≡ addressed_of u) × (i ≡ antenna_of u)
    go true q g = (step_given (addressed_of u) b (sym g), sym (eqb-true (antenna_of u) i q))
    go false q g = absurd (let z : ◌≡◌ {A = Option StepArgs} (Some b) None = g in cc)

-- or none of it, where a step stands
pub other_there : (u : List ℕ) (i : ℕ) → None ≡ For i u → is_step_of (addressed_of u) ≡ true → i ≡ antenna_of u → ⊥
other_there u i h e own =
    let b = a_step (addressed_of u) e in
    let z : ◌≡◌ {A = Option StepArgs} None (Some b.args) = h ∙ simp (eq-eqb (antenna_of u) i (sym own)) (ap step_of b.is) in
    absurd (cc)

-- steps wherever one of the antenna stands
pub steps_heard : {At : ℕ → StepArgs → Type 0} (a : Asked) (p : State) (s : List ℕ) (from used : ℕ) (r : Reply) (q : State) → ltb a.antenna antennas ≡ true → is_step_of a.command ≡ true → Sound p.0
    → ((at : ℕ) (b : StepArgs) → At at b → Some b ≡ For a.antenna (drop at s)) → Went At 26 p from used r q → Heard a p s from (past_of used r) q
steps_heard a p s from used r q here steps sound is went =
    went_all (λ (u : ℕ) (z : Reply) (n : State). Heard a p s from (past_of u z) n) sound (omega arith)
    (λ used r q b z n so at step.
    let there = step_here (drop used s) a.antenna b (is used b at) in
    step_on a p s from used r q b (used + 26) z n here steps sound so (omega (arith, step_room s used b there.0)) there.0 there.1 refl step) went

-- ---- commands with their lines

-- a call without records has its phase line or its refusal
pub shown_heard : (i : ℕ) (r : Reply) (l : Lane) (ook fsk : List ℕ)
    → tagged_text i (by_number r) (record_line l.burst.out_fsk (shown_of r l l.burst.out_fsk ook fsk)) (record_line l.burst.out_ook (shown_of r l l.burst.out_ook ook fsk)) l.last ≡ heard_text i (answer_of r l, ook, fsk)
unfolding heard_text tagged_text
shown_heard i (Err n) l ook fsk = refl
shown_heard i (Ok Stay) l ook fsk = refl
shown_heard i (Ok Idle) l ook fsk = refl
shown_heard i (Ok (IdleAt e)) l ook fsk = refl

pub heard_put : (i : ℕ) (r : Reply) (z : Result Next ℕ) (l : Lane) (ook fsk fs os : List ℕ) (x y : Text) → z ≡ by_number r → fs ≡ shown_of r l l.burst.out_fsk ook fsk → os ≡ shown_of r l l.burst.out_ook ook fsk
    → Puts (tagged_text i z (record_line l.burst.out_fsk fs) (record_line l.burst.out_ook os) l.last) (train_room (length fs) + train_room (length os) + 48 + 63) x y
    → Puts (heard_text i (answer_of r l, ook, fsk)) (spoken_room r l ook fsk) x y
heard_put i r z l ook fsk fs os x y is_z is_f is_o puts =
    lines.same (shown_heard i r l ook fsk)
    (subst (λ (v : List ℕ). Puts (tagged_text i (by_number r) (record_line l.burst.out_fsk (shown_of r l l.burst.out_fsk ook fsk)) (record_line l.burst.out_ook v) l.last) (train_room (length (shown_of r l l.burst.out_fsk ook fsk)) + train_room (length v) + 48 + 63) x y) is_o
    (subst (λ (v : List ℕ). Puts (tagged_text i (by_number r) (record_line l.burst.out_fsk v) (record_line l.burst.out_ook os) l.last) (train_room (length v) + train_room (length os) + 48 + 63) x y) is_f
    (subst (λ (v : Result Next ℕ). Puts (tagged_text i v (record_line l.burst.out_fsk fs) (record_line l.burst.out_ook os) l.last) (train_room (length fs) + train_room (length os) + 48 + 63) x y) is_z puts)))

pub none_spoken : (i : ℕ) (k : Found) (m : Missing) (c : Called) → k ≡ Err m → none_text m ≡ spoken_text i k c
none_spoken i k m c h = ap (λ (d : Found). spoken_text i d c) (sym h)

pub heard_spoken : (i : ℕ) (k : Found) (j : Command) (c : Called) → k ≡ Ok j → heard_text i c ≡ spoken_text i k c
heard_spoken i k j c h = ap (λ (d : Found). spoken_text i d c) (sym h)

pub quiet_spoken : (i : ℕ) (k : Found) (j : Command) (r : Reply) (l : Lane) (ook fsk : List ℕ) → k ≡ Ok j → quiet_of r l.burst.out_fsk.state l.burst.out_ook.state ≡ true → [] ≡ spoken_text i k (answer_of r l, ook, fsk)
quiet_spoken i k j r l ook fsk h q = sym (silent i r l ook fsk q) ∙ heard_spoken i k j (answer_of r l, ook, fsk) h

-- the room that a turn has is room for the lines of its call
pub room_spoken : (n len at : ℕ) (r : Reply) (l : Lane) (ook fsk : List ℕ) → has_tagged_room n len at ≡ true → Shown (answer_of r l, ook, fsk) n → at + spoken_room r l ook fsk ≤ len
unfolding has_tagged_room
room_spoken n len at r l ook fsk h g = go (ltb len 63) refl h
  where
    go : (b : Bool) → ltb len 63 ≡ b → cond b false (has_room n (len - 63) at) ≡ true → at + spoken_room r l ook fsk ≤ len
    go true q e = clash (sym e)
    go false q e = omega (arith, ltb-false len 63 q, (room_there n (len - 63) at e).1, g.fsk_shown, g.ook_shown)

-- and a text without it has too few bytes left
pub no_room_left : (p : State) (len at : ℕ) → has_tagged_room (most_of p) len at ≡ false → len < at + tagged_room (most_of p)
unfolding has_tagged_room
no_room_left p len at h = go (ltb len 63) refl h
  where
    near : (b : Bool) → ltb (len - 63) at ≡ b → has_room (most_of p) (len - 63) at ≡ false → len < at + tagged_room (most_of p)
    near true q e = omega (arith, lt_of q)
      where
        lt_of : ltb (len - 63) at ≡ true → len - 63 < at
        lt_of z = omega (arith, ltb-true (len - 63) at z)
    near false q e = omega (arith, too_few_left p (len - 63) at (ltb-false (len - 63) at q) e)

    go : (b : Bool) → ltb len 63 ≡ b → cond b false (has_room (most_of p) (len - 63) at) ≡ false → len < at + tagged_room (most_of p)
    go true q e = omega (arith, ltb-true len 63 q)
    go false q e = near (ltb (len - 63) at) refl e

pub turn_told : (a : Asked) (p : State) (s : List ℕ) (from at : ℕ) (x y : List ℕ) (r : Past) (q : State) (z : Turned) → z.used ≡ r.used → Heard a p s from r q → at + spoken_room r.reply q.0 q.1 q.2 ≤ length x
    → Put (spoken_text a.antenna a.command (answer_of r.reply q.0, q.1, q.2)) (spoken_room r.reply q.0 q.1 q.2) at x z.at y
    → Told a p s from at x z q y
unfolding put
turn_told a p s from at x y r q z is_used h room puts =
    record {
      onward = omega (arith, is_used, h.onward);
      inside = omega (arith, is_used, h.inside);
      near = omega (arith, puts.near);
      sound = h.sound;
      text = w;
      puts = ap (λ (e : ℕ × List ℕ). take e.0 e.1) puts.text ∙ stored x w at (omega (arith, ap (λ (e : ℕ × List ℕ). e.0) puts.text, puts.near));
      passes = λ all A. subst (λ (n : ℕ). Passed machine all s from n w (put_at all (row_of a.antenna) q)) (sym is_used) (h.passes all A);
    }
  where
    w : List ℕ
    w = spoken_text a.antenna a.command (answer_of r.reply q.0, q.1, q.2)
