-- A lane among others answers as alone but for refusal 12, which stands among the other checks as the definition has them (`settled`), and
-- the number of lanes out of idle is changed by one lane at a time.
use mir.Val.{bool_byte}
use Prim.Native.Nat.{ℕ, zero, suc, ◌+◌, ◌-◌, ◌^◌, ◌<◌, ◌≤◌}
use mathlib.Core.Bool.{Bool, true, false, cond, not, ◌&&◌}
use mathlib.Core.Path.{◌≡◌, refl, sym, ◌∙◌, ap, subst}
use mathlib.Core.List.{List, [], ◌∷◌}
use native.Mathlib.Omega.{arith}
use native.Mathlib.Nat.{not-suc-le-zero, le_of_suc-le-suc}
use lib.ListN.{length, set, get_or, replicate}
use lib.Dec.{leb, ltb, eqb}
use borrow.Author.Tests.{ltb-true, ltb-false, le-leb, lt-leb}
use Rattle.std.specs.Prelude.{Ok, Err}
use Rattle.std.specs.List.{fold}
use Rattle.refusals.specs.Domain.{index_ok, room_ok}
use Rattle.refusals.specs.Serial.{serial_left}
use Rattle.refusals.specs.Order.{number_of, check, first_failed}
use Rattle.refusals.specs.declared.Refusal.TheVariants as refusal
use Rattle.lane.specs.declared.Lane.{Lane}
use Rattle.lane.specs.declared.BeginArgs.{BeginArgs}
use Rattle.lane.specs.declared.Answer.{Answer}
use Rattle.lane.specs.Answers.{Reply, answer_of}
use Rattle.lane.specs.Refusals.{lane_ok, begin_floats_ok, begin_refusal}
use Rattle.lane.specs.Idle.{idle_lane}
use Rattle.lane.specs.Step.{new_lane, refuse, begun, begun_by}
use Rattle.reached.specs.Reached.{Sound}
use Rattle.commands.specs.Command.{Found}
use Rattle.commands.specs.declared.Command.TheVariants.{Open, OpenCarry, Begin, Step, Close}
use Rattle.calls.specs.Turn.{State, Called, called}
use Rattle.calls.proofs.Silent.{call_sound}
use Rattle.among.specs.Among.{places, begin_refusal_among, begun_among, called_among, out_of, outs}
use Rattle.among.specs.Settled.{is_begin_of, late_of, settled_of, settled_by}

-- ---- refusal 12 in the order of checks

full_or_free : (n : ℕ) → leb places n ≡ not (ltb n places)
full_or_free n = go (ltb n places) refl
  where
    go : (b : Bool) → ltb n places ≡ b → leb places n ≡ not b
    go true q = lt-leb places n (ltb-true n places q)
    go false q = le-leb places n (ltb-false n places q)

-- of eight checks, 12 is the seventh: without it the answer is the same but where all before it pass
seventh : (l : Lane) (b : BeginArgs) (settings lane phase serial index floats free room : Bool)
    → begun_by (check refusal.Settings settings (check refusal.Lane lane (check refusal.Phase phase (check refusal.Serial serial (check refusal.Index index (check refusal.Float floats (check refusal.Places free (check refusal.Room room (Ok tt))))))))) l b
    ≡ cond (not free && late_of (begun_by (first_failed settings lane phase serial index floats room) l b).reply) (refuse refusal.Places l) (begun_by (first_failed settings lane phase serial index floats room) l b)
unfolding first_failed
seventh l b false lane phase serial index floats false room = refl
seventh l b true false phase serial index floats false room = refl
seventh l b true true false serial index floats false room = refl
seventh l b true true true false index floats false room = refl
seventh l b true true true true false floats false room = refl
seventh l b true true true true true false false room = refl
seventh l b true true true true true true false true = refl
seventh l b true true true true true true false false = refl
seventh l b settings lane phase serial index floats true room = refl

begin_settled : (n : ℕ) (l : Lane) (b : BeginArgs) (ook fsk : List ℕ) → begun_among n l b ook fsk ≡ settled_of n (Ok (Begin b)) l (begun l b ook fsk)
unfolding begun_among begin_refusal_among begun begin_refusal settled_of
begin_settled n l b ook fsk =
    seventh l b (not (eqb l.opened 0)) (lane_ok l) (eqb l.phase 0) (serial_left l.serial) (index_ok b.index) (begin_floats_ok b) (ltb n places) (room_ok l.settings (length ook) (length fsk))
    ∙ ap (λ (full : Bool). cond (full && late_of (begun l b ook fsk).reply) (refuse refusal.Places l) (begun l b ook fsk)) (sym (full_or_free n))

-- so the order of checks is kept by what the code does: the lane's own answer first, and then 12 in place of what it comes before
pub settled : (n : ℕ) (p : State) (k : Found) → called_among n p k ≡ (settled_of n k p.0 (called p k).0, (called p k).1, (called p k).2)
unfolding called_among called settled_of
settled n p (Ok (Open s)) = refl
settled n p (Ok (OpenCarry s)) = refl
settled n p (Ok (Begin b)) = ap (λ (a : Answer). (a, p.1, p.2)) (begin_settled n p.0 b p.1 p.2)
settled n p (Ok (Step s)) = refl
settled n p (Ok Close) = refl
settled n p (Err m) = refl

-- an answer is a reply with its lane
pub settled_answer : (n : ℕ) (k : Found) (l : Lane) (a : Answer) (r : Reply × Lane) → r ≡ settled_by number_of refusal.Places n k l (a.reply, a.lane) → answer_of r.0 r.1 ≡ settled_of n k l a
unfolding settled_by settled_of
settled_answer n k l a r e = ap (λ (p : Reply × Lane). answer_of p.0 p.1) e ∙ go (is_begin_of k && (leb places n && late_of a.reply))
  where
    go : (b : Bool) → (let p : Reply × Lane = cond b (Err refusal.Places, l) (a.reply, a.lane) in answer_of p.0 p.1) ≡ cond b (refuse refusal.Places l) a
    go true = refl
    go false = refl

-- as the code has it: the lane's own call, and then 12
pub settled_call : (n : ℕ) (p : State) (k : Found) (a r : Answer) (ook fsk : List ℕ) → ◌≡◌ {A = Called} (a, ook, fsk) (called p k) → r ≡ settled_of n k p.0 a → ◌≡◌ {A = Called} (r, ook, fsk) (called_among n p k)
settled_call n p k a r ook fsk e q = ap (λ (z : Answer). (z, ook, fsk)) q ∙ ap (λ (c : Called). (settled_of n k p.0 c.0, c.1, c.2)) e ∙ sym (settled n p k)

-- ---- a sound lane stays sound

settled_sound : (n : ℕ) (k : Found) (l : Lane) (a : Answer) → Sound l → Sound a.lane → Sound (settled_of n k l a).lane
unfolding settled_of
settled_sound n k l a h g = go (is_begin_of k && (leb places n && late_of a.reply))
  where
    go : (b : Bool) → Sound (cond b (refuse refusal.Places l) a).lane
    go true = h
    go false = g

pub among_sound : (n : ℕ) (p : State) (k : Found) → Sound p.0 → Sound (called_among n p k).0.lane
among_sound n p k h = subst (λ (c : Called). Sound c.0.lane) (sym (settled n p k)) (settled_sound n k p.0 (called p k).0 h (call_sound p k h))

-- ---- the number of lanes out of idle

pub out_one : (l : Lane) → out_of l ≤ 1
unfolding out_of
out_one l = go (eqb l.phase 0)
  where
    go : (b : Bool) → cond b 0 1 ≤ 1
    go true = omega arith
    go false = omega arith

pub outs_most : (ls : List Lane) → outs ls ≤ length ls
unfolding outs
outs_most [] = omega arith
outs_most (l ∷ ls) = omega (arith, out_one l, outs_most ls)

pub outs_at : (ls : List Lane) (i : ℕ) (d : Lane) → i < length ls → out_of (get_or ls i d) ≤ outs ls
unfolding outs
outs_at [] i d h = absurd (not-suc-le-zero h)
outs_at (l ∷ ls) zero d h = omega arith
outs_at (l ∷ ls) (suc i) d h = omega (arith, outs_at ls i d (le_of_suc-le-suc h))

-- one lane in place of another
pub outs_set : (ls : List Lane) (i : ℕ) (d m : Lane) → i < length ls → outs (set ls i m) + out_of (get_or ls i d) ≡ outs ls + out_of m
unfolding outs
outs_set [] i d m h = absurd (not-suc-le-zero h)
outs_set (l ∷ ls) zero d m h = omega arith
outs_set (l ∷ ls) (suc i) d m h = omega (arith, outs_set ls i d m (le_of_suc-le-suc h))

-- as a count kept beside the lanes has them: w for the lane that is taken out, o for the one that is put back
pub outs_take : (ls : List Lane) (i : ℕ) (d : Lane) (w out : ℕ) → w ≡ out_of (get_or ls i d) → out ≡ outs ls → i < length ls → w ≤ out
outs_take ls i d w out ew eo h = omega (arith, ew, eo, outs_at ls i d h)

pub outs_fit : (ls : List Lane) (m : Lane) (w out o : ℕ) → o ≡ out_of m → out ≡ outs ls → length ls ≡ 16 → out - w + o < 2 ^ 32
outs_fit ls m w out o em eo h = omega (arith, em, eo, h, out_one m, outs_most ls)

pub outs_put : (ls : List Lane) (i : ℕ) (d m : Lane) (w out o : ℕ) → w ≡ out_of (get_or ls i d) → out ≡ outs ls → o ≡ out_of m → i < length ls → out - w + o ≡ outs (set ls i m)
outs_put ls i d m w out o ew eo em h = omega (arith, ew, eo, em, outs_at ls i d h, outs_set ls i d m h)

-- inside a list one default is as good as another
pub any_default : {A : Type 0} (ls : List A) (i : ℕ) (d e : A) → i < length ls → get_or ls i d ≡ get_or ls i e
any_default [] i d e h = absurd (not-suc-le-zero h)
any_default (l ∷ ls) zero d e h = refl
any_default (l ∷ ls) (suc i) d e h = any_default ls i d e (le_of_suc-le-suc h)

-- as a sum, from a number on
pub outs_sum : (ls : List Lane) (n : ℕ) → fold (λ a l. a + out_of l) n ls ≡ n + outs ls
unfolding outs
outs_sum [] n = omega arith
outs_sum (l ∷ ls) n = omega (arith, outs_sum ls (n + out_of l))

-- new lanes are idle
out_new : out_of new_lane ≡ 0
unfolding out_of new_lane idle_lane
out_new = refl

pub outs_new : (n : ℕ) (l : Lane) → l ≡ new_lane → outs (replicate n l) ≡ 0
unfolding outs
outs_new zero l e = refl
outs_new (suc n) l e = omega (arith, ap out_of e, out_new, outs_new n l e)

-- a test as a number
pub counted : (b : Bool) → bool_byte b ≡ cond {A = ℕ} b 1 0
counted true = refl
counted false = refl
