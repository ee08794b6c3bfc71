-- What a lane alone answers: it refuses a call where a check fails, and no check has the number 12.
use Prim.Native.Nat.{ℕ}
use mathlib.Core.Bool.{Bool, true, false, not, ◌&&◌}
use mathlib.Core.Path.{◌≡◌, refl, sym, ap, ◌∙◌}
use mathlib.Core.List.{List}
use native.Mathlib.Omega.{arith}
use lib.ListN.{length}
use lib.Dec.{eqb}
use Rattle.std.specs.Prelude.{⊤, Result, Ok, Err, is_ok, is_err}
use Rattle.refusals.specs.declared.Refusal.{Refusal}
use Rattle.refusals.specs.declared.Refusal.TheVariants as refusal
use Rattle.shared.specs.declared.Settings.{Settings}
use Rattle.refusals.specs.Domain.{settings_ok, index_ok, room_ok}
use Rattle.refusals.specs.Serial.{serial_left}
use Rattle.refusals.specs.Order.{number_of, check, first_failed}
use Rattle.lane.specs.declared.Lane.{Lane}
use Rattle.lane.specs.declared.Answer.{Answer}
use Rattle.lane.specs.declared.BeginArgs.{BeginArgs}
use Rattle.lane.specs.declared.StepArgs.{StepArgs}
use Rattle.lane.specs.Answers.{Reply, refusal_number_of}
use Rattle.lane.specs.Refusals.{lane_ok, begin_floats_ok, step_floats_ok, follows_of, open_refusal, begin_refusal, step_refusal, close_refusal}
use Rattle.lane.specs.Advance.{settle_of, fill_of, advance_of}
use Rattle.lane.specs.Close.{idle_with, close_of}
use Rattle.lane.specs.Step.{unless_refused, opened, begun, stepped, closed}
use Rattle.reached.proofs.Accepted.{step_ways, close_ways}
use Rattle.commands.specs.Command.{Found}
use Rattle.commands.specs.declared.Command.TheVariants.{Open, OpenCarry, Begin, Step, Close}
use Rattle.commands.specs.declared.Missing.TheVariants as missing
use Rattle.calls.specs.Turn.{State, called}

-- ---- accepted calls are answered

pub advance_answers : (l : Lane) (s : StepArgs) (ook fsk : List ℕ) → is_err (advance_of l s ook fsk).0.reply ≡ false
unfolding fill_of settle_of
advance_answers l s ook fsk = step_ways (λ (r : Answer × List ℕ × List ℕ). is_err r.0.reply ≡ false) l s ook fsk (λ ld ring. refl) (λ ld ring r. refl)

pub close_answers : (l : Lane) (ook fsk : List ℕ) → is_err (close_of l ook fsk).0.reply ≡ false
unfolding idle_with
close_answers l ook fsk = close_ways (λ (r : Answer × List ℕ × List ℕ). is_err r.0.reply ≡ false) l ook fsk (λ b o. refl)

-- ---- a call is refused exactly where a check fails

-- an answer that is alone, or has the buffers with it
refuses : {A : Type 0} (answer : A → Answer) (k : Result ⊤ Refusal) (a : A) (g : Refusal → A) → is_err (answer a).reply ≡ false → ((r : Refusal) → is_err (answer (g r)).reply ≡ true)
    → is_err (answer (unless_refused k a g)).reply ≡ not (is_ok k)
refuses answer (Ok u) a g h f = h
refuses answer (Err r) a g h f = f r

pub open_refuses : (l : Lane) (p : Settings) → is_err (opened l p).reply ≡ not (is_ok (open_refusal l p))
unfolding opened
open_refuses l p = refuses (λ (a : Answer). a) (open_refusal l p) _ _ refl (λ r. refl)

pub begin_refuses : (l : Lane) (b : BeginArgs) (ook fsk : List ℕ) → is_err (begun l b ook fsk).reply ≡ not (is_ok (begin_refusal l b (length ook) (length fsk)))
unfolding begun
begin_refuses l b ook fsk = refuses (λ (a : Answer). a) (begin_refusal l b (length ook) (length fsk)) _ _ refl (λ r. refl)

pub step_refuses : (l : Lane) (s : StepArgs) (ook fsk : List ℕ) → is_err (stepped l s ook fsk).0.reply ≡ not (is_ok (step_refusal l s (length ook) (length fsk)))
unfolding stepped
step_refuses l s ook fsk = refuses (λ (q : Answer × List ℕ × List ℕ). q.0) (step_refusal l s (length ook) (length fsk)) _ _ (advance_answers l s ook fsk) (λ r. refl)

pub close_refuses : (l : Lane) (ook fsk : List ℕ) → is_err (closed l ook fsk).0.reply ≡ not (is_ok (close_refusal l (length ook) (length fsk)))
unfolding closed
close_refuses l ook fsk = refuses (λ (q : Answer × List ℕ × List ℕ). q.0) (close_refusal l (length ook) (length fsk)) _ _ (close_answers l ook fsk) (λ r. refl)

-- ---- never by 12

not_refused : (r : Reply) → is_err r ≡ false → refusal_number_of r ≡ 12 → ⊥
not_refused r h e = grind arith

-- the number of the first check that fails, 0 where none does
abbrev failed_number : Result ⊤ Refusal → ℕ
failed_number (Ok u) = 0
failed_number (Err k) = number_of k

not_twelve : (s l p n i f r : Bool) → failed_number (first_failed s l p n i f r) ≡ 12 → ⊥
unfolding first_failed
not_twelve s l p n i f r e = grind arith

opening_not_twelve : (l : Lane) (p : Settings) → failed_number (open_refusal l p) ≡ 12 → ⊥
unfolding open_refusal first_failed
opening_not_twelve l p = not_twelve (settings_ok p) true true (serial_left l.serial) true true true

-- a refusal by the first check that fails, or another answer that is no refusal
by_check : {A : Type 0} (answer : A → Answer) (k : Result ⊤ Refusal) (a : A) (g : Refusal → A) → is_err (answer a).reply ≡ false → (failed_number k ≡ 12 → ⊥)
    → ((r : Refusal) → (answer (g r)).reply ≡ Err r) → refusal_number_of (answer (unless_refused k a g)).reply ≡ 12 → ⊥
by_check answer (Ok u) a g h k f e = not_refused _ h e
by_check answer (Err r) a g h k f e = k (sym (ap refusal_number_of (f r)) ∙ e)

begin_not_twelve : (l : Lane) (b : BeginArgs) (m n : ℕ) → failed_number (begin_refusal l b m n) ≡ 12 → ⊥
unfolding begin_refusal
begin_not_twelve l b m n = not_twelve (not (eqb l.opened 0)) (lane_ok l) (eqb l.phase 0) (serial_left l.serial) (index_ok b.index) (begin_floats_ok b) (room_ok l.settings m n)

step_not_twelve : (l : Lane) (s : StepArgs) (m n : ℕ) → failed_number (step_refusal l s m n) ≡ 12 → ⊥
unfolding step_refusal
step_not_twelve l s m n = not_twelve true (lane_ok l) (not (eqb l.phase 0)) true (index_ok s.index && follows_of l.last s.index) (step_floats_ok s) (room_ok l.settings m n)

close_not_twelve : (l : Lane) (m n : ℕ) → failed_number (close_refusal l m n) ≡ 12 → ⊥
unfolding close_refusal
close_not_twelve l m n = not_twelve true (lane_ok l) (not (eqb l.phase 0)) true true true (room_ok l.settings m n)

pub never_twelve : (p : State) (k : Found) → refusal_number_of (called p k).0.reply ≡ 12 → ⊥
unfolding called opened begun stepped closed
never_twelve p (Ok (Open s)) e = by_check (λ (a : Answer). a) (open_refusal p.0 s) _ _ refl (opening_not_twelve p.0 s) (λ r. refl) e
never_twelve p (Ok (OpenCarry s)) e = by_check (λ (a : Answer). a) (open_refusal p.0 s) _ _ refl (opening_not_twelve p.0 s) (λ r. refl) e
never_twelve p (Ok (Begin b)) e = by_check (λ (a : Answer). a) (begin_refusal p.0 b (length p.1) (length p.2)) _ _ refl (begin_not_twelve p.0 b (length p.1) (length p.2)) (λ r. refl) e
never_twelve p (Ok (Step s)) e =
    by_check (λ (q : Answer × List ℕ × List ℕ). q.0) (step_refusal p.0 s (length p.1) (length p.2)) _ _ (advance_answers p.0 s p.1 p.2) (step_not_twelve p.0 s (length p.1) (length p.2)) (λ r. refl) e
never_twelve p (Ok Close) e =
    by_check (λ (q : Answer × List ℕ × List ℕ). q.0) (close_refusal p.0 (length p.1) (length p.2)) _ _ (close_answers p.0 p.1 p.2) (close_not_twelve p.0 (length p.1) (length p.2)) (λ r. refl) e
never_twelve p (Err missing.End) e = omega arith
never_twelve p (Err missing.Unknown) e = omega arith
never_twelve p (Err missing.Short) e = omega arith
