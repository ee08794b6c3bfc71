-- The turns of a block so far (`Running`): the lines that they printed and those of what is left are the lines of the whole, and each turn keeps
-- it so. Where they stop, that is what a block says (`Streamed`).
use Prim.Native.Nat.{ℕ, ◌≤◌}
use mathlib.Core.Bool.{Bool, true, false, cond}
use mathlib.Core.Path.{◌≡◌, refl, ap, sym, ◌∙◌, subst}
use mathlib.Core.List.{List, [], ◌++◌, append_assoc}
use native.Mathlib.Omega.{arith}
use lib.ListN.{length, take, drop, drop_of_length-le}
use lib.Dec.{eqb}
use borrow.Author.Tests.{eq-eqb, ne_eqb}
use Rattle.stream.specs.declared.Stop.{Stop}
use Rattle.stream.specs.declared.Stop.TheVariants.{Waiting, Ended}
use Rattle.stream.specs.declared.Ran.{Ran}
use Rattle.stream.specs.declared.Turned.{Turned}
use Rattle.stream.specs.Machine.{Machine, May, Orderly, printed_of, Turns, none}
use Rattle.stream.specs.Blocks.{ends, waiting, Streamed, Turn, Stays}

-- so many bytes of s are used, and so many of the text y written
pub record Running (M : Machine) (p₀ : M.State) (s : List ℕ) (last : Bool) (used at : ℕ) (q : M.State) (y : List ℕ) : Type 0 where
  pub inside : used ≤ length s
  pub room : at ≤ length y
  pub printed : (t : List ℕ) → May last t → take at y ++ printed_of M q (drop used s ++ t) ≡ printed_of M p₀ (s ++ t)
  pub left : (t : List ℕ) → May last t → Turns M p₀ (s ++ t) used q

pub begins : (M : Machine) (p : M.State) (s : List ℕ) (last : Bool) (y : List ℕ) → Running M p s last 0 0 p y
begins M p s last y = record { inside = omega arith; room = omega arith; printed = λ t may. refl; left = λ t may. none }

abbrev leaves : ℕ → ℕ → Stop → Ran
leaves used at stop = record { used = used; at = at; stop = stop }

-- ---- where the turns stop
module _ (M : Machine) {p₀ q : M.State} {s y : List ℕ} {last : Bool} {used at : ℕ} (h : Running M p₀ s last used at q y) where
  -- where there is no turn
  pub stops_there : {stop : Stop} {o : M.State} {z : List ℕ} → Stays M q s last used at y stop o z → Streamed M p₀ s last (leaves used at stop) o z
  stops_there {stop} {z = z} n =
      subst (λ (o : M.State). Streamed M p₀ s last (leaves used at stop) o z) (sym n.same)
      (subst (Streamed M p₀ s last (leaves used at stop) q) (sym n.kept)
      (record {
        inside = h.inside;
        room = h.room;
        printed = λ t may. ap (λ (b : Bool). take at y ++ cond b [] (printed_of M q (drop used s ++ t))) n.on ∙ h.printed t may;
        left = h.left;
        stopped = n.stopped;
      }))

  -- where all bytes are used
  pub all_there : Orderly M → length s ≤ used → Streamed M p₀ s last (leaves used at Waiting) q y
  all_there O e =
      stops_there (record {
        stopped = waiting refl (ap (M.waits last) (drop_of_length-le s e) ∙ O.none_waits last);
        on = refl;
        same = refl;
        kept = refl;
      })

-- ---- one turn more: y has the lines of the commands taken after those of x
module _ (M : Machine) (O : Orderly M) {p₀ p q : M.State} {s x y : List ℕ} {last : Bool} {used at : ℕ} {z : Turned} (h : Running M p₀ s last used at p x)
    (turn : Turn M p s last used at x z q y) (long : length y ≡ length x) where
  near : z.at ≤ length y
  near = omega (arith, turn.near, long)

  joined : (t : List ℕ) → May last t → take z.at y ++ cond (eqb z.used used) [] (printed_of M q (drop z.used s ++ t)) ≡ printed_of M p₀ (s ++ t)
  joined t may =
      ap (λ (v : List ℕ). v ++ cond (eqb z.used used) [] (printed_of M q (drop z.used s ++ t))) turn.puts
      ∙ append_assoc (take at x) turn.text (cond (eqb z.used used) [] (printed_of M q (drop z.used s ++ t)))
      ∙ ap (λ (v : List ℕ). take at x ++ v) (turn.passes.same t (O.settled last (drop used s) t may turn.ready)) ∙ h.printed t may

  told : (b : Bool) → eqb z.used used ≡ b → (t : List ℕ) → May last t → take z.at y ++ cond b [] (printed_of M q (drop z.used s ++ t)) ≡ printed_of M p₀ (s ++ t)
  told b e t may = ap (λ (d : Bool). take z.at y ++ cond d [] (printed_of M q (drop z.used s ++ t))) (sym e) ∙ joined t may

  -- the stream goes on
  pub goes_on : (z.used ≡ used → ⊥) → Running M p₀ s last z.used z.at q y
  goes_on n =
      record {
        inside = turn.passes.inside;
        room = near;
        printed = told false (ne_eqb z.used used n);
        left = λ t may. turn.passes.left p₀ t (O.settled last (drop used s) t may turn.ready) n (h.left t may);
      }

  -- the stream ends
  pub ends_there : z.used ≡ used → Streamed M p₀ s last (leaves used z.at Ended) q y
  ends_there n =
      record {
        inside = h.inside;
        room = near;
        printed = λ t may. ap (λ (u : ℕ). take z.at y ++ cond true [] (printed_of M q (drop u s ++ t))) (sym n) ∙ told true (eq-eqb z.used used n) t may;
        left = λ t may. subst (Turns M p₀ (s ++ t) used) (sym (turn.passes.ended n).1) (h.left t may);
        stopped = ends refl turn.ready (turn.passes.ended n).0;
      }
