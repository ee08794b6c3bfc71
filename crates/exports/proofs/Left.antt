-- A block that is the whole stream, and call after call: where the calls stop, and what they leave (specs/Left).
use Prim.Native.Nat.{ℕ, ◌+◌, ◌≤◌}
use mathlib.Core.Bool.{Bool, true, false, cond}
use mathlib.Core.Path.{◌≡◌, refl, sym, ap, subst, ◌∙◌}
use mathlib.Core.List.{List, [], ◌++◌, append-nil}
use lib.ListN.{length, take, drop}
use Rattle.lane.specs.declared.Lane.{Lane}
use Rattle.lane.specs.Step.{new_lane}
use Rattle.std.specs.Prelude.{Ok, Err}
use Rattle.commands.specs.Command.{Found, decoded, command_size, size_of}
use Rattle.commands.specs.declared.Command.{Command}
use Rattle.commands.proofs.Stream.{taken}
use Rattle.calls.specs.Turn.{State, Called, called, next, waits}
use Rattle.stream.specs.declared.Ran.{Ran}
use Rattle.stream.specs.Machine.{Turns, more}
use Rattle.stream.specs.Blocks.{is_over, Streamed, Stopped, ends, waiting, no_room as full}
use Rattle.calls.specs.Stream.{machine, listing}
use Rattle.exports.specs.Left.{EndsAt, LeftWhole, Stops, ended, no_room, LeftWithin}

-- ---- a block that is the whole stream

waits_none : (k : Found) → waits true k ≡ true → size_of k ≡ 0
waits_none (Ok k) w = let z : ◌≡◌ {A = Bool} false true = w in cc
waits_none (Err m) w = refl

module _ (s ook fsk x y text : List ℕ) (m : Lane) (r : Ran) where
  abbrev p : State
  p = (new_lane, ook, fsk)

  stops_at : Streamed machine p s true r (m, x, y) text → Stopped machine s true r (m, x, y) text → Stops p (m, x, y) s r.used text
  stops_at b (ends e w z) = ended z
  stops_at b (waiting e w) = ended (waits_none (decoded (drop r.used s)) w)
  stops_at b (full e w z) =
      no_room r.at b.room
      (ap (λ (v : List ℕ). take r.at text ++ listing (m, x, y) v) (sym (append-nil (drop r.used s)))
      ∙ ap (λ (d : Bool). take r.at text ++ cond d [] (listing (m, x, y) (drop r.used s ++ []))) (sym (ap is_over e))
      ∙ b.printed [] (λ q. refl) ∙ ap (listing p) (append-nil s))
      z

  within_new : Streamed machine p s true r (m, x, y) text → LeftWithin s r.used ook fsk x y text
  within_new b =
      record {
        left = record { lane = m; inside = b.inside; leads = subst (λ (u : List ℕ). Turns machine p u r.used (m, x, y)) (append-nil s) (b.left [] (λ e. refl)) };
        stops = stops_at b b.stopped;
      }

  pub left_within : (l : Lane) → l ≡ new_lane → Streamed machine (l, ook, fsk) s true r (m, x, y) text → LeftWithin s r.used ook fsk x y text
  left_within l dl b = within_new (subst (λ (k : Lane). Streamed machine (k, ook, fsk) s true r (m, x, y) text) dl b)

-- ---- call after call

pub left_whole : (s : List ℕ) (n : ℕ) (l m : Lane) (ook fsk x y : List ℕ) → l ≡ new_lane → n ≤ length s → Turns machine (l, ook, fsk) s n (m, x, y) → EndsAt s n → LeftWhole s n ook fsk x y
left_whole s n l m ook fsk x y dl h t e =
    record { left = record { lane = m; inside = h; leads = subst (λ (k : Lane). Turns machine (k, ook, fsk) s n (m, x, y)) dl t }; ended = e }

-- one command more
pub one_more : (p q : State) (s : List ℕ) (n size : ℕ) (k : Command) (c : Called) → Turns machine p s n q → Ok k ≡ decoded (drop n s) → size ≡ command_size k → c ≡ called q (Ok k) → Turns machine p s (n + size) (next c)
one_more p q s n size k c t dk ds dc =
    let d : size ≡ size_of (decoded (drop n s)) = ds ∙ ap size_of dk in
    more t (λ e. taken k (sym ds ∙ d ∙ e)) (ap (λ (m : ℕ). n + m) d) (ap next (dc ∙ ap (called q) dk))
