-- Feed after feed is block after block, and a feed that says that the stream is over says so rightly: it is over where the block ended it, and
-- where no byte will come and the text had room nothing is left to wait for.
use Prim.Native.Nat.{ℕ, ◌≤◌}
use mathlib.Core.Bool.{Bool, true, false}
use mathlib.Core.Path.{◌≡◌, refl, sym, ◌∙◌, ap, subst}
use mathlib.Core.Logic.{inl, inr}
use mathlib.Core.List.{List, [], ◌++◌}
use lib.ListN.{length, take, drop}
use Rattle.stream.specs.declared.Stop.{Stop}
use Rattle.stream.specs.declared.Stop.TheVariants.{Waiting, NoRoom, Ended}
use Rattle.stream.specs.declared.Ran.{Ran}
use Rattle.stream.specs.declared.Fed.{Fed}
use Rattle.stream.specs.Machine.{Machine, May, Orderly}
use Rattle.stream.specs.Blocks.{is_over, is_full, Streamed, Stopped, ends, waiting, no_room, Blocks, more, Over}
use Rattle.stream.specs.Feeds.{stop_of, Feeds}

clash : {A : Type 0} → ◌≡◌ {A = Bool} true false → A
clash h = absurd (let z : ◌≡◌ {A = Bool} false true = sym h in cc)

module _ (M : Machine) where
  -- by the block of the bytes s, which are t
  pub feeds_made : (p q : M.State) (s t b y : List ℕ) (last : Bool) (r : Ran) (f : Fed) → s ≡ t → Streamed M p s last r q y → f.left ≤ length b → take f.left b ≡ drop r.used s
      → f.at ≡ r.at → f.stop ≡ stop_of last r.stop → Feeds M p t last f q b y
  feeds_made p q s t b y last r f e run inside kept at stop =
      record {
        ran = r;
        block = subst (λ (u : List ℕ). Streamed M p u last r q y) e run;
        inside = inside;
        kept = kept ∙ ap (drop r.used) e;
        at_is = at;
        stop_is = stop;
      }

  -- one block more
  pub feeds_more : {p q o : M.State} {last end : Bool} {u w v c b y : List ℕ} {f : Fed}
      → Blocks M p last false u w q v → May last c → (last ≡ true → end ≡ true) → (g : Feeds M q (v ++ c) end f o b y)
      → Blocks M p end (is_over g.ran.stop) (u ++ c) (w ++ take f.at y) o (take f.left b)
  feeds_more {p = p} {o = o} {end = end} {u = u} {w = w} {c = c} {b = b} {y = y} {f = f} before came on g =
      subst (λ (n : ℕ). Blocks M p end (is_over g.ran.stop) (u ++ c) (w ++ take n y) o (take f.left b)) (sym g.at_is) (more before came on g.block g.kept)

  -- where a feed says that the stream is not over, the block did not end it
  pub feeds_on : {p q : M.State} {s b y : List ℕ} {last : Bool} {f : Fed} (g : Feeds M p s last f q b y) → is_over f.stop ≡ false → is_over g.ran.stop ≡ false
  feeds_on {last = last} g d = go last g.ran.stop (sym (ap is_over g.stop_is) ∙ d)
    where
      go : (last : Bool) (z : Stop) → is_over (stop_of last z) ≡ false → is_over z ≡ false
      go last Waiting h = refl
      go last NoRoom h = refl
      go last Ended h = h

  -- where it says that it is, it is
  pub feeds_over : Orderly M → {p q : M.State} {s b y : List ℕ} {last : Bool} {f : Fed} (g : Feeds M p s last f q b y) → is_over f.stop ≡ true → Over last (is_over g.ran.stop) (take f.left b)
  feeds_over O {q = q} {s = s} {b = b} {y = y} {last = last} {f = f} g d = go last g.ran.stop refl refl (sym (ap is_over g.stop_is) ∙ d)
    where
      used : last ≡ true → Stopped M s last g.ran q y → g.ran.stop ≡ Waiting → drop g.ran.used s ≡ []
      used e (ends a w z) h = clash (sym (ap is_over a) ∙ ap is_over h)
      used e (waiting a w) h = O.all_used _ (subst (λ (l : Bool). M.waits l (drop g.ran.used s) ≡ true) e w)
      used e (no_room a w z) h = clash (sym (ap is_full a) ∙ ap is_full h)

      go : (l : Bool) (z : Stop) → last ≡ l → g.ran.stop ≡ z → is_over (stop_of l z) ≡ true → Over last (is_over g.ran.stop) (take f.left b)
      go true Waiting n e h = inr (n, g.kept ∙ used n g.block.stopped e)
      go false Waiting n e h = clash (sym h)
      go l NoRoom n e h = clash (sym h)
      go l Ended n e h = inl (ap is_over e)
