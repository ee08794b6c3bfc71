-- Pass after pass is block after block: each is a feed of the bytes that were left and those that came.
use Prim.Native.Nat.{ℕ, ◌+◌}
use mathlib.Core.Bool.{Bool, true, false, cond}
use mathlib.Core.Path.{◌≡◌, refl, sym, ◌∙◌, ap, subst}
use mathlib.Core.List.{List, [], ◌++◌, append-nil, append_assoc}
use native.Mathlib.Omega.{arith}
use lib.ListN.{take, drop, take-append-drop}
use Rattle.std.specs.Prelude.{Option, None, Some, IfSome}
use Rattle.std.specs.Io.KnownBytes.{Consumes, Appends, IsAtEnd}
use Rattle.std.proofs.KnownBytes.{Consumes-nil, Consumes-trans, Appends-nil, Appends-trans}
use Rattle.stream.specs.declared.Fed.{Fed}
use Rattle.stream.specs.Machine.{Machine, Orderly, printed_of}
use Rattle.stream.specs.Blocks.{is_over, is_full, Blocks, none, Over}
use Rattle.stream.specs.Feeds.{Feeds}
use Rattle.stream.proofs.Feeds.{feeds_more, feeds_over, feeds_on}
use Rattle.stream.proofs.Printed.{blocks_print, program_prints}
use Rattle.input.specs.declared.Input.{Input}
use Rattle.input.specs.Input.{Came, Quiet}
use Rattle.input.specs.Known.{Took, Gave, Wrote, Writes}
use Rattle.input.specs.Passes.{Passes, Standing, Runs, Carries, Fails, at_read, at_write, Carried}
use Rattle.input.proofs.Laws.{came_after}

-- a pass, by what a read says and what a feed does
pub passes : (M : Machine) (p q : M.State) (f g : Fed) (last : Bool) (i : Input) (b c x y : List ℕ) → Came b f.left i.came c → Quiet last (is_full f.stop) i
    → Feeds M p (take (f.left + i.came) c) i.last g q x y → Passes M p f last b q g i.last x y
passes M p q f g last i b c x y came quiet h =
    let new : List ℕ = take i.came (drop f.left c) in
    record {
      came = new;
      none_after = λ e. ap (λ (n : ℕ). take n (drop f.left c)) (quiet.none_after e);
      ended_stays = quiet.ended_stays;
      none_while = λ e. ap (λ (n : ℕ). take n (drop f.left c)) (quiet.none_while e);
      feeds = subst (λ (u : List ℕ). Feeds M p u i.last g q x y) (came_after f.left i.came c (omega (arith, came.inside)) ∙ ap (λ (l : List ℕ). l ++ new) came.front) h;
    }

-- before the first
pub starts : (M : Machine) (p : M.State) (f : Fed) (b : List ℕ) → f.left ≡ 0 → Standing M p p f false b
starts M p f b e =
    record { inside = omega (arith, e); read = []; printed = []; blocks = subst (λ (n : ℕ). Blocks M p false false [] [] p (take n b)) (sym e) none }

module _ (M : Machine) {p q o : M.State} {f g : Fed} {last end : Bool} {b x y : List ℕ} (s : Standing M p q f last b) (h : Passes M q f last b o g end x y) where
  one_more : Blocks M p end (is_over h.feeds.ran.stop) (s.read ++ h.came) (s.printed ++ take g.at y) o (take g.left x)
  one_more = feeds_more M s.blocks h.none_after h.ended_stays h.feeds

  -- a pass more
  pub goes : is_over g.stop ≡ false → Standing M p o g end x
  goes d =
      record {
        inside = h.feeds.inside;
        read = s.read ++ h.came;
        printed = s.printed ++ take g.at y;
        blocks =
            subst (λ (e : Bool). Blocks M p end e (s.read ++ h.came) (s.printed ++ take g.at y) o (take g.left x)) (feeds_on M h.feeds d) one_more;
      }

  -- the last pass, all of whose lines are written or not
  pub stops : (whole : Bool) → (whole ≡ true → Over end (is_over h.feeds.ran.stop) (take g.left x)) → Runs M p o whole
  stops whole over =
      record {
        last = end;
        ended = is_over h.feeds.ran.stop;
        read = s.read ++ h.came;
        printed = s.printed ++ take g.at y;
        left = take g.left x;
        blocks = one_more;
        over = over;
      }

-- no pass more, though the stream is not over
pub stands : (M : Machine) {p q : M.State} {f : Fed} {last : Bool} {b : List ℕ} → Standing M p q f last b → Runs M p q false
stands M {f = f} {last = last} {b = b} s =
    record {
      last = last;
      ended = false;
      read = s.read;
      printed = s.printed;
      left = take f.left b;
      blocks = s.blocks;
      over = λ h. let z : ◌≡◌ {A = Bool} false true = h in let n : ◌≡◌ {A = ℕ} 0 1 = cc in absurd (omega arith);
    }

-- ---- where the bytes of the reader and those of the writer are known

pub carries : (M : Machine) (p q : M.State) (f g : Fed) (last : Bool) (i : Input) (b c x y : List ℕ) (r s w v : Option (List ℕ)) (whole : Bool)
    → Came b f.left i.came c → Quiet last (is_full f.stop) i → Took r s last (take i.came (drop f.left c)) i.last
    → Feeds M p (take (f.left + i.came) c) i.last g q x y → Gave w v (take g.at y) whole
    → Carries M p f last b q g i.last x y r s w v whole
unfolding passes
carries M p q f g last i b c x y r s w v whole came quiet took h gave =
    record { pass = passes M p q f g last i b c x y came quiet h; took = took; gave = gave }

pub begins : (M : Machine) (p : M.State) (f : Fed) (b : List ℕ) (r w : Option (List ℕ)) → f.left ≡ 0 → Carried M p p f false b r r w w
unfolding starts
begins M p f b r w e =
    record {
      standing = starts M p f b e;
      taken = Consumes-nil r;
      over = λ h. let z : ◌≡◌ {A = Bool} false true = h in cc;
      given = Appends-nil w;
    }

-- what was read and what is left are the bytes of the reader
whole_of : (xs read : List ℕ) (s : Option (List ℕ)) (A : Type 0) → Consumes (Some xs) s read → ((ys : List ℕ) → s ≡ Some ys → xs ≡ read ++ ys → A) → A
whole_of xs read None A h k = absurd h
whole_of xs read (Some ys) A h k = k ys refl h

none_left : (s : Option (List ℕ)) (ys : List ℕ) → s ≡ Some ys → IsAtEnd s → ys ≡ []
none_left s ys e h = subst IsAtEnd e h

-- nothing is said where the bytes are not known
known : (r : Option (List ℕ)) (P : List ℕ → Type 0) → ((xs : List ℕ) → r ≡ Some xs → P xs) → IfSome r P
known None P k = tt
known (Some xs) P k = k xs refl

-- a text in its two parts
split : (p t c : List ℕ) (n : ℕ) → (p ++ take n t) ++ (drop n t ++ c) ≡ (p ++ t) ++ c
split p t c n =
    append_assoc p (take n t) (drop n t ++ c) ∙ ap (λ (l : List ℕ). p ++ l) (sym (append_assoc (take n t) (drop n t) c) ∙ ap (λ (l : List ℕ). l ++ c) (take-append-drop n t))
    ∙ sym (append_assoc p t c)

module _ (M : Machine) {p q o : M.State} {f g : Fed} {last end whole : Bool} {b x y : List ℕ} {r s t w v u : Option (List ℕ)}
    (c : Carried M p q f last b r s w v) (h : Carries M q f last b o g end x y s t v u whole) where
  -- a pass more
  pub goes_on : whole ≡ true → is_over g.stop ≡ false → Carried M p o g end x r t w u
  unfolding goes
  goes_on e d =
      record {
        standing = goes M c.standing h.pass d;
        taken = Consumes-trans _ _ _ _ _ c.taken h.took.lost;
        over = h.took.over c.over;
        given = subst (λ (z : List ℕ). Appends w u (c.standing.printed ++ z)) (h.gave.all e) (Appends-trans _ _ _ _ _ c.given h.gave.grown);
      }

  whole_wrote : Orderly M → (xs ys : List ℕ) → t ≡ Some ys → xs ≡ (c.standing.read ++ h.pass.came) ++ ys → whole ≡ true → is_over g.stop ≡ true → Wrote w u (printed_of M p xs) true
  whole_wrote O xs ys k e all done =
      record {
        written = c.standing.printed ++ take g.at y;
        rest = [];
        grown = subst (λ (z : List ℕ). Appends w u (c.standing.printed ++ z)) (h.gave.all all) (Appends-trans _ _ _ _ _ c.given h.gave.grown);
        front =
            append-nil (c.standing.printed ++ take g.at y)
            ∙ program_prints M O (one_more M c.standing h.pass) (feeds_over M O h.pass.feeds done) ys (λ z. none_left t ys k (h.took.over c.over z))
            ∙ ap (printed_of M p) (sym e);
        all = λ z. refl;
      }

  front_wrote : Orderly M → (xs ys : List ℕ) → t ≡ Some ys → xs ≡ (c.standing.read ++ h.pass.came) ++ ys → Wrote w u (printed_of M p xs) false
  front_wrote O xs ys k e =
      let after : List ℕ = cond (is_over h.pass.feeds.ran.stop) [] (printed_of M o (take g.left x ++ ys)) in
      record {
        written = c.standing.printed ++ take h.gave.count (take g.at y);
        rest = drop h.gave.count (take g.at y) ++ after;
        grown = Appends-trans _ _ _ _ _ c.given h.gave.grown;
        front =
            split c.standing.printed (take g.at y) after h.gave.count
            ∙ blocks_print M O (one_more M c.standing h.pass) ys (λ z. none_left t ys k (h.took.over c.over z))
            ∙ ap (printed_of M p) (sym e);
        all = λ z. let n : ◌≡◌ {A = Bool} false true = z in cc;
      }

  ending : Orderly M → (b : Bool) → ((xs ys : List ℕ) → t ≡ Some ys → xs ≡ (c.standing.read ++ h.pass.came) ++ ys → Wrote w u (printed_of M p xs) b) → Writes (printed_of M p) r w u b
  ending O b k =
      known r _ (λ xs e.
      whole_of xs (c.standing.read ++ h.pass.came) t _ (subst (λ (z : Option (List ℕ)). Consumes z t (c.standing.read ++ h.pass.came)) e (Consumes-trans _ _ _ _ _ c.taken h.took.lost))
      (λ ys z d. k xs ys z d))

  -- the last pass
  pub ends_so : Orderly M → whole ≡ true → is_over g.stop ≡ true → Runs M p o true × Writes (printed_of M p) r w u true
  unfolding stops
  ends_so O all done = (stops M c.standing h.pass true (λ z. feeds_over M O h.pass.feeds done), ending O true (λ xs ys k d. whole_wrote O xs ys k d all done))

  -- or one whose write fails
  pub breaks : Orderly M → Runs M p o false × Writes (printed_of M p) r w u false
  unfolding stops
  breaks O = (stops M c.standing h.pass false (λ z. let n : ◌≡◌ {A = Bool} false true = z in cc), ending O false (λ xs ys k d. front_wrote O xs ys k d))

-- no pass more
pub stands_so : (M : Machine) → Orderly M → {p q : M.State} {f : Fed} {last : Bool} {b : List ℕ} {r s w v : Option (List ℕ)} → Carried M p q f last b r s w v → Writes (printed_of M p) r w v false
stands_so M O {p} {q} {f} {last} {b} {r} {s} {w} {v} c =
    known r _ (λ xs e.
    whole_of xs c.standing.read s _ (subst (λ (z : Option (List ℕ)). Consumes z s c.standing.read) e c.taken) (λ ys k d. record {
      written = c.standing.printed;
      rest = printed_of M q (take f.left b ++ ys);
      grown = c.given;
      front = blocks_print M O c.standing.blocks ys (λ z. none_left s ys k (c.over z)) ∙ ap (printed_of M p) (sym d);
      all = λ z. let n : ◌≡◌ {A = Bool} false true = z in cc;
    }))

-- a pass that fails is the last
pub fails_so : (M : Machine) → Orderly M → {p q o : M.State} {f : Fed} {last : Bool} {b : List ℕ} {r s t w v u : Option (List ℕ)}
    → Carried M p q f last b r s w v → Fails M q f last b o s t v u → Runs M p o false × Writes (printed_of M p) r w u false
fails_so M O {p} {q} {o} {f} {last} {b} {r} {s} {t} {w} {v} {u} c (at_read e took same) =
    let now : Carried M p q f last b r t w v =
    record {
      standing = c.standing;
      taken = subst (Consumes r t) (append-nil c.standing.read) (Consumes-trans _ _ _ _ _ c.taken took.lost);
      over = took.over c.over;
      given = c.given;
    } in (
      subst (λ (z : M.State). Runs M p z false) (sym e) (stands M c.standing),
      subst (λ (z : Option (List ℕ)). Writes (printed_of M p) r w z false) (sym same) (stands_so M O now),
    )
fails_so M O c (at_write h) = breaks M c h O
