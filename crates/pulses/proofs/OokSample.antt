-- One sample outside FSK mode, stage by stage: where the burst so far follows the run machine, it does so after the sample, or the
-- burst ends with the train that demand 3 asks for.
use mathlib.Core.Path.{◌≡◌, refl, sym, ap, ◌∙◌, subst}
use mathlib.Core.Bool.{Bool, true, false, cond}
use mathlib.Core.List.{List, [], ◌∷◌, ◌++◌, append-nil, append_assoc}
use Prim.Native.Nat.{ℕ, suc, ◌+◌, ◌*◌, ◌≤◌}
use native.Mathlib.Omega.{arith}
use lib.Dec.{leb, ltb, eqb}
use lib.Ieee.{Float}
use borrow.Author.Tests.{le-leb, lt-ltb}
use lib.ListN.{length, length-append}
use Rattle.arith.specs.declared.C32.{C32}
use Rattle.arith.specs.Leaves.{step_of}
use Rattle.ook.specs.declared.Env.{Env}
use Rattle.ook.specs.declared.Train.{Train}
use Rattle.shared.specs.declared.Out.{Out}
use Rattle.ook.specs.Types.{Done}
use Rattle.shared.specs.declared.Settings.{Settings}
use Rattle.shared.specs.declared.Next.{Next}
use Rattle.shared.specs.declared.Next.TheVariants.{Stay, Idle, IdleAt}
use Rattle.shared.specs.Answers.{is_stay_of}
use Rattle.shared.specs.Counts.{bit}
use Rattle.shared.specs.Params.{refine_at_of}
use Rattle.ook.specs.Refine.{refine_of}
use Rattle.ook.specs.Train.{with_first, with_bound, close_gap_of, pulse_done_of, end_train_of, stay_by, end_by}
use Rattle.refusals.proofs.Domain.{InDomain}
use Rattle.envelope.specs.declared.At.{At}
use Rattle.envelope.specs.declared.Seen.{Seen}
use Rattle.envelope.specs.Types.{Acted}
use Rattle.envelope.specs.declared.Absence.{Absence}
use Rattle.envelope.specs.See.{refine_due_of, with_refined, see_of}
use Rattle.run.specs.Run.{due_of}
use Rattle.envelope.specs.Act.{taken_of, confirm_if, rise_of, fall_of, confirm_of, act_of}
use Rattle.envelope.specs.Tail.{carrier_of, gone_of, has_pulses_of, gap_over_of, limit_of, wait_of, tail_of}
use Rattle.pulses.specs.Runs.{Sample, sample}
use Rattle.pulses.proofs.Machine.{Conf, lowed, mstep, memit, after, emitted, after_snoc, emitted_snoc}
use Rattle.shared.proofs.Cases.{either, by_test}
use Rattle.shared.proofs.Tests.{clash}
use Rattle.pulses.proofs.Edges.{flat}
use Rattle.pulses.proofs.Domain.{run_grows, pairs_grow}
use Rattle.pulses.proofs.RunState.{opened, Ends, RunRel, rest_low, try_high, rest_high, try_low, Outcome, keeps, rises, falls, Refined, outcome, level_after}
use Rattle.pulses.proofs.TrainState.{empty, Edges, flat_length, flat_append, TrainRel, none_yet, under_way, Held, Claim, no_pulse, held_ends, held_first, held_gap, Fallen, goes_on, ends, held_falls}

-- the run machine over the record so far
abbrev pub machine : Settings → List (Sample Float) → Conf Float
machine p xs = after p.min_steps (lowed 0) xs

abbrev pub given : Settings → List (Sample Float) → List Edges
given p xs = emitted p.min_steps (lowed 0) xs

-- the edges of the runs that counted: both of each pulse, and that of the pulse under way
abbrev pub edges_at : Settings → List (Sample Float) → List Float
edges_at p xs = flat (given p xs) ++ opened (machine p xs)

-- what a burst under way holds, where its record so far is xs
pub record Follows (p : Settings) (v : Env) (t : Train) (out : Out) (ook : List ℕ) (xs : List (Sample Float)) : Type 0 where
  pub run : RunRel p.min_steps (machine p xs) (edges_at p xs) v
  pub train : Held p.carry p.max_pulses (edges_at p xs) t ook
  pub undecided : out.state ≡ 0

-- after a stage: the burst goes on, or it has ended
pub data After (p : Settings) (v : Env) (d : Done) (ook : List ℕ) (xs : List (Sample Float)) : Type 0 where
  stays : d.next ≡ Stay → Follows p v d.train d.out ook xs → After p v d ook xs
  over : (d.next ≡ Stay → ⊥) → Claim p.carry p.max_pulses (given p xs) d.out ook → After p v d ook xs

pub idle_not : Idle ≡ Stay → ⊥
idle_not q = let z : ◌≡◌ {A = ℕ} 0 1 = cc in omega arith

pub idle_at_not : (e : Float) → IdleAt e ≡ Stay → ⊥
idle_at_not e q = let z : ◌≡◌ {A = ℕ} 0 1 = cc in omega arith

pub not_stay : (n : Next) → (n ≡ Stay → ⊥) → is_stay_of n ≡ false
not_stay n h = grind arith

-- ---- laws of the definition's stages
rise_first : (carry : ℕ) (s : Env) (t : Train) (ook : List ℕ) → t.started ≡ 0 → rise_of carry s t ook ≡ (with_first (step_of s.c_run) s.run.t_run t, ook)
unfolding rise_of
rise_first carry s t ook q = rw q

rise_gap : (carry : ℕ) (s : Env) (t : Train) (ook : List ℕ) → t.started ≡ 1 → rise_of carry s t ook ≡ close_gap_of (with_bound (taken_of carry s t).bound t) (taken_of carry s t).width ook
unfolding rise_of
rise_gap carry s t ook q = rw q

fall_started : (p : Settings) (s : Env) (t : Train) (pac : C32) (high : Float) (out : Out) (ook : List ℕ) → t.started ≡ 1
    → fall_of p s t pac high out ook ≡ pulse_done_of p (with_bound (taken_of p.carry s t).bound t) pac high out (taken_of p.carry s t).width s.c_run ook
unfolding fall_of
fall_started p s t pac high out ook q = rw q

-- ---- edges: an even number outside a pulse, an odd one in it
low_length : (ps : List Edges) (o : List Float) → o ≡ [] → length (flat ps ++ o) ≡ 2 * length ps
low_length ps o q = ap (λ (l : List Float). length (flat ps ++ l)) q ∙ length-append (flat ps) [] ∙ omega (arith, flat_length ps)

high_length : (ps : List Edges) (a : Float) (o : List Float) → o ≡ a ∷ [] → length (flat ps ++ o) ≡ suc (2 * length ps)
high_length ps a o q = ap (λ (l : List Float). length (flat ps ++ l)) q ∙ length-append (flat ps) (a ∷ []) ∙ omega (arith, flat_length ps)

-- ---- a sample more
module _ (p : Settings) (xs : List (Sample Float)) (x : Sample Float) where
  follows : (v : Env) (t : Train) (out : Out) (ook : List ℕ) (es : List Float) (ps : List Edges) (o : List Float)
      → memit p.min_steps (machine p xs) x ≡ ps → opened (mstep p.min_steps (machine p xs) x) ≡ o → flat (given p xs ++ ps) ++ o ≡ es
      → RunRel p.min_steps (mstep p.min_steps (machine p xs) x) es v → Held p.carry p.max_pulses es t ook → out.state ≡ 0
      → Follows p v t out ook (xs ++ (x ∷ []))
  follows v t out ook es ps o qp qo qe R H z = record {
    run = rw (after_snoc p.min_steps (lowed 0) xs x, emitted_snoc p.min_steps (lowed 0) xs x, qp, qo, qe) R;
    train = rw (after_snoc p.min_steps (lowed 0) xs x, emitted_snoc p.min_steps (lowed 0) xs x, qp, qo, qe) H;
    undecided = z;
  }

  claimed : (out : Out) (ook : List ℕ) (ps : List Edges) → given p xs ++ memit p.min_steps (machine p xs) x ≡ ps → Claim p.carry p.max_pulses ps out ook
      → Claim p.carry p.max_pulses (given p (xs ++ (x ∷ []))) out ook
  claimed out ook ps qp C = rw (emitted_snoc p.min_steps (lowed 0) xs x, qp) C

-- ---- a run begins to count, or none does
module _ (p : Settings) (D : InDomain p) (mode : eqb p.mode 1 ≡ false) (v : Env) (t : Train) (out : Out) (ook : List ℕ) (xs : List (Sample Float)) (F : Follows p v t out ook xs)
    (pac : C32) (high : Float) (w : Env) where
  abbrev next : Bool → Sample Float
  next on = sample on w.run.t_run

  abbrev Confirmed : Bool → Bool → Type 0
  Confirmed on due = After p (confirm_if due w) (confirm_of due p on w t pac high out ook).0 (confirm_of due p on w t pac high out ook).1 (xs ++ (next on ∷ []))

  -- a high run after a low one: the gap before it ends, or the train starts
  raised : opened (machine p xs) ≡ [] → Ends (edges_at p xs) w.run.t_prev → TrainRel p.carry (edges_at p xs) t
      → Held p.carry p.max_pulses (edges_at p xs ++ (w.run.t_run ∷ [])) (rise_of p.carry w t ook).0 (rise_of p.carry w t ook).1
  raised h d (none_yet qes qs qn qo) =
      rw (rise_first p.carry w t ook qs) (held_first p.carry p.max_pulses (pairs_grow p D) (edges_at p xs) t ook w.run.t_run (step_of w.c_run) qs F.train)
  raised h d (under_way a more qes qs ql qo qa qb) =
      rw (rise_gap p.carry w t ook qs)
      (held_gap p.carry p.max_pulses (pairs_grow p D) (edges_at p xs) t ook w.run.t_run w.run.t_prev qs
      (omega (arith, low_length (given p xs) (opened (machine p xs)) h, ap length qes, ql, qo)) d F.train)

  started : (a : Float) → opened (machine p xs) ≡ a ∷ [] → TrainRel p.carry (edges_at p xs) t → t.started ≡ 1
  started a h (none_yet qes qs qn qo) = absurd (omega (arith, high_length (given p xs) a (opened (machine p xs)) h, ap length qes))
  started a h (under_way b more qes qs ql qo qa qb) = qs

  abbrev last : Edges
  last = (w.run.t_prev, w.run.t_run)

  -- the edges of a record whose last pulse is closed
  closing : flat (given p xs ++ (last ∷ [])) ++ [] ≡ (flat (given p xs) ++ (w.run.t_prev ∷ [])) ++ (w.run.t_run ∷ [])
  unfolding flat
  closing = append-nil (flat (given p xs ++ (last ∷ []))) ∙ flat_append (given p xs) (last ∷ []) ∙ sym (append_assoc (flat (given p xs)) (w.run.t_prev ∷ []) (w.run.t_run ∷ []))

  -- a low run after a high one: the pulse is final
  fallen : (d : Done) (ook' : List ℕ) (es : List Float) → memit p.min_steps (machine p xs) (next false) ≡ last ∷ []
      → opened (mstep p.min_steps (machine p xs) (next false)) ≡ [] → flat (given p xs ++ (last ∷ [])) ++ [] ≡ es
      → RunRel p.min_steps (mstep p.min_steps (machine p xs) (next false)) es (confirm_if true w)
      → Fallen p.carry p.max_pulses out (given p xs ++ (last ∷ [])) es d ook' → After p (confirm_if true w) d ook' (xs ++ (next false ∷ []))
  fallen d ook' es e h qe R (goes_on qn qo H) =
      stays qn (follows p xs (next false) (confirm_if true w) d.train d.out ook' es (last ∷ []) [] e h qe R H (ap (λ (o : Out). o.state) qo ∙ F.undecided))
  fallen d ook' es e h qe R (ends qn C) =
      over (λ q. idle_not (sym qn ∙ q)) (claimed p xs (next false) d.out ook' (given p xs ++ (last ∷ [])) (ap (λ (l : List Edges). given p xs ++ l) e) C)

  act_follows : (on : Bool) → Outcome p.min_steps (machine p xs) (edges_at p xs) on w → Confirmed on (due_of w.run p.min_steps)
  unfolding confirm_if confirm_of
  act_follows on (keeps q hh e R) =
      subst (λ (b : Bool). Confirmed on b) (sym q)
      (stays refl (follows p xs (next on) w t out ook (edges_at p xs) [] (opened (machine p xs)) e hh (ap (λ (l : List Edges). flat l ++ opened (machine p xs)) (append-nil (given p xs))) R F.train F.undecided))
  act_follows true (rises q o h h' e d R) =
      subst (λ (b : Bool). Confirmed true b) (sym q)
      (stays refl (follows p xs (next true) (confirm_if true w) (rise_of p.carry w t ook).0 out (rise_of p.carry w t ook).1
      (edges_at p xs ++ (w.run.t_run ∷ [])) [] (w.run.t_run ∷ []) e h'
      (ap (λ (l : List Edges). flat l ++ (w.run.t_run ∷ [])) (append-nil (given p xs))
      ∙ ap (λ (l : List Float). l ++ (w.run.t_run ∷ [])) (sym (append-nil (flat (given p xs))) ∙ ap (λ (l : List Float). flat (given p xs) ++ l) (sym h)))
      R (raised h d F.train.state) F.undecided))
  act_follows false (rises q o h h' e d R) = clash (sym o)
  act_follows true (falls q o h h' e R) = clash o
  act_follows false (falls q o h h' e R) =
      let k : edges_at p xs ≡ flat (given p xs) ++ (w.run.t_prev ∷ []) = ap (λ (l : List Float). flat (given p xs) ++ l) h in
      let H : Held p.carry p.max_pulses (flat (given p xs) ++ (w.run.t_prev ∷ [])) t ook = subst (λ (l : List Float). Held p.carry p.max_pulses l t ook) k F.train in
      let R' : RunRel p.min_steps (mstep p.min_steps (machine p xs) (next false)) ((flat (given p xs) ++ (w.run.t_prev ∷ [])) ++ (w.run.t_run ∷ [])) (confirm_if true w)
      = subst (λ (l : List Float). RunRel p.min_steps (mstep p.min_steps (machine p xs) (next false)) (l ++ (w.run.t_run ∷ [])) (confirm_if true w)) k R in
      subst (λ (b : Bool). Confirmed false b) (sym q)
      (rw (fall_started p w t pac high out ook (started w.run.t_prev h F.train.state))
      (fallen (pulse_done_of p (with_bound (taken_of p.carry w t).bound t) pac high out (taken_of p.carry w t).width w.c_run ook).0
      (pulse_done_of p (with_bound (taken_of p.carry w t).bound t) pac high out (taken_of p.carry w t).width w.c_run ook).1
      ((flat (given p xs) ++ (w.run.t_prev ∷ [])) ++ (w.run.t_run ∷ [])) e h' closing R'
      (held_falls p D mode (given p xs) t ook pac high out last w.c_run H)))

-- ---- the end of a sample
-- a low run that counts: the last run that counts is low
low_now : (m : ℕ) (c : Conf Float) (es : List Float) (v : Env) → RunRel m c es v → v.run.confirmed ≡ 1 → v.run.level ≡ 0 → opened c ≡ []
unfolding opened
low_now m c es v (rest_low qc q l d z) k j = rw qc
low_now m c es v (try_high qc q l u d) k j = absurd (omega arith)
low_now m c es v (rest_high qc q l w) k j = absurd (omega arith)
low_now m c es v (try_low qc q l u) k j = absurd (omega arith)

opened_one : (c : Conf Float) → length (opened c) ≤ 1
unfolding opened
opened_one c = grind arith

-- no pulse is held there
none_held : (carry : ℕ) (ps : List Edges) (o : List Float) (t : Train) → TrainRel carry (flat ps ++ o) t → o ≡ [] → has_pulses_of t ≡ false → length ps ≡ 0
unfolding has_pulses_of
none_held carry ps o t (none_yet qes qs qn qo) f q = omega (arith, low_length ps o f, ap length qes)
none_held carry ps o t (under_way a more qes qs ql qo qa qb) f q =
    clash (sym (ap (λ (n : ℕ). cond (eqb n 1) (ltb 0 (t.ook_n + t.«open»)) false) qs ∙ lt-ltb 0 (t.ook_n + t.«open») (omega (arith, low_length ps o f, ap length qes, ql))) ∙ q)

gone_tells : (on : Bool) (c l g : ℕ) → gone_of on c l g ≡ true → (on ≡ false) × (c ≡ 1)
unfolding gone_of
gone_tells on c l g q = grind arith

module _ (p : Settings) (D : InDomain p) (v : Env) (t : Train) (out : Out) (ook : List ℕ) (xs : List (Sample Float)) (F : Follows p v t out ook xs) where
  abbrev Goes : Done × List ℕ → Type 0
  Goes d = After p v d.0 d.1 xs

  on_stay : Goes (stay_by out (t, ook))
  on_stay = stays refl F

  -- the train ends here, at the end of a sample or by a close
  pub train_ends : (high : Float) → Claim p.carry p.max_pulses (given p xs) (end_train_of t high out ook).0.out (end_train_of t high out ook).1
  train_ends high = held_ends p.carry p.max_pulses (pairs_grow p D) high out (edges_at p xs) (given p xs) (opened (machine p xs)) t ook refl (opened_one (machine p xs)) F.undecided F.train

  on_end : (next : Next) (high : Float) → (next ≡ Stay → ⊥) → Goes (end_by next (end_train_of t high out ook))
  on_end next high n = over n (train_ends high)

  waits : (n frames : ℕ) (high : Float) → opened (machine p xs) ≡ [] → Goes (wait_of p n t frames high out ook)
  unfolding wait_of
  waits n frames high low =
      by_test Goes (has_pulses_of t) (λ q. either Goes (gap_over_of p t n) (on_end Idle high idle_not) on_stay)
      (λ q. either Goes (ltb (limit_of p frames) n)
      (over idle_not (no_pulse (empty (given p xs) (none_held p.carry (given p xs) (opened (machine p xs)) t F.train.state low q)) F.undecided))
      on_stay)

  pub tail_follows : (on : Bool) (e : Float) (a : Absence) (high : Float) → v.run.level ≡ bit on
      → After p v (tail_of p on e v.run a high t out ook).0 (tail_of p on e v.run a high t out ook).1 xs
  unfolding tail_of
  tail_follows on e a high l =
      either Goes (carrier_of on v.run.run_len p.long_steps) (on_end (IdleAt e) high (idle_at_not e))
      (by_test Goes (gone_of on v.run.confirmed a.p_level a.p_confirmed)
      (λ q. let w = gone_tells on v.run.confirmed a.p_level a.p_confirmed q in
      waits v.run.run_len a.frames high (low_now p.min_steps (machine p xs) (edges_at p xs) v F.run w.1 (l ∙ ap bit w.0)))
      (λ q. on_stay))

abbrev pub done_of : Acted → Done
done_of q = record { next = q.next; train = q.train; out = q.out }

-- ---- the level, the run and its edge
refined_if : (m : ℕ) (v : Env) (t : Float) (b c : Bool) → eqb v.ref_pending 1 ≡ b → (refine_at_of m ≤ v.run.run_len → c ≡ true) → Refined m v (cond b (cond c (with_refined t v) v) v)
refined_if m v t true true e h = record { same_level = refl; same_sure = refl; same_length = refl; same_before = refl; settled = λ q. clash (sym e ∙ q); settles = λ l. refl }
refined_if m v t true false e h = record { same_level = refl; same_sure = refl; same_length = refl; same_before = refl; settled = λ q. refl; settles = λ l. clash (sym (h l)) }
refined_if m v t false c e h = record { same_level = refl; same_sure = refl; same_length = refl; same_before = refl; settled = λ q. refl; settles = λ l. e }

pub refine_due : (m : ℕ) (a : At) (ring : List Float) (high : Float) (on : Bool) (v : Env) → Refined m v (refine_due_of m a ring high on v)
unfolding refine_due_of
refine_due m a ring high on v =
    refined_if m v (refine_of ring m high a.noise on a.lead_at a.idx v) (eqb v.ref_pending 1) (leb (refine_at_of m) v.run.run_len) refl
    (λ l. le-leb (refine_at_of m) v.run.run_len l)

-- ---- the sample, up to the confirmation
module _ (p : Settings) (D : InDomain p) (mode : eqb p.mode 1 ≡ false) (a : At) (ring : List Float) (high e : Float) (v : Env) (pac : C32) (t : Train) (out : Out) (ook : List ℕ)
    (xs : List (Sample Float))
    (F : Follows p v t out ook xs) where
  abbrev seen : Seen
  seen = see_of p a ring high e v pac

  seen_outcome : Outcome p.min_steps (machine p xs) (edges_at p xs) seen.on seen.env
  unfolding see_of
  seen_outcome = outcome p.min_steps (run_grows p D) (machine p xs) (edges_at p xs) v seen.env _ a.idx seen.on F.run (refine_due p.min_steps a ring high seen.on _)

  seen_level : seen.env.run.level ≡ bit seen.on
  unfolding see_of
  seen_level = (refine_due p.min_steps a ring high seen.on _).same_level ∙ level_after v seen.on _ a.idx

  pub acted : After p (act_of p seen t out ook).0.env (done_of (act_of p seen t out ook).0) (act_of p seen t out ook).1 (xs ++ (sample seen.on seen.env.run.t_run ∷ []))
  unfolding act_of
  acted = act_follows p D mode v t out ook xs F seen.pac seen.high seen.env seen.on seen_outcome

  -- confirming a run leaves its level
  pub acted_level : (act_of p seen t out ook).0.env.run.level ≡ bit seen.on
  unfolding act_of confirm_if
  acted_level = either (λ (u : Env). u.run.level ≡ bit seen.on) (due_of seen.env.run p.min_steps) seen_level seen_level
