-- A burst in OOK mode over its samples, stepped or replayed: as long as it goes on, its record has no quiet in it.
use mathlib.Core.Path.{◌≡◌, refl, sym, ap, ◌∙◌, subst}
use mathlib.Core.Bool.{Bool, true, false, cond}
use mathlib.Core.List.{List, [], ◌∷◌, ◌++◌, append-nil, append_assoc}
use Prim.Native.Nat.{ℕ, zero, suc, ◌+◌, ◌≤◌, ◌<◌}
use native.Mathlib.Omega.{arith}
use lib.Dec.{leb, eqb}
use lib.Ieee.{Float, binary64, sub}
use lib.ListN.{length}
use borrow.Author.Tests.{leb-true, leb-false}
use Rattle.ook.specs.declared.Env.{Env}
use Rattle.shared.specs.declared.Settings.{Settings}
use Rattle.shared.specs.declared.Next.{Next}
use Rattle.shared.specs.declared.Next.TheVariants.{Stay, Idle, IdleAt}
use Rattle.shared.specs.Answers.{is_stay_of}
use Rattle.shared.specs.Counts.{bit}
use Rattle.shared.proofs.Cases.{either}
use Rattle.ook.specs.Run.{begin_env_of}
use Rattle.refusals.proofs.Domain.{InDomain}
use Rattle.fsk.specs.Types.{Frame}
use Rattle.presence.specs.declared.Pres.{Pres}
use Rattle.presence.specs.Types.{Snapped}
use Rattle.run.specs.Run.{start_run_of}
use Rattle.presence.specs.Presence.{near_start_of, snap_of}
use Rattle.envelope.specs.declared.At.{At}
use Rattle.envelope.specs.declared.Seen.{Seen}
use Rattle.envelope.specs.Types.{Acted}
use Rattle.envelope.specs.See.{see_of}
use Rattle.envelope.specs.Act.{act_of}
use Rattle.envelope.specs.Tail.{tail_of}
use Rattle.burst.specs.Types.{Burst}
use Rattle.burst.specs.declared.Lead.{Lead}
use Rattle.burst.specs.Types.{Sampled}
use Rattle.burst.specs.Sample.{snap_if_of, absence_of, last_of, present_of, rest_of, sample_of}
use Rattle.burst.specs.Lead.{begin_burst_of, lead_at_of, staying, replay_from}
use Rattle.burst.proofs.LeadLaws.{replay_stop}
use Rattle.pulses.specs.Runs.{Sample}
use Rattle.pulses.specs.Yardstick.{levelled, replayed}
use Rattle.shared.proofs.Tests.{clash}
use Rattle.pulses.proofs.BurstState as state
use Rattle.pulses.proofs.RunState.{Refined, level_after}
use Rattle.pulses.proofs.OokSample.{idle_not, idle_at_not, not_stay, refine_due}
use Rattle.quiet.specs.Quiet.{lows_from, quiet_from, lows, quiet}
use Rattle.quiet.proofs.Low.{lows_after, lows_snoc, loud_snoc, Enough, Long, long_after, Counts, confirmed_counts, tail_ends}

-- A burst under way, its record so far xs: presence, which is not asked in OOK mode, is away for sure and no frame has come; the run is as long as
-- the low samples at the record's end; and nowhere are so many low in a row as would have ended it.
pub record Calm (w : ℕ) (b : Burst) (xs : List (Sample Float)) : Type 0 where
  pub away : b.pres.run.level ≡ 0
  pub surely : b.pres.run.confirmed ≡ 1
  pub unframed : b.frames ≡ 0
  pub long : Long (lows xs) b.env.run
  pub few : lows xs < w
  pub loud : quiet w xs ≡ false

-- at its start
pub start_calm : (w : ℕ) (high t e : Float) (b : Burst) → 0 < w → Calm w (begin_burst_of high t e b) []
unfolding begin_burst_of begin_env_of start_run_of lows_from quiet_from
start_calm w high t e b more = record { away = refl; surely = refl; unframed = refl; long = record { flag = omega arith; low = λ q. omega arith; high = λ q. refl }; few = omega arith; loud = refl }

-- refining an edge leaves the run, but for the edge
long_as : {m n : ℕ} {v w : Env} → Refined m v w → Long n v.run → Long n w.run
long_as R L = record { flag = rw R.same_sure L.flag; low = λ e. rw R.same_length (L.low (sym R.same_level ∙ e)); high = λ e. L.high (λ z. e (R.same_level ∙ z)) }

-- an envelope's edge moves the start of presence, and no more of it
snap_level : (began on : Bool) (t : Float) (s : Pres) (f : Frame) → ((snap_if_of began on t s f).pres.run.level ≡ s.run.level) × ((snap_if_of began on t s f).pres.run.confirmed ≡ s.run.confirmed)
unfolding snap_if_of snap_of
snap_level true true t s f =
    either (λ (n : Snapped). (n.pres.run.level ≡ s.run.level) × (n.pres.run.confirmed ≡ s.run.confirmed))
    (near_start_of s.run.level f.fsk_phase f.done.fsk_runs (sub binary64 t s.run.t_run)) (refl, refl) (refl, refl)
snap_level true false t s f = (refl, refl)
snap_level false on t s f = (refl, refl)

module _ (p : Settings) (D : InDomain p) (mode : p.mode ≡ 0) (w : ℕ) (N : Enough p w) where
  -- ---- a sample
  module _ (a : At) (ring : List Float) (b : Burst) (ook fsk : List ℕ) (xs : List (Sample Float)) (C : Calm w b xs) where
    abbrev seen : Seen
    seen = state.seen p D a ring b ook fsk

    -- the run after it, before it may count
    long_seen : Long (lows_after (lows xs) seen.on) seen.env.run
    unfolding see_of
    long_seen =
        long_as (refine_due p.min_steps a ring b.high seen.on _)
        (long_after (lows xs) b.env seen.on _ a.idx (omega (arith, C.few, N.small)) C.long)

    abbrev acts : Acted × List ℕ
    acts = state.acts p D a ring b ook fsk

    -- and once it counts where it has min_steps samples
    counts : Counts p.min_steps seen.env.run acts.0.env.run
    unfolding act_of
    counts = confirmed_counts p.min_steps seen.env long_seen.flag

    long_acted : Long (lows_after (lows xs) seen.on) acts.0.env.run
    long_acted = record {
      flag = counts.flag;
      low = λ e. rw counts.same_length (long_seen.low (sym counts.same_level ∙ e));
      high = λ e. long_seen.high (λ q. e (counts.same_level ∙ q));
    }

    abbrev burst' : Burst
    burst' = state.burst' p D a ring b ook fsk

    -- where a low sample leaves the burst under way, fewer samples are low than end it: its run would count and be longer than the gap
    abbrev tail : Next
    tail = (tail_of p seen.on a.e acts.0.env.run (absence_of burst') seen.high acts.0.train acts.0.out acts.1).0.next

    level : acts.0.env.run.level ≡ bit seen.on
    unfolding see_of
    level = counts.same_level ∙ (refine_due p.min_steps a ring b.high seen.on _).same_level ∙ level_after b.env seen.on _ a.idx

    quiet_ends : seen.on ≡ false → w ≤ lows_after (lows xs) seen.on → tail ≡ Idle
    quiet_ends q h =
        let n : w ≤ acts.0.env.run.run_len = omega (arith, h, long_acted.low (level ∙ ap bit q)) in
        let s = snap_level seen.began seen.on seen.env.c_run b.pres b.frame in
        subst (λ (on : Bool). (tail_of p on a.e acts.0.env.run (absence_of burst') seen.high acts.0.train acts.0.out acts.1).0.next ≡ Idle) (sym q)
        (tail_ends p D a.e seen.high acts.0.env.run (absence_of burst') acts.0.train acts.0.out acts.1
        (counts.sure (omega (arith, n, N.counts))) (s.0 ∙ C.away) (s.1 ∙ C.surely) C.unframed (omega (arith, n, N.longer)))

    few_left : tail ≡ Stay → lows_after (lows xs) seen.on < w
    unfolding lows_after
    few_left n = go seen.on refl (leb w (lows_after (lows xs) seen.on)) refl
      where
        go : (on : Bool) → seen.on ≡ on → (c : Bool) → leb w (lows_after (lows xs) seen.on) ≡ c → lows_after (lows xs) seen.on < w
        go true q c h = subst (λ (on : Bool). lows_after (lows xs) on < w) (sym q) (omega (arith, N.longer))
        go false q false h = leb-false w (lows_after (lows xs) seen.on) h
        go false q true h = absurd (idle_not (sym (quiet_ends q (leb-true w (lows_after (lows xs) seen.on) h)) ∙ n))

    -- the burst after a sample that leaves it under way
    abbrev grown : List (Sample Float)
    grown = xs ++ (levelled p a ring b ∷ [])

    calm_after : tail ≡ Stay → Calm w burst' grown
    unfolding levelled
    calm_after n =
        let s = snap_level seen.began seen.on seen.env.c_run b.pres b.frame in
        let l = lows_snoc 0 xs seen.on seen.env.run.t_run in
        record {
          away = s.0 ∙ C.away;
          surely = s.1 ∙ C.surely;
          unframed = C.unframed;
          long = subst (λ (k : ℕ). Long k acts.0.env.run) (sym l) long_acted;
          few = subst (λ (k : ℕ). k < w) (sym l) (few_left n);
          loud = loud_snoc w 0 xs seen.on seen.env.run.t_run C.loud (few_left n);
        }

    pub sample_calm : (sample_of p a ring b ook fsk).0.next ≡ Stay → Calm w (sample_of p a ring b ook fsk).0.burst grown
    unfolding sample_of rest_of last_of
    sample_calm = go (is_stay_of acts.0.next) refl
      where
        After : Sampled × List ℕ × List ℕ → Type 0
        After r = r.0.next ≡ Stay → Calm w r.0.burst grown

        last : After (last_of p seen.on a.e burst' acts.1 fsk)
        last n = let c = calm_after n in search

        go : (c : Bool) → is_stay_of acts.0.next ≡ c
            → After (cond c (rest_of p a b.e_prev seen burst' acts.1 fsk) (record { next = acts.0.next; burst = burst' }, acts.1, fsk))
        go true q = subst (λ (m : ℕ). After (cond (eqb m 0) (last_of p seen.on a.e burst' acts.1 fsk) (present_of p a b.e_prev seen burst' acts.1 fsk))) (sym mode) last
        go false q = λ n. clash (sym (ap is_stay_of n) ∙ q)

  -- ---- the replay
  module _ (noise : Float) (ring : List Float) (l : Lead) where
    -- what it leaves of a burst that goes on, and that it brings as many samples as it takes
    abbrev Replayed : ℕ → ℕ → List (Sample Float) → Sampled × List ℕ × List ℕ → Type 0
    Replayed k i xs r = (replay_from p noise ring l k i r).0.next ≡ Stay
        → Calm w (replay_from p noise ring l k i r).0.burst (xs ++ replayed p noise ring l k i r) × (length (replayed p noise ring l k i r) ≡ k)

    pub replay_calm : (k i : ℕ) (b : Burst) (ook fsk : List ℕ) (xs : List (Sample Float)) → Calm w b xs → Replayed k i xs (staying b ook fsk)
    unfolding replay_from replayed
    replay_calm zero i b ook fsk xs C n = (rw append-nil C, refl)
    replay_calm (suc k) i b ook fsk xs C n =
        go r.0.next refl (λ D'. replay_calm k (i + 1) r.0.burst r.1 r.2 (xs ++ (x ∷ [])) D') (sample_calm (lead_at_of noise l i) ring b ook fsk xs C) n
      where
        r : Sampled × List ℕ × List ℕ
        r = sample_of p (lead_at_of noise l i) ring b ook fsk

        x : Sample Float
        x = levelled p (lead_at_of noise l i) ring b

        On : Sampled × List ℕ × List ℕ → Type 0
        On s = (replay_from p noise ring l k (i + 1) s).0.next ≡ Stay
            → Calm w (replay_from p noise ring l k (i + 1) s).0.burst (xs ++ x ∷ replayed p noise ring l k (i + 1) s) × (suc (length (replayed p noise ring l k (i + 1) s)) ≡ suc k)

        stopped : (r.0.next ≡ Stay → ⊥) → On r
        stopped h m = absurd (h (ap (λ (s : Sampled × List ℕ × List ℕ). s.0.next) (sym (replay_stop p noise ring l k (i + 1) r (not_stay r.0.next h))) ∙ m))

        go : (y : Next) → r.0.next ≡ y → (Calm w r.0.burst (xs ++ (x ∷ [])) → Replayed k (i + 1) (xs ++ (x ∷ [])) (staying r.0.burst r.1 r.2))
            → (r.0.next ≡ Stay → Calm w r.0.burst (xs ++ (x ∷ []))) → On r
        go Stay q later here =
            subst (λ (y : Next). On (record { next = y; burst = r.0.burst }, r.1, r.2)) (sym q) (λ m. let z = later (here q) m in (rw append_assoc at z.0, ap suc z.1))
        go Idle q later here = stopped (λ e. idle_not (sym q ∙ e))
        go (IdleAt e) q later here = stopped (λ z. idle_at_not e (sym q ∙ z))
