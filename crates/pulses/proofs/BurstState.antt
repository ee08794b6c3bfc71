-- A burst over its samples, stepped or replayed, in OOK mode and in Auto mode where no frame is found: `sample_of` and `replay_from` of demand 2.
use mathlib.Core.Path.{◌≡◌, refl, sym, ap, ◌∙◌, subst}
use mathlib.Core.Bool.{Bool, true, false, cond}
use mathlib.Core.List.{List, [], ◌∷◌, ◌++◌, append-nil, append_assoc}
use Prim.Native.Nat.{ℕ, zero, suc, ◌+◌, ◌*◌, ◌≤◌}
use native.Mathlib.Omega.{arith}
use lib.Dec.{eqb}
use borrow.Author.Tests.{eq-eqb}
use lib.Ieee.{Float}
use lib.ListN.{length}
use Rattle.arith.specs.Leaves.{lead_len_of}
use Rattle.shared.specs.declared.Settings.{Settings}
use Rattle.shared.specs.declared.Next.{Next}
use Rattle.shared.specs.Answers.{is_stay_of}
use Rattle.shared.specs.Counts.{bit}
use Rattle.run.specs.Run.{start_run_of}
use Rattle.ook.specs.Run.{begin_env_of}
use Rattle.ook.specs.Train.{empty_train_of}
use Rattle.refusals.proofs.Domain.{InDomain}
use Rattle.envelope.specs.declared.Seen.{Seen}
use Rattle.envelope.specs.Types.{Acted}
use Rattle.envelope.specs.See.{see_of}
use Rattle.envelope.specs.Act.{act_of}
use Rattle.presence.specs.Types.{Present}
use Rattle.presence.specs.Presence.{presence_of}
use Rattle.envelope.specs.declared.At.{At}
use Rattle.burst.specs.Types.{Burst}
use Rattle.burst.specs.declared.Lead.{Lead}
use Rattle.burst.specs.Types.{Sampled}
use Rattle.burst.specs.Makers.{with_acted, body_in, with_body}
use Rattle.burst.specs.Sample.{snap_if_of, absence_of, last_of, inputs_of, present_of, rest_of, sample_of}
use Rattle.burst.specs.Lead.{begin_burst_of, lead_at_of, onward, staying, replay_from, replay_of, lead_full_of}
use Rattle.burst.proofs.LeadLaws.{replay_stop}
use Rattle.pulses.specs.Runs.{Sample}
use Rattle.pulses.specs.Yardstick.{levelled, replayed, phase_after, phases_replayed, burst_at}
use Rattle.pulses.specs.Auto.{AllZero}
use Rattle.shared.proofs.Cases.{either}
use Rattle.shared.proofs.Tests.{clash}
use Rattle.pulses.proofs.Machine.{after, emitted}
use Rattle.pulses.proofs.RunState.{opened, rest_low}
use Rattle.pulses.proofs.Edges.{flat}
use Rattle.pulses.proofs.TrainState.{none_yet}
use Rattle.slots.specs.Slots.{slots_of}
use Rattle.slots.proofs.Slots.{last_or}
use Rattle.pulses.proofs.OokSample.{Follows, After, stays, over, not_stay, tail_follows, done_of, acted, acted_level}
use Rattle.pulses.proofs.Presence.{Unfound, unsplit, unframed, present_done, presence_frames, presence_follows}

-- a burst under way, its record so far xs
abbrev pub Under : Settings → Burst → List ℕ → List (Sample Float) → Type 0
Under p b ook xs = Follows p b.env b.train b.out_ook ook xs

-- after a sample: the burst goes on, or it has ended
abbrev pub Next-is : Settings → Sampled × List ℕ × List ℕ → List (Sample Float) → Type 0
Next-is p r xs = After p r.0.burst.env (record { next = r.0.next; train = r.0.burst.train; out = r.0.burst.out_ook }) r.1 xs

-- a burst at its start has no pulse
start_follows : (p : Settings) (high t e : Float) (b : Burst) (ook : List ℕ) → b.out_ook.state ≡ 0 → 2 * p.max_pulses ≤ length ook → Under p (begin_burst_of high t e b) ook []
unfolding begin_burst_of begin_env_of start_run_of empty_train_of after emitted opened flat slots_of last_or
start_follows p high t e b ook z h = record {
  run = rest_low refl refl refl refl (λ u. absurd (omega arith));
  train = record { state = none_yet refl refl refl refl; uncut = refl; room = h; fits = omega arith; slots = record { rest = ook; split = refl } };
  undecided = z;
}

-- the replay of demand 2's definition begins with the yardstick's burst
pub full_replays : (p : Settings) (noise : Float) (ring : List Float) (l : Lead) (b : Burst) (ook fsk : List ℕ)
    → lead_full_of p noise ring l b ook fsk ≡ replay_from p noise ring l (lead_len_of p.min_steps) 0 (staying (burst_at l (lead_len_of p.min_steps) b) ook fsk)
unfolding lead_full_of replay_of
full_replays p noise ring l b ook fsk = refl

-- What the burst after a sample tells, where presence has left the pulses alone: in OOK mode it is not asked, and in Auto mode it has found
-- no frame.
pub data Apart (p : Settings) (b : Burst) : Type 0 where
  unasked : p.mode ≡ 0 → Apart p b
  unfound : p.mode ≡ 2 → Unfound b.frame.fsk_phase b.frames → Apart p b

-- The bursts whose pulses are listed: those in OOK mode, and in Auto mode those whose `fsk_phase` stayed 0, and those that had no frame.
pub data Listed (p : Settings) (phases : List ℕ) (frames : ℕ) : Type 0 where
  in_ook : p.mode ≡ 0 → Listed p phases frames
  in_auto : p.mode ≡ 2 → AllZero phases → Listed p phases frames
  frameless : p.mode ≡ 2 → frames ≡ 0 → Listed p phases frames

-- of a burst that had `frames` in the end and whose next sample is b's
pub apart : (p : Settings) (b : Burst) (phases : List ℕ) (frames : ℕ) → (p.mode ≡ 2 → frames ≡ 0 → b.frames ≡ 0) → Listed p (b.frame.fsk_phase ∷ phases) frames → Apart p b
unfolding AllZero
apart p b phases frames h (in_ook q) = unasked q
apart p b phases frames h (in_auto q (z, zs)) = unfound q (unsplit z)
apart p b phases frames h (frameless q z) = unfound q (unframed (h q z))

zeros_split : (ms ns : List ℕ) → AllZero (ms ++ ns) → AllZero ms × AllZero ns
unfolding AllZero
zeros_split [] ns z = (tt, z)
zeros_split (m ∷ ms) ns (z, zs) = let t = zeros_split ms ns zs in ((z, t.0), t.1)

-- from some sample on, and up to it, where n frames were had
pub listed_on : (p : Settings) (ms ns : List ℕ) (frames : ℕ) → Listed p (ms ++ ns) frames → Listed p ns frames
listed_on p ms ns frames (in_ook q) = in_ook q
listed_on p ms ns frames (in_auto q z) = in_auto q (zeros_split ms ns z).1
listed_on p ms ns frames (frameless q z) = frameless q z

pub listed_before : (p : Settings) (ms ns : List ℕ) (frames n : ℕ) → (p.mode ≡ 2 → frames ≡ 0 → n ≡ 0) → Listed p (ms ++ ns) frames → Listed p ms n
listed_before p ms ns frames n h (in_ook q) = in_ook q
listed_before p ms ns frames n h (in_auto q z) = in_auto q (zeros_split ms ns z).0
listed_before p ms ns frames n h (frameless q z) = frameless q (h q z)

pulses_kept : (p : Settings) (b : Burst) → Apart p b → eqb p.mode 1 ≡ false
pulses_kept p b (unasked q) = rw q
pulses_kept p b (unfound q U) = rw q

module _ (p : Settings) (D : InDomain p) where
  -- the end of a sample
  last_follows : (on : Bool) (e : Float) (b : Burst) (ook fsk : List ℕ) (ys : List (Sample Float)) → b.env.run.level ≡ bit on → Under p b ook ys → Next-is p (last_of p on e b ook fsk) ys
  unfolding last_of
  last_follows on e b ook fsk ys l F = tail_follows p D b.env b.train b.out_ook ook ys F on e (absence_of b) b.high l

  -- presence in Auto mode, and the end of the sample
  module _ (auto : p.mode ≡ 2) (a : At) (ep : Float) (s : Seen) (b : Burst) (ook fsk : List ℕ) where
    abbrev present : Present × List ℕ × List ℕ
    present = presence_of p (inputs_of a ep s b) b.pres (body_in b) ook fsk

    -- what the sample answers, where presence stays or does not
    by : Bool → Sampled × List ℕ × List ℕ
    by c =
        cond c
        (last_of p s.on a.e (with_body present.0.pres present.0.body b) present.1 present.2)
        (record { next = present.0.next; burst = with_body present.0.pres present.0.body b }, present.1, present.2)

    found_before : (c : Bool) → Unfound (by c).0.burst.frame.fsk_phase (by c).0.burst.frames → Unfound present.0.body.frame.fsk_phase present.0.body.frames
    unfolding by last_of
    found_before true U = U
    found_before false U = U

    present_frames : (present_of p a ep s b ook fsk).0.burst.frames ≡ 0 → b.frames ≡ 0
    unfolding present_of by last_of
    present_frames =
        let had : present.0.body.frames ≡ 0 → b.frames ≡ 0 = λ z. sym (presence_frames p auto (inputs_of a ep s b) b.pres (body_in b) ook fsk (unframed z)) ∙ z in
        either (λ (r : Sampled × List ℕ × List ℕ). r.0.burst.frames ≡ 0 → b.frames ≡ 0) (is_stay_of present.0.next) had had

    present_follows : (ys : List (Sample Float)) → b.env.run.level ≡ bit s.on → Under p b ook ys
        → Unfound (present_of p a ep s b ook fsk).0.burst.frame.fsk_phase (present_of p a ep s b ook fsk).0.burst.frames → Next-is p (present_of p a ep s b ook fsk) ys
    unfolding present_of by
    present_follows ys l F U =
        go (is_stay_of present.0.next) refl (presence_follows p auto (inputs_of a ep s b) b.pres (body_in b) ook fsk (found_before (is_stay_of present.0.next) U) D b.env ys F)
      where
        go : (c : Bool) → is_stay_of present.0.next ≡ c → After p b.env (present_done present) present.1 ys → Next-is p (by c) ys
        go true q (stays n G) = last_follows s.on a.e (with_body present.0.pres present.0.body b) present.1 present.2 ys l G
        go true q (over n C) = clash (sym q ∙ not_stay present.0.next n)
        go false q (stays n G) = clash (sym (ap is_stay_of n) ∙ q)
        go false q (over n C) = over n C

  module _ (a : At) (ring : List Float) (b : Burst) (ook fsk : List ℕ) where
    -- what is seen of a sample and done about it, and the burst after that
    abbrev pub seen : Seen
    seen = see_of p a ring b.high b.e_prev b.env b.pac

    abbrev pub acts : Acted × List ℕ
    acts = act_of p seen b.train b.out_ook ook

    abbrev pub burst' : Burst
    burst' = with_acted a.e seen (snap_if_of seen.began seen.on seen.env.c_run b.pres b.frame) acts.0 b

    -- its rest: presence is asked in Auto mode
    rest : Bool → Sampled × List ℕ × List ℕ
    rest c = cond c (last_of p seen.on a.e burst' acts.1 fsk) (present_of p a b.e_prev seen burst' acts.1 fsk)

    -- a sample never takes a frame back
    pub sample_frames : p.mode ≡ 2 → (sample_of p a ring b ook fsk).0.burst.frames ≡ 0 → b.frames ≡ 0
    unfolding sample_of rest_of last_of rest
    sample_frames auto =
        let Had : Sampled × List ℕ × List ℕ → Type 0 = λ (r : Sampled × List ℕ × List ℕ). r.0.burst.frames ≡ 0 → b.frames ≡ 0 in
        either Had (is_stay_of acts.0.next) (either Had (eqb p.mode 0) (λ z. z) (present_frames auto a b.e_prev seen burst' acts.1 fsk)) (λ z. z)

    rest_follows : (ys : List (Sample Float)) → burst'.env.run.level ≡ bit seen.on → Under p burst' acts.1 ys
        → Apart p (rest_of p a b.e_prev seen burst' acts.1 fsk).0.burst → Next-is p (rest_of p a b.e_prev seen burst' acts.1 fsk) ys
    unfolding rest_of rest
    rest_follows ys l G A = go (eqb p.mode 0) refl A
      where
        go : (c : Bool) → eqb p.mode 0 ≡ c → Apart p (rest c).0.burst → Next-is p (rest c) ys
        go true q A = last_follows seen.on a.e burst' acts.1 fsk ys l G
        go false q (unasked z) = clash (sym (eq-eqb p.mode 0 z) ∙ q)
        go false q (unfound z U) = present_follows z a b.e_prev seen burst' acts.1 fsk ys l G U

    pub stepped_follows : (xs : List (Sample Float)) → Under p b ook xs → Apart p (sample_of p a ring b ook fsk).0.burst → Next-is p (sample_of p a ring b ook fsk) (xs ++ (levelled p a ring b ∷ []))
    unfolding sample_of levelled
    stepped_follows xs F A =
        go (is_stay_of acts.0.next) refl A (acted p D (pulses_kept p _ A) a ring b.high b.e_prev b.env b.pac b.train b.out_ook ook xs F)
      where
        ys : List (Sample Float)
        ys = xs ++ (levelled p a ring b ∷ [])

        whole : Bool → Sampled × List ℕ × List ℕ
        whole c = cond c (rest_of p a b.e_prev seen burst' acts.1 fsk) (record { next = acts.0.next; burst = burst' }, acts.1, fsk)

        level : burst'.env.run.level ≡ bit seen.on
        level = acted_level p D (pulses_kept p _ A) a ring b.high b.e_prev b.env b.pac b.train b.out_ook ook xs F

        go : (c : Bool) → is_stay_of acts.0.next ≡ c → Apart p (whole c).0.burst → After p acts.0.env (done_of acts.0) acts.1 ys → Next-is p (whole c) ys
        go true q A (stays n G) = rest_follows ys level G A
        go true q A (over n C) = clash (sym q ∙ not_stay acts.0.next n)
        go false q A (stays n G) = clash (sym (ap is_stay_of n) ∙ q)
        go false q A (over n C) = over n C

  -- ---- the replay
  module _ (noise : Float) (ring : List Float) (l : Lead) where
    -- it ends where a sample ends the burst
    dropped : (k i : ℕ) (r : Sampled × List ℕ × List ℕ) → is_stay_of r.0.next ≡ false → replayed p noise ring l k i r ≡ []
    unfolding replayed
    dropped zero i r h = refl
    dropped (suc k) i r h = rw h

    replay_frames : (k i : ℕ) (r : Sampled × List ℕ × List ℕ) → p.mode ≡ 2 → (replay_from p noise ring l k i r).0.burst.frames ≡ 0 → r.0.burst.frames ≡ 0
    unfolding replay_from
    replay_frames zero i r auto z = z
    replay_frames (suc k) i r auto z =
        either (λ (q : Sampled × List ℕ × List ℕ). q.0.burst.frames ≡ 0 → r.0.burst.frames ≡ 0) (is_stay_of r.0.next)
        (sample_frames (lead_at_of noise l i) ring r.0.burst r.1 r.2 auto) (λ q. q) (replay_frames k (i + 1) (onward p (lead_at_of noise l i) ring r) auto z)

    -- the burst after the whole of a replay, and its phases from a sample on
    abbrev Rest : ℕ → ℕ → Sampled × List ℕ × List ℕ → Type 0
    Rest k i r = Listed p (phases_replayed p noise ring l k i r) (replay_from p noise ring l k i r).0.burst.frames

    replayed_follows : (k i : ℕ) (b : Burst) (ook fsk : List ℕ) (xs : List (Sample Float)) → Under p b ook xs → Rest k i (staying b ook fsk)
        → Next-is p (replay_from p noise ring l k i (staying b ook fsk)) (xs ++ replayed p noise ring l k i (staying b ook fsk))
    unfolding replay_from replayed phases_replayed
    replayed_follows zero i b ook fsk xs F L = rw append-nil (stays refl F)
    replayed_follows (suc k) i b ook fsk xs F L =
        go (λ G M. replayed_follows k (i + 1) r.0.burst r.1 r.2 (xs ++ (x ∷ [])) G M)
        (stepped_follows (lead_at_of noise l i) ring b ook fsk xs F (apart p r.0.burst (phases_replayed p noise ring l k (i + 1) r) _ (replay_frames k (i + 1) r) L))
      where
        r : Sampled × List ℕ × List ℕ
        r = sample_of p (lead_at_of noise l i) ring b ook fsk

        x : Sample Float
        x = levelled p (lead_at_of noise l i) ring b

        rest : Rest k (i + 1) r
        rest = listed_on p (phase_after r ∷ []) (phases_replayed p noise ring l k (i + 1) r) _ L

        go : (Under p r.0.burst r.1 (xs ++ (x ∷ [])) → Rest k (i + 1) (staying r.0.burst r.1 r.2)
            → Next-is p (replay_from p noise ring l k (i + 1) (staying r.0.burst r.1 r.2)) ((xs ++ (x ∷ [])) ++ replayed p noise ring l k (i + 1) (staying r.0.burst r.1 r.2)))
            → Next-is p r (xs ++ (x ∷ [])) → Next-is p (replay_from p noise ring l k (i + 1) r) (xs ++ x ∷ replayed p noise ring l k (i + 1) r)
        go later (stays n G) =
            subst (λ (y : Next). Next-is p (replay_from p noise ring l k (i + 1) (record { next = y; burst = r.0.burst }, r.1, r.2))
            (xs ++ x ∷ replayed p noise ring l k (i + 1) (record { next = y; burst = r.0.burst }, r.1, r.2))) (sym n)
            (rw append_assoc at (later G (subst (λ (y : Next). Rest k (i + 1) (record { next = y; burst = r.0.burst }, r.1, r.2)) n rest)))
        go later (over n C) = rw (replay_stop p noise ring l k (i + 1) r (not_stay r.0.next n), dropped k (i + 1) r (not_stay r.0.next n)) (over n C)

  -- a lead-in that is full, with room for the train and no record yet
  module _ (noise : Float) (ring : List Float) (l : Lead) (b : Burst) (ook fsk : List ℕ) where
    abbrev len : ℕ
    len = lead_len_of p.min_steps

    abbrev begun : Sampled × List ℕ × List ℕ
    begun = staying (burst_at l len b) ook fsk

    pub full_follows : b.out_ook.state ≡ 0 → 2 * p.max_pulses ≤ length ook → Listed p (phases_replayed p noise ring l len 0 begun) (lead_full_of p noise ring l b ook fsk).0.burst.frames
        → Next-is p (lead_full_of p noise ring l b ook fsk) (replayed p noise ring l len 0 begun)
    full_follows z h L =
        rw (full_replays p noise ring l b ook fsk)
        (replayed_follows noise ring l len 0 (burst_at l len b) ook fsk [] (start_follows p _ _ _ b ook z h)
        (subst (λ (r : Sampled × List ℕ × List ℕ). Listed p (phases_replayed p noise ring l len 0 begun) r.0.burst.frames) (full_replays p noise ring l b ook fsk) L))
