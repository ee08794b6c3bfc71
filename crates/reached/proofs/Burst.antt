-- A sample of a burst, and the burst's beginning, stay within refusal 4's limits: from a burst under way each sample leads to one, or the burst ends.
use Prim.Native.Nat.{ℕ, ◌^◌, ◌<◌, ◌≤◌}
use mathlib.Core.Bool.{Bool, true, false}
use mathlib.Core.Path.{◌≡◌}
use mathlib.Core.List.{List}
use native.Mathlib.Omega.{arith}
use lib.Dec.{eqb}
use lib.Ieee.{Float}
use Rattle.domain.specs.Limits.{max_steps}
use Rattle.shared.specs.Answers.{is_stay_of}
use Rattle.shared.specs.Params.{fsk_min_of}
use Rattle.shared.proofs.Cases.{either, by_test}
use Rattle.shared.specs.declared.Settings.{Settings}
use Rattle.fsk.specs.Types.{Frame}
use Rattle.presence.specs.Presence.{presence_of}
use Rattle.presence.specs.declared.Pres.{Pres}
use Rattle.presence.specs.Types.{Snapped}
use Rattle.presence.specs.Types.{Present}
use Rattle.envelope.specs.See.{see_of}
use Rattle.envelope.specs.Act.{act_of}
use Rattle.envelope.specs.declared.At.{At}
use Rattle.envelope.specs.declared.Seen.{Seen}
use Rattle.envelope.specs.Types.{Acted}
use Rattle.burst.specs.Makers.{with_acted, body_in, with_body}
use Rattle.burst.specs.Sample.{snap_if_of, inputs_of, last_of, present_by, present_of, rest_of, acted_by, sample_of}
use Rattle.run.specs.Run.{start_run_of}
use Rattle.burst.specs.Lead.{begin_burst_of, lead_at_of, replay_from}
use Rattle.burst.specs.Types.{Burst}
use Rattle.burst.specs.declared.Lead.{Lead}
use Rattle.burst.specs.Types.{Sampled}
use Rattle.reached.proofs.Pairs.{sample_fits, replay_keeps, begin_burst_fits}
use Rattle.reached.proofs.Presence.{AnswerWithin, presence_within, snap_within, PresentWithin}
use Rattle.reached.specs.Limits.{Running, BurstWithin, UnderWay}

-- a burst under way, or one that has ended
pub record SampledWithin (p : Settings) (s : Sampled) : Type 0 where
  pub within : BurstWithin p s.burst
  pub running : is_stay_of s.next ≡ true → UnderWay p s.burst

abbrev pub StepsWithin : Settings → Sampled × List ℕ × List ℕ → Type 0
StepsWithin p q = SampledWithin p q.0

-- presence and frame alone, as a sample answers: the envelope's stages leave them
abbrev Counted : Settings → Sampled × List ℕ × List ℕ → Type 0
Counted p q = PresentWithin p.max_pulses (fsk_min_of p.min_steps) p.long_steps (record { next = q.0.next; pres = q.0.burst.pres; body = body_in q.0.burst })

module _ (p : Settings) where
  counted : (q : Sampled × List ℕ × List ℕ) → UnderWay p q.0.burst → Counted p q
  counted q r = search

  last_counted : (on : Bool) (e : Float) (b : Burst) (ook fsk : List ℕ) → UnderWay p b → Counted p (last_of p on e b ook fsk)
  unfolding last_of
  last_counted on e b ook fsk r = counted (last_of p on e b ook fsk) r

  present_by_counted : (a : At) (s : Seen) (b : Burst) (q : Present × List ℕ × List ℕ) → AnswerWithin p.max_pulses (fsk_min_of p.min_steps) p.long_steps q → Counted p (present_by p a s b q)
  present_by_counted a s b q h =
      by_test (Counted p) (is_stay_of q.0.next)
      (λ e. last_counted s.on a.e (with_body q.0.pres q.0.body b) q.1 q.2 (h.running e))
      (λ e. search)

  module _ (small : p.long_steps ≤ max_steps) where
    rest_counted : (a : At) (ep : Float) (s : Seen) (b : Burst) (ook fsk : List ℕ) → UnderWay p b → Counted p (rest_of p a ep s b ook fsk)
    unfolding rest_of present_of
    rest_counted a ep s b ook fsk r =
        either (Counted p) (eqb p.mode 0)
        (last_counted s.on a.e b ook fsk r)
        (present_by_counted a s b (presence_of p (inputs_of a ep s b) b.pres (body_in b) ook fsk) (presence_within p (inputs_of a ep s b) ook small b.pres (body_in b) fsk r))

    acted_counted : (a : At) (b : Burst) (s : Seen) (n : Snapped) (fsk : List ℕ) (q : Acted × List ℕ) → Running p.max_pulses (fsk_min_of p.min_steps) p.long_steps n.pres n.frame → Counted p (acted_by p a b s n fsk q)
    acted_counted a b s n fsk q r =
        either (Counted p) (is_stay_of q.0.next)
        (rest_counted a b.e_prev s (with_acted a.e s n q.0 b) q.1 fsk r)
        (counted (record { next = q.0.next; burst = with_acted a.e s n q.0 b }, q.1, fsk) r)

    snap_if_within : (began on : Bool) (tc : Float) (s : Pres) (fr : Frame) → Running p.max_pulses (fsk_min_of p.min_steps) p.long_steps s fr → Running p.max_pulses (fsk_min_of p.min_steps) p.long_steps (snap_if_of began on tc s fr).pres (snap_if_of began on tc s fr).frame
    unfolding snap_if_of
    snap_if_within true true tc s fr r = snap_within p.max_pulses (fsk_min_of p.min_steps) p.long_steps s fr tc r
    snap_if_within true false tc s fr r = r
    snap_if_within false on tc s fr r = r

    sample_counted : (a : At) (ring : List Float) (b : Burst) (ook fsk : List ℕ) → UnderWay p b → Counted p (sample_of p a ring b ook fsk)
    unfolding sample_of
    sample_counted a ring b ook fsk r =
        let s : Seen = see_of p a ring b.high b.e_prev b.env b.pac in
        acted_counted a b s (snap_if_of s.began s.on s.env.c_run b.pres b.frame) fsk (act_of p s b.train b.out_ook ook)
        (snap_if_within s.began s.on s.env.c_run b.pres b.frame r)

module _ (p : Settings) (fits : p.max_pulses < 2 ^ 32) where
  module _ (small : p.long_steps ≤ max_steps) where
    -- a sample of a burst under way
    pub sample_within : (a : At) (ring : List Float) (b : Burst) (ook fsk : List ℕ) → BurstWithin p b → UnderWay p b → StepsWithin p (sample_of p a ring b ook fsk)
    sample_within a ring b ook fsk h r =
        let c : Counted p (sample_of p a ring b ook fsk) = sample_counted p small a ring b ook fsk r in
        record {
          within = record { fits = sample_fits p fits a ring b ook fsk h.fits; pres_within = c.flags; frame_within = c.frame_within };
          running = c.running;
        }

    -- the replay of a lead-in
    pub replay_within : (noise : Float) (ring : List Float) (l : Lead) (k i : ℕ) (q : Sampled × List ℕ × List ℕ) → StepsWithin p q → StepsWithin p (replay_from p noise ring l k i q)
    replay_within noise ring l = replay_keeps p noise ring l (StepsWithin p) (λ i q e h. sample_within (lead_at_of noise l i) ring q.0.burst q.1 q.2 h.within (h.running e))

  -- a burst begins, whatever the one before left
  pub begin_burst_within : (high t e : Float) (b : Burst) → BurstWithin p b → BurstWithin p (begin_burst_of high t e b) × UnderWay p (begin_burst_of high t e b)
  unfolding begin_burst_of start_run_of
  begin_burst_within high t e b h = (
    record { fits = begin_burst_fits p fits high t e b h.fits; pres_within = omega arith; frame_within = h.frame_within },
    record { flags = omega arith; most = h.frame_within; present = λ q. absurd (omega arith); absent = λ q z. absurd (omega arith) },
  )
