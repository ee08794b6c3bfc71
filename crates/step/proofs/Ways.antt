-- A step of core and arrays is a step of the lane that they stand for, by the ways that it goes: refused; a sample of the lead-in that does not
-- fill it; one that does; a sample of the burst. Each law takes what the code has there, as its calls ensure it, and the definition
-- with the same tests gives the answer.
use Prim.Native.Nat.{ℕ, zero, suc, ◌+◌}
use mathlib.Core.Bool.{Bool, true, false}
use mathlib.Core.Path.{◌≡◌, refl, ap, sym, ◌∙◌}
use mathlib.Core.List.{List}
use borrow.Author.Tests.{eqb-true}
use lib.ListN.{get_or, length}
use lib.Dec.{ltb, eqb}
use lib.IntN.{pos}
use lib.Ieee.{Float, nan, binary64, of_int}
use Rattle.std.specs.Prelude.{⊤, Result, Ok}
use Rattle.arith.specs.Leaves.{lead_len_of}
use Rattle.refusals.specs.declared.Refusal.{Refusal}
use Rattle.shared.specs.declared.Next.TheVariants as next
use Rattle.arith.specs.declared.C32.{C32}
use Rattle.shared.specs.declared.Settings.{Settings}
use Rattle.envelope.specs.declared.At.{At}
use Rattle.burst.specs.Lead.{lead_add_of, lead_at_of, largest_of, begin_burst_of, onward, replay_from, replay_of, lead_full_of, staying}
use Rattle.burst.specs.Sample.{sample_of}
use Rattle.burst.specs.Core.{whole_burst, whole_sampled, at_in_of, samples_from, samples_of}
use Rattle.burst.specs.Types.{Burst}
use Rattle.burst.specs.Types.{BurstCore}
use Rattle.burst.specs.declared.Lead.{Lead}
use Rattle.burst.specs.Types.{Sampled}
use Rattle.burst.specs.Types.{SampledCore}
use Rattle.step.specs.declared.Core.{Core}
use Rattle.lane.specs.declared.StepArgs.{StepArgs}
use Rattle.lane.specs.declared.Lane.{Lane}
use Rattle.lane.specs.Answers.{Reply, phase_of, answer_of}
use Rattle.lane.specs.Begin.{lane_of, ring_of, cleared_of}
use Rattle.lane.specs.Advance.{at_of, settle_of, fill_of, replay_step, lead_step, burst_step, advance_of}
use Rattle.lane.specs.Serial.{stamp_of}
use Rattle.lane.specs.Step.{stepped_by}
use Rattle.step.specs.Core.{lead_in, joined_of, at_call}
use Rattle.step.proofs.Zips.{zip_read}

-- ---- the one loop over samples is one sample, or the replay

samples_one : (p : Settings) (q : At) (es re im ring : List Float) (b : Burst) (ook fsk : List ℕ) → samples_of p (at_in_of false q es re im) ring 1 b ook fsk ≡ sample_of p q ring b ook fsk
unfolding samples_from at_in_of
samples_one p q es re im ring b ook fsk = refl

module _ (p : Settings) (q : At) (es re im ring : List Float) (lead_n : ℕ) (same : length re ≡ length im) where
  at_lead : (i : ℕ) → at_in_of true q es re im i ≡ lead_at_of q.noise (lead_in q.lead_at lead_n es re im) i
  unfolding at_in_of lead_at_of
  at_lead i = simp (zip_read re im (i + 1) same, zip_read re im i same)

  samples_replay : (k i : ℕ) (s : Sampled × List ℕ × List ℕ) → samples_from p (at_in_of true q es re im) ring k i s ≡ replay_from p q.noise ring (lead_in q.lead_at lead_n es re im) k i s
  unfolding samples_from replay_from
  samples_replay zero i s = refl
  samples_replay (suc k) i s =
      samples_replay k (i + 1) (onward p (at_in_of true q es re im i) ring s)
      ∙ ap (λ (a : At). replay_from p q.noise ring (lead_in q.lead_at lead_n es re im) k (i + 1) (onward p a ring s)) (at_lead i)

-- ---- a step of a lane

module _ (l : Lane) (s : StepArgs) (k : Result ⊤ Refusal) (ook fsk : List ℕ) (ring : List Float) (ok : k ≡ Ok tt) (put : ring ≡ ring_of l.ring s.index s.envelope) where
  step_burst : (b : Burst) (w : Sampled) (ook' fsk' : List ℕ) → eqb l.phase 1 ≡ false → b ≡ cleared_of l.burst
      → (w, ook', fsk') ≡ sample_of l.settings (at_of l s) ring b ook fsk
      → (answer_of (Ok w.next) (stamp_of (l.serial + 1) (lane_of l (phase_of w.next) s.index s.x l.lead ring w.burst)), ook', fsk') ≡ stepped_by k l s ook fsk
  unfolding advance_of burst_step settle_of
  step_burst b w ook' fsk' leads clears gives = simp (ok, leads, ← put, ← clears, ← gives)

  module _ (ld : Lead) (leads : eqb l.phase 1 ≡ true) (adds : ld ≡ lead_add_of l.lead s.envelope s.x) where
    step_fills : (b : Burst) → ltb ld.lead_n (lead_len_of l.settings.min_steps) ≡ true → b ≡ cleared_of l.burst
        → (answer_of (Ok next.Stay) (stamp_of (l.serial + 1) (lane_of l 1 s.index s.x ld ring b)), ook, fsk) ≡ stepped_by k l s ook fsk
    unfolding advance_of lead_step fill_of
    step_fills b short clears = simp (ok, leads, ← put, ← adds, short, ← clears)

    step_replays : (b : Burst) (w : Sampled) (ook' fsk' : List ℕ) → ltb ld.lead_n (lead_len_of l.settings.min_steps) ≡ false
        → b ≡ begin_burst_of (largest_of ld.lead_e (lead_len_of l.settings.min_steps)) (of_int binary64 (pos ld.lead_at)) (get_or ld.lead_e 0 nan) (cleared_of l.burst)
        → (w, ook', fsk') ≡ replay_from l.settings s.noise ring ld (lead_len_of l.settings.min_steps) 0 (staying b ook fsk)
        → (answer_of (Ok w.next) (stamp_of (l.serial + 1) (lane_of l (phase_of w.next) s.index s.x ld ring w.burst)), ook', fsk') ≡ stepped_by k l s ook fsk
    unfolding advance_of lead_step replay_step lead_full_of replay_of settle_of
    step_replays b w ook' fsk' full begins gives = simp (ok, leads, ← put, ← adds, full, ← begins, ← gives)

-- ---- a step of core and arrays

-- a core with what a step changes
abbrev pub core_of : Core → ℕ → ℕ → C32 → ℕ → BurstCore → ℕ → Core
core_of c phase last x n b serial =
    record { opened = c.opened; settings = c.settings; phase = phase; last = last; x_prev = x; lead_at = c.lead_at; lead_n = n; burst = b; serial = serial }

-- the arrays where the ways of a branch meet
module _ (es re im es₁ re₁ im₁ : List Float) (is_es : es ≡ es₁) (is_re : re ≡ re₁) (is_im : im ≡ im₁) where
  meets : (ld : ℕ → Lead) (have : ℕ) → ((at : ℕ) → lead_in at have es₁ re₁ im₁ ≡ ld at) → (at : ℕ) → lead_in at have es re im ≡ ld at
  meets ld have h at =
      ap (λ (x : List Float). lead_in at have x re im) is_es ∙ ap (λ (x : List Float). lead_in at have es₁ x im) is_re ∙ ap (λ (x : List Float). lead_in at have es₁ re₁ x) is_im ∙ h at

module _ (c : Core) (s : StepArgs) (es₀ re₀ im₀ ring₀ cs : List Float) (ook fsk : List ℕ) (k k₀ : Result ⊤ Refusal) (num : k ≡ k₀) where
  module _ (ring : List Float) (clear : BurstCore) (ok : k ≡ Ok tt) (put : ring ≡ ring_of ring₀ s.index s.envelope) (clears : (cs : List Float) → whole_burst cs clear ≡ cleared_of (whole_burst cs c.burst))
      (es re im : List Float) (m : Core) where
    -- the lead-in is not full yet
    pub core_fills : (have len : ℕ) (es₁ re₁ im₁ : List Float) → es ≡ es₁ → re ≡ re₁ → im ≡ im₁ → eqb c.phase 1 ≡ true
        → ((at : ℕ) → lead_in at have es₁ re₁ im₁ ≡ lead_add_of (lead_in at c.lead_n es₀ re₀ im₀) s.envelope s.x)
        → len ≡ lead_len_of c.settings.min_steps → ltb have len ≡ true
        → m ≡ core_of c c.phase s.index s.x have clear (c.serial + 1) → (answer : Reply) → answer ≡ Ok next.Stay
        → (answer_of answer (joined_of m es re im ring cs), ook, fsk) ≡ stepped_by k₀ (joined_of c es₀ re₀ im₀ ring₀ cs) s ook fsk
    unfolding stamp_of cleared_of
    core_fills have len es₁ re₁ im₁ is_es is_re is_im leads adds₁ is_len short is_m answer is_answer =
        let adds = meets es re im es₁ re₁ im₁ is_es is_re is_im (λ (at : ℕ). lead_add_of (lead_in at c.lead_n es₀ re₀ im₀) s.envelope s.x) have adds₁ in
        let l : Lane = joined_of c es₀ re₀ im₀ ring₀ cs in
        let less : ltb have (lead_len_of c.settings.min_steps) ≡ true = ap (ltb have) (sym is_len) ∙ short in
        let same : joined_of m es re im ring cs ≡ joined_of (core_of c 1 s.index s.x have clear (c.serial + 1)) es re im ring cs =
        ap (λ (x : Core). joined_of x es re im ring cs) is_m ∙ ap (λ (n : ℕ). joined_of (core_of c n s.index s.x have clear (c.serial + 1)) es re im ring cs) (eqb-true c.phase 1 leads) in
        ap (λ (r : Reply). (answer_of r (joined_of m es re im ring cs), ook, fsk)) is_answer
        ∙ ap (λ (x : Lane). (answer_of (Ok next.Stay) x, ook, fsk)) same
        ∙ step_fills l s k ook fsk ring ok put (lead_in c.lead_at have es re im) leads (adds c.lead_at) (whole_burst cs clear) less (clears cs)
        ∙ ap (λ (j : Result ⊤ Refusal). stepped_by j l s ook fsk) num

    -- samples: the answer is that of the last
    module _ (w : SampledCore) (cs' : List Float) (ook' fsk' : List ℕ) (q : At) (leads : Bool) (n phase : ℕ) (answer : Reply)
        (is_q : q ≡ at_call c.lead_at c.x_prev s) (is_phase : phase ≡ phase_of w.next) (is_answer : answer ≡ Ok w.next)
        (gives : (whole_sampled cs' w, ook', fsk') ≡ samples_of c.settings (at_in_of leads q es re im) ring n (whole_burst cs m.burst) ook fsk) where
      abbrev Told : Type 0
      Told = (answer_of answer (joined_of (core_of m phase m.last m.x_prev m.lead_n w.burst m.serial) es re im ring cs'), ook', fsk') ≡ stepped_by k₀ (joined_of c es₀ re₀ im₀ ring₀ cs) s ook fsk

      -- one sample of the burst
      abbrev InBurst : Type 0
      InBurst =
          eqb c.phase 1 ≡ false → leads ≡ false → n ≡ 1 → es ≡ es₀ → re ≡ re₀ → im ≡ im₀
          → m ≡ core_of c c.phase s.index s.x c.lead_n clear (c.serial + 1) → Told

      core_burst : InBurst
      unfolding stamp_of cleared_of
      core_burst in_burst is_leads is-n is_es is_re is_im is_m =
          let l : Lane = joined_of c es₀ re₀ im₀ ring₀ cs in
          let b : Burst = whole_burst cs clear in
          let one : (whole_sampled cs' w, ook', fsk') ≡ sample_of c.settings (at_call c.lead_at c.x_prev s) ring b ook fsk =
          gives
          ∙ ap (λ (t : Bool). samples_of c.settings (at_in_of t q es re im) ring n (whole_burst cs m.burst) ook fsk) is_leads
          ∙ ap (λ (j : ℕ). samples_of c.settings (at_in_of false q es re im) ring j (whole_burst cs m.burst) ook fsk) is-n
          ∙ samples_one c.settings q es re im ring (whole_burst cs m.burst) ook fsk
          ∙ ap (λ (a : At). sample_of c.settings a ring (whole_burst cs m.burst) ook fsk) is_q
          ∙ ap (λ (x : Core). sample_of c.settings (at_call c.lead_at c.x_prev s) ring (whole_burst cs x.burst) ook fsk) is_m in
          simp (is_m, is_answer, is_phase, is_es, is_re, is_im)
          (step_burst l s k ook fsk ring ok put b (whole_sampled cs' w) ook' fsk' in_burst (clears cs) one
          ∙ ap (λ (j : Result ⊤ Refusal). stepped_by j l s ook fsk) num)

      -- the samples of the lead-in that this one fills
      abbrev InLead : Type 0
      InLead =
          (have len : ℕ) (first : BurstCore) (es₁ re₁ im₁ : List Float) → es ≡ es₁ → re ≡ re₁ → im ≡ im₁ → eqb c.phase 1 ≡ true → leads ≡ true
          → ((at : ℕ) → lead_in at have es₁ re₁ im₁ ≡ lead_add_of (lead_in at c.lead_n es₀ re₀ im₀) s.envelope s.x) → length re₁ ≡ length im₁
          → len ≡ lead_len_of c.settings.min_steps → ltb have len ≡ false → n ≡ len
          → ((cs : List Float) → whole_burst cs first ≡ begin_burst_of (largest_of es₁ len) (of_int binary64 (pos c.lead_at)) (get_or es₁ 0 nan) (whole_burst cs clear))
          → m ≡ core_of c c.phase s.index s.x have first (c.serial + 1) → Told

      core_replays : InLead
      unfolding stamp_of cleared_of
      core_replays have len first es₁ re₁ im₁ is_es is_re is_im in_lead is_leads adds₁ alike₁ is_len full is-n begins is_m =
          let adds = meets es re im es₁ re₁ im₁ is_es is_re is_im (λ (at : ℕ). lead_add_of (lead_in at c.lead_n es₀ re₀ im₀) s.envelope s.x) have adds₁ in
          let alike : length re ≡ length im = ap (λ (x : List Float). length x) is_re ∙ alike₁ ∙ sym (ap (λ (x : List Float). length x) is_im) in
          let l : Lane = joined_of c es₀ re₀ im₀ ring₀ cs in
          let ld : Lead = lead_in c.lead_at have es re im in
          let a : At = at_call c.lead_at c.x_prev s in
          let t : Float = of_int binary64 (pos c.lead_at) in
          let n_len : n ≡ lead_len_of c.settings.min_steps = is-n ∙ is_len in
          let more : ltb have (lead_len_of c.settings.min_steps) ≡ false = ap (ltb have) (sym is_len) ∙ full in
          let begun : whole_burst cs first ≡ begin_burst_of (largest_of es (lead_len_of c.settings.min_steps)) t (get_or es 0 nan) (cleared_of (whole_burst cs c.burst)) =
          begins cs
          ∙ ap (λ (x : List Float). begin_burst_of (largest_of x len) t (get_or x 0 nan) (whole_burst cs clear)) (sym is_es)
          ∙ ap (λ (j : ℕ). begin_burst_of (largest_of es j) t (get_or es 0 nan) (whole_burst cs clear)) is_len
          ∙ ap (begin_burst_of (largest_of es (lead_len_of c.settings.min_steps)) t (get_or es 0 nan)) (clears cs) in
          let replayed : (whole_sampled cs' w, ook', fsk') ≡ replay_from c.settings s.noise ring ld (lead_len_of c.settings.min_steps) 0 (staying (whole_burst cs first) ook fsk) =
          gives
          ∙ ap (λ (x : Bool). samples_of c.settings (at_in_of x q es re im) ring n (whole_burst cs m.burst) ook fsk) is_leads
          ∙ ap (λ (x : At). samples_of c.settings (at_in_of true x es re im) ring n (whole_burst cs m.burst) ook fsk) is_q
          ∙ ap (λ (x : Core). samples_of c.settings (at_in_of true a es re im) ring n (whole_burst cs x.burst) ook fsk) is_m
          ∙ samples_replay c.settings a es re im ring have alike n 0 (staying (whole_burst cs first) ook fsk)
          ∙ ap (λ (j : ℕ). replay_from c.settings s.noise ring ld j 0 (staying (whole_burst cs first) ook fsk)) n_len in
          simp (is_m, is_answer, is_phase)
          (step_replays l s k ook fsk ring ok put ld in_lead (adds c.lead_at) (whole_burst cs first) (whole_sampled cs' w) ook' fsk' more begun replayed
          ∙ ap (λ (j : Result ⊤ Refusal). stepped_by j l s ook fsk) num)

      pub core_samples : InBurst × InLead
      core_samples = (core_burst, core_replays)
