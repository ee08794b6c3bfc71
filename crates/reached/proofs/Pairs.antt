-- The records of a sample have at most max_pulses pairs, from any burst whose train and frame have: what refusal 4 asks of the pairs alone is enough,
-- whatever the counts of samples and runs are.
use Prim.Native.Nat.{ℕ, zero, suc, ◌+◌, ◌^◌, ◌<◌}
use mathlib.Core.Bool.{Bool, true, not}
use mathlib.Core.Path.{◌≡◌}
use mathlib.Core.List.{List}
use native.Mathlib.Omega.{arith}
use lib.Dec.{ltb, eqb}
use lib.IntN.{pos}
use lib.Ieee.{Float, lt, add, sub, binary64, of_int}
use Rattle.arith.specs.declared.C32.{C32}
use Rattle.ieee.specs.Constants.{one64}
use Rattle.shared.specs.Counts.{bit}
use Rattle.shared.specs.Answers.{is_stay_of}
use Rattle.shared.specs.Params.{fsk_min_of}
use Rattle.shared.proofs.Cases.{either, by_test}
use Rattle.ook.proofs.Limits.{empty_within, begin_env_within}
use Rattle.ook.specs.Limits.{EnvWithin, TrainWithin, OutWithin}
use Rattle.shared.specs.declared.Settings.{Settings}
use Rattle.shared.specs.declared.Out.{Out}
use Rattle.fsk.specs.RunStep.{confirm_of, confirm_due_of, move_runs_of, fsk_run_step_of}
use Rattle.run.specs.Run.{due_of}
use Rattle.run.specs.declared.Run.{Run}
use Rattle.run.specs.declared.Move.{Move}
use Rattle.run.specs.declared.Move.TheVariants.{Same, Glitch, Begins}
use Rattle.fsk.specs.Resolve.{begin_frame_of, is_early_of, open_runs_of, turn_at_of, slice_thr_of, hi_lo_of, settle_of, fsk_resolve_of}
use Rattle.fsk.specs.declared.Committed.{Committed}
use Rattle.fsk.specs.declared.Runs.{Runs}
use Rattle.fsk.specs.declared.Ran.{Ran}
use Rattle.fsk.specs.declared.Mean.{Mean}
use Rattle.fsk.specs.declared.Cand.{Cand}
use Rattle.fsk.specs.declared.Tone.{Tone}
use Rattle.fsk.specs.Types.{Frame}
use Rattle.fsk.specs.declared.Opening.{Opening}
use Rattle.fsk_sample.specs.Seek.{far_from_of}
use Rattle.fsk_sample.specs.Sample.{seek_frame_of, restart_of, away_of, seek_of, track_of, fsk_sample_of}
use Rattle.frame_end.specs.End.{is_split_of, enough_runs_of, is_frame_of, last_run_of, close_by, end_frame_of}
use Rattle.frame_end.specs.Cut.{cut_train_of}
use Rattle.frame_end.specs.Done.{frame_done_of}
use Rattle.frame_end.specs.Types.{Framed}
use Rattle.frame_end.specs.Types.{Body}
use Rattle.presence.specs.Move.{extend_of, move_frame_of}
use Rattle.presence.specs.Presence.{slice_if_of, advance_of, end_if_of, long_of, full_body, end_carrier_of, carrier_if_of, presence_of, near_start_of, snap_of}
use Rattle.presence.specs.declared.Pres.{Pres}
use Rattle.presence.specs.declared.Inputs.{Inputs}
use Rattle.presence.specs.Types.{Present}
use Rattle.presence.specs.Types.{Snapped}
use Rattle.envelope.specs.See.{see_of}
use Rattle.envelope.specs.Act.{act_of}
use Rattle.envelope.specs.Tail.{tail_of}
use Rattle.envelope.proofs.Limits.{see_within, ActedWithin, act_within, Within, tail_within}
use Rattle.envelope.specs.declared.At.{At}
use Rattle.envelope.specs.declared.Seen.{Seen}
use Rattle.envelope.specs.Types.{Acted}
use Rattle.burst.specs.Makers.{with_acted, body_in, with_body}
use Rattle.burst.specs.Sample.{snap_if_of, absence_of, inputs_of, last_of, present_by, present_of, rest_of, acted_by, sample_of}
use Rattle.burst.specs.Lead.{begin_burst_of, lead_at_of, onward, replay_from}
use Rattle.burst.specs.Types.{Burst}
use Rattle.burst.specs.declared.Lead.{Lead}
use Rattle.burst.specs.Types.{Sampled}
use Rattle.reached.proofs.Fsk.{CommitWithin, StepWithin, commit_within, open_runs_within, settle_within}
use Rattle.reached.proofs.FrameEnd.{CutWithin, last_run_within, close_pair_within, out_within, cut_train_within, ended_within}
use Rattle.reached.specs.Limits.{CommittedWithin, Paired, BurstFits}

-- ---- the frame: pairs plus open are at most max, whatever the count of runs

paired : {max m : ℕ} {c : Committed} → CommittedWithin max m c → Paired max c
paired h = record { open_flag = h.open_flag; full_flag = h.full_flag; pairs = h.pairs; runs_most = omega arith }

abbrev RanPaired : ℕ → Ran × List ℕ → Type 0
RanPaired max q = Paired max q.0.done

abbrev FramePaired : ℕ → Frame × List ℕ → Type 0
FramePaired max q = Paired max q.0.done

module _ (max : ℕ) where
  confirm_paired : (r : Runs) (c : Committed) (upper : Bool) (fsk : List ℕ) → Paired max c → RanPaired max (confirm_of max r c upper fsk)
  unfolding confirm_of
  confirm_paired r c upper fsk h =
      either (RanPaired max) (eqb r.fsk_has_prev 1)
      (paired (commit_within max c.fsk_runs c (not upper) r.run.t_prev r.run.t_run fsk h))
      h

  confirm_due_paired : (least : ℕ) (r : Runs) (c : Committed) (upper : Bool) (fsk : List ℕ) → Paired max c → RanPaired max (confirm_due_of max least r c upper fsk)
  unfolding confirm_due_of
  confirm_due_paired least r c upper fsk h =
      either (RanPaired max) (due_of r.run least) (confirm_paired r c upper fsk h) h

  run_step_paired : (least : ℕ) (r : Runs) (c : Committed) (upper : Bool) (tc : Float) (fsk : List ℕ) → Paired max c → RanPaired max (fsk_run_step_of max least r c upper tc fsk)
  unfolding fsk_run_step_of
  run_step_paired least r c upper tc fsk h = confirm_due_paired least (move_runs_of _ r (bit upper) tc) c upper fsk h

  resolve_paired : (least : ℕ) (fr : Frame) (f : Float) (idx : ℕ) (fsk : List ℕ) → Paired max fr.done → FramePaired max (fsk_resolve_of max least fr f idx fsk)
  unfolding fsk_resolve_of
  resolve_paired least fr f idx fsk h =
      let up : Bool = lt f fr.mean.f_ref in
      let hi : Float = (hi_lo_of up fr.mean.f_ref f).f_hi in
      let lo : Float = (hi_lo_of up fr.mean.f_ref f).f_lo in
      let opened : Opening × List ℕ = open_runs_of max (is_early_of fr.early up hi lo fr.runs.run.t_run) up fr.runs.run.t_run fr.early.t_early fr.done fsk in
      let m : ℕ = fr.done.fsk_runs in
      let s : StepWithin max (m + 1 + 1) (settle_of max least up fr.runs.run.run_len (turn_at_of up (slice_thr_of up hi lo) fr.cand f idx) opened.0 opened.1) = settle_within max (m + 1) least up fr.runs.run.run_len _ opened.0 opened.1 (open_runs_within max m _ up fr.runs.run.t_run fr.early.t_early fr.done fsk h) in
      paired s.done_within

  away_paired : (least : ℕ) (fr : Frame) (t : Tone) (m : Mean) (c : Cand) (idx : ℕ) (fsk : List ℕ) → Paired max fr.done → FramePaired max (away_of max least fr t m c idx fsk)
  unfolding away_of restart_of seek_frame_of
  away_paired least fr t m c idx fsk h =
      either (FramePaired max) (ltb c.fsk_cand least) h
      (either (FramePaired max) (ltb m.fsk_cnt least) h
      (resolve_paired least (seek_frame_of fr t m c fr.early) t.f_prev idx fsk h))

-- a sample of the slicer
sample_paired : (p : Settings) (fr : Frame) (high : Float) (d : C32) (e : Float) (idx : ℕ) (fsk : List ℕ) → Paired p.max_pulses fr.done → FramePaired p.max_pulses (fsk_sample_of p fr high d e idx fsk)
unfolding fsk_sample_of seek_of track_of seek_frame_of
sample_paired p fr high d e idx fsk h =
    let max : ℕ = p.max_pulses in
    either (FramePaired max) (eqb fr.fsk_phase 0)
    (either (FramePaired max) (far_from_of _ _ p.fsk_delta) (away_paired max (fsk_min_of p.min_steps) fr _ _ _ idx fsk h) h)
    (run_step_paired max (fsk_min_of p.min_steps) fr.runs fr.done _ _ fsk h)

-- ---- the end of a frame, and of the train before it

record FramedFits (max : ℕ) (f : Framed) : Type 0 where
  pairs : Paired max f.frame.done
  out_fits : OutWithin max f.out

abbrev EndFits : ℕ → Framed × List ℕ → Type 0
EndFits max q = FramedFits max q.0

pub record BodyFits (max : ℕ) (b : Body) : Type 0 where
  pub pairs : Paired max b.frame.done
  pub train_within : TrainWithin max b.train
  pub ook_within : OutWithin max b.out_ook
  pub fsk_within : OutWithin max b.out_fsk

abbrev DoneFits : ℕ → Body × List ℕ × List ℕ → Type 0
DoneFits max q = BodyFits max q.0

end_frame_fits : (p : Settings) (fr : Frame) (high : Float) (pac : C32) (start end : Float) (out : Out) (fsk : List ℕ) → Paired p.max_pulses fr.done → OutWithin p.max_pulses out → EndFits p.max_pulses (end_frame_of p fr high pac start end out fsk)
unfolding end_frame_of
end_frame_fits p fr high pac start end out fsk h o =
    let max : ℕ = p.max_pulses in
    let m : ℕ = fr.done.fsk_runs in
    let last : Committed × List ℕ = last_run_of max fr.fsk_phase fr.runs fr.done end fsk in
    let whole : CommitWithin max (m + 1) (close_by last) = close_pair_within max (m + 1) last.0 last.1 (last_run_within max m fr.fsk_phase fr.runs fr.done end fsk h) in
    either (EndFits max) (is_frame_of p.mode (is_split_of fr.fsk_phase fr.levels.f_hi fr.levels.f_lo p.fsk_split) (enough_runs_of fr.done.fsk_runs fr.runs.fsk_has_prev))
    (record { pairs = paired whole; out_fits = out_within max (m + 1) start end (close_by last).0 high _ whole })
    (record { pairs = h; out_fits = o })

module _ (p : Settings) (fits : p.max_pulses < 2 ^ 32) where
  abbrev max : ℕ
  max = p.max_pulses

  frame_done_fits : (b : Body) (high : Float) (pac : C32) (start end : Float) (ook fsk : List ℕ) → BodyFits max b → DoneFits max (frame_done_of p b high pac start end ook fsk)
  unfolding frame_done_of
  frame_done_fits b high pac start end ook fsk h =
      let q : Framed × List ℕ = end_frame_of p b.frame high pac start end b.out_fsk fsk in
      let f : EndFits max q = end_frame_fits p b.frame high pac start end b.out_fsk fsk h.pairs h.fsk_within in
      let c : CutWithin max (cut_train_of b.train high b.out_ook start ook) = cut_train_within max fits b.train high b.out_ook start ook h.train_within h.ook_within in
      either (DoneFits max) q.0.is_fsk (either (DoneFits max) (eqb p.mode 2) (search) (search)) (search)

  -- ---- presence

  move_paired : (m : Move) (on : Bool) (n : ℕ) (tc : Float) (fr : Frame) → Paired max fr.done → Paired max (move_frame_of m on n tc fr).done
  unfolding extend_of begin_frame_of
  move_paired Same on n tc fr h = h
  move_paired Glitch on n tc fr h = either (λ (q : Frame). Paired max q.done) on h h
  move_paired Begins on n tc fr h = either (λ (q : Frame). Paired max q.done) on (search arith) h

  slice_paired : (a : Inputs) (on : Bool) (fr : Frame) (fsk : List ℕ) → Paired max fr.done → FramePaired max (slice_if_of p a on fr fsk)
  unfolding slice_if_of
  slice_paired a on fr fsk h = either (FramePaired max) on (sample_paired p fr a.high a.d a.e a.idx fsk h) h

  end_if_fits : (ends : Bool) (a : Inputs) (s : Run) (b : Body) (ook fsk : List ℕ) → BodyFits max b → DoneFits max (end_if_of ends p a s b ook fsk)
  unfolding end_if_of
  end_if_fits ends a s b ook fsk h = either (DoneFits max) ends (frame_done_fits b a.high a.pac s.t_prev _ ook fsk h) h

  end_carrier_fits : (a : Inputs) (t : Float) (b : Body) (ook fsk : List ℕ) → BodyFits max b → DoneFits max (end_carrier_of p a t b ook fsk)
  unfolding end_carrier_of
  end_carrier_fits a t b ook fsk h =
      let e : Float = add binary64 (of_int binary64 (pos a.idx)) one64 in
      let q : Body × List ℕ × List ℕ = frame_done_of p (full_body b) a.high a.pac t e ook fsk in
      let full : BodyFits max (full_body b) = search arith in
      let d : DoneFits max q = frame_done_fits (full_body b) a.high a.pac t e ook fsk full in
      let n = ended_within max fits q.0.train a.high q.0.out_ook q.1 d.train_within d.ook_within in
      search

  abbrev PresentFits : Present × List ℕ × List ℕ → Type 0
  PresentFits q = BodyFits max q.0.body

  carrier_fits : (a : Inputs) (on : Bool) (s : Pres) (b : Body) (ook fsk : List ℕ) → BodyFits max b → PresentFits (carrier_if_of p a on s b ook fsk)
  unfolding carrier_if_of
  carrier_fits a on s b ook fsk h = either PresentFits (long_of on s.run.run_len p.long_steps) (end_carrier_fits a s.run.t_run b ook fsk h) h

  presence_fits : (a : Inputs) (s : Pres) (b : Body) (ook fsk : List ℕ) → BodyFits max b → PresentFits (presence_of p a s b ook fsk)
  unfolding presence_of advance_of
  presence_fits a s b ook fsk h =
      let f = slice_paired a _ _ fsk (move_paired _ _ _ _ b.frame h.pairs) in
      carrier_fits a _ _ _ _ _ (end_if_fits _ a _ _ ook _ (record { pairs = f; train_within = h.train_within; ook_within = h.ook_within; fsk_within = h.fsk_within }))

-- ---- a sample of a burst

abbrev pub SampledFits : ℕ → Sampled × List ℕ × List ℕ → Type 0
SampledFits max q = BurstFits max q.0.burst

-- what each sample of a burst under way keeps holds after the replay of a lead-in
pub replay_keeps : (p : Settings) (noise : Float) (ring : List Float) (l : Lead) (P : Sampled × List ℕ × List ℕ → Type 0)
    → ((i : ℕ) (q : Sampled × List ℕ × List ℕ) → is_stay_of q.0.next ≡ true → P q → P (sample_of p (lead_at_of noise l i) ring q.0.burst q.1 q.2))
    → (k i : ℕ) (q : Sampled × List ℕ × List ℕ) → P q → P (replay_from p noise ring l k i q)
unfolding replay_from
replay_keeps p noise ring l P keep zero i q h = h
replay_keeps p noise ring l P keep (suc k) i q h =
    replay_keeps p noise ring l P keep k (i + 1) (onward p (lead_at_of noise l i) ring q)
    (by_test P (is_stay_of q.0.next) (λ e. keep i q e h) (λ e. h))

module _ (p : Settings) (fits : p.max_pulses < 2 ^ 32) where
  last_fits : (on : Bool) (e : Float) (b : Burst) (ook fsk : List ℕ) → BurstFits p.max_pulses b → SampledFits p.max_pulses (last_of p on e b ook fsk)
  unfolding last_of
  last_fits on e b ook fsk h =
      let d : Within p.max_pulses (tail_of p on e b.env.run (absence_of b) b.high b.train b.out_ook ook) = tail_within p fits on e b.env.run (absence_of b) b.high b.train b.out_ook ook h.train_within h.ook_within in
      search

  present_by_fits : (a : At) (s : Seen) (b : Burst) (q : Present × List ℕ × List ℕ) → EnvWithin b.env → BodyFits p.max_pulses q.0.body → SampledFits p.max_pulses (present_by p a s b q)
  present_by_fits a s b q v h =
      let after : BurstFits p.max_pulses (with_body q.0.pres q.0.body b) = search in
      either (SampledFits p.max_pulses) (is_stay_of q.0.next) (last_fits s.on a.e (with_body q.0.pres q.0.body b) q.1 q.2 after) after

  rest_fits : (a : At) (ep : Float) (s : Seen) (b : Burst) (ook fsk : List ℕ) → BurstFits p.max_pulses b → SampledFits p.max_pulses (rest_of p a ep s b ook fsk)
  unfolding rest_of present_of
  rest_fits a ep s b ook fsk h =
      let body : BodyFits p.max_pulses (body_in b) = search in
      either (SampledFits p.max_pulses) (eqb p.mode 0)
      (last_fits s.on a.e b ook fsk h)
      (present_by_fits a s b (presence_of p (inputs_of a ep s b) b.pres (body_in b) ook fsk) h.env_within (presence_fits p fits (inputs_of a ep s b) b.pres (body_in b) ook fsk body))

  acted_fits : (a : At) (b : Burst) (s : Seen) (n : Snapped) (fsk : List ℕ) (q : Acted × List ℕ) → BurstFits p.max_pulses b → ActedWithin p.max_pulses q.0 → Paired p.max_pulses n.frame.done → SampledFits p.max_pulses (acted_by p a b s n fsk q)
  acted_fits a b s n fsk q h d r =
      let after : BurstFits p.max_pulses (with_acted a.e s n q.0 b) = search in
      either (SampledFits p.max_pulses) (is_stay_of q.0.next) (rest_fits a b.e_prev s (with_acted a.e s n q.0 b) q.1 fsk after) after

  snap_if_paired : (began on : Bool) (tc : Float) (s : Pres) (fr : Frame) → Paired p.max_pulses fr.done → Paired p.max_pulses (snap_if_of began on tc s fr).frame.done
  unfolding snap_if_of snap_of
  snap_if_paired began on tc s fr h =
      let same : Snapped → Type 0 = λ (q : Snapped). Paired p.max_pulses q.frame.done in
      either same began (either same on (either same (near_start_of s.run.level fr.fsk_phase fr.done.fsk_runs (sub binary64 tc s.run.t_run)) h h) h) h

  pub sample_fits : (a : At) (ring : List Float) (b : Burst) (ook fsk : List ℕ) → BurstFits p.max_pulses b → SampledFits p.max_pulses (sample_of p a ring b ook fsk)
  unfolding sample_of
  sample_fits a ring b ook fsk h =
      let s : Seen = see_of p a ring b.high b.e_prev b.env b.pac in
      acted_fits a b s (snap_if_of s.began s.on s.env.c_run b.pres b.frame) fsk (act_of p s b.train b.out_ook ook) h
      (act_within p fits s b.train b.out_ook ook (see_within p a ring b.high b.e_prev b.env b.pac h.env_within) h.train_within h.ook_within)
      (snap_if_paired s.began s.on s.env.c_run b.pres b.frame h.pairs)

  -- the replay of a lead-in
  pub replay_fits : (noise : Float) (ring : List Float) (l : Lead) (k i : ℕ) (q : Sampled × List ℕ × List ℕ) → SampledFits p.max_pulses q → SampledFits p.max_pulses (replay_from p noise ring l k i q)
  replay_fits noise ring l = replay_keeps p noise ring l (SampledFits p.max_pulses) (λ i q e h. sample_fits (lead_at_of noise l i) ring q.0.burst q.1 q.2 h)

  -- a burst begins, whatever the one before left
  pub begin_burst_fits : (high t e : Float) (b : Burst) → BurstFits p.max_pulses b → BurstFits p.max_pulses (begin_burst_of high t e b)
  unfolding begin_burst_of
  begin_burst_fits high t e b h = search (begin_env_within, empty_within, arith)
