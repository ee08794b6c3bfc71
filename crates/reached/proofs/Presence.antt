-- A sample of presence stays within refusal 4's limits: the counts of a frame grow by at most one sample and two runs with each sample of its presence,
-- which ends at long_steps; an absence adds nothing, and its end one run.
use Prim.Native.Nat.{ℕ, ◌+◌, ◌*◌, ◌-◌, ◌<◌, ◌≤◌}
use mathlib.Core.Bool.{Bool, true, false, cond}
use mathlib.Core.Path.{◌≡◌, refl, sym}
use mathlib.Core.List.{List}
use native.Mathlib.Omega.{arith}
use lib.Dec.{ltb, leb, eqb}
use lib.IntN.{pos}
use lib.Ieee.{Float, add, sub, binary64, of_int}
use borrow.Author.Tests.{eqb-true, ltb-false}
use Rattle.domain.specs.Limits.{max_steps}
use Rattle.ieee.specs.Constants.{one64}
use Rattle.arith.specs.Leaves.{edge_of, cross_of}
use Rattle.shared.specs.Counts.{sat_add_of}
use Rattle.shared.specs.Params.{fsk_min_of}
use Rattle.shared.proofs.Cases.{by_test}
use Rattle.shared.proofs.Tests.{clash}
use Rattle.shared.specs.declared.Settings.{Settings}
use Rattle.run.specs.Run.{with_start, move_of, meets_of, lengthen_of, rejoin_of, begin_run_of, due_of}
use Rattle.run.specs.declared.Run.{Run}
use Rattle.fsk.specs.Makers.{with_runs}
use Rattle.fsk.specs.Makers as frames
use Rattle.fsk.specs.Types.{Frame}
use Rattle.fsk_sample.specs.Tone.{upper_of}
use Rattle.frame_end.specs.Done.{frame_done_of}
use Rattle.frame_end.specs.Types.{Body}
use Rattle.presence.specs.Move.{pres_thr_of, with_run, move_pres_of, extend_of, move_frame_of}
use Rattle.presence.specs.Presence.{slice_if_of, advance_at, advance_of, sure_if_of, ends_of, end_of, end_if_of, long_of, full_body, end_carrier_of, carrier_if_of, carrier_by, confirm_by, after_advance, presence_of, near_start_of, snap_of}
use Rattle.presence.specs.declared.Pres.{Pres}
use Rattle.presence.specs.declared.Inputs.{Inputs}
use Rattle.presence.specs.Types.{Present}
use Rattle.presence.specs.Types.{Snapped}
use Rattle.reached.specs.Limits.{most_runs, FrameWithin, Running, PresWithin}
use Rattle.reached.proofs.Fsk.{begin_frame_within}
use Rattle.reached.proofs.FskSample.{fsk_min_above, sample_within}
use Rattle.reached.proofs.FrameEnd.{DoneWithin, frame_done_within}
use Rattle.shared.specs.Answers.{is_stay_of}

-- larger bounds hold too
frame_up : {max least k m k' m' : ℕ} {fr : Frame} → k ≤ k' → m ≤ m' → FrameWithin max least k m fr → FrameWithin max least k' m' fr
frame_up i j h = search arith

-- of two flags that differ each is the other's opposite
opposite : (a n : ℕ) → a ≤ 1 → n ≤ 1 → eqb a n ≡ false → n ≡ 1 - a
opposite a n g h q = grind arith

-- ---- the move of the presence, and what it does to the frame

-- the carrier is on: k counts the samples of the presence before this one
record OnMoved (max least long : ℕ) (s : Pres) (fr : Frame) : Type 0 where
  k : ℕ
  is_on : s.run.level ≡ 1
  sure_flag : s.run.confirmed ≤ 1
  low : k ≤ long
  longer : k + 1 ≤ s.run.run_len
  frame_within : FrameWithin max least k (2 * k) fr

record OffMoved (max least long : ℕ) (s : Pres) (fr : Frame) : Type 0 where
  is_off : s.run.level ≡ 0
  sure_flag : s.run.confirmed ≤ 1
  most : FrameWithin max least (long + 1) (most_runs long) fr
  absent : s.run.confirmed ≡ 0 → (s.run.prev_len ≤ long) × FrameWithin max least s.run.prev_len (2 * s.run.prev_len) fr

module _ (max least long : ℕ) (small : long ≤ max_steps) (some : 0 < least) (s : Pres) (fr : Frame) (tc : Float) (h : Running max least long s fr) where
  on_moved : (same short : Bool) → eqb 1 s.run.level ≡ same → eqb s.run.confirmed 0 ≡ short → OnMoved max least long (move_pres_of (move_of same short) s 1 tc) (move_frame_of (move_of same short) true s.run.run_len tc fr)
  unfolding move_pres_of lengthen_of rejoin_of begin_run_of extend_of sat_add_of
  on_moved true short q r =
      let one : s.run.level ≡ 1 = sym (eqb-true 1 s.run.level q) in
      let now = h.present one in
      let b : s.run.run_len ≤ long = now.0 in
      record { k = s.run.run_len; is_on = one; sure_flag = h.flags.confirmed_flag; low = b; longer = omega arith; frame_within = now.1 }
  on_moved false true q r =
      let zero' : s.run.level ≡ 0 = opposite 1 s.run.level (omega arith) h.flags.level_flag q in
      let now = h.absent zero' (eqb-true s.run.confirmed 0 r) in
      let b : s.run.prev_len ≤ long = now.0 in
      let f = now.1 in
      record { k = s.run.prev_len; is_on = refl; sure_flag = omega arith; low = b; longer = omega arith; frame_within = search arith }
  on_moved false false q r = record { k = 0; is_on = refl; sure_flag = omega arith; low = omega arith; longer = omega arith; frame_within = begin_frame_within max least fr tc some }

  off_moved : (same short : Bool) → eqb 0 s.run.level ≡ same → eqb s.run.confirmed 0 ≡ short → OffMoved max least long (move_pres_of (move_of same short) s 0 tc) (move_frame_of (move_of same short) false s.run.run_len tc fr)
  unfolding move_pres_of lengthen_of rejoin_of begin_run_of
  off_moved true short q r =
      let none : s.run.level ≡ 0 = sym (eqb-true 0 s.run.level q) in
      record { is_off = none; sure_flag = h.flags.confirmed_flag; most = h.most; absent = h.absent none }
  off_moved false true q r = record { is_off = refl; sure_flag = omega arith; most = h.most; absent = λ z. absurd (omega arith) }
  off_moved false false q r = record { is_off = refl; sure_flag = omega arith; most = h.most; absent = λ z. h.present (opposite 0 s.run.level (omega arith) h.flags.level_flag q) }

-- ---- what the sample answers
pub record PresentWithin (max least long : ℕ) (r : Present) : Type 0 where
  pub flags : PresWithin r.pres
  pub frame_within : FrameWithin max least (long + 1) (most_runs long) r.body.frame
  pub running : is_stay_of r.next ≡ true → Running max least long r.pres r.body.frame

abbrev pub AnswerWithin : ℕ → ℕ → ℕ → Present × List ℕ × List ℕ → Type 0
AnswerWithin max least long q = PresentWithin max least long q.0

due_open : (s : Run) (n : ℕ) → due_of s n ≡ true → s.confirmed ≡ 0
unfolding due_of
due_open s n q = grind arith

-- the carrier is off: nothing more is counted, and a confirmed absence may end the frame
off_answer : (p : Settings) (a : Inputs) (least : ℕ) (s : Pres) (b : Body) (ook fsk : List ℕ) → s.run.level ≡ 0 → s.run.confirmed ≤ 1 → FrameWithin p.max_pulses least (p.long_steps + 1) (most_runs p.long_steps) b.frame → (s.run.confirmed ≡ 0 → (s.run.prev_len ≤ p.long_steps) × FrameWithin p.max_pulses least s.run.prev_len (2 * s.run.prev_len) b.frame) → AnswerWithin p.max_pulses least p.long_steps (carrier_if_of p a false s b ook fsk)
unfolding carrier_if_of long_of
off_answer p a least s b ook fsk none sure h f =
    search arith

module _ (p : Settings) (a : Inputs) (ook : List ℕ) where
  end_carrier_within : (least k m : ℕ) (t : Float) (b : Body) (fsk : List ℕ) → FrameWithin p.max_pulses least k m b.frame → DoneWithin p.max_pulses least k (m + 1) (end_carrier_of p a t b ook fsk)
  unfolding end_carrier_of
  end_carrier_within least k m t b fsk h =
      let full : FrameWithin p.max_pulses least k m (full_body b).frame = search arith in
      frame_done_within p least k m (full_body b) a.high a.pac t (add binary64 (of_int binary64 (pos a.idx)) one64) ook fsk full

  -- the carrier is on
  carrier_on : (least : ℕ) (s : Pres) (b : Body) (fsk : List ℕ) → s.run.level ≡ 1 → s.run.confirmed ≤ 1 → FrameWithin p.max_pulses least (p.long_steps + 1) (2 * p.long_steps + 2) b.frame → FrameWithin p.max_pulses least s.run.run_len (2 * s.run.run_len) b.frame → AnswerWithin p.max_pulses least p.long_steps (carrier_if_of p a true s b ook fsk)
  unfolding carrier_if_of long_of
  carrier_on least s b fsk one sure h f =
      by_test (AnswerWithin p.max_pulses least p.long_steps) (ltb p.long_steps s.run.run_len)
      (λ q. record {
        flags = omega arith;
        frame_within = frame_up (omega arith) (omega arith) (end_carrier_within least (p.long_steps + 1) (2 * p.long_steps + 2) s.run.t_run b fsk h);
        running = λ z. clash (sym z);
      })
      (λ q. record {
        flags = omega arith;
        frame_within = frame_up (omega arith) (omega arith) h;
        running = λ z. record {
          flags = omega arith;
          most = frame_up (omega arith) (omega arith) h;
          present = λ o. (ltb-false p.long_steps s.run.run_len q, f);
          absent = λ o. absurd (omega arith);
        };
      })

  after_on : (least : ℕ) (s : Pres) (b : Body) (fsk : List ℕ) (due : Bool) → s.run.level ≡ 1 → s.run.confirmed ≤ 1 → FrameWithin p.max_pulses least (p.long_steps + 1) (2 * p.long_steps + 2) b.frame → FrameWithin p.max_pulses least s.run.run_len (2 * s.run.run_len) b.frame → AnswerWithin p.max_pulses least p.long_steps (confirm_by p a true s b due ook fsk)
  unfolding ends_of end_if_of sure_if_of
  after_on least s b fsk true one sure h f = carrier_on least _ b fsk one (omega arith) h f
  after_on least s b fsk false one sure h f = carrier_on least s b fsk one sure h f

  -- the absence is confirmed
  off_sure : (least : ℕ) (s : Pres) (b : Body) (fsk : List ℕ) → s.run.level ≡ 0 → FrameWithin p.max_pulses least (p.long_steps + 1) (most_runs p.long_steps) b.frame → s.run.prev_len ≤ p.long_steps → FrameWithin p.max_pulses least s.run.prev_len (2 * s.run.prev_len) b.frame → AnswerWithin p.max_pulses least p.long_steps (confirm_by p a false s b true ook fsk)
  unfolding ends_of end_if_of sure_if_of
  off_sure least s b fsk none h low f = go (leb p.min_steps s.run.prev_len)
    where
      never : {A : Type 0} → ◌≡◌ {A = ℕ} 1 0 → A
      never q = absurd (omega arith)

      end : Float
      end = end_of a.level a.c_run s.run.t_run

      done : DoneWithin p.max_pulses least (p.long_steps + 1) (most_runs p.long_steps) (frame_done_of p b a.high a.pac s.run.t_prev end ook fsk)
      done =
          frame_up (omega arith) (omega arith)
          (frame_done_within p least s.run.prev_len (2 * s.run.prev_len) b a.high a.pac s.run.t_prev end ook fsk f)

      go : (ends : Bool) → AnswerWithin p.max_pulses least p.long_steps (carrier_by p a false (sure_if_of true s) (end_if_of ends p a s.run b ook fsk))
      go true = off_answer p a least _ _ _ _ none (omega arith) done (λ z. never z)
      go false = off_answer p a least _ _ _ _ none (omega arith) h (λ z. never z)

  after_off : (least : ℕ) (s : Pres) (b : Body) (fsk : List ℕ) (due : Bool) → due_of s.run p.min_steps ≡ due → s.run.level ≡ 0 → s.run.confirmed ≤ 1 → FrameWithin p.max_pulses least (p.long_steps + 1) (most_runs p.long_steps) b.frame → (s.run.confirmed ≡ 0 → (s.run.prev_len ≤ p.long_steps) × FrameWithin p.max_pulses least s.run.prev_len (2 * s.run.prev_len) b.frame) → AnswerWithin p.max_pulses least p.long_steps (confirm_by p a false s b due ook fsk)
  unfolding ends_of end_if_of sure_if_of
  after_off least s b fsk true q none sure h f =
      let now = f (due_open s.run p.min_steps q) in
      off_sure least s b fsk none h now.0 now.1
  after_off least s b fsk false q none sure h f = off_answer p a least s b ook fsk none sure h f

  -- one sample of the presence machine, from a burst under way
  pub presence_within : p.long_steps ≤ max_steps → (s : Pres) (b : Body) (fsk : List ℕ) → Running p.max_pulses (fsk_min_of p.min_steps) p.long_steps s b.frame → AnswerWithin p.max_pulses (fsk_min_of p.min_steps) p.long_steps (presence_of p a s b ook fsk)
  unfolding presence_of advance_of slice_if_of
  presence_within small s b fsk h = go (upper_of (eqb s.run.level 1) a.e thr) (edge_of a.idx (cross_of a.ep a.e thr))
    where
      thr : Float
      thr = pres_thr_of (eqb s.run.level 1) a.noise s.p_factor

      go : (on : Bool) (tc : Float) → AnswerWithin p.max_pulses (fsk_min_of p.min_steps) p.long_steps (after_advance p a b ook (advance_at p a s b.frame on tc fsk))
      go true tc =
          let o = on_moved p.max_pulses (fsk_min_of p.min_steps) p.long_steps small (fsk_min_above p.min_steps) s b.frame tc h (eqb 1 s.run.level) (eqb s.run.confirmed 0) refl refl in
          let q : Pres = move_pres_of (meets_of s.run 1) s 1 tc in
          let f = sample_within o.k (2 * o.k) p (move_frame_of (meets_of s.run 1) true s.run.run_len tc b.frame) a.high a.d a.e a.idx fsk o.frame_within in
          let low : o.k ≤ p.long_steps = o.low in
          let longer : o.k + 1 ≤ q.run.run_len = o.longer in
          after_on (fsk_min_of p.min_steps) q _ _ (due_of q.run p.min_steps) o.is_on o.sure_flag
          (frame_up (omega arith) (omega arith) f)
          (frame_up (omega arith) (omega arith) f)
      go false tc =
          let o = off_moved p.max_pulses (fsk_min_of p.min_steps) p.long_steps small (fsk_min_above p.min_steps) s b.frame tc h (eqb 0 s.run.level) (eqb s.run.confirmed 0) refl refl in
          let q : Pres = move_pres_of (meets_of s.run 0) s 0 tc in
          after_off (fsk_min_of p.min_steps) q _ _ (due_of q.run p.min_steps) refl o.is_off o.sure_flag
          o.most
          o.absent

-- begin_run of the envelope changes times only
pub snap_within : (max least long : ℕ) (s : Pres) (fr : Frame) (tc : Float) → Running max least long s fr → Running max least long (snap_of s fr tc).pres (snap_of s fr tc).frame
unfolding snap_of
snap_within max least long s fr tc h = go (near_start_of s.run.level fr.fsk_phase fr.done.fsk_runs (sub binary64 tc s.run.t_run))
  where
    moved : (k m : ℕ) → FrameWithin max least k m fr → FrameWithin max least k m (with_runs (frames.with_run (with_start tc fr.runs.run) fr.runs) fr)
    moved k m f = search arith

    go : (near : Bool) → Running max least long (cond {A = Snapped} near (record { pres = with_run (with_start tc s.run) s; frame = with_runs (frames.with_run (with_start tc fr.runs.run) fr.runs) fr }) (record { pres = s; frame = fr })).pres (cond {A = Snapped} near (record { pres = with_run (with_start tc s.run) s; frame = with_runs (frames.with_run (with_start tc fr.runs.run) fr.runs) fr }) (record { pres = s; frame = fr })).frame
    go true =
        record {
          flags = omega arith;
          most = moved (long + 1) (most_runs long) h.most;
          present = λ q. ((h.present q).0, moved s.run.run_len (2 * s.run.run_len) (h.present q).1);
          absent = λ q z. ((h.absent q z).0, moved s.run.prev_len (2 * s.run.prev_len) (h.absent q z).1);
        }
    go false = h
