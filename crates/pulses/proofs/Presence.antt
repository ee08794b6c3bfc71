-- What presence does in Auto mode at a sample that finds no frame: it leaves the train as it is, or, where the carrier lasts too long, ends it.
use mathlib.Core.Path.{◌≡◌, refl, sym, ap, ◌∙◌, subst}
use mathlib.Core.Bool.{Bool, true, false, cond}
use mathlib.Core.List.{List}
use Prim.Native.Nat.{ℕ}
use native.Mathlib.Omega.{arith}
use lib.Dec.{eqb}
use lib.IntN.{pos}
use lib.Ieee.{Float, binary64, add, of_int}
use Rattle.arith.specs.declared.C32.{C32}
use Rattle.ieee.specs.Constants.{one64}
use Rattle.ook.specs.declared.Env.{Env}
use Rattle.ook.specs.Types.{Done}
use Rattle.shared.specs.declared.Settings.{Settings}
use Rattle.shared.specs.declared.Next.TheVariants.{Stay, IdleAt}
use Rattle.shared.specs.Counts.{sat_add_of}
use Rattle.refusals.proofs.Domain.{InDomain}
use Rattle.frame_end.specs.End.{is_split_of, enough_runs_of, is_frame_of, last_run_of, framed_by, close_by, end_frame_of}
use Rattle.frame_end.specs.Done.{with_frame, with_framed, cut_body, frame_done_of}
use Rattle.frame_end.specs.Cut.{cut_train_of}
use Rattle.frame_end.specs.Types.{Body}
use Rattle.frame_end.specs.Types.{Framed}
use Rattle.run.specs.Run.{due_of}
use Rattle.run.specs.declared.Run.{Run}
use Rattle.presence.specs.declared.Pres.{Pres}
use Rattle.presence.specs.declared.Inputs.{Inputs}
use Rattle.presence.specs.Types.{Advanced}
use Rattle.presence.specs.Types.{Present}
use Rattle.presence.specs.Presence.{advance_of, sure_if_of, ends_of, end_of, end_if_of, long_of, full_body, end_train_by, end_carrier_of, present_by, carrier_if_of, presence_of}
use Rattle.pulses.specs.Runs.{Sample}
use Rattle.shared.proofs.Cases.{either}
use Rattle.shared.proofs.Tests.{clash}
use Rattle.pulses.proofs.OokSample.{Follows, After, stays, over, idle_at_not, train_ends}

-- after a sample: there are no two levels yet (`fsk_phase` 0), or the burst has had no frame (`frames` 0)
pub data Unfound (phase frames : ℕ) : Type 0 where
  unsplit : phase ≡ 0 → Unfound phase frames
  unframed : frames ≡ 0 → Unfound phase frames

abbrev UnfoundIn : Body → Type 0
UnfoundIn b = Unfound b.frame.fsk_phase b.frames

-- what presence answers, with the train and its record
abbrev pub present_done : Present × List ℕ × List ℕ → Done
present_done r = record { next = r.0.next; train = r.0.body.train; out = r.0.body.out_ook }

one_more : (n : ℕ) → sat_add_of n 1 ≡ 0 → ⊥
unfolding sat_add_of
one_more n q = omega arith

module _ (p : Settings) (auto : p.mode ≡ 2) where
  no_frame_lem : (phase : ℕ) (hi lo : Float) (enough : Bool) → phase ≡ 0 → is_frame_of p.mode (is_split_of phase hi lo p.fsk_split) enough ≡ false
  unfolding is_frame_of is_split_of
  no_frame_lem phase hi lo enough q = rw (auto, q)

  -- `frame_done` of a presence that was no frame changes nothing
  frame_none : (b : Body) (high : Float) (pac : C32) (start end : Float) (ook fsk : List ℕ) → UnfoundIn (frame_done_of p b high pac start end ook fsk).0
      → frame_done_of p b high pac start end ook fsk ≡ (b, ook, fsk)
  unfolding frame_done_of end_frame_of
  frame_none b high pac start end ook fsk U = go is refl (eqb p.mode 2) U
    where
      is : Bool
      is = is_frame_of p.mode (is_split_of b.frame.fsk_phase b.frame.levels.f_hi b.frame.levels.f_lo p.fsk_split) (enough_runs_of b.frame.done.fsk_runs b.frame.runs.fsk_has_prev)

      framed : Framed × List ℕ
      framed = framed_by b.frame high pac start end (close_by (last_run_of p.max_pulses b.frame.fsk_phase b.frame.runs b.frame.done end fsk))

      q : Bool → Framed × List ℕ
      q f = cond f framed (record { is_fsk = false; frame = b.frame; out = b.out_fsk }, fsk)

      done : Bool → Bool → Body × List ℕ × List ℕ
      done f m =
          cond (q f).0.is_fsk
          (cond m (cut_body b (q f).0 (q f).1 (cut_train_of b.train high b.out_ook start ook)) (with_framed (q f).0 (sat_add_of b.frames 1) b, ook, (q f).1))
          (with_framed (q f).0 b.frames b, ook, (q f).1)

      split : b.frame.fsk_phase ≡ 0 → is ≡ true → ⊥
      split z e = clash (sym e ∙ no_frame_lem b.frame.fsk_phase _ _ _ z)

      go : (f : Bool) → is ≡ f → (m : Bool) → UnfoundIn (done f m).0 → done f m ≡ (b, ook, fsk)
      go false e m U = refl
      go true e true (unsplit z) = absurd (split z e)
      go true e false (unsplit z) = absurd (split z e)
      go true e true (unframed z) = absurd (one_more b.frames z)
      go true e false (unframed z) = absurd (one_more b.frames z)

  end_none : (ends : Bool) (a : Inputs) (s : Run) (b : Body) (ook fsk : List ℕ) → UnfoundIn (end_if_of ends p a s b ook fsk).0 → end_if_of ends p a s b ook fsk ≡ (b, ook, fsk)
  unfolding end_if_of
  end_none true a s b ook fsk U = frame_none b a.high a.pac s.t_prev (end_of a.level a.c_run s.t_run) ook fsk U
  end_none false a s b ook fsk U = refl

  -- presence without frames: a carrier that is too long ends the train, and nothing else does
  passed : Bool → Inputs → Pres → Body → List ℕ → List ℕ → Present × List ℕ × List ℕ
  passed long a s b ook fsk = cond long (present_by (IdleAt a.e) s (end_train_by a.high (full_body b, ook, fsk))) (record { next = Stay; pres = s; body = b }, ook, fsk)

  passed_unfound : (long : Bool) (a : Inputs) (s : Pres) (b : Body) (ook fsk : List ℕ) → UnfoundIn (passed long a s b ook fsk).0.body → UnfoundIn b
  unfolding passed
  passed_unfound true a s b ook fsk U = U
  passed_unfound false a s b ook fsk U = U

  carrier_none : (a : Inputs) (on : Bool) (s : Pres) (b : Body) (ook fsk : List ℕ) → UnfoundIn (carrier_if_of p a on s b ook fsk).0.body
      → carrier_if_of p a on s b ook fsk ≡ passed (long_of on s.run.run_len p.long_steps) a s b ook fsk
  unfolding carrier_if_of end_carrier_of passed
  carrier_none a on s b ook fsk = go (long_of on s.run.run_len p.long_steps)
    where
      ended : Body × List ℕ × List ℕ
      ended = frame_done_of p (full_body b) a.high a.pac s.run.t_run (add binary64 (of_int binary64 (pos a.idx)) one64) ook fsk

      by : Bool → Present × List ℕ × List ℕ
      by long = cond long (present_by (IdleAt a.e) s (end_train_by a.high ended)) (record { next = Stay; pres = s; body = b }, ook, fsk)

      go : (long : Bool) → UnfoundIn (by long).0.body → by long ≡ passed long a s b ook fsk
      go true U = ap (λ (q : Body × List ℕ × List ℕ). present_by (IdleAt a.e) s (end_train_by a.high q)) (frame_none (full_body b) a.high a.pac s.run.t_run _ ook fsk U)
      go false U = refl

  module _ (a : Inputs) (s : Pres) (b : Body) (ook fsk : List ℕ) (U : UnfoundIn (presence_of p a s b ook fsk).0.body) where
    abbrev moved : Advanced × List ℕ
    moved = advance_of p a s b.frame fsk

    abbrev sure : Pres
    sure = sure_if_of (due_of moved.0.pres.run p.min_steps) moved.0.pres

    abbrev long : Bool
    long = long_of moved.0.on sure.run.run_len p.long_steps

    presence_passed : presence_of p a s b ook fsk ≡ passed long a sure (with_frame moved.0.frame b) ook moved.1
    unfolding presence_of
    presence_passed = carried ∙ ap (λ (q : Body × List ℕ × List ℕ). passed long a sure q.0 q.1 q.2) (end_none ends a moved.0.pres.run (with_frame moved.0.frame b) ook moved.1 before)
      where
        ends : Bool
        ends = ends_of (due_of moved.0.pres.run p.min_steps) moved.0.on moved.0.pres.run.prev_len p.min_steps

        e : Body × List ℕ × List ℕ
        e = end_if_of ends p a moved.0.pres.run (with_frame moved.0.frame b) ook moved.1

        carried : carrier_if_of p a moved.0.on sure e.0 e.1 e.2 ≡ passed long a sure e.0 e.1 e.2
        carried = carrier_none a moved.0.on sure e.0 e.1 e.2 U

        before : UnfoundIn e.0
        before = passed_unfound long a sure e.0 e.1 e.2 (subst (λ (r : Present × List ℕ × List ℕ). UnfoundIn r.0.body) carried U)

    -- the count of frames is the one before the sample
    pub presence_frames : (presence_of p a s b ook fsk).0.body.frames ≡ b.frames
    unfolding passed
    presence_frames = ap (λ (r : Present × List ℕ × List ℕ). r.0.body.frames) presence_passed ∙ either (λ (r : Present × List ℕ × List ℕ). r.0.body.frames ≡ b.frames) long refl refl

    pub presence_follows : InDomain p → (v : Env) (xs : List (Sample Float)) → Follows p v b.train b.out_ook ook xs → After p v (present_done (presence_of p a s b ook fsk)) (presence_of p a s b ook fsk).1 xs
    unfolding passed
    presence_follows D v xs F =
        rw presence_passed
        (either (λ (r : Present × List ℕ × List ℕ). After p v (present_done r) r.1 xs) long (over (idle_at_not a.e) (train_ends p D v b.train b.out_ook ook xs F a.high)) (stays refl F))
