-- `presence` (source document 000): one sample of the presence machine, and what `begin_run` of the envelope does to it.
use Rattle.std.specs.Prelude.{ℕ, Bool, false, cond, List, ltb, leb, eqb, pos, Float}
use Rattle.std.specs.Float.{binary64}
use Rattle.std.specs.Float.Ieee.{add, sub, le, of_bits, of_int}
use Rattle.ieee.specs.Constants.{zero64, one64}
use Rattle.arith.specs.Leaves.{edge_of, cross_of}
use Rattle.shared.specs.Counts.{bit}
use Rattle.run.specs.Run.{meets_of, with_confirmed, with_start, due_of}
use Rattle.run.specs.declared.Run.{Run}
use Rattle.run.specs.declared.Move.{Move}
use Rattle.ook.specs.Train.{end_train_of}
use Rattle.ook.specs.Types.{Ended}
use Rattle.shared.specs.declared.Settings.{Settings}
use Rattle.shared.specs.declared.Next.{Next}
use Rattle.shared.specs.declared.Next.TheVariants.{Stay, IdleAt}
use Rattle.fsk.specs.Makers.{with_full, with_runs, with_done}
use Rattle.fsk.specs.Makers as frames
use Rattle.fsk.specs.Types.{Frame}
use Rattle.fsk_sample.specs.Tone.{upper_of}
use Rattle.fsk_sample.specs.Sample.{fsk_sample_of}
use Rattle.frame_end.specs.Done.{body_of, with_frame, frame_done_of}
use Rattle.frame_end.specs.Types.{Body}
use Rattle.presence.specs.Move.{pres_thr_of, move_pres_of, move_frame_of, with_run}
use Rattle.presence.specs.declared.Pres.{Pres}
use Rattle.presence.specs.declared.Inputs.{Inputs}
use Rattle.presence.specs.Types.{Advanced}
use Rattle.presence.specs.Types.{Present}
use Rattle.presence.specs.Types.{Snapped}

-- ---- the level, the run of the presence, the frame, and the slicer's sample

unfoldable pub slice_if_of : Settings → Inputs → Bool → Frame → List ℕ → Frame × List ℕ
slice_if_of p a on fr fsk = cond on (fsk_sample_of p fr a.high a.d a.e a.idx fsk) (fr, fsk)

abbrev pub advance_by : Bool → Pres → Frame × List ℕ → Advanced × List ℕ
advance_by on s q = (record { on = on; pres = s; frame = q.0 }, q.1)

abbrev pub advance_at : Settings → Inputs → Pres → Frame → Bool → Float → List ℕ → Advanced × List ℕ
advance_at p a s fr on tc fsk =
    let m : Move = meets_of s.run (bit on) in
    advance_by on (move_pres_of m s (bit on) tc) (slice_if_of p a on (move_frame_of m on s.run.run_len tc fr) fsk)

abbrev pub advance_thr : Settings → Inputs → Pres → Frame → Float → List ℕ → Advanced × List ℕ
advance_thr p a s fr thr fsk = advance_at p a s fr (upper_of (eqb s.run.level 1) a.e thr) (edge_of a.idx (cross_of a.ep a.e thr)) fsk

unfoldable pub advance_of : Settings → Inputs → Pres → Frame → List ℕ → Advanced × List ℕ
advance_of p a s fr fsk = advance_thr p a s fr (pres_thr_of (eqb s.run.level 1) a.noise s.p_factor) fsk

-- ---- a presence or an absence of at least min_steps is confirmed; an absence then ends the presence before it

unfoldable pub sure_if_of : Bool → Pres → Pres
sure_if_of due s = cond due (with_run (with_confirmed 1 s.run) s) s

unfoldable pub ends_of : Bool → Bool → ℕ → ℕ → Bool
ends_of due on p_prev min_steps = cond due (cond on false (leb min_steps p_prev)) false

-- (0.0..=EDGE_WINDOW).contains, EDGE_WINDOW is 4
unfoldable pub in_window_of : Float → Bool
in_window_of x = cond (le zero64 x) (le x (of_bits binary64 0x4010_0000_0000_0000)) false

-- the midpoint edge of the envelope just before is the better end
unfoldable pub end_of : ℕ → Float → Float → Float
end_of level c_run p_t_run = cond (eqb level 0) (cond (in_window_of (sub binary64 p_t_run c_run)) c_run p_t_run) p_t_run

unfoldable pub end_if_of : Bool → Settings → Inputs → Run → Body → List ℕ → List ℕ → Body × List ℕ × List ℕ
end_if_of ends p a r b ook fsk =
    cond ends
    (frame_done_of p b a.high a.pac r.t_prev (end_of a.level a.c_run r.t_run) ook fsk)
    (b, ook, fsk)

-- ---- a carrier: the frame so far is kept, cut, and the train ends too

unfoldable pub long_of : Bool → ℕ → ℕ → Bool
long_of on p_run long_steps = cond on (ltb long_steps p_run) false

abbrev pub full_body : Body → Body
full_body b = with_frame (with_done (with_full 1 b.frame.done) b.frame) b

abbrev pub ended_body : Body → List ℕ → Ended × List ℕ → Body × List ℕ × List ℕ
ended_body b fsk q = (body_of b.frame q.0.train b.frames q.0.out b.out_fsk, q.1, fsk)

abbrev pub end_train_by : Float → Body × List ℕ × List ℕ → Body × List ℕ × List ℕ
end_train_by high q = ended_body q.0 q.2 (end_train_of q.0.train high q.0.out_ook q.1)

unfoldable pub end_carrier_of : Settings → Inputs → Float → Body → List ℕ → List ℕ → Body × List ℕ × List ℕ
end_carrier_of p a p_t_run b ook fsk =
    end_train_by a.high (frame_done_of p (full_body b) a.high a.pac p_t_run (add binary64 (of_int binary64 (pos a.idx)) one64) ook fsk)

abbrev pub present_by : Next → Pres → Body × List ℕ × List ℕ → Present × List ℕ × List ℕ
present_by next s q = (record { next = next; pres = s; body = q.0 }, q.1, q.2)

unfoldable pub carrier_if_of : Settings → Inputs → Bool → Pres → Body → List ℕ → List ℕ → Present × List ℕ × List ℕ
carrier_if_of p a on s b ook fsk =
    cond (long_of on s.run.run_len p.long_steps)
    (present_by (IdleAt a.e) s (end_carrier_of p a s.run.t_run b ook fsk))
    (record { next = Stay; pres = s; body = b }, ook, fsk)

-- ---- the whole

abbrev pub carrier_by : Settings → Inputs → Bool → Pres → Body × List ℕ × List ℕ → Present × List ℕ × List ℕ
carrier_by p a on s q = carrier_if_of p a on s q.0 q.1 q.2

abbrev pub confirm_by : Settings → Inputs → Bool → Pres → Body → Bool → List ℕ → List ℕ → Present × List ℕ × List ℕ
confirm_by p a on s b due ook fsk = carrier_by p a on (sure_if_of due s) (end_if_of (ends_of due on s.run.prev_len p.min_steps) p a s.run b ook fsk)

abbrev pub after_advance : Settings → Inputs → Body → List ℕ → Advanced × List ℕ → Present × List ℕ × List ℕ
after_advance p a b ook q = confirm_by p a q.0.on q.0.pres (with_frame q.0.frame b) (due_of q.0.pres.run p.min_steps) ook q.1

-- `Next::Stay` stands for the Rust's `None`
unfoldable pub presence_of : Settings → Inputs → Pres → Body → List ℕ → List ℕ → Present × List ℕ × List ℕ
presence_of p a s b ook fsk = after_advance p a b ook (advance_of p a s b.frame fsk)

-- ---- `begin_run` of the envelope at a rise, whose edge is tc

-- the presence began just before, and the frame has no transition and no run yet
unfoldable pub near_start_of : ℕ → ℕ → ℕ → Float → Bool
near_start_of p_level fsk_phase fsk_runs lead =
    cond (eqb p_level 1) (cond (eqb fsk_phase 0) (cond (eqb fsk_runs 0) (in_window_of lead) false) false) false

-- then the edge is the better start of presence and frame
unfoldable pub snap_of : Pres → Frame → Float → Snapped
snap_of s fr tc =
    cond (near_start_of s.run.level fr.fsk_phase fr.done.fsk_runs (sub binary64 tc s.run.t_run))
    (record { pres = with_run (with_start tc s.run) s; frame = with_runs (frames.with_run (with_start tc fr.runs.run) fr.runs) fr })
    (record { pres = s; frame = fr })
