-- Refusal 4 of document 01, for the parts of a lane. A flag is a number that the Rust keeps at 0 or 1; a record's state (none or
-- to be decided), cut mark and kind are flags too.
use Rattle.std.specs.Prelude.{ℕ, ◌+◌, Bool, not, ◌&&◌, ◌||◌, leb, ltb, eqb}
use Rattle.domain.specs.Limits.{max_index, max_count, max_bound}
use Rattle.arith.specs.Leaves.{lead_len_of}
use Rattle.shared.specs.Params.{fsk_min_of}
use Rattle.run.specs.declared.Run.{Run}
use Rattle.ook.specs.declared.Env.{Env}
use Rattle.ook.specs.declared.Train.{Train}
use Rattle.shared.specs.declared.Out.{Out}
use Rattle.fsk.specs.declared.Runs.{Runs}
use Rattle.fsk.specs.declared.Committed.{Committed}
use Rattle.fsk.specs.Types.{Frame}
use Rattle.presence.specs.declared.Pres.{Pres}
use Rattle.burst.specs.Types.{Burst}
use Rattle.burst.specs.declared.Lead.{Lead}
use Rattle.refusals.specs.Serial.{serial_ok}

abbrev pub flag : ℕ → Bool
flag n = leb n 1

abbrev pub run_ok : Run → Bool
run_ok r = flag r.level && flag r.confirmed

abbrev pub env_ok : Env → Bool
env_ok v = run_ok v.run && flag v.ref_pending

-- pulses plus open at most max_pulses, and a held boundary at most 2^47 (R-1)
abbrev pub train_ok : ℕ → Train → Bool
train_ok max t = flag t.started && flag t.«open» && flag t.truncated && leb (t.ook_n + t.«open») max && leb t.bound max_bound

abbrev pub pres_ok : Pres → Bool
pres_ok q = run_ok q.run

abbrev pub runs_ok : Runs → Bool
runs_ok r = run_ok r.run && flag r.fsk_has_prev

-- frame pairs plus open at most max_pulses, and fsk_runs at most max_count
abbrev pub committed_ok : ℕ → Committed → Bool
committed_ok max c =
    flag c.fsk_open && flag c.fsk_full && leb (c.fsk_n + c.fsk_open) max && leb c.fsk_runs max_count

unfoldable pub frame_ok : ℕ → Frame → Bool
frame_ok max f =
    flag f.fsk_phase && leb f.mean.fsk_cnt max_count && flag f.early.early
    && runs_ok f.runs && committed_ok max f.done

abbrev pub out_ok : Out → Bool
out_ok o = flag o.state && flag o.cut && flag o.fsk && serial_ok o.serial

unfoldable pub burst_ok : ℕ → Burst → Bool
burst_ok max b =
    env_ok b.env && train_ok max b.train && out_ok b.out_ook
    && pres_ok b.pres && frame_ok max b.frame && out_ok b.out_fsk

-- in lead, phase 1, the count is below lead_len; the lead's index is at most max_index in every phase
unfoldable pub lead_ok : ℕ → ℕ → Lead → Bool
lead_ok phase m l = leb l.lead_at max_index && (not (eqb phase 1) || ltb l.lead_n (lead_len_of m))

-- in burst, phase 2, while fsk_phase is 0 the candidates are below fsk_min
unfoldable pub cand_ok : ℕ → ℕ → Frame → Bool
cand_ok phase m f = not (eqb phase 2) || not (eqb f.fsk_phase 0) || ltb f.cand.fsk_cand (fsk_min_of m)
