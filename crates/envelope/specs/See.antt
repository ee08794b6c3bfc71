-- The first stages of `sample` (source document 000): the level, the run, the refinement, the signal level and the pulse's sum.
-- The thresholds and the refinement read the signal level as it was before this sample.
use Rattle.std.specs.Prelude.{ℕ, Bool, cond, List, leb, eqb, Float}
use Rattle.std.specs.Float.{binary32}
use Rattle.std.specs.Float.Ieee.{add, sub, mul, lt, le, of_bits}
use Rattle.arith.specs.declared.C32.{C32}
use Rattle.arith.specs.Leaves.{midpoint_of, flush_of, cross_of, edge_of, plus_of, cmul_conj_of}
use Rattle.ook.specs.declared.Env.{Env}
use Rattle.shared.specs.declared.Settings.{Settings}
use Rattle.shared.specs.Params.{refine_at_of}
use Rattle.shared.specs.Counts.{bit}
use Rattle.run.specs.declared.Move.{Move}
use Rattle.run.specs.Run.{with_start, meets_of, begins_of}
use Rattle.ook.specs.Run.{env_of, advance_of, pac_run_of}
use Rattle.ook.specs.Refine.{refine_of}
use Rattle.envelope.specs.declared.At.{At}
use Rattle.envelope.specs.declared.Seen.{Seen}

-- HYSTERESIS is 1/8
abbrev pub hysteresis_of : Float → Float
hysteresis_of t = mul binary32 t (of_bits binary32 0x3e00_0000)

-- document 01, "The parts", OOK: high above midpoint plus an eighth, and down to midpoint minus an eighth while high
unfoldable pub threshold_of : ℕ → Float → Float → Float
threshold_of level t h = cond (eqb level 1) (sub binary32 t h) (add binary32 t h)

-- the level: `e >= thr` while high, else `e > thr`
unfoldable pub on_of : ℕ → Float → Float → Bool
on_of level e thr = cond (eqb level 1) (le thr e) (lt thr e)

-- the edge of a run is refined once, when the run has refine_at samples
abbrev pub with_refined : Float → Env → Env
with_refined t s = env_of (with_start t s.run) s.c_run s.c_prev s.ref_idx 0

unfoldable pub refine_due_of : ℕ → At → List Float → Float → Bool → Env → Env
refine_due_of min_steps a ring high on s =
    cond (eqb s.ref_pending 1)
    (cond (leb (refine_at_of min_steps) s.run.run_len)
    (with_refined (refine_of ring min_steps high a.noise on a.lead_at a.idx s) s)
    s)
    s

-- the signal level follows the samples above the upper threshold; HIGH_RATIO is 1/64
unfoldable pub high_of : Bool → Float → Float → Float → Float
high_of on e upper high =
    cond on
    (cond (lt upper e) (flush_of (add binary32 high (mul binary32 (of_bits binary32 0x3c80_0000) (sub binary32 e high)))) high)
    high

-- the sum of the pulse's rotation
unfoldable pub pac_of : Bool → C32 → C32 → C32
pac_of on pac d = cond on (plus_of pac d) pac

-- the stages whole, in the Rust's order; `began` and `d` are for presence, which comes after
unfoldable pub see_of : Settings → At → List Float → Float → Float → Env → C32 → Seen
see_of p a ring high e_prev s pac =
    let t : Float = midpoint_of a.noise high in
    let h : Float = hysteresis_of t in
    let thr : Float = threshold_of s.run.level t h in
    let on : Bool = on_of s.run.level a.e thr in
    let m : Move = meets_of s.run (bit on) in
    let d : C32 = cmul_conj_of a.x a.xp in
    record {
      on = on;
      began = begins_of m;
      d = d;
      high = high_of on a.e (add binary32 t h) high;
      env = refine_due_of p.min_steps a ring high on (advance_of m s on (edge_of a.idx (cross_of e_prev a.e thr)) a.idx);
      pac = pac_of on (pac_run_of m on pac) d;
    }
