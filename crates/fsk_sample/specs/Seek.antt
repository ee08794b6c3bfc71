-- `fsk_sample` before the first transition (source document 000): the mean of the first level, and the candidates of the second.
use Rattle.std.specs.Prelude.{ℕ, ◌+◌, ◌-◌, ◌%◌, ◌^◌, min, Bool, cond, ltb, List, pos, ◌==◌, nat_eq, nat_lt, slice_index_or, slice_set, Float}
use Rattle.std.specs.Float.{nan, binary32}
use Rattle.std.specs.Float.Ieee.{add, sub, div, lt, of_int}
use Rattle.ieee.specs.Constants.{zero32}
use Rattle.arith.specs.Leaves.{midpoint_of, edge_of, cross_of, abs_of}
use Rattle.shared.specs.Counts.{inc}
use Rattle.fsk.specs.Makers.{mean_of, cand_of, early_of}
use Rattle.fsk.specs.declared.Mean.{Mean}
use Rattle.fsk.specs.declared.Cand.{Cand}
use Rattle.fsk.specs.declared.Early.{Early}

-- the first sample is the mean
unfoldable pub seed_of : Mean → ℕ → Float → Mean
seed_of m fsk_cand f = cond (m.fsk_cnt == 0) (cond (nat_eq fsk_cand 0) (mean_of f m.fsk_cnt) m) m

-- dev = f - f_ref, and dev.abs() > fsk_delta
unfoldable pub far_from_of : Float → Float → Float → Bool
far_from_of f f_ref fsk_delta = lt fsk_delta (abs_of (sub binary32 f f_ref))

-- a sample near the mean goes into it, with a weight of one in the samples so far, at most 16
unfoldable pub average_of : Mean → Float → Mean
average_of m f =
    mean_of
    (add binary32 m.f_ref (div binary32 (sub binary32 f m.f_ref) (of_int binary32 (pos (min (inc m.fsk_cnt) 16)))))
    (inc m.fsk_cnt)

-- candidates on the other side of the mean than this sample do not count
unfoldable pub start_of : ℕ → Bool → Bool → ℕ
start_of fsk_cand side last_side = cond (ltb 0 fsk_cand) (cond side (cond last_side fsk_cand 0) (cond last_side 0 fsk_cand)) fsk_cand

-- the frequency before the first candidate
unfoldable pub before_if_of : ℕ → Float → Float → Float
before_if_of fsk_cand fp cand_before = cond (nat_eq fsk_cand 0) fp cand_before

-- cand_f has FSK_CAND (8) places
unfoldable pub store_of : List Float → ℕ → Float → List Float
store_of cand_f n f = cond (nat_lt n 8) (slice_set cand_f n f) cand_f

abbrev pub candidate_at : Cand → Float → Float → ℕ → Cand
candidate_at c f fp n = cand_of (store_of c.cand_f n f) (before_if_of n fp c.cand_before) (inc n)

unfoldable pub push_cand_of : Cand → Float → Float → Float → Cand
push_cand_of c f_ref f fp = candidate_at c f fp (start_of c.fsk_cand (lt zero32 (sub binary32 f f_ref)) (lt f_ref (slice_index_or c.cand_f 0 nan)))

unfoldable pub clear_of : Cand → Cand
clear_of c = cand_of c.cand_f c.cand_before 0

-- t_early: the crossing before the first candidate, which is fsk_cand samples back
unfoldable pub restart_at_of : Float → Float → Float → ℕ → ℕ → Float
restart_at_of cand_before at thr fsk_cand idx = edge_of ((idx + 1) % 2 ^ 64 - fsk_cand) (cross_of cand_before at thr)

-- the samples before a restart may be a short first run
unfoldable pub restart_early_of : Early → Mean → Cand → Float → ℕ → Early
restart_early_of e m c f idx =
    cond (nat_lt 0 m.fsk_cnt)
    (early_of m.f_ref (restart_at_of c.cand_before (slice_index_or c.cand_f 0 nan) (midpoint_of m.f_ref f) c.fsk_cand idx) 1)
    e
