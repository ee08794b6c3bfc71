-- `cut_train` (source document 000): an FSK frame is decided; the pulses of the OOK train from its start on are dropped, and those before end as a train of their own.
use Rattle.std.specs.Prelude.{ℕ, zero, suc, ◌+◌, ◌-◌, ◌*◌, ◌%◌, ◌^◌, cond, List, pos, ◌==◌, from_bits, nat_lt, slice_index, Float}
use Rattle.std.specs.Float.{binary64}
use Rattle.std.specs.Float.Ieee.{add, sub, le, of_int}
use Rattle.arith.specs.Leaves.{step_of}
use Rattle.ook.specs.Train.{with_pairs, with_end, empty_train_of, end_train_of}
use Rattle.ook.specs.declared.Train.{Train}
use Rattle.shared.specs.declared.Out.{Out}
use Rattle.ook.specs.Types.{Ended}
use Rattle.frame_end.specs.declared.Kept.{Kept}

abbrev pub f64_of : ℕ → Float
f64_of n = of_int binary64 (pos n)

-- the gap of pulse k; a last pulse that waits for its gap has none yet
unfoldable pub gap_at_of : List ℕ → ℕ → ℕ → ℕ
gap_at_of ook ook_n k = cond (nat_lt k ook_n) (slice_index ook (2 * k + 1)) 0

-- pulse k is kept: t is where the next one starts, end one past this one
unfoldable pub keep_next_of : Kept → ℕ → ℕ → ℕ → Kept
keep_next_of s k pulse gap =
    record {
      t = add binary64 s.t (add binary64 (f64_of pulse) (f64_of gap));
      keep = k + 1;
      end = step_of (add binary64 s.t (f64_of pulse));
    }

-- pulse k and the m after it, up to the first that starts at the limit or after it
unfoldable pub keep_from : List ℕ → ℕ → Float → ℕ → ℕ → Kept → Kept
keep_from ook ook_n limit zero k s = s
keep_from ook ook_n limit (suc m) k s =
    cond (le limit s.t) s (keep_from ook ook_n limit m (k + 1) (keep_next_of s k (slice_index ook (2 * k)) (gap_at_of ook ook_n k)))

unfoldable pub start_kept_of : ℕ → Kept
start_kept_of start = record { t = f64_of start; keep = 0; end = start }

unfoldable pub keep_before_of : List ℕ → ℕ → ℕ → ℕ → Float → Kept
keep_before_of ook ook_n total start limit = keep_from ook ook_n limit total 0 (start_kept_of start)

-- the last kept pulse ends the train; where none is kept there is no train
abbrev pub cut_by : Train → Float → Out → List ℕ → Kept → Ended × List ℕ
cut_by t high out ook k =
    cond (k.keep == 0)
    (record { train = empty_train_of t; out = out }, ook)
    (end_train_of (with_end k.end (with_pairs (k.keep - 1) 1 t)) high out ook)

-- the frame starts at start: a pulse belongs to it from 2 steps before
unfoldable pub cut_train_of : Train → Float → Out → Float → List ℕ → Ended × List ℕ
cut_train_of t high out start ook =
    cut_by t high out ook
    (keep_before_of ook t.ook_n ((t.ook_n + t.«open») % 2 ^ 32) t.start (sub binary64 start (from_bits binary64 0x4000_0000_0000_0000)))
