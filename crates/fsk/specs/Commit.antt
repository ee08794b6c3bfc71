-- `fsk_commit` (source document 000): a frequency run goes into the slots of the frame.
-- Until the frame ends a slot holds the end of its run after the origin of the frame, in 64ths of a step, and an empty slot the end of the run before.
use Rattle.std.specs.Prelude.{ℕ, ◌+◌, ◌*◌, Bool, cond, List, ◌==◌, nat_eq, nat_le, slice_set, Float}
use Rattle.std.specs.Float.{binary64}
use Rattle.std.specs.Float.Ieee.{sub}
use Rattle.arith.specs.Leaves.{run_fix_of, fsk_width_of}
use Rattle.shared.specs.Counts.{inc}
use Rattle.fsk.specs.Makers.{with_counted, with_full, with_pairs, with_last}
use Rattle.fsk.specs.declared.Committed.{Committed}

-- put(pairs.fsk, i, run_fix(t - f_origin))
unfoldable pub put_end_of : List ℕ → ℕ → Float → Float → List ℕ
put_end_of fsk i f_origin t = slice_set fsk i (run_fix_of (sub binary64 t f_origin)).0

-- the first run that is committed sets the origin
unfoldable pub origin_of : ℕ → Float → Float → Float
origin_of fsk_runs a f_origin = cond (nat_eq fsk_runs 0) a f_origin

unfoldable pub count_run_of : Committed → Float → Committed
count_run_of c a = with_counted (origin_of c.fsk_runs a c.f_origin) (inc c.fsk_runs) c

-- a run at the upper level is the first slot of a pair, which then waits for its second
unfoldable pub upper_run_of : ℕ → Committed → Float → List ℕ → Committed × List ℕ
upper_run_of max_pulses c b fsk =
    cond (nat_le max_pulses c.fsk_n)
    (with_full 1 c, fsk)
    (with_last b (with_pairs c.fsk_n 1 c), put_end_of fsk (2 * c.fsk_n) c.f_origin b)

-- the run that ends at b is the second slot of the pair
abbrev pub close_pair_of : Committed → Float → List ℕ → Committed × List ℕ
close_pair_of c b fsk = (with_last b (with_pairs (inc c.fsk_n) 0 c), put_end_of fsk (2 * c.fsk_n + 1) c.f_origin b)

-- a run at the lower level is the second slot; where no pair waits, the first one is empty
unfoldable pub lower_run_of : ℕ → Committed → Float → Float → List ℕ → Committed × List ℕ
lower_run_of max_pulses c a b fsk =
    cond (c.fsk_open == 0)
    (cond (nat_le max_pulses c.fsk_n)
    (with_full 1 c, fsk)
    (close_pair_of c b (put_end_of fsk (2 * c.fsk_n) c.f_origin a)))
    (close_pair_of c b fsk)

-- a full frame, and a run of no width, take nothing
unfoldable pub fsk_commit_of : ℕ → Committed → Bool → Float → Float → List ℕ → Committed × List ℕ
fsk_commit_of max_pulses c upper a b fsk =
    cond (c.fsk_full == 1) (c, fsk)
    (cond ((fsk_width_of a b).0 == 0) (c, fsk)
    (cond upper (upper_run_of max_pulses (count_run_of c a) b fsk) (lower_run_of max_pulses (count_run_of c a) a b fsk)))
