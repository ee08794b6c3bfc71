-- The train of the burst's pulses and its record: `push_pulse`, `end_train`, `pulse_done`, `gap_ratio_exceeded` (source document 000).
-- A slot past the end of the lent buffer is not written, as by `put`: so `set` leaves the list.
use Rattle.std.specs.Prelude.{ℕ, ◌+◌, ◌*◌, Bool, true, false, cond, List, set, ltb, leb, eqb, pos, Float}
use Rattle.std.specs.Float.{binary32}
use Rattle.std.specs.Float.Ieee.{mul, lt, of_int}
use Rattle.arith.specs.declared.C32.{C32}
use Rattle.arith.specs.declared.Steps.{Steps}
use Rattle.arith.specs.Leaves.{plus_of, step_of}
use Rattle.ieee.specs.Constants.{zero64}
use Rattle.shared.specs.Counts.{inc, bit, zero_c32}
use Rattle.ook.specs.declared.Train.{Train}
use Rattle.shared.specs.declared.Out.{Out}
use Rattle.ook.specs.declared.Pushed.{Pushed}
use Rattle.ook.specs.Types.{Ended}
use Rattle.ook.specs.Types.{Done}
use Rattle.shared.specs.declared.Settings.{Settings}
use Rattle.shared.specs.declared.Next.{Next}
use Rattle.shared.specs.declared.Next.TheVariants.{Stay, Idle}
use Rattle.shared.specs.declared.Carrier.TheVariants.{Vector}

-- the makers: a train from its fields, and with some of its fields changed
abbrev pub train_of : ℕ → ℕ → ℕ → ℕ → ℕ → Steps → ℕ → C32 → Float → ℕ → Train
train_of start pulse_end started ook_n opened longest truncated acc origin bound =
    record {
      start = start;
      pulse_end = pulse_end;
      started = started;
      ook_n = ook_n;
      «open» = opened;
      longest = longest;
      truncated = truncated;
      acc = acc;
      origin = origin;
      bound = bound;
    }

-- the first pulse: origin is its edge, whose boundary is 0
abbrev pub with_first : ℕ → Float → Train → Train
with_first start origin t = train_of start t.pulse_end 1 t.ook_n t.«open» t.longest t.truncated zero_c32 origin 0

abbrev pub with_bound : ℕ → Train → Train
with_bound bound t = train_of t.start t.pulse_end t.started t.ook_n t.«open» t.longest t.truncated t.acc t.origin bound

abbrev pub with_started : ℕ → Train → Train
with_started started t = train_of t.start t.pulse_end started t.ook_n t.«open» t.longest t.truncated t.acc t.origin t.bound

abbrev pub with_pairs : ℕ → ℕ → Train → Train
with_pairs ook_n opened t = train_of t.start t.pulse_end t.started ook_n opened t.longest t.truncated t.acc t.origin t.bound

abbrev pub with_end : ℕ → Train → Train
with_end pulse_end t = train_of t.start pulse_end t.started t.ook_n t.«open» t.longest t.truncated t.acc t.origin t.bound

abbrev pub with_longest : Steps → Train → Train
with_longest longest t = train_of t.start t.pulse_end t.started t.ook_n t.«open» longest t.truncated t.acc t.origin t.bound

abbrev pub with_truncated : ℕ → Train → Train
with_truncated truncated t = train_of t.start t.pulse_end t.started t.ook_n t.«open» t.longest truncated t.acc t.origin t.bound

abbrev pub with_acc : C32 → Train → Train
with_acc acc t = train_of t.start t.pulse_end t.started t.ook_n t.«open» t.longest t.truncated acc t.origin t.bound

abbrev pub zero_steps : Steps
zero_steps = record { 0 = 0 }

-- push_pulse: false and the mark where the train is full, else the pulse in its slot, open
unfoldable pub push_pulse_of : ℕ → Train → C32 → Steps → List ℕ → Pushed × List ℕ
push_pulse_of max_pulses t pac len ook =
    cond (leb max_pulses t.ook_n)
    (record { fits = false; train = with_truncated 1 t }, ook)
    (record { fits = true; train = with_acc (plus_of t.acc pac) (with_pairs t.ook_n 1 t) }, set ook (2 * t.ook_n) len.0)

-- where a pulse is open its gap is final: the pair is whole
unfoldable pub close_gap_of : Train → Steps → List ℕ → Train × List ℕ
close_gap_of t gap ook =
    cond (eqb t.«open» 1)
    (with_pairs (inc t.ook_n) 0 t, set ook (2 * t.ook_n + 1) gap.0)
    (t, ook)

-- no pulses: what end_train, cut_train and begin_burst leave; start and pulse_end stay
unfoldable pub empty_train_of : Train → Train
empty_train_of t = train_of t.start t.pulse_end 0 0 0 zero_steps 0 zero_c32 zero64 0

-- the record of a train: it decides (OUT_DECIDE is 1), and its carrier is the two sums that atan2f would get; the call that returns it
-- gives it its serial (R-6)
abbrev pub record_of : Train → Float → Out
record_of t high =
    record {
      index = t.start;
      end = t.pulse_end;
      state = 1;
      cut = bit (eqb t.truncated 1);
      pairs = t.ook_n;
      level = high;
      fsk = 0;
      carrier = Vector t.acc.re t.acc.im;
      serial = 0;
    }

-- pairs make a record; the train is empty then
unfoldable pub finish_of : Train → Float → Out → Ended
finish_of t high out = record { train = empty_train_of t; out = cond (ltb 0 t.ook_n) (record_of t high) out }

abbrev pub finish_by : Float → Out → Train × List ℕ → Ended × List ℕ
finish_by high out q = (finish_of q.0 high out, q.1)

-- end_train: only an open pulse gets the gap 0
unfoldable pub end_train_of : Train → Float → Out → List ℕ → Ended × List ℕ
end_train_of t high out ook = finish_by high out (close_gap_of t zero_steps ook)

-- `if len > longest`
abbrev pub longer_of : Steps → Steps → Steps
longer_of longest len = cond (ltb longest.0 len.0) len longest

-- the ways on: the burst stays with this train, or the train has ended
abbrev pub stay_by : Out → Train × List ℕ → Done × List ℕ
stay_by out q = (record { next = Stay; train = q.0; out = out }, q.1)

abbrev pub end_by : Next → Ended × List ℕ → Done × List ℕ
end_by next q = (record { next = next; train = q.0.train; out = q.0.out }, q.1)

abbrev pub pushed_by : Float → Out → Pushed × List ℕ → Done × List ℕ
pushed_by high out q = cond q.0.fits (stay_by out (q.0.train, q.1)) (end_by Idle (end_train_of q.0.train high out q.1))

-- pulse_done: in FSK mode (1) the envelope's pulses are not kept
unfoldable pub pulse_done_of : Settings → Train → C32 → Float → Out → Steps → Float → List ℕ → Done × List ℕ
pulse_done_of p t pac high out len end ook =
    cond (eqb p.mode 1)
    (stay_by out (with_started 0 (with_end (step_of end) t), ook))
    (pushed_by high out (push_pulse_of p.max_pulses (with_longest (longer_of t.longest len) (with_end (step_of end) t)) pac len ook))

-- gap_ratio_exceeded: the run of n samples against the longest pulse
unfoldable pub gap_ratio_exceeded_of : Float → Steps → ℕ → Bool
gap_ratio_exceeded_of gap_ratio longest n =
    cond (ltb 0 longest.0)
    (lt (mul binary32 gap_ratio (of_int binary32 (pos longest.0))) (of_int binary32 (pos n)))
    false
