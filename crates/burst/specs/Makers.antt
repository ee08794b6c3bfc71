-- The makers of the burst: from its fields, and with some of its fields changed.
use Rattle.std.specs.Prelude.{ℕ, Float}
use Rattle.arith.specs.declared.C32.{C32}
use Rattle.shared.specs.Core.{numbered}
use Rattle.ook.specs.declared.Env.{Env}
use Rattle.ook.specs.declared.Train.{Train}
use Rattle.shared.specs.declared.Out.{Out}
use Rattle.ook.specs.Types.{Done}
use Rattle.fsk.specs.Types.{Frame}
use Rattle.frame_end.specs.Types.{Body}
use Rattle.presence.specs.declared.Pres.{Pres}
use Rattle.presence.specs.Types.{Snapped}
use Rattle.envelope.specs.declared.Seen.{Seen}
use Rattle.envelope.specs.Types.{Acted}
use Rattle.burst.specs.Types.{Burst}
use Rattle.burst.specs.Types.{Sampled}

abbrev pub burst_of : Float → Float → Env → C32 → Train → Out → ℕ → Pres → Frame → Out → Burst
burst_of high e_prev env pac train out_ook frames pres frame out_fsk =
    record {
      high = high;
      e_prev = e_prev;
      env = env;
      pac = pac;
      train = train;
      out_ook = out_ook;
      frames = frames;
      pres = pres;
      frame = frame;
      out_fsk = out_fsk;
    }

-- with the serials of its two records
abbrev pub with_serials : ℕ → ℕ → Burst → Burst
with_serials ook fsk b =
    burst_of b.high b.e_prev b.env b.pac b.train (numbered ook b.out_ook) b.frames b.pres b.frame (numbered fsk b.out_fsk)

-- after the confirmation: signal level, envelope, run, sums, train and record, and the start of presence and frame
abbrev pub with_acted : Float → Seen → Snapped → Acted → Burst → Burst
with_acted e s n d b = burst_of s.high e d.env s.pac d.train d.out b.frames n.pres n.frame b.out_fsk

-- what the end of a frame may change
abbrev pub body_in : Burst → Body
body_in b = record { frame = b.frame; train = b.train; frames = b.frames; out_ook = b.out_ook; out_fsk = b.out_fsk }

abbrev pub with_body : Pres → Body → Burst → Burst
with_body pres q b = burst_of b.high b.e_prev b.env b.pac q.train q.out_ook q.frames pres q.frame q.out_fsk

abbrev pub with_train : Train → Out → Burst → Burst
with_train train out_ook b = burst_of b.high b.e_prev b.env b.pac train out_ook b.frames b.pres b.frame b.out_fsk

-- after a carrier or the end of the burst: what is asked for, with the train and its record
abbrev pub done_in : Burst → Done → Sampled
done_in b d = record { next = d.next; burst = with_train d.train d.out b }
