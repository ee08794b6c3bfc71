-- `sample` (source document 000), all three modes: level and run of the envelope, confirmation, presence, the end of the burst.
use Rattle.std.specs.Prelude.{ℕ, Bool, cond, List, ◌==◌, Float}
use Rattle.shared.specs.Answers.{is_stay_of}
use Rattle.shared.specs.declared.Settings.{Settings}
use Rattle.ook.specs.Types.{Done}
use Rattle.fsk.specs.Types.{Frame}
use Rattle.presence.specs.Presence.{snap_of, presence_of}
use Rattle.presence.specs.declared.Pres.{Pres}
use Rattle.presence.specs.declared.Inputs.{Inputs}
use Rattle.presence.specs.Types.{Snapped}
use Rattle.presence.specs.Types.{Present}
use Rattle.envelope.specs.See.{see_of}
use Rattle.envelope.specs.Act.{act_of}
use Rattle.envelope.specs.Tail.{tail_of}
use Rattle.envelope.specs.declared.At.{At}
use Rattle.envelope.specs.declared.Seen.{Seen}
use Rattle.envelope.specs.Types.{Acted}
use Rattle.envelope.specs.declared.Absence.{Absence}
use Rattle.burst.specs.Makers.{with_acted, body_in, with_body, with_train}
use Rattle.burst.specs.Types.{Burst}
use Rattle.burst.specs.Types.{Sampled}

-- begin_run of the envelope at a rise: its edge may be the better start of presence and frame
unfoldable pub snap_if_of : Bool → Bool → Float → Pres → Frame → Snapped
snap_if_of began on tc pres frame = cond began (cond on (snap_of pres frame tc) (record { pres = pres; frame = frame })) (record { pres = pres; frame = frame })

-- a carrier, or the end of the burst
abbrev pub absence_of : Burst → Absence
absence_of b = record { frames = b.frames; p_level = b.pres.run.level; p_confirmed = b.pres.run.confirmed }

abbrev pub sampled_by : Burst → List ℕ → Done × List ℕ → Sampled × List ℕ × List ℕ
sampled_by b fsk q = (record { next = q.0.next; burst = with_train q.0.train q.0.out b }, q.1, fsk)

unfoldable pub last_of : Settings → Bool → Float → Burst → List ℕ → List ℕ → Sampled × List ℕ × List ℕ
last_of p on e b ook fsk = sampled_by b fsk (tail_of p on e b.env.run (absence_of b) b.high b.train b.out_ook ook)

-- presence between the confirmation and the end; ep is the envelope before this sample
abbrev pub inputs_of : At → Float → Seen → Burst → Inputs
inputs_of a ep s b =
    record {
      idx = a.idx;
      noise = a.noise;
      e = a.e;
      ep = ep;
      d = s.d;
      high = s.high;
      pac = s.pac;
      level = b.env.run.level;
      c_run = b.env.c_run;
    }

abbrev pub present_by : Settings → At → Seen → Burst → Present × List ℕ × List ℕ → Sampled × List ℕ × List ℕ
present_by p a s b r =
    cond (is_stay_of r.0.next)
    (last_of p s.on a.e (with_body r.0.pres r.0.body b) r.1 r.2)
    (record { next = r.0.next; burst = with_body r.0.pres r.0.body b }, r.1, r.2)

unfoldable pub present_of : Settings → At → Float → Seen → Burst → List ℕ → List ℕ → Sampled × List ℕ × List ℕ
present_of p a ep s b ook fsk = present_by p a s b (presence_of p (inputs_of a ep s b) b.pres (body_in b) ook fsk)

-- in OOK mode (0) there is no presence
unfoldable pub rest_of : Settings → At → Float → Seen → Burst → List ℕ → List ℕ → Sampled × List ℕ × List ℕ
rest_of p a ep s b ook fsk = cond (p.mode == 0) (last_of p s.on a.e b ook fsk) (present_of p a ep s b ook fsk)

abbrev pub acted_by : Settings → At → Burst → Seen → Snapped → List ℕ → Acted × List ℕ → Sampled × List ℕ × List ℕ
acted_by p a b s n fsk q =
    cond (is_stay_of q.0.next)
    (rest_of p a b.e_prev s (with_acted a.e s n q.0 b) q.1 fsk)
    (record { next = q.0.next; burst = with_acted a.e s n q.0 b }, q.1, fsk)

abbrev pub seen_by : Settings → At → Burst → List ℕ → List ℕ → Seen → Sampled × List ℕ × List ℕ
seen_by p a b ook fsk s = acted_by p a b s (snap_if_of s.began s.on s.env.c_run b.pres b.frame) fsk (act_of p s b.train b.out_ook ook)

unfoldable pub sample_of : Settings → At → List Float → Burst → List ℕ → List ℕ → Sampled × List ℕ × List ℕ
sample_of p a ring b ook fsk = seen_by p a b ook fsk (see_of p a ring b.high b.e_prev b.env b.pac)
