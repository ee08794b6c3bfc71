-- The burst of the core: its records and its frame stand for whole ones (ook, fsk: specs/Core). The samples of a call, one or those of the
-- lead-in, which the code takes in one loop.
use Rattle.std.specs.Prelude.{ℕ, zero, suc, ◌+◌, ◌%◌, ◌^◌, Bool, cond, List, ◌==◌, slice_index_or, Float}
use Rattle.std.specs.Float.{nan}
use Rattle.shared.specs.Core.{whole_out}
use Rattle.shared.specs.declared.Settings.{Settings}
use Rattle.fsk.specs.Core.{whole_frame}
use Rattle.presence.specs.Presence.{presence_of}
use Rattle.presence.specs.Types.{Present}
use Rattle.envelope.specs.declared.At.{At}
use Rattle.envelope.specs.declared.Seen.{Seen}
use Rattle.burst.specs.Makers.{burst_of, body_in, with_body}
use Rattle.burst.specs.Sample.{inputs_of}
use Rattle.burst.specs.Lead.{onward, staying}
use Rattle.burst.specs.Types.{Burst}
use Rattle.burst.specs.Types.{BurstCore}
use Rattle.burst.specs.Types.{Sampled}
use Rattle.burst.specs.Types.{SampledCore}

-- the burst of a caller's lane, from that of the core and the candidates
abbrev pub whole_burst : List Float → BurstCore → Burst
whole_burst cs b =
    burst_of b.high b.e_prev b.env b.pac b.train (whole_out b.out_ook) b.frames b.pres (whole_frame cs b.frame) (whole_out b.out_fsk)

abbrev pub whole_sampled : List Float → SampledCore → Sampled
whole_sampled cs s = record { next = s.next; burst = whole_burst cs s.burst }

-- what presence leaves of a burst; in OOK mode (0) there is none, and the burst stays
abbrev pub beside_by : Burst → Present × List ℕ × List ℕ → Sampled × List ℕ × List ℕ
beside_by b r = (record { next = r.0.next; burst = with_body r.0.pres r.0.body b }, r.1, r.2)

unfoldable pub beside_of : Settings → At → Float → Seen → Burst → List ℕ → List ℕ → Sampled × List ℕ × List ℕ
beside_of p a ep s b ook fsk = cond (p.mode == 0) (staying b ook fsk) (beside_by b (presence_of p (inputs_of a ep s b) b.pres (body_in b) ook fsk))

-- the sample at place i of the lead-in, from the arrays of its envelopes and of its samples' real and imaginary parts
abbrev pub replay_at : At → List Float → List Float → List Float → ℕ → At
replay_at q es re im i =
    record {
      idx = (q.lead_at + i) % 2 ^ 64;
      lead_at = q.lead_at;
      noise = q.noise;
      e = slice_index_or es i nan;
      x = record { re = slice_index_or re (i + 1) nan; im = slice_index_or im (i + 1) nan };
      xp = record { re = slice_index_or re i nan; im = slice_index_or im i nan };
    }

-- that one in a replay, and else the sample of the call
unfoldable pub at_in_of : Bool → At → List Float → List Float → List Float → ℕ → At
at_in_of replays q es re im i = cond replays (replay_at q es re im i) q

-- the k samples from i on; an answer other than stay is the last
unfoldable pub samples_from : Settings → (ℕ → At) → List Float → ℕ → ℕ → Sampled × List ℕ × List ℕ → Sampled × List ℕ × List ℕ
samples_from p at ring zero i s = s
samples_from p at ring (suc k) i s = samples_from p at ring k (i + 1) (onward p (at i) ring s)

abbrev pub samples_of : Settings → (ℕ → At) → List Float → ℕ → Burst → List ℕ → List ℕ → Sampled × List ℕ × List ℕ
samples_of p at ring n b ook fsk = samples_from p at ring n 0 (staying b ook fsk)
