-- `begin_burst` and `lead` (source document 000): the lead-in fills, and once it is full its samples are replayed.
use Rattle.std.specs.Prelude.{ℕ, zero, suc, ◌+◌, ◌%◌, ◌^◌, cond, List, get_or, pos, slice_index_or, slice_set, Float}
use Rattle.std.specs.Float.{nan, binary64}
use Rattle.std.specs.Float.Ieee.{lt, of_int}
use Rattle.ieee.specs.Constants.{zero32}
use Rattle.arith.specs.Leaves.{lead_len_of}
use Rattle.arith.specs.declared.C32.{C32}
use Rattle.shared.specs.Counts.{inc, zero_c32}
use Rattle.shared.specs.Answers.{is_stay_of}
use Rattle.run.specs.Run.{start_run_of}
use Rattle.ook.specs.Run.{begin_env_of}
use Rattle.ook.specs.Train.{empty_train_of}
use Rattle.shared.specs.declared.Settings.{Settings}
use Rattle.shared.specs.declared.Next.TheVariants.{Stay}
use Rattle.presence.specs.Move.{pres_of}
use Rattle.presence.specs.declared.Pres.{Pres}
use Rattle.envelope.specs.declared.At.{At}
use Rattle.burst.specs.Makers.{burst_of}
use Rattle.burst.specs.Sample.{sample_of}
use Rattle.burst.specs.Types.{Burst}
use Rattle.burst.specs.declared.Lead.{Lead}
use Rattle.burst.specs.Types.{Sampled}

-- a sample goes into the lead-in: lead_x[0] is the sample before the first, so that it has one place more
unfoldable pub lead_add_of : Lead → Float → C32 → Lead
lead_add_of l e x =
    record {
      lead_at = l.lead_at;
      lead_n = inc l.lead_n;
      lead_e = slice_set l.lead_e l.lead_n e;
      lead_x = slice_set l.lead_x (l.lead_n + 1) x;
    }

-- the signal level: the largest envelope of the lead-in, from the k places from i on and from m
unfoldable pub largest_from : List Float → ℕ → ℕ → Float → Float
largest_from lead_e zero i m = m
largest_from lead_e (suc k) i m = largest_from lead_e k (i + 1) (cond (lt m (get_or lead_e i nan)) (get_or lead_e i nan) m)

abbrev pub largest_of : List Float → ℕ → Float
largest_of lead_e len = largest_from lead_e len 0 zero32

-- begin_burst: no pulse and no presence yet, at the time t; the records, the frame, ref_idx, ref_pending and p_factor stay
abbrev pub begin_pres_of : Float → Pres → Pres
begin_pres_of t s = pres_of (start_run_of t) s.p_factor

unfoldable pub begin_burst_of : Float → Float → Float → Burst → Burst
begin_burst_of high t e b = burst_of high e (begin_env_of t b.env) zero_c32 (empty_train_of b.train) b.out_ook 0 (begin_pres_of t b.pres) b.frame b.out_fsk

-- the sample at place i of the lead-in; the arrays have 16 and 17 places, so that a default is never read
unfoldable pub lead_at_of : Float → Lead → ℕ → At
lead_at_of noise l i =
    record {
      idx = (l.lead_at + i) % 2 ^ 64;
      lead_at = l.lead_at;
      noise = noise;
      e = slice_index_or l.lead_e i nan;
      x = slice_index_or l.lead_x (i + 1) (record { re = nan; im = nan });
      xp = slice_index_or l.lead_x i (record { re = nan; im = nan });
    }

-- one sample more, unless the burst has ended
abbrev pub onward : Settings → At → List Float → Sampled × List ℕ × List ℕ → Sampled × List ℕ × List ℕ
onward p a ring s = cond (is_stay_of s.0.next) (sample_of p a ring s.0.burst s.1 s.2) s

-- the k places from i on
unfoldable pub replay_from : Settings → Float → List Float → Lead → ℕ → ℕ → Sampled × List ℕ × List ℕ → Sampled × List ℕ × List ℕ
replay_from p noise ring l zero i s = s
replay_from p noise ring l (suc k) i s = replay_from p noise ring l k (i + 1) (onward p (lead_at_of noise l i) ring s)

abbrev pub staying : Burst → List ℕ → List ℕ → Sampled × List ℕ × List ℕ
staying b ook fsk = (record { next = Stay; burst = b }, ook, fsk)

unfoldable pub replay_of : Settings → Float → List Float → Lead → Burst → List ℕ → List ℕ → Sampled × List ℕ × List ℕ
replay_of p noise ring l b ook fsk = replay_from p noise ring l (lead_len_of p.min_steps) 0 (staying b ook fsk)

-- the lead-in is full: the burst begins, and the samples are replayed with the noise of the call that filled it
unfoldable pub lead_full_of : Settings → Float → List Float → Lead → Burst → List ℕ → List ℕ → Sampled × List ℕ × List ℕ
lead_full_of p noise ring l b ook fsk =
    replay_of p noise ring l
    (begin_burst_of (largest_of l.lead_e (lead_len_of p.min_steps)) (of_int binary64 (pos l.lead_at)) (slice_index_or l.lead_e 0 nan) b)
    ook fsk
