-- The core of a lane: the lane but for its arrays, which are lent. What core and arrays stand for together is a lane of a caller.
use Rattle.std.specs.Prelude.{ℕ, List, [], ◌∷◌, map, Float}
use Rattle.arith.specs.declared.C32.{C32}
use Rattle.envelope.specs.declared.At.{At}
use Rattle.fsk.specs.declared.FrameOf.{FrameOf}
use Rattle.burst.specs.declared.BurstOf.{BurstOf}
use Rattle.burst.specs.Core.{whole_burst}
use Rattle.burst.specs.Makers.{with_serials}
use Rattle.burst.specs.declared.Lead.{Lead}
use Rattle.step.specs.declared.Core.{Core}
use Rattle.lane.specs.declared.StepArgs.{StepArgs}
use Rattle.lane.specs.declared.Lane.{Lane}

-- the samples of the lead-in, whose real and imaginary parts are two arrays
unfoldable pub zip_of : List Float → List Float → List C32
zip_of [] im = []
zip_of (r ∷ re) [] = []
zip_of (r ∷ re) (i ∷ im) = record { re = r; im = i } ∷ zip_of re im

-- and the two arrays of such samples
abbrev pub reals_of : List C32 → List Float
reals_of xs = map (λ (x : C32). x.re) xs

abbrev pub imaginaries_of : List C32 → List Float
imaginaries_of xs = map (λ (x : C32). x.im) xs

-- the lead-in
abbrev pub lead_in : ℕ → ℕ → List Float → List Float → List Float → Lead
lead_in lead_at lead_n es re im = record { lead_at = lead_at; lead_n = lead_n; lead_e = es; lead_x = zip_of re im }

-- the lane, whose records have its serial: from the core, the lead-in's envelopes and samples, the ring and the candidates
abbrev pub joined_of : Core → List Float → List Float → List Float → List Float → List Float → Lane
joined_of c es re im ring cs =
    record {
      opened = c.opened;
      settings = c.settings;
      phase = c.phase;
      last = c.last;
      x_prev = c.x_prev;
      lead = lead_in c.lead_at c.lead_n es re im;
      ring = ring;
      burst = with_serials c.serial c.serial (whole_burst cs c.burst);
      serial = c.serial;
    }

-- a frame with other candidates
abbrev pub with_cand : {C D : Type 0} → D → FrameOf C → FrameOf D
with_cand cand f = record { tone = f.tone; fsk_phase = f.fsk_phase; mean = f.mean; cand = cand; early = f.early; levels = f.levels; runs = f.runs; done = f.done }

-- a burst with another frame and other records
abbrev pub with_frame : {C D O P : Type 0} → FrameOf D → P → P → BurstOf C O → BurstOf D P
with_frame frame out_ook out_fsk b =
    record {
      high = b.high;
      e_prev = b.e_prev;
      env = b.env;
      pac = b.pac;
      train = b.train;
      out_ook = out_ook;
      frames = b.frames;
      pres = b.pres;
      frame = frame;
      out_fsk = out_fsk;
    }

-- what a sample of the call reads
abbrev pub at_call : ℕ → C32 → StepArgs → At
at_call lead_at x_prev s = record { idx = s.index; lead_at = lead_at; noise = s.noise; e = s.envelope; x = s.x; xp = x_prev }
