-- Document 02, R-9: "In OOK mode, in every list of demand 3, if max(min_steps, gap_steps) + 1 successive samples of an accepted burst are all
-- low, the burst has ended by the last of them, or by the call that fills the lead if that comes later." `QuietEnds wait` says it of a program and of
-- the call whose answer it is, `WaitKnown wait` counts the calls. Lists, programs, samples and their levels are demand 3's (crate pulses).
use Rattle.std.specs.Prelude.{◌≡◌, Result, Bool, true, false, ◌||◌, List, [], ◌∷◌, ℕ, suc, ◌+◌, ◌-◌, ◌<◌, max, leb, eqb, length}
use Rattle.arith.specs.Leaves.{lead_len_of}
use Rattle.shared.specs.declared.Settings.{Settings}
use Rattle.shared.specs.declared.Next.{Next}
use Rattle.lane.specs.Answers.{reply_number_of}
use Rattle.pulses.specs.Runs.{Sample, sample}
use Rattle.pulses.specs.Yardstick.{lent, Call, opening, begin, step, close, Yardstick, unused, accepts, advanced, handed_on}
use Rattle.pulses.specs.Demand.{Program, Place, start, after}

-- ---- low samples
-- "max(min_steps, gap_steps) + 1": so many low samples in a row end a burst. In burst each accepted step brings one.
abbrev pub wait : Settings → ℕ
wait p = max p.min_steps p.gap_steps + 1

-- Fewer do where min_steps is the larger: a low run of min_steps samples counts, and one that counts and is longer than gap_steps ends the burst.
abbrev pub shortest : Settings → ℕ
shortest p = max p.min_steps (p.gap_steps + 1)

module _ {E : Type 0} where
  -- how many low samples stand at the end of a record, where n stand right before it
  unfoldable pub lows_from : ℕ → List (Sample E) → ℕ
  lows_from n [] = n
  lows_from n (sample true e ∷ xs) = lows_from 0 xs
  lows_from n (sample false e ∷ xs) = lows_from (suc n) xs

  -- "successive samples .. are all low": whether w in a row are so anywhere in a record, where n stand right before it
  unfoldable pub quiet_from : ℕ → ℕ → List (Sample E) → Bool
  quiet_from w n [] = false
  quiet_from w n (sample true e ∷ xs) = quiet_from w 0 xs
  quiet_from w n (sample false e ∷ xs) = leb w (suc n) || quiet_from w (suc n) xs

  abbrev pub lows : List (Sample E) → ℕ
  lows xs = lows_from 0 xs

  abbrev pub quiet : ℕ → List (Sample E) → Bool
  quiet w xs = quiet_from w 0 xs

  -- the number of the last high sample of a record, begin's sample being number 1; 0 where none is high
  abbrev pub last_high : List (Sample E) → ℕ
  last_high xs = length xs - lows xs

-- ---- of a program: the call whose answer it is
-- "the burst has ended": the answer is idle or idle-at, numbers 1 and 2
abbrev pub idles : {E : Type 0} → Result Next E → Bool
idles r = eqb (reply_number_of r) 1 || eqb (reply_number_of r) 2

-- a burst in OOK mode (0) in whose record so many low samples as w says are in a row
abbrev pub Silent : (Settings → ℕ) → Yardstick → Type 0
Silent w y = (y.lane.settings.mode ≡ 0) × (quiet (w y.lane.settings) y.recorded ≡ true)

module _ (w : Settings → ℕ) (W : Program) where
  -- An accepted step after which that is so answers that the burst has ended. In lead the record is empty; the call that fills the lead brings the
  -- samples of its replay.
  unfoldable pub EndsBy : Place W → Call → Type 0
  EndsBy k (opening p) = Unit {0}
  EndsBy k (begin b ook fsk) = Unit {0}
  EndsBy k (step s o fsk) =
      accepts k.yard (step s o fsk) ≡ true → Silent w (advanced true k.yard (step s o fsk)) → idles (W.step k.lane s (lent o k.ook) fsk).reply ≡ true
  EndsBy k (close o fsk) = Unit {0}

  unfoldable pub EachEnds : Place W → List Call → Type 0
  EachEnds k [] = Unit {0}
  EachEnds k (c ∷ cs) = EndsBy k c × EachEnds (after W (accepts k.yard c) k c) cs

  -- in every list of demand 3, refused calls in between included
  unfoldable pub QuietEnds : Type 0
  QuietEnds = (cs : List Call) → handed_on unused cs ≡ true → EachEnds (start W) cs

-- ---- the wait in calls
-- How many samples the calls of the last burst have brought, n before the call c: "Its samples are begin's, then one for each accepted step."
unfoldable pub brought : Bool → ℕ → Call → ℕ
brought false n c = n
brought true n (opening p) = 0
brought true n (begin b ook fsk) = 1
brought true n (step s o fsk) = n + 1
brought true n (close o fsk) = n

-- the yardstick after a list of calls, and that number
unfoldable pub counted : Yardstick × ℕ → List Call → Yardstick × ℕ
counted y [] = y
counted y (c ∷ cs) = let a : Bool = accepts y.0 c in counted (advanced a y.0 c, brought a y.1 c) cs

module _ (w : Settings → ℕ) where
  -- The bound: where the sample number `last` was high and no later one, idle has come by the call that brings this sample: w accepted steps after
  -- it, or the step that fills the lead if that comes later.
  abbrev pub idle_by : Settings → ℕ → ℕ
  idle_by p last = max (last + w p) (lead_len_of p.min_steps)

  -- As long as a burst is under way in OOK mode (the phase is not idle, 0), its calls have brought fewer samples than that.
  unfoldable pub Waits : Yardstick × ℕ → Type 0
  Waits y = (y.0.lane.phase ≡ 0 → ⊥) → y.0.lane.settings.mode ≡ 0 → y.1 < idle_by y.0.lane.settings (last_high y.0.recorded)

  unfoldable pub WaitKnown : Type 0
  WaitKnown = (cs : List Call) → Waits (counted (unused, 0) cs)
