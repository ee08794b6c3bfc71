-- What the lane does in small lists of calls: how long it waits before it is idle.
use Rattle.std.specs.Prelude.{◌≡◌, List, [], ◌∷◌, ◌++◌, map, ℕ, ◌+◌, Ok}
use Rattle.shared.specs.declared.Settings.{Settings}
use Rattle.shared.specs.declared.Next.TheVariants.{Stay}
use Rattle.refusals.specs.declared.Refusal.{Refusal}
use Rattle.pulses.specs.Yardstick.{Call, opening, Yardstick, unused}
use Rattle.pulses.specs.Demand.{Program}
use Rattle.pulses.specs.Lists.{settings, slots, first, lo, shut, los, his}
use Rattle.pulses.specs.Hollow.{silent, with_steps, opens_with}
use Rattle.quiet.specs.Quiet.{wait, shortest, last_high, counted, idle_by}

-- after a list: the samples that the calls of the last burst have brought, the number of the last high one of its record, R-9's bound, the least one,
-- and the phase: 0 idle, 1 lead, 2 burst
abbrev Shown : Type 0
Shown = ℕ × ℕ × ℕ × ℕ × ℕ

unfoldable pub shown : List Call → Shown
shown cs =
    let r : Yardstick × ℕ = counted (unused, 0) cs in
    let p : Settings = r.0.lane.settings in
    let last : ℕ = last_high r.0.recorded in (r.1, last, idle_by wait p last, idle_by shortest p last, r.0.lane.phase)

-- settings with these min_steps and gap_steps; a burst without a pulse waits as long
abbrev pub opens : ℕ → ℕ → List Call
opens min gap = opening (with_steps min gap gap (settings 0 4 1000)) ∷ []

-- a begin, so many high samples and so many low ones
abbrev pub pulse : ℕ → ℕ → List Call
pulse high low = first 10 (slots 8) ∷ his 11 high ++ los (11 + high) low

-- with a call that is refused between any two of the low ones: a step whose index is not the next, a begin, an opening outside the domain
abbrev interrupted : List Call
interrupted = pulse 4 1 ++ lo 15 ∷ lo 16 ∷ first 17 (slots 8) ∷ lo 17 ∷ lo 19 ∷ lo 18 ∷ opening (with_steps 0 4 4 (settings 0 4 1000)) ∷ []

abbrev pub table : List (List Call × Shown)
table =
    -- min_steps below gap_steps
    (opens 2 4 ++ pulse 4 4, (9, 5, 10, 10, 2))
    ∷ (opens 2 4 ++ pulse 4 5, (10, 5, 10, 10, 0))
    ∷ (opens 2 4 ++ interrupted, (9, 5, 10, 10, 2))
    ∷ (opens 2 4 ++ interrupted ++ lo 19 ∷ [], (10, 5, 10, 10, 0))
    -- min_steps above gap_steps: idle comes one call before R-9's bound
    ∷ (opens 3 2 ++ pulse 8 2, (11, 9, 13, 12, 2))
    ∷ (opens 3 2 ++ pulse 8 3, (12, 9, 13, 12, 0))
    -- as many: R-9's bound and the least are the same
    ∷ (opens 3 3 ++ pulse 8 3, (12, 9, 13, 13, 2))
    ∷ (opens 3 3 ++ pulse 8 4, (13, 9, 13, 13, 0))
    -- in lead, with quiet enough in the lead-in: the call that fills it answers idle
    ∷ (opens 4 4 ++ pulse 4 9, (14, 0, 15, 15, 1))
    ∷ (opens 4 4 ++ pulse 4 10, (15, 5, 15, 15, 0))
    -- no sample is high
    ∷ (opens 2 4 ++ pulse 0 5, (6, 0, 7, 7, 1))
    ∷ (opens 2 4 ++ pulse 0 6, (7, 0, 7, 7, 0))
    -- a close, and a burst after it
    ∷ (opens 2 4 ++ pulse 4 2 ++ shut ∷ [], (7, 5, 10, 10, 0))
    ∷ (opens 2 4 ++ pulse 4 2 ++ shut ∷ pulse 4 4, (9, 5, 10, 10, 2))
    ∷ []

abbrev pub Right : List (List Call × Shown) → Type 0
Right rows = map (λ (r : List Call × Shown). shown r.0) rows ≡ map (λ (r : List Call × Shown). r.1) rows

-- ---- programs that do not end a burst in time
-- it stays for ever
abbrev pub deaf : Program
deaf = silent {E = Refusal} (Ok Stay)

-- it waits one sample longer than its settings say
unfoldable pub late : Program
late = opens_with (λ p. with_steps p.min_steps (p.gap_steps + 1) (p.pre_timeout + 1) p)
