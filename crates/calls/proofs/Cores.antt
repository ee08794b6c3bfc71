-- The lane that core and arrays stand for, before a loop over steps, in it, and where the ways out of it meet.
use Prim.Native.Nat.{ℕ, ◌≤◌}
use mathlib.Core.Bool.{true}
use mathlib.Core.Path.{◌≡◌, ap, sym, ◌∙◌, subst}
use mathlib.Core.List.{List}
use native.Mathlib.Omega.{arith}
use lib.Dec.{eqb}
use lib.Ieee.{Float}
use Rattle.arith.specs.Leaves.{lead_len_of}
use borrow.Author.Tests.{leb-true}
use Rattle.domain.specs.Limits.{max_serial}
use Rattle.refusals.proofs.Domain.{settings_tell}
use Rattle.step.specs.declared.Core.{Core}
use Rattle.lane.specs.declared.Lane.{Lane}
use Rattle.lane.specs.Answers.{Reply}
use Rattle.lane.specs.declared.StepArgs.{StepArgs}
use Rattle.step.specs.Core.{zip_of, reals_of, imaginaries_of, joined_of}
use Rattle.step.proofs.Zips.{zip_parts}
use Rattle.lane.proofs.Refusals.{lane_passes}
use Rattle.lane.specs.Serial.{stamp_of}
use Rattle.lane.specs.Step.{new_lane}
use Rattle.lane.specs.Idle.{idle_lane}
use Rattle.reached.specs.Reached.{Sound, unopened, within}
use Rattle.reached.proofs.Reached.{sound_ok, own_records}
use Rattle.shared.proofs.Tests.{clash}
use Rattle.calls.specs.Steps.{Went}

-- a sound lane's records have its serial, so that its core and arrays join to it
pub joined_back : (l : Lane) (c : Core) (es re im : List Float) → Sound l
    → ((re im : List Float) → zip_of re im ≡ l.lead.lead_x → joined_of c l.lead.lead_e re im l.ring l.burst.frame.cand.cand_f ≡ stamp_of l.serial l)
    → es ≡ l.lead.lead_e → re ≡ reals_of l.lead.lead_x → im ≡ imaginaries_of l.lead.lead_x
    → joined_of c es re im l.ring l.burst.frame.cand.cand_f ≡ l
joined_back l c es re im sound parts is_es is_re is_im =
    ap (λ (x : List Float). joined_of c x re im l.ring l.burst.frame.cand.cand_f) is_es
    ∙ parts re im (ap (λ (x : List Float). zip_of x im) is_re ∙ ap (zip_of (reals_of l.lead.lead_x)) is_im ∙ zip_parts l.lead.lead_x)
    ∙ own_records sound

-- the lead-in of a sound lane has a place at least
pub sound_lead : {l : Lane} → Sound l → eqb l.phase 1 ≡ true → 1 ≤ lead_len_of l.settings.min_steps
unfolding new_lane idle_lane
sound_lead unopened e = clash (sym e)
sound_lead {l} (within h) e = let d = settings_tell l.settings h.kept.domain in omega (arith, d.min_steps.0, d.min_steps.1)

pub sound_serial : {l : Lane} → Sound l → l.serial ≤ max_serial
sound_serial {l} h = leb-true l.serial max_serial (lane_passes l (sound_ok h)).counted

-- what is said of a lane, a place, a reply and the buffers is said of what they are equal to
pub met : (F : Lane → ℕ → Reply → List ℕ → List ℕ → Type 0) {c d : Core} {es es₁ re re₁ im im₁ ring ring₁ cs cs₁ : List Float} {ook ook₁ fsk fsk₁ : List ℕ} {used used₁ : ℕ} {r r₁ : Reply}
    → ook ≡ ook₁ → fsk ≡ fsk₁ → c ≡ d → es ≡ es₁ → re ≡ re₁ → im ≡ im₁ → ring ≡ ring₁ → cs ≡ cs₁ → used ≡ used₁ → r ≡ r₁
    → F (joined_of d es₁ re₁ im₁ ring₁ cs₁) used₁ r₁ ook₁ fsk₁ → F (joined_of c es re im ring cs) used r ook fsk
met F {c} {d} {es} {es₁} {re} {re₁} {im} {im₁} {ring} {ring₁} {cs} {cs₁} {ook} {ook₁} {fsk} {fsk₁} {used} {used₁} {r} {r₁} e₀ e₁ e₂ e₃ e₄ e₅ e₆ e₇ e₈ e₉ h =
    let lanes : joined_of c es re im ring cs ≡ joined_of d es₁ re₁ im₁ ring₁ cs₁ =
    ap (λ (x : Core). joined_of x es re im ring cs) e₂ ∙ ap (λ (x : List Float). joined_of d x re im ring cs) e₃ ∙ ap (λ (x : List Float). joined_of d es₁ x im ring cs) e₄
    ∙ ap (λ (x : List Float). joined_of d es₁ re₁ x ring cs) e₅ ∙ ap (λ (x : List Float). joined_of d es₁ re₁ im₁ x cs) e₆ ∙ ap (λ (x : List Float). joined_of d es₁ re₁ im₁ ring₁ x) e₇ in
    let l : Lane = joined_of d es₁ re₁ im₁ ring₁ cs₁ in
    subst (λ (x : Lane). F x used r ook fsk) (sym lanes)
    (subst (λ (x : List ℕ). F l used r x fsk) (sym e₀)
    (subst (λ (x : List ℕ). F l used r ook₁ x) (sym e₁) (subst (λ (x : ℕ). F l x r ook₁ fsk₁) (sym e₈) (subst (λ (x : Reply). F l used₁ x ook₁ fsk₁) (sym e₉) h))))

-- of the lanes themselves
pub of_lanes : {At : ℕ → StepArgs → Type 0} {size : ℕ} {l k m n : Lane} {ook₀ fsk₀ ook fsk : List ℕ} {from used : ℕ} {r : Reply} → k ≡ l → n ≡ m
    → Went At size (k, ook₀, fsk₀) from used r (m, ook, fsk) → Went At size (l, ook₀, fsk₀) from used r (n, ook, fsk)
of_lanes {At} {size} {l} {k} {m} {n} {ook₀} {fsk₀} {ook} {fsk} {from} {used} {r} e d h =
    subst (λ (x : Lane). Went At size (x, ook₀, fsk₀) from used r (n, ook, fsk)) e (subst (λ (x : Lane). Went At size (k, ook₀, fsk₀) from used r (x, ook, fsk)) (sym d) h)
