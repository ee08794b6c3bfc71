-- The calls of document 01: the lane that never had settings, opening, begin and step; and document 02's close (R-13). A refusal returns its reason alone and changes nothing.
use Rattle.std.specs.Prelude.{ℕ, List, length, ⊤, Result, Ok, Err}
use Rattle.shared.specs.declared.Next.TheVariants as next
use Rattle.shared.specs.declared.Settings.{Settings}
use Rattle.refusals.specs.declared.Refusal.{Refusal}
use Rattle.lane.specs.declared.BeginArgs.{BeginArgs}
use Rattle.lane.specs.declared.StepArgs.{StepArgs}
use Rattle.lane.specs.declared.Lane.{Lane}
use Rattle.lane.specs.declared.Answer.{Answer}
use Rattle.lane.specs.Refusals.{open_refusal, begin_refusal, step_refusal, close_refusal}
use Rattle.lane.specs.Idle.{idle_lane, no_settings}
use Rattle.lane.specs.Begin.{lead_lane}
use Rattle.lane.specs.Advance.{advance_of}
use Rattle.lane.specs.Close.{close_of}
use Rattle.lane.specs.Serial.{stamped, stamped_with}

abbrev pub refuse : Refusal → Lane → Answer
refuse k l = record { reply = Err k; lane = l }

abbrev pub stay : Lane → Answer
stay l = record { reply = Ok next.Stay; lane = l }

unfoldable pub new_lane : Lane
new_lane = idle_lane 0 no_settings

-- a where the checks pass, and what r says of the refusal where one fails
abbrev pub unless_refused : {A : Type 0} → Result ⊤ Refusal → A → (Refusal → A) → A
unless_refused (Ok _) a r = a
unless_refused (Err k) a r = r k

-- opening puts a new lane in place of any other, and goes on from its serial
abbrev pub opened_by : Result ⊤ Refusal → Lane → Settings → Answer
opened_by k l p = unless_refused k (stamped l (stay (idle_lane 1 p))) (λ r. refuse r l)

unfoldable pub opened : Lane → Settings → Answer
opened l p = opened_by (open_refusal l p) l p

-- begin writes to neither buffer
abbrev pub begun_by : Result ⊤ Refusal → Lane → BeginArgs → Answer
begun_by k l b = unless_refused k (stamped l (stay (lead_lane l b))) (λ r. refuse r l)

unfoldable pub begun : Lane → BeginArgs → List ℕ → List ℕ → Answer
begun l b ook fsk = begun_by (begin_refusal l b (length ook) (length fsk)) l b

-- the answer, the OOK buffer and the FSK buffer
abbrev pub stepped_by : Result ⊤ Refusal → Lane → StepArgs → List ℕ → List ℕ → Answer × List ℕ × List ℕ
stepped_by k l s ook fsk = unless_refused k (stamped_with l (advance_of l s ook fsk)) (λ r. (refuse r l, ook, fsk))

unfoldable pub stepped : Lane → StepArgs → List ℕ → List ℕ → Answer × List ℕ × List ℕ
stepped l s ook fsk = stepped_by (step_refusal l s (length ook) (length fsk)) l s ook fsk

-- close writes to the OOK buffer alone
abbrev pub closed_by : Result ⊤ Refusal → Lane → List ℕ → List ℕ → Answer × List ℕ × List ℕ
closed_by k l ook fsk = unless_refused k (stamped_with l (close_of l ook fsk)) (λ r. (refuse r l, ook, fsk))

unfoldable pub closed : Lane → List ℕ → List ℕ → Answer × List ℕ × List ℕ
closed l ook fsk = closed_by (close_refusal l (length ook) (length fsk)) l ook fsk
