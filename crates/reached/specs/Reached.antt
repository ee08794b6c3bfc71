-- The lanes that calls hand back, from the lane that never had settings on, pass refusal 4's check: so no list of calls meets refusal 4.
use Rattle.std.specs.Prelude.{ℕ, ◌+◌, ◌<◌, ◌≤◌, true, ◌≡◌, List}
use Rattle.domain.specs.Limits.{max_index, spent_serial}
use Rattle.arith.specs.Leaves.{lead_len_of}
use Rattle.shared.specs.declared.Settings.{Settings}
use Rattle.refusals.specs.Domain.{settings_ok}
use Rattle.reached.specs.Limits.{BurstWithin, UnderWay}
use Rattle.lane.specs.declared.BeginArgs.{BeginArgs}
use Rattle.lane.specs.declared.StepArgs.{StepArgs}
use Rattle.lane.specs.declared.Lane.{Lane}
use Rattle.lane.specs.Step.{new_lane, opened, begun, stepped, closed}

-- A lane that a list of calls hands back.
pub data Reached : Lane → Type 0 where
  new : Reached new_lane
  opening : {l : Lane} → Reached l → (p : Settings) → Reached (opened l p).lane
  beginning : {l : Lane} → Reached l → (b : BeginArgs) (ook fsk : List ℕ) → Reached (begun l b ook fsk).lane
  stepping : {l : Lane} → Reached l → (s : StepArgs) (ook fsk : List ℕ) → Reached (stepped l s ook fsk).0.lane
  closing : {l : Lane} → Reached l → (ook fsk : List ℕ) → Reached (closed l ook fsk).0.lane

-- a lane with settings of the domain, and what its calls keep of it
pub record Kept (l : Lane) : Type 0 where
  pub had : l.opened ≡ 1
  pub domain : settings_ok l.settings ≡ true
  pub held : BurstWithin l.settings l.burst
  pub going : l.phase ≡ 2 → UnderWay l.settings l.burst
  pub named : l.phase ≤ 2
  pub filled : l.phase ≡ 1 → l.lead.lead_n < lead_len_of l.settings.min_steps
  pub from : l.lead.lead_at ≤ max_index
  pub near : l.last ≤ max_index

-- the serial n where the last index is this (R-6, R-13): a begin takes it to spent_serial at most, each step raises it and the index by 1, and a
-- close, which ends the burst, raises it alone
pub record Counts (phase last n : ℕ) : Type 0 where
  pub busy : (phase ≡ 0 → ⊥) → n ≤ spent_serial + last
  pub idle : n ≤ spent_serial + last + 1

-- and of its serial, which the records have too
pub record Within (l : Lane) : Type 0 where
  pub kept : Kept l
  pub counted : Counts l.phase l.last l.serial
  pub own_ook : l.burst.out_ook.serial ≡ l.serial
  pub own_fsk : l.burst.out_fsk.serial ≡ l.serial

-- the lane that never had settings, or one of those
pub data Sound : Lane → Type 0 where
  unopened : Sound new_lane
  within : {l : Lane} → Within l → Sound l
