-- Settings that pass are in the domain: each range with both its ends.
use Prim.Native.Nat.{ℕ, ◌≤◌}
use mathlib.Core.Bool.{Bool, true, ◌&&◌}
use mathlib.Core.Path.{◌≡◌}
use lib.Dec.{leb}
use borrow.Author.Tests.{leb-true}
use Rattle.domain.specs.Limits.{most_pulses, max_steps}
use Rattle.ieee.specs.Constants.{zero32, one32}
use Rattle.shared.specs.declared.Settings.{Settings}
use Rattle.shared.proofs.Tests.{both_true, six_true}
use Rattle.refusals.specs.Domain.{within, between, million32, settings_ok}

-- the ranges of the whole numbers, one by one
pub record InDomain (p : Settings) : Type 0 where
  pub mode : p.mode ≤ 2
  pub min_steps : (1 ≤ p.min_steps) × (p.min_steps ≤ max_steps)
  pub gap_steps : (1 ≤ p.gap_steps) × (p.gap_steps ≤ max_steps)
  pub pre_timeout : (1 ≤ p.pre_timeout) × (p.pre_timeout ≤ p.gap_steps)
  pub long_steps : (1 ≤ p.long_steps) × (p.long_steps ≤ max_steps)
  pub max_pulses : (1 ≤ p.max_pulses) × (p.max_pulses ≤ most_pulses)
  pub carry_flag : p.carry ≤ 1

within_tells : (lo hi n : ℕ) → within lo hi n ≡ true → (lo ≤ n) × (n ≤ hi)
within_tells lo hi n q = let t : (leb lo n ≡ true) × (leb n hi ≡ true) = both_true (leb lo n) (leb n hi) q in (leb-true lo n t.0, leb-true n hi t.1)

-- of the first ten checks the first six, for the whole numbers
first_six : (a b c d e f g h i j : Bool) → (a && b && c && d && e && f && g && h && i && j) ≡ true → (a && b && c && d && e && f) ≡ true
first_six a b c d e f g h i j q = (both_true (a && b && c && d && e && f) g (both_true (a && b && c && d && e && f && g) h (both_true (a && b && c && d && e && f && g && h) i (both_true (a && b && c && d && e && f && g && h && i) j q).0).0).0).0

pub settings_tell : (p : Settings) → settings_ok p ≡ true → InDomain p
unfolding settings_ok
settings_tell p q =
    let a : Bool = leb p.mode 2 in
    let b : Bool = within 1 max_steps p.min_steps in
    let c : Bool = within 1 max_steps p.gap_steps in
    let d : Bool = within 1 p.gap_steps p.pre_timeout in
    let e : Bool = within 1 max_steps p.long_steps in
    let f : Bool = within 1 most_pulses p.max_pulses in
    let g : Bool = between zero32 one32 p.alpha in
    let h : Bool = between zero32 million32 p.gap_ratio in
    let i : Bool = between zero32 million32 p.fsk_delta in
    let j : Bool = between zero32 million32 p.fsk_split in
    let k = both_true (a && b && c && d && e && f && g && h && i && j) (leb p.carry 1) q in
    let t : (a ≡ true) × (b ≡ true) × (c ≡ true) × (d ≡ true) × (e ≡ true) × (f ≡ true) = six_true a b c d e f (first_six a b c d e f g h i j k.0) in
    record {
      mode = leb-true p.mode 2 t.0;
      min_steps = within_tells 1 max_steps p.min_steps t.1;
      gap_steps = within_tells 1 max_steps p.gap_steps t.2;
      pre_timeout = within_tells 1 p.gap_steps p.pre_timeout t.3;
      long_steps = within_tells 1 max_steps p.long_steps t.4;
      max_pulses = within_tells 1 most_pulses p.max_pulses t.5;
      carry_flag = leb-true p.carry 1 k.1;
    }
