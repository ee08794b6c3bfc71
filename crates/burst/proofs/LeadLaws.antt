-- Laws of the definitions in specs/Lead.
use Rattle.std.proofs.Common.{◌≡◌, ℕ, zero, suc, ◌+◌, ◌≤◌, false, cond, List, length, take, drop, refl, sym, ap, ◌∙◌, arith}
use Rattle.std.specs.List.{fold}
use Rattle.std.proofs.lemmas.List.{drop_more}
use Rattle.std.proofs.Math.Seq.{take-length}
use Rattle.ieee.specs.Constants.{zero32}
use lib.Ieee.{Float, nan, lt}
use Rattle.shared.specs.Answers.{is_stay_of}
use Rattle.shared.specs.declared.Settings.{Settings}
use Rattle.burst.specs.declared.Lead.{Lead}
use Rattle.burst.specs.Types.{Sampled}
use Rattle.burst.specs.Lead.{largest_from, largest_of, replay_from}

-- the larger of the largest so far and an envelope
abbrev pub larger : Float → Float → Float
larger m x = cond (lt m x) x m

pub largest_folds : (es : List Float) (k i : ℕ) (m : Float) → i + k ≤ length es → largest_from es k i m ≡ fold larger m (take k (drop i es))
unfolding largest_from
largest_folds es zero i m h = refl
largest_folds es (suc k) i m h = rw (drop_more es i nan (omega (arith, h))) (largest_folds es k (i + 1) _ (omega (arith, h)))

pub largest_whole : (es : List Float) → largest_of es (length es) ≡ fold larger zero32 es
largest_whole es = largest_folds es (length es) 0 zero32 (omega arith) ∙ ap (fold larger zero32) (take-length es)

-- the first n envelopes, taken alone
pub largest_first : (es : List Float) (n : ℕ) → n ≤ length es → largest_of (take n es) (length (take n es)) ≡ largest_of es n
largest_first es n h = largest_whole (take n es) ∙ sym (largest_folds es n 0 zero32 (omega (arith, h)))

module _ (p : Settings) (noise : Float) (ring : List Float) (l : Lead) where
  -- an end stays the end
  pub replay_stop : (k i : ℕ) (s : Sampled × List ℕ × List ℕ) → is_stay_of s.0.next ≡ false → replay_from p noise ring l k i s ≡ s
  unfolding replay_from
  replay_stop zero i s h = refl
  replay_stop (suc k) i s h = rw h (replay_stop k (i + 1) s h)
