-- What the layout's bytes are decoded to, whatever comes after them.
use Prim.Native.Nat.{ℕ}
use mathlib.Core.Path.{◌≡◌, ap}
use mathlib.Core.List.{List, ◌∷◌, ◌++◌}
use native.Mathlib.Omega.{arith}
use lib.ListN.{length, drop}
use borrow.Author.Tests.{le-ltb}
use Rattle.std.specs.Prelude.{Ok}
use Rattle.words.proofs.Laws.{word_back, word64_back, float_back}
use Rattle.shared.specs.declared.Settings.{Settings}
use Rattle.shared.specs.Settings.{with_carry}
use Rattle.lane.specs.declared.BeginArgs.{BeginArgs}
use Rattle.lane.specs.declared.StepArgs.{StepArgs}
use Rattle.commands.specs.declared.Command.TheVariants.{Open, OpenCarry, Begin, Step, Close}
use Rattle.commands.specs.Command.{u32_at, u64_at, settings_of, carry_settings_of, begin_args_of, step_args_of, history_of, decoded}
use Rattle.commands.specs.Encode.{settings_bytes, open_bytes, carry_bytes, begin_bytes, step_bytes, close_bytes, OpenFits, BeginFits, StepFits}

-- ---- bytes and back

-- the operands of 01, whatever comes after them
settings_back : (p : Settings) (r : List ℕ) → OpenFits p → settings_of (settings_bytes p r) ≡ with_carry 0 p
unfolding settings_of u32_at
settings_back p r (a, b, c, d, e, f, g, i, j) = simp (word_back, float_back)

pub open_back : (p : Settings) (t : List ℕ) → OpenFits p → decoded (open_bytes p ++ t) ≡ Ok (Open (with_carry 0 p))
unfolding decoded
open_back p t h = simp (le-ltb (length (open_bytes p ++ t)) 1 (omega arith), le-ltb (length (drop 1 (open_bytes p ++ t))) 37 (omega arith)) (ap (λ (q : Settings). Ok (Open q)) (settings_back p t h))

pub carry_back : (p : Settings) (t : List ℕ) → OpenFits p → decoded (carry_bytes p ++ t) ≡ Ok (OpenCarry p)
unfolding decoded carry_settings_of
carry_back p t h =
    simp (le-ltb (length (carry_bytes p ++ t)) 1 (omega arith), le-ltb (length (drop 1 (carry_bytes p ++ t))) 38 (omega arith))
    (ap (λ (q : Settings). Ok (OpenCarry (with_carry p.carry q))) (settings_back p (p.carry ∷ t) h))

pub begin_back : (b : BeginArgs) (t : List ℕ) → BeginFits b → decoded (begin_bytes b ++ t) ≡ Ok (Begin b)
unfolding decoded begin_args_of history_of u32_at u64_at
begin_back b t (i, f, e, x, y, p, q, e1, e2, e3, e4, e5, e6, e7) =
    simp (le-ltb (length (begin_bytes b ++ t)) 1 (omega arith), le-ltb (length (drop 1 (begin_bytes b ++ t))) 60 (omega arith), word64_back, float_back)

pub step_back : (s : StepArgs) (t : List ℕ) → StepFits s → decoded (step_bytes s ++ t) ≡ Ok (Step s)
unfolding decoded step_args_of u32_at u64_at
step_back s t (i, n, e, r, m) =
    simp (le-ltb (length (step_bytes s ++ t)) 1 (omega arith), le-ltb (length (drop 1 (step_bytes s ++ t))) 24 (omega arith), word64_back, float_back)

pub close_back : (t : List ℕ) → decoded (close_bytes ++ t) ≡ Ok Close
unfolding decoded
close_back t = simp (le-ltb (length (close_bytes ++ t)) 1 (omega arith))
