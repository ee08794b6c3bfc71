-- What is decoded has these very bytes, where no operand is a NaN: the patterns of a NaN all give one value.
use Prim.Native.Nat.{ℕ, ◌≤◌}
use mathlib.Core.Path.{◌≡◌, refl, sym, ◌∙◌, ap}
use mathlib.Core.List.{List, ◌∷◌, ◌++◌}
use native.Mathlib.Omega.{arith}
use lib.ListN.{length, get_or, drop}
use Rattle.words.proofs.Laws.{Bytes, Number, byte_at, word_at, word64_at, float_at}
use Rattle.shared.specs.declared.Settings.{Settings}
use Rattle.lane.specs.declared.BeginArgs.{BeginArgs}
use Rattle.lane.specs.declared.StepArgs.{StepArgs}
use Rattle.words.specs.Words.{word64, float}
use Rattle.commands.specs.Command.{u64_at, f32_at, settings_of, carry_settings_of, begin_args_of, step_args_of, history_of}
use Rattle.commands.specs.Encode.{settings_bytes, open_bytes, carry_bytes, begin_bytes, step_bytes, close_bytes}

abbrev pub OpenNumbers : Settings → Type 0
OpenNumbers p = Number p.alpha × Number p.gap_ratio × Number p.fsk_delta × Number p.fsk_split

abbrev pub BeginNumbers : BeginArgs → Type 0
BeginNumbers b =
    Number b.factor × Number b.envelope × Number b.x.re × Number b.x.im × Number b.before.re × Number b.before.im
    × Number b.history.e1 × Number b.history.e2 × Number b.history.e3 × Number b.history.e4
    × Number b.history.e5 × Number b.history.e6 × Number b.history.e7

abbrev pub StepNumbers : StepArgs → Type 0
StepNumbers s = Number s.noise × Number s.envelope × Number s.x.re × Number s.x.im

-- ---- the operands

module _ (o : List ℕ) (all : Bytes o) where
  -- of 01, before those that 04 has more
  settings_bytes_lem : 37 ≤ length o → OpenNumbers (settings_of o) → (r : List ℕ) → r ≡ drop 37 o → settings_bytes (settings_of o) r ≡ o
  unfolding settings_of
  settings_bytes_lem h n r e =
      ap (λ (l : List ℕ). get_or o 0 0 ∷ l)
      (word_at o all 1 5 refl (omega arith)
      (word_at o all 5 9 refl (omega arith)
      (word_at o all 9 13 refl (omega arith)
      (word_at o all 13 17 refl (omega arith)
      (word_at o all 17 21 refl (omega arith)
      (float_at o all 21 25 refl (omega arith) n.0
      (float_at o all 25 29 refl (omega arith) n.1
      (float_at o all 29 33 refl (omega arith) n.2
      (float_at o all 33 37 refl (omega arith) n.3 e)))))))))
      ∙ sym (byte_at o 0 1 refl (omega arith))

  -- of 03, before those that 02 has more
  sample_bytes : 24 ≤ length o → (n : StepNumbers (step_args_of o)) → (r : List ℕ) → r ≡ drop 24 o
      → word64 (u64_at o 0) ++ (float (f32_at o 8) ++ (float (f32_at o 12) ++ (float (f32_at o 16) ++ (float (f32_at o 20) ++ r)))) ≡ o
  unfolding step_args_of
  sample_bytes h n r e =
      word64_at o all 0 8 refl (omega arith)
      (float_at o all 8 12 refl (omega arith) n.0
      (float_at o all 12 16 refl (omega arith) n.1
      (float_at o all 16 20 refl (omega arith) n.2
      (float_at o all 20 24 refl (omega arith) n.3 e))))

  -- ---- the commands

  pub open_bytes_lem : 37 ≤ length o → OpenNumbers (settings_of o) → open_bytes (settings_of o) ++ drop 37 o ≡ 1 ∷ o
  open_bytes_lem h n = ap (λ (l : List ℕ). 1 ∷ l) (settings_bytes_lem h n (drop 37 o) refl)

  pub carry_bytes_lem : 38 ≤ length o → OpenNumbers (carry_settings_of o) → carry_bytes (carry_settings_of o) ++ drop 38 o ≡ 4 ∷ o
  unfolding carry_settings_of
  carry_bytes_lem h n = ap (λ (l : List ℕ). 4 ∷ l) (settings_bytes_lem (omega arith) n (get_or o 37 0 ∷ drop 38 o) (sym (byte_at o 37 38 refl (omega arith))))

  pub begin_bytes_lem : 60 ≤ length o → BeginNumbers (begin_args_of o) → begin_bytes (begin_args_of o) ++ drop 60 o ≡ 2 ∷ o
  unfolding begin_args_of history_of step_args_of
  begin_bytes_lem h n =
      ap (λ (l : List ℕ). 2 ∷ l)
      (sample_bytes (omega arith) (n.0, n.1, n.2, n.3) _
      (float_at o all 24 28 refl (omega arith) n.4
      (float_at o all 28 32 refl (omega arith) n.5
      (float_at o all 32 36 refl (omega arith) n.6
      (float_at o all 36 40 refl (omega arith) n.7
      (float_at o all 40 44 refl (omega arith) n.8
      (float_at o all 44 48 refl (omega arith) n.9
      (float_at o all 48 52 refl (omega arith) n.10
      (float_at o all 52 56 refl (omega arith) n.11
      (float_at o all 56 60 refl (omega arith) n.12 refl))))))))))

  pub step_bytes_lem : 24 ≤ length o → StepNumbers (step_args_of o) → step_bytes (step_args_of o) ++ drop 24 o ≡ 3 ∷ o
  unfolding step_args_of
  step_bytes_lem h n = ap (λ (l : List ℕ). 3 ∷ l) (sample_bytes h n (drop 24 o) refl)

pub close_bytes_lem : (o : List ℕ) → close_bytes ++ o ≡ 5 ∷ o
close_bytes_lem o = refl
