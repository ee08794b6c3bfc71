-- The listing program is one over a stream: a command that is not waited for is decoded from a part as from the whole.
-- The lemmas stand here too: the impl of `Station` names `orderly_if`, and what a contract names may not use the proofs of its own crate. That the
-- beginning of a command is waited for is a premise here, which the impl shows: a definition of `waits` that did not wait for it fails there, and
-- these lemmas stand. The laws without the premise are in proofs/Orderly.
use Prim.Native.Nat.{ℕ}
use mathlib.Core.Bool.{true, false}
use mathlib.Core.Path.{◌≡◌, refl, sym, ◌∙◌, ap}
use mathlib.Core.List.{List, [], ◌∷◌, ◌++◌}
use Rattle.shared.proofs.Tests.{clash}
use Rattle.std.specs.Prelude.{Ok, Err}
use Rattle.commands.specs.declared.Missing.TheVariants as missing
use Rattle.commands.specs.Command.{Found, decoded, size_of, is_step_of}
use Rattle.commands.specs.Stream.{whole}
use Rattle.commands.proofs.Stream.{taken, size_fits, decoded_more, none_there, some_there, is_end, a_step}
use Rattle.stream.specs.Machine.{Settled, Orderly}
use Rattle.stream.proofs.Taken.{settles}
use Rattle.calls.specs.Turn.{State, called, next, text_of, waits}
use Rattle.calls.specs.Stream.{machine}

-- ---- when a command is made

-- where more may come, the beginning of a command is waited for
abbrev pub ShortWaits : Type 0
ShortWaits = waits false (Err missing.Short) ≡ true

pub waits_whole_if : ShortWaits → (k : Found) → waits false k ≡ false → whole k ≡ true
waits_whole_if h (Ok k) w = refl
waits_whole_if h (Err missing.End) w = clash w
waits_whole_if h (Err missing.Unknown) w = refl
waits_whole_if h (Err missing.Short) w = clash (sym h ∙ w)

-- where no byte will come, only nothing is waited for
last_waits : (k : Found) → waits true k ≡ is_end k
last_waits (Ok k) = refl
last_waits (Err missing.End) = refl
last_waits (Err missing.Unknown) = refl
last_waits (Err missing.Short) = refl

pub only_end : (k : Found) → is_end k ≡ false → waits true k ≡ true → ⊥
only_end k h w = clash (sym w ∙ last_waits k ∙ h)

used_all : (s : List ℕ) → waits true (decoded s) ≡ true → s ≡ []
used_all [] w = refl
used_all (b ∷ o) w = absurd (only_end (decoded (b ∷ o)) (some_there b o) w)

-- ---- a part of the stream

settled_by : (s t : List ℕ) → decoded (s ++ t) ≡ decoded s → Settled machine s t
settled_by s t e = record { size_same = ap size_of e; next_same = λ p. ap (λ (k : Found). next (called p k)) e; text_same = λ p. ap (λ (k : Found). text_of k (called p k)) e }

pub step_whole : (k : Found) → is_step_of k ≡ true → whole k ≡ true
step_whole k h = ap whole (a_step k h).is

-- a step is decoded whatever comes after it
pub step_settled : (s t : List ℕ) → is_step_of (decoded s) ≡ true → Settled machine s t
step_settled s t h = settled_by s t (decoded_more s t (step_whole (decoded s) h))

-- bytes that are no command change nothing
no_command : (p : State) (k : Found) → size_of k ≡ 0 → next (called p k) ≡ p
unfolding called
no_command p (Ok k) h = absurd (taken k h)
no_command p (Err m) h = refl

pub orderly_if : ShortWaits → Orderly machine
orderly_if h =
    record {
      fits = size_fits;
      none_waits = λ last. ap (waits last) none_there;
      none_printed = λ p. ap (λ (k : Found). text_of k (called p k)) none_there;
      all_used = used_all;
      stays = λ p s h. no_command p (decoded s) h;
      settled = settles machine (λ s t w. settled_by s t (decoded_more s t (waits_whole_if h (decoded s) w)));
    }
