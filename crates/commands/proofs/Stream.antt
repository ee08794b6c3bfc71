-- Laws of the decoder that a reader of a stream needs: what is decoded is the one of six cases that its command byte tells.
use Prim.Native.Nat.{ℕ, suc, ◌+◌, ◌<◌, ◌≤◌}
use mathlib.Core.Bool.{Bool, true, false, cond}
use mathlib.Core.Path.{◌≡◌, refl, ap, sym, ◌∙◌}
use mathlib.Core.List.{List, [], ◌∷◌, ◌++◌}
use native.Mathlib.Omega.{arith}
use lib.ListN.{length, get_or, drop, length-append, length-drop, get_or-append}
use lib.Dec.{eqb, ltb, leb}
use borrow.Author.Tests.{eqb-true, ltb-true, ltb-false, leb-true, lt-ltb, le-ltb, ne_eqb}
use Rattle.shared.proofs.Tests.{clash}
use Rattle.lane.specs.declared.StepArgs.{StepArgs}
use Rattle.std.specs.Prelude.{Option, Some, None, Ok, Err}
use Rattle.commands.specs.declared.Command.{Command}
use Rattle.commands.specs.declared.Command.TheVariants.{Open, OpenCarry, Begin, Step, Close}
use Rattle.commands.specs.declared.Missing.TheVariants as missing
use Rattle.commands.specs.Command.{Found, command_size, step_of, u32_at, u64_at, settings_of, carry_settings_of, begin_args_of, step_args_of, history_of, within, decoded, size_of, is_step_of}
use Rattle.commands.specs.Stream.{whole}

-- what is false of both is false of whichever is taken
neither : (F : Found → Bool) (b : Bool) (x y : Found) → F x ≡ false → F y ≡ false → F (cond b x y) ≡ false
neither F true x y h k = h
neither F false x y h k = k

-- ---- where the bytes end

pub none_there : decoded [] ≡ Err missing.End
unfolding decoded
none_there = refl

-- whether the bytes end there
abbrev pub is_end : Found → Bool
is_end (Ok k) = false
is_end (Err missing.End) = true
is_end (Err missing.Unknown) = false
is_end (Err missing.Short) = false

pub some_there : (b : ℕ) (o : List ℕ) → is_end (decoded (b ∷ o)) ≡ false
unfolding decoded
some_there b o =
    simp (le-ltb (suc (length o)) 1 (omega arith))
    (neither is_end (eqb b 1) _ _ (neither is_end (ltb (length o) 37) _ _ refl refl)
    (neither is_end (eqb b 2) _ _ (neither is_end (ltb (length o) 60) _ _ refl refl)
    (neither is_end (eqb b 3) _ _ (neither is_end (ltb (length o) 24) _ _ refl refl)
    (neither is_end (eqb b 4) _ _ (neither is_end (ltb (length o) 38) _ _ refl refl)
    (neither is_end (eqb b 5) _ _ refl refl)))))

-- ---- a command that lies in the bytes takes no more of them than there are

-- and it takes some
pub taken : (k : Command) → command_size k ≡ 0 → ⊥
taken (Open p) h = omega (arith, h)
taken (OpenCarry p) h = omega (arith, h)
taken (Begin b) h = omega (arith, h)
taken (Step s) h = omega (arith, h)
taken Close h = omega (arith, h)

pick : (b : Bool) (x y : Found) (n : ℕ) → size_of x ≤ n → size_of y ≤ n → size_of (cond b x y) ≤ n
pick true x y n h k = h
pick false x y n h k = k

held : (o : List ℕ) (m n : ℕ) (x : Command) → command_size x ≡ suc m → length o < n → size_of (within m o x) ≤ n
held o m n x e h = go (ltb (length o) m) refl
  where
    go : (b : Bool) → ltb (length o) m ≡ b → size_of (cond b (Err missing.Short) (Ok x)) ≤ n
    go true q = omega arith
    go false q = omega (arith, ltb-false (length o) m q)

pub size_fits : (s : List ℕ) → size_of (decoded s) ≤ length s
unfolding decoded
size_fits [] = omega arith
size_fits (b ∷ o) =
    pick (ltb (length (b ∷ o)) 1) _ _ _ (omega arith)
    (pick (eqb b 1) _ _ _ (held o 37 _ _ refl (omega arith))
    (pick (eqb b 2) _ _ _ (held o 60 _ _ refl (omega arith))
    (pick (eqb b 3) _ _ _ (held o 24 _ _ refl (omega arith))
    (pick (eqb b 4) _ _ _ (held o 38 _ _ refl (omega arith))
    (pick (eqb b 5) _ _ _ (omega arith) (omega arith))))))

-- ---- bytes that come after a whole command change nothing

-- of the first n bytes, which are there: a place below n is told by its test, which computes
module _ (o t : List ℕ) (n : ℕ) (h : n ≤ length o) where
  byte_more : (i : ℕ) → leb (i + 1) n ≡ true → get_or (o ++ t) i 0 ≡ get_or o i 0
  byte_more i e = get_or-append o t 0 i (omega (arith, leb-true (i + 1) n e))

  u32_more : (i : ℕ) → leb (i + 4) n ≡ true → u32_at (o ++ t) i ≡ u32_at o i
  unfolding u32_at
  u32_more i e =
      let k : i + 4 ≤ n = leb-true (i + 4) n e in
      simp (
        get_or-append o t 0 i (omega arith),
        get_or-append o t 0 (i + 1) (omega arith),
        get_or-append o t 0 (i + 2) (omega arith),
        get_or-append o t 0 (i + 3) (omega arith),
      )

  u64_more : (i : ℕ) → leb (i + 4) n ≡ true → leb (i + 4 + 4) n ≡ true → u64_at (o ++ t) i ≡ u64_at o i
  unfolding u64_at
  u64_more i e d = simp (u32_more i e, u32_more (i + 4) d)

settings_more : (o t : List ℕ) → 37 ≤ length o → settings_of (o ++ t) ≡ settings_of o
unfolding settings_of
settings_more o t h = simp (byte_more o t 37 h, u32_more o t 37 h)

carry_more : (o t : List ℕ) → 38 ≤ length o → carry_settings_of (o ++ t) ≡ carry_settings_of o
unfolding carry_settings_of settings_of
carry_more o t h = simp (byte_more o t 38 h, u32_more o t 38 h)

begin_more : (o t : List ℕ) → 60 ≤ length o → begin_args_of (o ++ t) ≡ begin_args_of o
unfolding begin_args_of history_of
begin_more o t h = simp (u64_more o t 60 h, u32_more o t 60 h)

step_more : (o t : List ℕ) → 24 ≤ length o → step_args_of (o ++ t) ≡ step_args_of o
unfolding step_args_of
step_more o t h = simp (u64_more o t 24 h, u32_more o t 24 h)

-- with the n operand bytes there, more bytes give the same command; without them there is none
within_whole : (n : ℕ) (o t : List ℕ) (x y : Command) → (n ≤ length o → x ≡ y) → whole (within n o y) ≡ true → within n (o ++ t) x ≡ within n o y
within_whole n o t x y e = go (ltb (length o) n) refl
  where
    go : (b : Bool) → ltb (length o) n ≡ b → whole (cond b (Err missing.Short) (Ok y)) ≡ true → within n (o ++ t) x ≡ cond b (Err missing.Short) (Ok y)
    go true q w = let z : ◌≡◌ {A = Bool} false true = w in cc
    go false q w = let h = ltb-false (length o) n q in simp (le-ltb (length (o ++ t)) n (omega (arith, h, length-append o t)), e h)

choose : (b : Bool) (x y u v : Found) → (whole x ≡ true → u ≡ x) → (whole y ≡ true → v ≡ y) → whole (cond b x y) ≡ true → cond b u v ≡ cond b x y
choose true x y u v f g w = f w
choose false x y u v f g w = g w

pub decoded_more : (s t : List ℕ) → whole (decoded s) ≡ true → decoded (s ++ t) ≡ decoded s
unfolding decoded
decoded_more [] t w = let z : ◌≡◌ {A = Bool} false true = w in cc
decoded_more (b ∷ o) t w =
    simp (le-ltb (suc (length (o ++ t))) 1 (omega arith), le-ltb (suc (length o)) 1 (omega arith))
    (choose (eqb b 1) _ _ _ _ (within_whole 37 o t _ _ (λ h. ap Open (settings_more o t h)))
    (choose (eqb b 2) _ _ _ _ (within_whole 60 o t _ _ (λ h. ap Begin (begin_more o t h)))
    (choose (eqb b 3) _ _ _ _ (within_whole 24 o t _ _ (λ h. ap Step (step_more o t h)))
    (choose (eqb b 4) _ _ _ _ (within_whole 38 o t _ _ (λ h. ap OpenCarry (carry_more o t h)))
    (choose (eqb b 5) _ _ _ _ (λ q. refl) (λ q. refl)))))
    (simp (le-ltb (suc (length o)) 1 (omega arith)) at w))

-- ---- a step at the front of the bytes

-- a command byte 3 with its 24 operand bytes
pub step_front : (s : List ℕ) → 25 ≤ length s → eqb (get_or s 0 0) 3 ≡ true → decoded s ≡ Ok (Step (step_args_of (drop 1 s)))
unfolding decoded
step_front s h e =
    let b : get_or s 0 0 ≡ 3 = eqb-true (get_or s 0 0) 3 e in
    simp (le-ltb (length s) 1 (omega arith), b, le-ltb (length (drop 1 s)) 24 (omega (arith, length-drop 1 s)))

-- a branch that is not taken does not matter
unless : (b : Bool) (x y : Found) → (b ≡ true → is_step_of x ≡ false) → is_step_of y ≡ false → is_step_of (cond b x y) ≡ false
unless true x y h k = h refl
unless false x y h k = k

-- no step, whatever the other commands have
no_step : (s : List ℕ) → (eqb (get_or s 0 0) 3 ≡ true → is_step_of (within 24 (drop 1 s) (Step (step_args_of (drop 1 s)))) ≡ false) → is_step_of (decoded s) ≡ false
unfolding decoded
no_step s h =
    neither is_step_of (ltb (length s) 1) _ _ refl
    (neither is_step_of (eqb (get_or s 0 0) 1) _ _ (neither is_step_of (ltb (length (drop 1 s)) 37) _ _ refl refl)
    (neither is_step_of (eqb (get_or s 0 0) 2) _ _ (neither is_step_of (ltb (length (drop 1 s)) 60) _ _ refl refl)
    (unless (eqb (get_or s 0 0) 3) _ _ h
    (neither is_step_of (eqb (get_or s 0 0) 4) _ _ (neither is_step_of (ltb (length (drop 1 s)) 38) _ _ refl refl)
    (neither is_step_of (eqb (get_or s 0 0) 5) _ _ refl refl)))))

pub short_front : (s : List ℕ) → length s < 25 → is_step_of (decoded s) ≡ false
short_front s h = no_step s (λ q. ap (λ (b : Bool). is_step_of (cond b (Err missing.Short) (Ok (Step (step_args_of (drop 1 s)))))) (lt-ltb (length (drop 1 s)) 24 (omega (arith, length-drop 1 s, h))))

pub long_front : (s : List ℕ) → 25 ≤ length s → eqb (get_or s 0 0) 3 ≡ is_step_of (decoded s)
long_front s h = go (eqb (get_or s 0 0) 3) refl
  where
    go : (b : Bool) → eqb (get_or s 0 0) 3 ≡ b → b ≡ is_step_of (decoded s)
    go true q = sym (ap is_step_of (step_front s h q))
    go false q = sym (no_step s (λ e. let z : ◌≡◌ {A = Bool} false true = sym q ∙ e in cc))

-- a step is one with its operands
pub record AStep (k : Found) : Type 0 where
  pub args : StepArgs
  pub is : k ≡ Ok (Step args)

pub a_step : (k : Found) → is_step_of k ≡ true → AStep k
a_step (Ok (Step s)) h = record { args = s; is = refl }
a_step (Ok (Open p)) h = clash (sym h)
a_step (Ok (OpenCarry p)) h = clash (sym h)
a_step (Ok (Begin b)) h = clash (sym h)
a_step (Ok Close) h = clash (sym h)
a_step (Err m) h = clash (sym h)

-- so a step has its operand bytes
pub step_there : (s : List ℕ) → is_step_of (decoded s) ≡ true → (25 ≤ length s) × (Ok (Step (step_args_of (drop 1 s))) ≡ decoded s)
step_there s e = go (ltb (length s) 25) refl
  where
    go : (b : Bool) → ltb (length s) 25 ≡ b → (25 ≤ length s) × (Ok (Step (step_args_of (drop 1 s))) ≡ decoded s)
    go true q = let z : ◌≡◌ {A = Bool} false true = sym (short_front s (ltb-true (length s) 25 q)) ∙ e in absurd (let y : ◌≡◌ {A = ℕ} 0 1 = cc in omega arith)
    go false q = let h = ltb-false (length s) 25 q in (h, sym (step_front s h (long_front s h ∙ e)))

-- and with its operands
pub step_given : (k : Found) (a : StepArgs) → step_of k ≡ Some a → Ok (Step a) ≡ k
step_given (Ok (Step s)) a h = let z : ◌≡◌ {A = Option StepArgs} (Some s) (Some a) = h in cc
step_given (Ok (Open p)) a h = absurd (let z : ◌≡◌ {A = Option StepArgs} None (Some a) = h in cc)
step_given (Ok (OpenCarry p)) a h = absurd (let z : ◌≡◌ {A = Option StepArgs} None (Some a) = h in cc)
step_given (Ok (Begin b)) a h = absurd (let z : ◌≡◌ {A = Option StepArgs} None (Some a) = h in cc)
step_given (Ok Close) a h = absurd (let z : ◌≡◌ {A = Option StepArgs} None (Some a) = h in cc)
step_given (Err m) a h = absurd (let z : ◌≡◌ {A = Option StepArgs} None (Some a) = h in cc)

pub no_step_given : (k : Found) → is_step_of k ≡ false → step_of k ≡ None
no_step_given (Ok (Step s)) h = clash h
no_step_given (Ok (Open p)) h = refl
no_step_given (Ok (OpenCarry p)) h = refl
no_step_given (Ok (Begin b)) h = refl
no_step_given (Ok Close) h = refl
no_step_given (Err m) h = refl

pub none_given : (k : Found) → step_of k ≡ None → is_step_of k ≡ false
none_given (Ok (Step s)) h = absurd (let z : ◌≡◌ {A = Option StepArgs} (Some s) None = h in cc)
none_given (Ok (Open p)) h = refl
none_given (Ok (OpenCarry p)) h = refl
none_given (Ok (Begin b)) h = refl
none_given (Ok Close) h = refl
none_given (Err m) h = refl

-- fewer bytes, or another command byte, give none
pub short_given : (s : List ℕ) → length s < 25 → step_of (decoded s) ≡ None
short_given s h = no_step_given (decoded s) (short_front s h)

pub other_given : (s : List ℕ) → 25 ≤ length s → (get_or s 0 0 ≡ 3 → ⊥) → step_of (decoded s) ≡ None
other_given s h n = no_step_given (decoded s) (sym (long_front s h) ∙ ne_eqb (get_or s 0 0) 3 n)
