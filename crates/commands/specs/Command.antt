-- The commands as document 01, "Commands", has them, and document 02's 04 and 05: over lists of bytes, little-endian.
use Rattle.std.specs.Prelude.{ℕ, ◌+◌, Bool, true, false, cond, List, length, get_or, drop, eqb, ltb, Option, Some, None, Result, Ok, Err}
use Rattle.arith.specs.declared.C32.{C32}
unfoldable pub use Rattle.words.specs.Words.{u32_at, u64_at}
pub use Rattle.words.specs.Words.{f32_at}
use Rattle.shared.specs.declared.Settings.{Settings}
use Rattle.shared.specs.Settings.{with_carry}
use Rattle.lane.specs.declared.BeginArgs.{BeginArgs}
use Rattle.lane.specs.declared.StepArgs.{StepArgs}
use Rattle.lane.specs.declared.History.{History}
use Rattle.commands.specs.declared.Command.{Command}
use Rattle.commands.specs.declared.Command.TheVariants.{Open, OpenCarry, Begin, Step, Close}
use Rattle.commands.specs.declared.Missing.{Missing}
use Rattle.commands.specs.declared.Missing.TheVariants as missing

-- what stands at a place of the bytes: a command, or why none does
abbrev pub Found : Type 0
Found = Result Command Missing

-- a sample, the real part first
abbrev pub pair_at : List ℕ → ℕ → C32
pair_at o i = record { re = f32_at o i; im = f32_at o (i + 4) }

-- 01: mode u8, then five u32, then four f32; 37 operand bytes. It leaves carry off.
unfoldable pub settings_of : List ℕ → Settings
settings_of o =
    record {
      mode = get_or o 0 0;
      min_steps = u32_at o 1;
      gap_steps = u32_at o 5;
      pre_timeout = u32_at o 9;
      long_steps = u32_at o 13;
      max_pulses = u32_at o 17;
      alpha = f32_at o 21;
      gap_ratio = f32_at o 25;
      fsk_delta = f32_at o 29;
      fsk_split = f32_at o 33;
      carry = 0;
    }

-- 04: the operands of 01 and then carry, u8; 38 operand bytes (R-1)
unfoldable pub carry_settings_of : List ℕ → Settings
unfolding settings_of
carry_settings_of o = with_carry (get_or o 37 0) (settings_of o)

-- the seven envelopes of 02, nearest first
unfoldable pub history_of : List ℕ → History
history_of o =
    record {
      e1 = f32_at o 32;
      e2 = f32_at o 36;
      e3 = f32_at o 40;
      e4 = f32_at o 44;
      e5 = f32_at o 48;
      e6 = f32_at o 52;
      e7 = f32_at o 56;
    }

-- 02: index u64, factor, envelope, real, imaginary, previous real, previous imaginary, seven envelopes; 60 bytes
unfoldable pub begin_args_of : List ℕ → BeginArgs
unfolding history_of
begin_args_of o =
    record {
      index = u64_at o 0;
      factor = f32_at o 8;
      envelope = f32_at o 12;
      x = pair_at o 16;
      before = pair_at o 24;
      history = history_of o;
    }

-- 03: index u64, noise, envelope, real, imaginary; 24 bytes
unfoldable pub step_args_of : List ℕ → StepArgs
step_args_of o = record { index = u64_at o 0; noise = f32_at o 8; envelope = f32_at o 12; x = pair_at o 16 }

-- a command whose n operand bytes are there, and refusal 2 otherwise
abbrev pub within : ℕ → List ℕ → Command → Found
within n o k = cond (ltb (length o) n) (Err missing.Short) (Ok k)

-- what stands at the front of the bytes; 04 "counts as 01 throughout", and only its operands are more; 05 has no operands (R-13). Refusal 1
-- where the command byte is none of the listed ones
unfoldable pub decoded : List ℕ → Found
unfolding settings_of carry_settings_of begin_args_of step_args_of
decoded s =
    cond (ltb (length s) 1) (Err missing.End)
    (cond (eqb (get_or s 0 0) 1) (within 37 (drop 1 s) (Open (settings_of (drop 1 s))))
    (cond (eqb (get_or s 0 0) 2) (within 60 (drop 1 s) (Begin (begin_args_of (drop 1 s))))
    (cond (eqb (get_or s 0 0) 3) (within 24 (drop 1 s) (Step (step_args_of (drop 1 s))))
    (cond (eqb (get_or s 0 0) 4) (within 38 (drop 1 s) (OpenCarry (carry_settings_of (drop 1 s))))
    (cond (eqb (get_or s 0 0) 5) (Ok Close)
    (Err missing.Unknown))))))

-- how many bytes a command takes, its command byte counted
abbrev pub command_size : Command → ℕ
command_size (Open p) = 38
command_size (OpenCarry p) = 39
command_size (Begin b) = 61
command_size (Step s) = 25
command_size Close = 1

-- and what stands at a place: none where no command does
abbrev pub size_of : Found → ℕ
size_of (Ok k) = command_size k
size_of (Err m) = 0

-- the operands of a step
abbrev pub step_of : Found → Option StepArgs
step_of (Ok (Open p)) = None
step_of (Ok (OpenCarry p)) = None
step_of (Ok (Begin b)) = None
step_of (Ok (Step s)) = Some s
step_of (Ok Close) = None
step_of (Err m) = None

-- whether it is a step
abbrev pub is_step_of : Found → Bool
is_step_of (Ok (Open p)) = false
is_step_of (Ok (OpenCarry p)) = false
is_step_of (Ok (Begin b)) = false
is_step_of (Ok (Step s)) = true
is_step_of (Ok Close) = false
is_step_of (Err m) = false
