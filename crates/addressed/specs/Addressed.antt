-- Document 02, R-4: the commands of sixteen antennas. The antenna's number, u8, stands right after the command byte and counts among the
-- operand bytes.
use Rattle.std.specs.Prelude.{ℕ, ◌+◌, cond, List, ◌∷◌, length, get_or, drop, ltb, Ok, Err}
use Rattle.commands.specs.declared.Command.{Command}
use Rattle.commands.specs.declared.Command.TheVariants.{Open, OpenCarry, Begin, Step, Close}
use Rattle.commands.specs.declared.Missing.TheVariants as missing
use Rattle.commands.specs.Command.{Found, decoded, command_size as lone_size}

-- a command whose antenna is not there: 05 lacks an operand byte too
abbrev pub without_antenna : Found → Found
without_antenna (Ok (Open p)) = Ok (Open p)
without_antenna (Ok (OpenCarry p)) = Ok (OpenCarry p)
without_antenna (Ok (Begin b)) = Ok (Begin b)
without_antenna (Ok (Step s)) = Ok (Step s)
without_antenna (Ok Close) = Err missing.Short
without_antenna (Err m) = Err m

-- what stands at the front of the bytes: the command of `listing` that its bytes are without the antenna's. A byte that no command begins
-- with is refusal 1 even where no antenna follows; operand bytes that are short are refusal 2.
unfoldable pub addressed_of : List ℕ → Found
addressed_of s = cond (ltb (length s) 2) (without_antenna (decoded s)) (decoded (get_or s 0 0 ∷ drop 2 s))

-- the antenna's number
abbrev pub antenna_of : List ℕ → ℕ
antenna_of s = get_or s 1 0

-- how many bytes a command takes, the antenna's counted
abbrev pub command_size : Command → ℕ
command_size k = lone_size k + 1

-- and what stands at a place: none where no command does
abbrev pub addressed_size : Found → ℕ
addressed_size (Ok k) = command_size k
addressed_size (Err m) = 0
