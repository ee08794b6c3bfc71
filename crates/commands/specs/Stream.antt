-- Laws of the decoder that a reader of a stream needs.
use Rattle.std.specs.Prelude.{Bool, true, false, Ok, Err}
use Rattle.commands.specs.Command.{Found}
use Rattle.commands.specs.declared.Missing.TheVariants as missing

-- ---- bytes that come after a whole command change nothing

-- whether the bytes of a command are all there: a byte that no command begins with is refused by itself
abbrev pub whole : Found → Bool
whole (Ok k) = true
whole (Err missing.End) = false
whole (Err missing.Unknown) = true
whole (Err missing.Short) = false
