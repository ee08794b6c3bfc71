-- The answer of a confirmation in the core, with the record that a caller sees (ook, specs/Core).
use Rattle.shared.specs.Core.{whole_out}
use Rattle.envelope.specs.Types.{Acted}
use Rattle.envelope.specs.Types.{ActedCore}

abbrev pub whole_acted : ActedCore → Acted
whole_acted d = record { next = d.next; env = d.env; train = d.train; out = whole_out d.out }
