-- The structs of the core that hold a frame, with the candidates and the record that a caller sees: whole ones.
use Rattle.std.specs.Prelude.{List, Float}
use Rattle.fsk.specs.Core.{whole_frame}
use Rattle.frame_end.specs.Core.{whole_body}
use Rattle.presence.specs.Types.{Advanced}
use Rattle.presence.specs.Types.{AdvancedCore}
use Rattle.presence.specs.Types.{Present}
use Rattle.presence.specs.Types.{PresentCore}
use Rattle.presence.specs.Types.{Snapped}
use Rattle.presence.specs.Types.{SnappedCore}

abbrev pub whole_advanced : List Float → AdvancedCore → Advanced
whole_advanced cs a = record { on = a.on; pres = a.pres; frame = whole_frame cs a.frame }

abbrev pub whole_present : List Float → PresentCore → Present
whole_present cs p = record { next = p.next; pres = p.pres; body = whole_body cs p.body }

abbrev pub whole_snapped : List Float → SnappedCore → Snapped
whole_snapped cs s = record { pres = s.pres; frame = whole_frame cs s.frame }
