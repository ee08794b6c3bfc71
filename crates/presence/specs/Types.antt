-- The structs that a caller's lane and the core share, with the candidates and the records of the one or of the other (ook, specs/Types).
use Rattle.shared.specs.declared.Out.{Out}
use Rattle.shared.specs.declared.OutCore.{OutCore}
use Rattle.fsk.specs.declared.Cand.{Cand}
use Rattle.fsk.specs.declared.CandCore.{CandCore}
use Rattle.presence.specs.declared.AdvancedOf.{AdvancedOf}
use Rattle.presence.specs.declared.PresentOf.{PresentOf}
use Rattle.presence.specs.declared.SnappedOf.{SnappedOf}

abbrev pub Advanced : Type 0
Advanced = AdvancedOf Cand

abbrev pub AdvancedCore : Type 0
AdvancedCore = AdvancedOf CandCore

abbrev pub Present : Type 0
Present = PresentOf Cand Out

abbrev pub PresentCore : Type 0
PresentCore = PresentOf CandCore OutCore

abbrev pub Snapped : Type 0
Snapped = SnappedOf Cand

abbrev pub SnappedCore : Type 0
SnappedCore = SnappedOf CandCore
