-- The answer of a confirmation, which a caller's lane and the core share, with the record of the one or of the other (ook, specs/Types).
use Rattle.shared.specs.declared.Out.{Out}
use Rattle.shared.specs.declared.OutCore.{OutCore}
use Rattle.envelope.specs.declared.ActedOf.{ActedOf}

abbrev pub Acted : Type 0
Acted = ActedOf Out

abbrev pub ActedCore : Type 0
ActedCore = ActedOf OutCore
