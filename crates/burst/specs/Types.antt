-- The structs that a caller's lane and the core share, with the candidates and the records of the one or of the other (ook, specs/Types).
use Rattle.shared.specs.declared.Out.{Out}
use Rattle.shared.specs.declared.OutCore.{OutCore}
use Rattle.fsk.specs.declared.Cand.{Cand}
use Rattle.fsk.specs.declared.CandCore.{CandCore}
use Rattle.burst.specs.declared.BurstOf.{BurstOf}
use Rattle.burst.specs.declared.SampledOf.{SampledOf}

abbrev pub Burst : Type 0
Burst = BurstOf Cand Out

abbrev pub BurstCore : Type 0
BurstCore = BurstOf CandCore OutCore

abbrev pub Sampled : Type 0
Sampled = SampledOf Cand Out

abbrev pub SampledCore : Type 0
SampledCore = SampledOf CandCore OutCore
