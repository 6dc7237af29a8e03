-- A refusal of a depot, as the reading of a whole file answers it.
use Rattle.depot.specs.declared.outside.DepotBad.{DepotBad}
use Rattle.depot.specs.declared.outside.DepotBad.TheVariants as depot
use Rattle.depot.specs.declared.whole.Refused.{Refused}
use Rattle.depot.specs.declared.whole.Refused.TheVariants as whole

abbrev pub refused_as : DepotBad → Refused
refused_as depot.Failed = whole.Fault
refused_as depot.NoMemory = whole.NoMemory
