use Rattle.column_sweep.proofs.InColumns.{stays_maximal}
use Rattle.column_sweep.proofs.Rests.{others_stay}
use Rattle.column_sweep.proofs.laws.column_laws.Goals as goal

pub returns-clause-stays : goal.returns-clause-stays
returns-clause-stays c = stays_maximal

pub returns-clause-others : goal.returns-clause-others
returns-clause-others c = others_stay
