use Rattle.deck_plan.specs.Plans.{planned_area}
use Rattle.density_report.proofs.BoundLemmas.{true_numbers}
use Rattle.density_report.proofs.OneTable.{one_table}
use Rattle.density_report.proofs.laws.density_laws.Goals as goal

pub returns-clause-numbers : goal.returns-clause-numbers
returns-clause-numbers c = λ p k size table h is. true_numbers (planned_area p k) size table h is

pub returns-clause-one : goal.returns-clause-one
returns-clause-one c = λ p k size one other is also. one_table (planned_area p k) size one other is also
