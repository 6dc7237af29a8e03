use Rattle.scan_line.proofs.OutlineWinding.{winds_as_outline, winds_not_for_other, outline_is_balanced}
use Rattle.scan_line.proofs.laws.outline_laws.Goals as goal

pub returns-clause-winding : goal.returns-clause-winding
returns-clause-winding c = winds_as_outline

pub returns-clause-other : goal.returns-clause-other
returns-clause-other c = winds_not_for_other

pub returns-clause-balanced : goal.returns-clause-balanced
returns-clause-balanced c = outline_is_balanced
