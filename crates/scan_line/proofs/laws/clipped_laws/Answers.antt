use Rattle.scan_line.proofs.ClipWinding.{winds_in_window, stays_balanced}
use Rattle.scan_line.proofs.laws.clipped_laws.Goals as goal

pub returns-clause-winding : goal.returns-clause-winding
returns-clause-winding c = winds_in_window

pub returns-clause-balanced : goal.returns-clause-balanced
returns-clause-balanced c = stays_balanced
