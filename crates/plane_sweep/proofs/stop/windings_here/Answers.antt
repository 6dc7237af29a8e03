use Rattle.std.proofs.Common.{sym}
use Rattle.row_lists.specs.RowLists.{no_windings}
use Rattle.plane_sweep.proofs.WayLemmas.{last_right, none_right}
use Rattle.plane_sweep.proofs.stop.windings_here.Goals as goal

pub returns-in-Some : goal.returns-in-Some
returns-in-Some c = last_right no_windings c.args.lines.now.before c.in-Some.line (sym c.in-Some.ensures)

pub returns-in-None : goal.returns-in-None
returns-in-None c = none_right no_windings c.args.lines.now.before (sym c.in-None.ensures)
