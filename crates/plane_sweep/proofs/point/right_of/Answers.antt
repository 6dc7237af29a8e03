use Rattle.std.proofs.Common.{[], ◌∷◌, ap, sym, ◌∙◌}
use Rattle.row_lists.specs.RowRuns.{last_windings}
use Rattle.row_lists.proofs.ForCallers.{last_append}
use Rattle.plane_sweep.proofs.point.right_of.Goals as goal

pub returns-in-Some : goal.returns-in-Some
returns-in-Some c =
    sym (ap (last_windings c.args.left) c.in-Some.ensures.cases.0 ∙ last_append c.args.left c.in-Some.field-0-1.now (c.in-Some.line.now ∷ []))
