use Rattle.std.proofs.Common.{FitsSigned, w64, subst, rules}
use Rattle.std.proofs.lemmas.Int.{to_z-of_z}
use Rattle.half_grid.specs.Windows.{RowRange}
use Rattle.density_report.specs.Rows.{HoldRows}
use Rattle.density_report.proofs.StripLemmas.{places_are}
use Rattle.density_report.proofs.maps.places_of.Goals as goal

pub returns : goal.returns
returns c =
    let hold = subst (λ (r : RowRange).
    HoldRows c.args.batch.now.mesh.size r c.batch_of-met.result.row c.batch_of-met.result.end)
    c.rows_of_trap.ensures.rows c.batch_of-met.ensures.rows in
    let fm : FitsSigned w64 c.batch_of-met.result.end = search rules in
    let fr : FitsSigned w64 c.batch_of-met.result.row = search rules in
    let fe : FitsSigned w64 c.args.batch.now.end = search rules in
    let first = simp to_z-of_z at c.number_of.ensures in
    let second = simp to_z-of_z at c.number_of-2.ensures in
    places_are c.args.batch.now c.args.trap.now c.batch_of-met.result.row c.batch_of-met.result.end c.number_of.result
    c.number_of-2.result c.requires.batch c.requires.inside
    c.rows_of_trap.ensures.some hold first second
