use Rattle.std.proofs.Common.{◌<ℤ◌, ◌∙◌, ap, FitsSigned, w64, rules}
use Rattle.std.specs.Prelude.{Some}
use Rattle.std.proofs.lemmas.Int.{to_z-of_z}
use Rattle.edge_events.proofs.EdgeParts.{part_is_edge, part_some}
use Rattle.edge_events.proofs.clipping.part_in.Goals as goal

pub of-requires : goal.of-requires
of-requires c =
    let rows = c.rows_in-rows.ensures in
    let bottom : FitsSigned w64 c.rows_in-rows.result.y0 = search rules in
    let top : FitsSigned w64 c.rows_in-rows.result.y1 = search rules in
    let lt : c.rows_in-rows.result.y0 <ℤ c.rows_in-rows.result.y1 = search rules in
    simp (to_z-of_z, c.line.ensures.value, c.is_up.ensures.value, c.operand.ensures.value)
    (part_is_edge c.args.window c.args.edge.now c.rows_in-rows.result c.line.ensures.edge rows.bottom rows.top lt)

pub returns : goal.returns
returns c =
    let rows = c.rows_in-rows.ensures in
    let bottom : FitsSigned w64 c.rows_in-rows.result.y0 = search rules in
    let top : FitsSigned w64 c.rows_in-rows.result.y1 = search rules in
    let lt : c.rows_in-rows.result.y0 <ℤ c.rows_in-rows.result.y1 = search rules in
    let made = simp to_z-of_z at c.of.ensures in
    ap Some (rw (c.line.ensures.value, c.is_up.ensures.value, c.operand.ensures.value) at made)
    ∙ part_some c.args.window c.args.edge.now c.rows_in-rows.result rows.bottom rows.top lt
