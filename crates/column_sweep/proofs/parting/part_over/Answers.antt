use Rattle.std.proofs.Common.{◌<ℤ◌, ◌∙◌, ap, FitsSigned, w64, rules}
use Rattle.std.specs.Prelude.{Some}
use Rattle.std.proofs.lemmas.Int.{to_z-of_z}
use Rattle.column_sweep.proofs.Halving.{over_is_edge, part_some, part_none}
use Rattle.column_sweep.proofs.parting.part_over.Goals as goal

pub of-requires : goal.of-requires
of-requires c =
    let bottom : FitsSigned w64 c.args.rows.y0 = search rules in
    let top : FitsSigned w64 c.args.rows.y1 = search rules in
    let lt : c.args.rows.y0 <ℤ c.args.rows.y1 = search rules in
    simp (to_z-of_z, c.line.ensures.value, c.is_up.ensures.value, c.operand.ensures.value)
    (over_is_edge c.args.edge.now c.args.rows.y0 c.args.rows.y1 c.line.ensures.edge c.requires.bottom c.requires.top lt)

pub returns-then-rows : goal.returns-then-rows
returns-then-rows c = part_none c.args.edge.now c.args.rows.y0 c.args.rows.y1 (search rules)

pub returns : goal.returns
returns c =
    let bottom : FitsSigned w64 c.args.rows.y0 = search rules in
    let top : FitsSigned w64 c.args.rows.y1 = search rules in
    let lt : c.args.rows.y0 <ℤ c.args.rows.y1 = search rules in
    let made = simp to_z-of_z at c.of.ensures in
    ap Some (rw (c.line.ensures.value, c.is_up.ensures.value, c.operand.ensures.value) at made)
    ∙ part_some c.args.edge.now c.args.rows.y0 c.args.rows.y1 lt
