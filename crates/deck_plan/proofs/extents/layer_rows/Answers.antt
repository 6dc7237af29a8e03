use Rattle.std.proofs.Common.{◌^◌, sym, subst, List, Some, None, IfSome}
use Rattle.layout_model.specs.declared.cells.Cell.{Cell}
use Rattle.cell_tree.specs.Boxes.{IsHull}
use Rattle.cell_tree.specs.Flattening.{IsVertex}
use Rattle.cell_tree.specs.Trees.{IsTree}
use Rattle.deck_plan.specs.Extents.{IsInRowsOf, IsRowsUpTo}
use Rattle.deck_plan.proofs.LayerBounds.{hull_rows, hull_none, hull_near}
use Rattle.deck_plan.proofs.Outlines.{outlines}
use Rattle.deck_plan.proofs.extents.layer_rows.Goals as goal

pub returns-in-Some-clause-outside : goal.returns-in-Some-clause-outside
returns-in-Some-clause-outside c = λ t inside.
    let tree = c.args.tree.now in
    let hull = subst (λ n. IsHull (IsVertex tree.layout.cells n c.args.pair) (Some c.in-Some.hull)) c.top.ensures.value c.in-Some.ensures in
    subst (λ rows. IsInRowsOf rows t) (sym c.frame_rows.ensures)
    (hull_rows tree.layout.cells tree.top (outlines tree.layout.cells c.cells-cells.ensures.grid.cells tree.top) c.args.pair t inside c.in-Some.hull hull)

pub returns-in-Some-clause-near : goal.returns-in-Some-clause-near
returns-in-Some-clause-near c =
    let tree = c.args.tree.now in
    let hull = subst (λ n. IsHull (IsVertex tree.layout.cells n c.args.pair) (Some c.in-Some.hull)) c.top.ensures.value c.in-Some.ensures in
    let is_tree = subst (λ (cells : List Cell). IsTree cells tree.top) c.cells-cells.ensures.value c.cells-cells.ensures.tree in
    subst (λ rows. IfSome rows (IsRowsUpTo (2 ^ 30))) (sym c.frame_rows.ensures)
    (hull_near tree.layout.cells tree.top c.args.pair c.in-Some.hull is_tree.near hull)

pub returns-in-None-clause-outside : goal.returns-in-None-clause-outside
returns-in-None-clause-outside c = λ t inside.
    let tree = c.args.tree.now in
    let hull = subst (λ n. IsHull (IsVertex tree.layout.cells n c.args.pair) None) c.top.ensures.value c.in-None.ensures in
    hull_none tree.layout.cells tree.top (outlines tree.layout.cells c.cells-cells.ensures.grid.cells tree.top) c.args.pair t inside hull
