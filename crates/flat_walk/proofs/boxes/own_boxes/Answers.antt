use Rattle.std.proofs.Common.{◌∙◌, ap, sym, subst, All}
use Rattle.layout_model.specs.Layouts.{IsShapeOnGrid}
use Rattle.cell_tree.specs.Cells.{shapes_at}
use Rattle.cell_tree.proofs.ForCallers.{shapes_on_grid}
use Rattle.std.proofs.lemmas.Result.{IfOk-weaker}
use Rattle.flat_walk.specs.Boxes.{AreBoxed}
use Rattle.flat_walk.specs.Tables.{lists_at}
use Rattle.flat_walk.proofs.BoxLemmas.{boxed_none}
use Rattle.flat_walk.proofs.boxes.own_boxes.Goals as goal

pub returns-then-is_bare : goal.returns-then-is_bare
returns-then-is_bare c = subst (AreBoxed (shapes_at c.args.tree.now.layout.cells c.args.cell) (lists_at c.args.parts.now c.args.cell))
    (sym c.new.ensures.items) (boxed_none (shapes_at c.args.tree.now.layout.cells c.args.cell) (lists_at c.args.parts.now c.args.cell))

pub boxes_for-requires-clause-grid : goal.boxes_for-requires-clause-grid
boxes_for-requires-clause-grid c = subst (All IsShapeOnGrid) (sym (c.shapes_of.ensures ∙ ap (λ cells. shapes_at cells c.args.cell) c.cells.ensures.value))
    (shapes_on_grid c.args.tree.now.layout.cells c.cells.ensures.grid.cells c.args.cell)

pub returns : goal.returns
returns c =
    let shapes = c.shapes_of.ensures ∙ ap (λ cells. shapes_at cells c.args.cell) c.cells.ensures.value in
    IfOk-weaker c.boxes_for.result _
    (λ boxes. AreBoxed (shapes_at c.args.tree.now.layout.cells c.args.cell) (lists_at c.args.parts.now c.args.cell) boxes.items)
    (λ boxes are. rw (sym shapes, sym c.lists.ensures.lists) are) c.boxes_for.ensures
