use Rattle.std.proofs.Common.{◌≡◌, ◌+◌, ap, sym, subst, List, All, length, arith}
use Rattle.half_grid.specs.Trapezoids.{Trapezoid}
use Rattle.layout_model.specs.Layouts.{IsShapeOnGrid}
use Rattle.layout_model.specs.declared.shapes.Shape.{Shape}
use Rattle.cell_tree.proofs.ForCallers.{shapes_on_grid}
use Rattle.deck_plan.specs.Plans.{AreCutUpTo}
use Rattle.deck_plan.proofs.PieceLemmas.{pushed_in, in_table, shape_more}
use Rattle.deck_plan.proofs.cutting.cut_some.Goals as goal

pub push_shape-requires-clause-grid : goal.push_shape-requires-clause-grid
push_shape-requires-clause-grid c =
    subst (λ (shapes : List Shape). All IsShapeOnGrid shapes) (sym c.shapes_of-shapes.ensures)
    (shapes_on_grid c.args.tree.now.layout.cells c.requires.grid c.args.cell)

pub push_shape-requires-clause-inside : goal.push_shape-requires-clause-inside
push_shape-requires-clause-inside c =
    let same = ap (λ (shapes : List Shape). length shapes) c.shapes_of-shapes.ensures in
    omega (arith, same, c.loop-number-test.true, c.requires.inside)

pub push_shape-requires-clause-cell : goal.push_shape-requires-clause-cell
push_shape-requires-clause-cell c =
    in_table c.args.tree.now.layout.cells c.args.tree.now.top c.loop-number.parts c.args.cell c.loop-number.number c.requires.cell c.loop-number.invariant.cut

pub loop-number-preserved : goal.loop-number-preserved
loop-number-preserved c =
    let cells = c.args.tree.now.layout.cells in
    let top = c.args.tree.now.top in
    let n = c.loop-number.number in
    let pushed = pushed_in _ _ c.loop-number.parts c.args.cell n _ c.shapes_of-shapes.ensures c.in_ok-push_shape.ensures in
    record {
      cut = subst (λ (table : List (List (List Trapezoid))). AreCutUpTo cells top table c.args.cell (n + 1)) (sym pushed.is)
          (shape_more cells top c.loop-number.parts c.args.cell n c.requires.cell c.loop-number.invariant.cut pushed.shape pushed.pieces
          c.requires.reached pushed.here pushed.covers);
      few = omega (arith, c.loop-number-test.true);
    }

pub returns : goal.returns
returns c =
    let e : c.loop-number.number ≡ c.args.end = omega (arith, c.loop-number.invariant.few, c.loop-number-test.false) in
    subst (λ n. AreCutUpTo c.args.tree.now.layout.cells c.args.tree.now.top c.loop-number.parts c.args.cell n) e c.loop-number.invariant.cut
