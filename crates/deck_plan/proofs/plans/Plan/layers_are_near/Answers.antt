use Rattle.std.proofs.Common.{◌^◌, subst, List}
use Rattle.half_grid.specs.declared.plane.Tile.{Tile}
use Rattle.layout_model.specs.declared.pair.Pair.{Pair}
use Rattle.layout_model.specs.declared.cells.Cell.{Cell}
use Rattle.cell_tree.specs.Trees.{IsTree}
use Rattle.cell_tree.specs.Flattening.{IsInLayer}
use Rattle.deck_plan.specs.Bounds.{IsTileUpTo}
use Rattle.deck_plan.specs.Plans.{Planned}
use Rattle.deck_plan.proofs.LayerBounds.{layer_near}
use Rattle.deck_plan.proofs.Outlines.{outlines}
use Rattle.deck_plan.proofs.plans.Plan.layers_are_near.Goals as goal

pub returns : goal.returns
returns c =
    let tree = c.self.inside.tree.now in
    let cells = tree.layout.cells in
    let is_tree = subst (λ (list : List Cell). IsTree list tree.top) c.cells-cells.ensures.value c.cells-cells.ensures.tree in
    subst (λ (p : Planned). (pair : Pair) (t : Tile) → IsInLayer p.cells p.top pair t → IsTileUpTo (2 ^ 30) t) c.self.view_is
    (λ pair t inside. layer_near cells tree.top (outlines cells c.cells-cells.ensures.grid.cells tree.top) pair t inside is_tree.near)
