use Rattle.std.proofs.Common.{◌⊎◌, length}
use Rattle.layout_model.specs.declared.pair.Pair.{Pair}
use Rattle.cell_tree.specs.Cells.{shapes_at}
use Rattle.cell_tree.specs.Boxes.{IsHull}
use Rattle.cell_tree.specs.HullTables.{AreInOrder, OwnVertex, PlacedVertex, hull_in}
use Rattle.cell_tree.proofs.hulls.hulls_of.Given as goal

abbrev pub invariant-loop-k : goal.invariant-loop-k
invariant-loop-k l = AreInOrder l.own.items
    × ((pair : Pair) → IsHull
    (λ p. OwnVertex (shapes_at l.linked.cells l.cell) (length (shapes_at l.linked.cells l.cell)) pair p
    ⊎ PlacedVertex l.linked.cells l.cell l.k pair p) (hull_in l.own.items pair))
