use Rattle.std.proofs.Common.{◌≤◌, ◌-◌}
use Rattle.half_grid.specs.Windows.{RowRange}
use Rattle.half_grid.specs.declared.plane.Point.{Point}
use Rattle.layout_model.specs.declared.orient.Orient.{Orient}
use Rattle.flat_walk.specs.Blocks.{AreRowsFor, ShowNothing}
use Rattle.flat_walk.proofs.blocks.first_among.Given as goal

abbrev pub invariant-loop-next : goal.invariant-loop-next
invariant-loop-next l = record {
  later : l.from ≤ l.next;
  before : l.next ≤ l.end;
  none : (window : RowRange) (orient : Orient) (at : Point) → AreRowsFor window orient at l.rows
      → ShowNothing window orient at l.boxes l.from l.next;
}

abbrev pub decreases-loop-next : goal.decreases-loop-next
decreases-loop-next l = l.end - l.next
