use Rattle.std.proofs.Common.{◌++◌, List, length}
use Rattle.half_grid.specs.Edges.{EdgeParts}
use Rattle.scan_line.specs.OutlineStreams.{StandsForOutline}
use Rattle.column_sweep.specs.RowSums.{AddUpAlike}
use Rattle.deck_plan.specs.Rings.{edges_of_quad}
use Rattle.deck_plan.proofs.layers.put_ring.Given as goal

-- what was put and what is still to come are the list's and the ring's edges
abbrev pub invariant-loop-edge : goal.invariant-loop-edge
invariant-loop-edge l = (rest : List EdgeParts) × StandsForOutline l.sides.operand l.sides.points.now rest
    × AddUpAlike (l.edges.items ++ rest) (l.fn.edges.items ++ edges_of_quad l.fn.operand l.quad)

abbrev pub decreases-loop-edge : goal.decreases-loop-edge
decreases-loop-edge l = length l.sides.points.now
