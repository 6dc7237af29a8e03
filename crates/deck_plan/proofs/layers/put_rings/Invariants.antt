use Rattle.std.proofs.Common.{◌++◌, List, flat_map}
use Rattle.half_grid.specs.Quads.{Corners}
use Rattle.column_sweep.specs.RowSums.{AddUpAlike}
use Rattle.deck_plan.specs.Rings.{edges_of_quad}
use Rattle.deck_plan.proofs.layers.put_rings.Given as goal

-- the edges so far, and those of what is still to come
abbrev pub invariant-loop-quad : goal.invariant-loop-quad
invariant-loop-quad g l = (list : List Corners) → g.S.Stream.stands_for l.fn.quads list
    → (rest : List Corners) × g.S.Stream.stands_for l.quads rest
    × AddUpAlike (l.edges.items ++ flat_map (edges_of_quad l.operand) rest) (l.fn.edges.items ++ flat_map (edges_of_quad l.operand) list)

abbrev pub decreases-loop-quad : goal.decreases-loop-quad
decreases-loop-quad g l = g.S.Stream.size l.quads
