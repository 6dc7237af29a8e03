use Rattle.std.proofs.Common.{All, take}
use Rattle.half_grid.specs.Edges.{IsEdge}
use Rattle.edge_events.proofs.source.know_edges.Given as goal

abbrev pub invariant-loop-edge : goal.invariant-loop-edge
invariant-loop-edge l = All IsEdge (take l.edge-index l.edges)
