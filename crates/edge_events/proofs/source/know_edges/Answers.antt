use Rattle.std.proofs.Common.{◌≡◌, arith, take, subst, All}
use Rattle.std.proofs.lemmas.List.Elements.{All-more}
use Rattle.std.proofs.lemmas.List.{take_all}
use Rattle.half_grid.specs.Edges.{IsEdge}
use Rattle.edge_events.proofs.source.know_edges.Goals as goal

pub loop-edge-preserved : goal.loop-edge-preserved
loop-edge-preserved c = All-more IsEdge _ _ c.edge-item.result (omega arith) c.loop-edge.invariant (subst IsEdge c.edge-item.is c.y0-promised.ensures.edge)

pub returns : goal.returns
returns c = let whole : take c.loop-edge.edge-index c.args.edges.now ≡ c.args.edges.now = take_all _ _ (omega arith) in
    subst (All IsEdge) whole c.loop-edge.invariant
