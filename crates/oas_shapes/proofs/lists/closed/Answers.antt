use Rattle.oas_shapes.proofs.VertexLemmas.{ring_put}
use Rattle.oas_shapes.proofs.lists.closed.Goals as goal

pub returns-in-Ok-put-clause-ok : goal.returns-in-Ok-put-clause-ok
returns-in-Ok-put-clause-ok c =
    ring_put c.args.kind c.args.vertices.items c.as_slice-stored.result.now _ _ c.requires c.as_slice-stored.ensures c.in-Ok.ensures.ok c.in-Ok-put.ensures.ok
