use Rattle.half_grid.specs.declared.border.Operand.TheVariants.{A}
use Rattle.flat_walk.specs.Walks.{pieces_in}
use Rattle.deck_plan.proofs.Quads.{put_first, layer_has, quads_balanced}
use Rattle.deck_plan.proofs.layers.layer_area.Goals as goal

pub unite_within-requires : goal.unite_within-requires
unite_within-requires c =
    let tree = c.args.tree.now in
    let quads = pieces_in tree.layout.cells tree.top c.args.parts.now c.args.pair c.args.window in
    quads_balanced quads c.put_rings.new.edges.items c.args.window c.in-Ok.ensures.grid
    (put_first A quads c.new-edges.result.items c.put_rings.new.edges.items c.new-edges.ensures.items (c.in_ok-put_rings.ensures quads c.in-Ok.ensures.list))

pub returns-in-Some : goal.returns-in-Some
returns-in-Some c =
    let tree = c.args.tree.now in
    let quads = pieces_in tree.layout.cells tree.top c.args.parts.now c.args.pair c.args.window in
    layer_has tree.layout.cells tree.top c.args.pair c.args.window quads c.in-Ok.ensures.quads
    c.in-Ok.ensures.area c.put_rings.new.edges.items
    (put_first A quads c.new-edges.result.items c.put_rings.new.edges.items c.new-edges.ensures.items (c.in_ok-put_rings.ensures quads c.in-Ok.ensures.list))
    c.in-Some.area.items (rw c.in-Some.is at c.in_ok-area.ensures.joined)
