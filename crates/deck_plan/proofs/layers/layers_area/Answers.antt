use Rattle.half_grid.specs.declared.border.Operand.TheVariants.{A}
use Rattle.flat_walk.specs.Walks.{pieces_in}
use Rattle.deck_plan.proofs.Quads.{put_first, layers_balanced, layers_have}
use Rattle.deck_plan.proofs.layers.layers_area.Goals as goal

pub combine_edges_within-requires : goal.combine_edges_within-requires
combine_edges_within-requires c =
    let tree = c.args.tree.now in
    let one = pieces_in tree.layout.cells tree.top c.args.parts.now c.args.layers.a c.args.window in
    let other = pieces_in tree.layout.cells tree.top c.args.parts.now c.args.layers.b c.args.window in
    let put = put_first A one c.new-edges.result.items c.put_rings.new.edges.items c.new-edges.ensures.items
    (c.in_ok-put_rings.ensures one c.in-Ok.ensures.list) in
    let both = c.in_ok-put_rings-2.ensures other c.in-Ok-begin_boxed.ensures.list in
    layers_balanced tree.layout.cells tree.top c.args.window c.args.layers one other c.put_rings.new.edges.items c.put_rings-2.new.edges.items put both
    c.in-Ok.ensures.grid c.in-Ok-begin_boxed.ensures.grid

pub returns-in-Some : goal.returns-in-Some
returns-in-Some c =
    let tree = c.args.tree.now in
    let one = pieces_in tree.layout.cells tree.top c.args.parts.now c.args.layers.a c.args.window in
    let other = pieces_in tree.layout.cells tree.top c.args.parts.now c.args.layers.b c.args.window in
    let put = put_first A one c.new-edges.result.items c.put_rings.new.edges.items c.new-edges.ensures.items
    (c.in_ok-put_rings.ensures one c.in-Ok.ensures.list) in
    let both = c.in_ok-put_rings-2.ensures other c.in-Ok-begin_boxed.ensures.list in
    layers_have tree.layout.cells tree.top c.args.window c.args.layers one other c.put_rings.new.edges.items c.put_rings-2.new.edges.items put both
    c.in-Ok.ensures.quads c.in-Ok-begin_boxed.ensures.quads c.in-Ok.ensures.area c.in-Ok-begin_boxed.ensures.area c.in-Some.area.items
    (rw c.in-Some.is at c.in_ok-area.ensures.joined)
