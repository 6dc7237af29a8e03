use Rattle.std.proofs.lemmas.Result.{IfOk-weaker}
use Rattle.cell_tree.specs.Flattening.{IsInLayer}
use Rattle.flat_walk.specs.Walks.{pieces_in}
use Rattle.deck_plan.specs.Lists.{HasArea}
use Rattle.deck_plan.proofs.PileLemmas.{layer_of}
use Rattle.deck_plan.proofs.layers.piled_layer.Goals as goal

pub piled_area-requires : goal.piled_area-requires
piled_area-requires c =
    let tree = c.args.tree.now in
    (pieces_in tree.layout.cells tree.top c.args.parts.now c.args.pair c.args.window, c.in-Ok.ensures.list, (c.in-Ok.ensures.quads, c.in-Ok.ensures.grid))

pub returns : goal.returns
returns c =
    let tree = c.args.tree.now in
    let quads = pieces_in tree.layout.cells tree.top c.args.parts.now c.args.pair c.args.window in
    IfOk-weaker c.piled_area.result _ (λ traps. HasArea c.args.window (IsInLayer tree.layout.cells tree.top c.args.pair) traps.items)
    (λ traps h. layer_of tree.layout.cells tree.top c.args.pair c.args.window quads c.in-Ok.ensures.area traps.items h)
    (c.piled_area.ensures quads c.in-Ok.ensures.list (c.in-Ok.ensures.quads, c.in-Ok.ensures.grid))
