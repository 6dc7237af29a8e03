use Rattle.std.proofs.lemmas.Result.{IfOk-weaker}
use Rattle.deck_plan.specs.LayerSets.{OfLayers}
use Rattle.deck_plan.specs.Lists.{HasArea}
use Rattle.deck_plan.proofs.PileLemmas.{layers_of}
use Rattle.deck_plan.proofs.layers.piled_layers.Goals as goal

pub returns : goal.returns
returns c =
    let tree = c.args.tree.now in
    IfOk-weaker c.combine.result _ (λ traps. HasArea c.args.window (OfLayers tree.layout.cells tree.top c.args.layers) traps.items)
    (λ traps joined. layers_of tree.layout.cells tree.top c.args.layers c.args.window c.in_ok-first.first.items c.in_ok-second.second.items traps.items
    c.in_ok-first.ensures c.in_ok-second.ensures (rw (c.as_slice.ensures.value, c.as_slice-2.ensures.value) at joined))
    c.combine.ensures
