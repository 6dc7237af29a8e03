use Rattle.std.proofs.Common.{rules, None}
use Rattle.flat_walk.specs.Ways.{IsScene, cells_of, boxes_of}
use Rattle.flat_walk.specs.Boxes.{AreAllBoxed}
use Rattle.flat_walk.specs.declared.scenes.Scene.{Scene}
use Rattle.flat_walk.proofs.BoxLemmas.{none_boxed}
use Rattle.flat_walk.proofs.ListLemmas.{list_quads}
use Rattle.flat_walk.proofs.AreaLemmas.{list_area}
use Rattle.flat_walk.proofs.GridLemmas.{list_grid}
use Rattle.flat_walk.proofs.walks.Walk.begin.Goals as goal

pub enter_top-own-requires-clause-scene : goal.enter_top-own-requires-clause-scene
enter_top-own-requires-clause-scene c =
    let scene : Scene = record { tree = c.args.tree; parts = c.args.parts; boxes = None; pair = c.args.pair; window = c.args.window } in
    let boxed : AreAllBoxed (cells_of scene) scene.tree.now.top scene.parts.now (boxes_of scene) = none_boxed
    (cells_of scene) scene.tree.now.top scene.parts.now in
    let sc : IsScene scene = record { grid = search rules; tree = search rules; top = search rules; kept = search rules; cut = search rules; boxed = boxed } in
    sc

pub returns-clause-quads : goal.returns-clause-quads
returns-clause-quads c =
    let scene : Scene = record { tree = c.args.tree; parts = c.args.parts; boxes = None; pair = c.args.pair; window = c.args.window } in
    let boxed : AreAllBoxed (cells_of scene) scene.tree.now.top scene.parts.now (boxes_of scene) = none_boxed
    (cells_of scene) scene.tree.now.top scene.parts.now in
    let sc : IsScene scene = record { grid = search rules; tree = search rules; top = search rules; kept = search rules; cut = search rules; boxed = boxed } in
    list_quads scene sc

pub returns-clause-grid : goal.returns-clause-grid
returns-clause-grid c =
    let scene : Scene = record { tree = c.args.tree; parts = c.args.parts; boxes = None; pair = c.args.pair; window = c.args.window } in
    let boxed : AreAllBoxed (cells_of scene) scene.tree.now.top scene.parts.now (boxes_of scene) = none_boxed
    (cells_of scene) scene.tree.now.top scene.parts.now in
    let sc : IsScene scene = record { grid = search rules; tree = search rules; top = search rules; kept = search rules; cut = search rules; boxed = boxed } in
    list_grid scene sc

pub returns-clause-area : goal.returns-clause-area
returns-clause-area c =
    let scene : Scene = record { tree = c.args.tree; parts = c.args.parts; boxes = None; pair = c.args.pair; window = c.args.window } in
    let boxed : AreAllBoxed (cells_of scene) scene.tree.now.top scene.parts.now (boxes_of scene) = none_boxed
    (cells_of scene) scene.tree.now.top scene.parts.now in
    let sc : IsScene scene = record { grid = search rules; tree = search rules; top = search rules; kept = search rules; cut = search rules; boxed = boxed } in
    list_area scene sc

pub returns-in_err-levels-clause-quads : goal.returns-in_err-levels-clause-quads
returns-in_err-levels-clause-quads c =
    let scene : Scene = record { tree = c.args.tree; parts = c.args.parts; boxes = None; pair = c.args.pair; window = c.args.window } in
    let boxed : AreAllBoxed (cells_of scene) scene.tree.now.top scene.parts.now (boxes_of scene) = none_boxed
    (cells_of scene) scene.tree.now.top scene.parts.now in
    let sc : IsScene scene = record { grid = search rules; tree = search rules; top = search rules; kept = search rules; cut = search rules; boxed = boxed } in
    list_quads scene sc

pub returns-in_err-levels-clause-grid : goal.returns-in_err-levels-clause-grid
returns-in_err-levels-clause-grid c =
    let scene : Scene = record { tree = c.args.tree; parts = c.args.parts; boxes = None; pair = c.args.pair; window = c.args.window } in
    let boxed : AreAllBoxed (cells_of scene) scene.tree.now.top scene.parts.now (boxes_of scene) = none_boxed
    (cells_of scene) scene.tree.now.top scene.parts.now in
    let sc : IsScene scene = record { grid = search rules; tree = search rules; top = search rules; kept = search rules; cut = search rules; boxed = boxed } in
    list_grid scene sc

pub returns-in_err-levels-clause-area : goal.returns-in_err-levels-clause-area
returns-in_err-levels-clause-area c =
    let scene : Scene = record { tree = c.args.tree; parts = c.args.parts; boxes = None; pair = c.args.pair; window = c.args.window } in
    let boxed : AreAllBoxed (cells_of scene) scene.tree.now.top scene.parts.now (boxes_of scene) = none_boxed
    (cells_of scene) scene.tree.now.top scene.parts.now in
    let sc : IsScene scene = record { grid = search rules; tree = search rules; top = search rules; kept = search rules; cut = search rules; boxed = boxed } in
    list_area scene sc
