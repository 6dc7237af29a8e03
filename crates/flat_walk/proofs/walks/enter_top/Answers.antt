use Rattle.std.proofs.Common.{◌∙◌, sym, ap, subst, All, vec_capacity, ◌++◌, ◌∷◌, [], ◌≤◌}
use Rattle.layout_model.specs.Layouts.{IsShapeOnGrid}
use Rattle.cell_tree.proofs.ForCallers.{shapes_on_grid}
use Rattle.flat_walk.specs.Walks.{pieces_in}
use Rattle.flat_walk.specs.Streams.{StandsForWalk}
use Rattle.flat_walk.specs.Ways.{cells_of}
use Rattle.flat_walk.proofs.WalkLemmas.{top_level, walk_begins, walk_none}
use Rattle.flat_walk.proofs.walks.enter_top.Goals as goal

pub own_of-own-requires-clause-level : goal.own_of-own-requires-clause-level
own_of-own-requires-clause-level c =
    let o = c.of-level.ensures in
    top_level c.args.scene.now c.of-level.result (o.cell ∙ c.top-2.ensures.value) o.orient o.at o.depth o.run

pub returns : goal.returns
returns c =
    let scene = c.args.scene.now in
    let o = c.of-level.ensures in
    let items = c.push_reserved.ensures.items ∙ ap (λ l. l ++ c.of-level.result ∷ []) c.requires.levels in
    let most = subst (λ n. 64 ≤ n) (sym c.push_reserved.ensures.capacity) c.requires.room in
    subst (λ l. StandsForWalk scene c.own_of-own.result l (vec_capacity c.push_reserved.new.self)
    (pieces_in (cells_of scene) scene.tree.now.top scene.parts.now scene.pair scene.window)) (sym items)
    (walk_begins scene c.of-level.result c.own_of-own.result
    (vec_capacity c.push_reserved.new.self) c.requires.scene c.own_of-own.ensures.own
    (o.cell ∙ c.top-2.ensures.value) o.orient o.at o.depth o.run o.next c.own_of-own.ensures.list most)

pub returns-then-not-top_meets : goal.returns-then-not-top_meets
returns-then-not-top_meets c =
    walk_none c.args.scene.now c.nothing.result c.args.levels.now.items
    (vec_capacity c.args.levels.now) c.requires.scene c.nothing.ensures.own
    (c.nothing.ensures.list c.args.scene.now.pair) c.requires.levels c.requires.room
    (c.top_meets.ensures c.if-not-top_meets.true)

pub nothing-requires-clause-grid : goal.nothing-requires-clause-grid
nothing-requires-clause-grid c = subst (All IsShapeOnGrid) (sym c.shapes_of.ensures)
    (shapes_on_grid (cells_of c.args.scene.now) c.requires.scene.grid.cells c.top.result)
