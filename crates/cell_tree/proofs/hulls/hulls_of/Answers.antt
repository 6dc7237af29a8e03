use Rattle.std.proofs.Common.{length, All, map, sym, subst}
use Rattle.layout_model.specs.Layouts.{IsShapeOnGrid, IsPlacementOnGrid}
use Rattle.cell_tree.specs.Cells.{shapes_at, placements_at}
use Rattle.cell_tree.proofs.SlotLemmas.{All-slot}
use Rattle.cell_tree.proofs.FactorLemmas.{on_grid}
use Rattle.cell_tree.proofs.ReachLemmas.{shapes_on_grid}
use Rattle.cell_tree.specs.HullTables.{OwnVertex}
use Rattle.cell_tree.proofs.OwnLemmas.{shown_slot, step_hulls, step_target, cell_hulls, own_only, target_below}
use Rattle.cell_tree.proofs.hulls.hulls_of.Goals as goal

pub loop-k-init : goal.loop-k-init
loop-k-init c = own_only c.args.linked.now.cells c.args.cell c.in_ok-own.own.items c.shapes.result.now c.shapes.ensures c.in_ok-own.ensures

pub loop-k-preserved : goal.loop-k-preserved
loop-k-preserved c =
    let cells = c.args.linked.now.cells in let n = c.args.cell in let k = c.loop-k.k in let placement =
    c.index-placements-k.result in let targets = c.targets-target-items.result.now in
    let slot = shown_slot cells n k c.placements-placements.result.now targets placement
    c.placements-placements.ensures c.targets-target-items.ensures.value c.loop-k-test.true
    c.index-placements-k.is in (
      c.in_ok-widen_by_placed.ensures.order,
      step_hulls cells n k targets placement
          (map (λ list. list.items) c.args.hulls.now) c.loop-k.own.items c.widen_by_placed.new.hulls.items
          c.placed_hulls-placed.result.now c.moves_of.result
          (λ pair p. OwnVertex (shapes_at cells n) (length (shapes_at cells n)) pair p)
          c.targets-target-items.ensures.value slot c.requires.placed c.moves_of.ensures.least
          c.placed_hulls-placed.ensures
          c.in_ok-widen_by_placed.ensures.hulls c.loop-k.invariant.1,
    )

pub returns : goal.returns
returns c = cell_hulls c.args.linked.now.cells c.args.cell c.loop-k.k c.targets-target-items.result.now
    c.loop-k.own.items c.targets-target-items.ensures.value c.loop-k-test.false c.requires.short c.loop-k.invariant.0
    c.loop-k.invariant.1

pub own_hulls-requires : goal.own_hulls-requires
own_hulls-requires c = subst (All IsShapeOnGrid) (sym c.shapes.ensures) (shapes_on_grid c.args.linked.now.cells c.requires.grid.cells c.args.cell)

pub placed_hulls-placed-requires : goal.placed_hulls-placed-requires
placed_hulls-placed-requires c = target_below c.args.linked.now.cells c.loop-k.k c.targets-target-items.result.now
    (length c.args.hulls.now) c.targets-target-items.ensures.below c.loop-k-test.true (sym c.requires.long)

pub moves_of-requires : goal.moves_of-requires
moves_of-requires c =
    let cells = c.args.linked.now.cells in let n = c.args.cell in let k = c.loop-k.k in
    let slot = shown_slot cells n k c.placements-placements.result.now c.targets-target-items.result.now
    c.index-placements-k.result c.placements-placements.ensures c.targets-target-items.ensures.value
    c.loop-k-test.true c.index-placements-k.is in
    All-slot (placements_at cells n) IsPlacementOnGrid (on_grid cells c.requires.grid.cells n) k c.index-placements-k.result slot

pub widen_by_placed-requires-clause-orient : goal.widen_by_placed-requires-clause-orient
widen_by_placed-requires-clause-orient c =
    let cells = c.args.linked.now.cells in let n = c.args.cell in let k = c.loop-k.k in
    let slot = shown_slot cells n k c.placements-placements.result.now c.targets-target-items.result.now
    c.index-placements-k.result c.placements-placements.ensures c.targets-target-items.ensures.value
    c.loop-k-test.true c.index-placements-k.is in
    (All-slot (placements_at cells n) IsPlacementOnGrid (on_grid cells c.requires.grid.cells n) k c.index-placements-k.result slot).orient

pub widen_by_placed-requires-clause-placed : goal.widen_by_placed-requires-clause-placed
widen_by_placed-requires-clause-placed c =
    let cells = c.args.linked.now.cells in let n = c.args.cell in let k = c.loop-k.k in let targets = c.targets-target-items.result.now in
    let slot = shown_slot cells n k c.placements-placements.result.now targets c.index-placements-k.result
    c.placements-placements.ensures c.targets-target-items.ensures.value c.loop-k-test.true
    c.index-placements-k.is in
    (step_target cells n k targets c.index-placements-k.result
    (map (λ list. list.items) c.args.hulls.now) c.placed_hulls-placed.result.now
    c.targets-target-items.ensures.value slot c.requires.placed c.requires.small c.placed_hulls-placed.ensures).1

pub widen_by_placed-requires-clause-order : goal.widen_by_placed-requires-clause-order
widen_by_placed-requires-clause-order c =
    let cells = c.args.linked.now.cells in let n = c.args.cell in let k = c.loop-k.k in let targets = c.targets-target-items.result.now in
    let slot = shown_slot cells n k c.placements-placements.result.now targets c.index-placements-k.result
    c.placements-placements.ensures c.targets-target-items.ensures.value c.loop-k-test.true
    c.index-placements-k.is in
    (step_target cells n k targets c.index-placements-k.result
    (map (λ list. list.items) c.args.hulls.now) c.placed_hulls-placed.result.now
    c.targets-target-items.ensures.value slot c.requires.placed c.requires.small c.placed_hulls-placed.ensures).0
