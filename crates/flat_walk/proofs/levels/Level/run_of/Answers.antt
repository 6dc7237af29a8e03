use Rattle.std.proofs.Common.{ap, map}
use Rattle.cell_tree.proofs.ForCallers.{on_grid}
use Rattle.layout_model.specs.Layouts.{IsPlacementOnGrid}
use Rattle.cell_tree.specs.Cells.{placements_at}
use Rattle.flat_walk.specs.Rests.{marked_image}
use Rattle.flat_walk.specs.Ways.{cells_of, marked_of}
use Rattle.flat_walk.proofs.RestLemmas.{slot_all, skip_all, skip_same}
use Rattle.flat_walk.proofs.ShowLemmas.{nothing_shown}
use Rattle.flat_walk.proofs.WayLemmas.{placed_reached, placed_mild, hull_rows, no_hull, box_within, things_are_placed}
use Rattle.flat_walk.proofs.levels.Level.run_of.Goals as goal

pub hull-requires : goal.hull-requires
hull-requires c = placed_reached c.args.scene.now c.args.self.now c.target-target.result c.args.number
    c.args.placement.now c.requires.level c.requires.placed
    (c.target-target.ensures.value c.args.placement.now c.requires.placed)

pub returns-in_default-clause-gives : goal.returns-in_default-clause-gives
returns-in_default-clause-gives c =
    let sc = c.args.scene.now in
    let target = c.target-target.ensures.value c.args.placement.now c.requires.placed in
    let reach = placed_reached sc c.args.self.now c.target-target.result c.args.number c.args.placement.now c.requires.level c.requires.placed target in
    skip_all sc.window _ (rw (things_are_placed sc c.args.placement.now c.target-target.result target)
    (nothing_shown sc.window c.args.self.now.orient c.args.self.now.at c.args.placement.now
    (marked_of sc c.target-target.result)
    (no_hull sc c.target-target.result c.requires.scene reach c.in_default.ensures)))

pub composed-orient-requires-clause-inner : goal.composed-orient-requires-clause-inner
composed-orient-requires-clause-inner c =
    (slot_all IsPlacementOnGrid
    (placements_at (cells_of c.args.scene.now) c.args.self.now.cell) c.args.number c.args.placement.now
    (on_grid (cells_of c.args.scene.now) c.requires.scene.grid.cells c.args.self.now.cell) c.requires.placed).orient

pub composed-orient-requires-clause-mild : goal.composed-orient-requires-clause-mild
composed-orient-requires-clause-mild c =
    placed_mild c.args.scene.now c.args.self.now c.target-target.result c.args.number c.args.placement.now
    c.requires.scene c.requires.level c.requires.placed
    (c.target-target.ensures.value c.args.placement.now c.requires.placed)

pub rows_of-requires-clause-low : goal.rows_of-requires-clause-low
rows_of-requires-clause-low c =
    let sc = c.args.scene.now in
    let target = c.target-target.ensures.value c.args.placement.now c.requires.placed in
    let reach = placed_reached sc c.args.self.now c.target-target.result c.args.number c.args.placement.now c.requires.level c.requires.placed target in
    (box_within sc c.target-target.result c.in-Some.hull c.requires.scene reach c.in-Some.ensures).0

pub rows_of-requires-clause-high : goal.rows_of-requires-clause-high
rows_of-requires-clause-high c =
    let sc = c.args.scene.now in
    let target = c.target-target.ensures.value c.args.placement.now c.requires.placed in
    let reach = placed_reached sc c.args.self.now c.target-target.result c.args.number c.args.placement.now c.requires.level c.requires.placed target in
    (box_within sc c.target-target.result c.in-Some.hull c.requires.scene reach c.in-Some.ensures).1

pub returns-clause-run : goal.returns-clause-run
returns-clause-run c =
    let sc = c.args.scene.now in
    let target = c.target-target.ensures.value c.args.placement.now c.requires.placed in
    let reach = placed_reached sc c.args.self.now c.target-target.result c.args.number c.args.placement.now c.requires.level c.requires.placed target in
    record {
      number = c.args.number;
      placed = c.requires.placed;
      target = target;
      grid = slot_all IsPlacementOnGrid
          (placements_at (cells_of sc) c.args.self.now.cell) c.args.number c.args.placement.now
          (on_grid (cells_of sc) c.requires.scene.grid.cells c.args.self.now.cell) c.requires.placed;
      is_orient = c.composed-orient.ensures.orient;
      orient = c.composed-orient.ensures.value;
      between = hull_rows sc c.target-target.result c.in-Some.hull c.composed-orient.result c.rows_of.result.low
          c.rows_of.result.high c.requires.scene reach c.in-Some.ensures c.rows_of.ensures.between;
      near = c.rows_of.ensures.near;
    }

pub returns-clause-gives : goal.returns-clause-gives
returns-clause-gives c =
    let sc = c.args.scene.now in
    let target = c.target-target.ensures.value c.args.placement.now c.requires.placed in
    skip_same sc.window _ _
    (ap (map (marked_image c.args.self.now.orient c.args.self.now.at))
    (things_are_placed sc c.args.placement.now c.target-target.result target))
