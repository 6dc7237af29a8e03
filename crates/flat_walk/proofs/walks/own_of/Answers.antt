use Rattle.std.proofs.Common.{sym, subst, ◌<◌, ◌^◌, length, All}
use Rattle.cell_tree.proofs.ForCallers.{shapes_on_grid}
use Rattle.layout_model.specs.Layouts.{IsShapeOnGrid, IsWithin}
use Rattle.flat_walk.specs.Ways.{cells_of}
use Rattle.flat_walk.proofs.WayLemmas.{level_within, level_near}
use Rattle.flat_walk.proofs.walks.own_of.Goals as goal

pub shapes_of-shapes-requires : goal.shapes_of-shapes-requires
shapes_of-shapes-requires c = subst (λ n. n < length (cells_of c.args.scene.now)) (sym c.cell.ensures)
    (level_within c.args.scene.now c.args.level.now c.requires.scene c.requires.level)

pub of-requires-clause-near : goal.of-requires-clause-near
of-requires-clause-near c = subst (IsWithin (2 ^ 54)) (sym c.at-at.ensures) (level_near c.args.scene.now c.args.level.now c.requires.scene c.requires.level)

pub of-requires-clause-grid : goal.of-requires-clause-grid
of-requires-clause-grid c = subst (All IsShapeOnGrid) (sym c.shapes_of-shapes.ensures)
    (shapes_on_grid (cells_of c.args.scene.now) c.requires.scene.grid.cells c.cell.result)

pub of-requires-2-clause-near : goal.of-requires-2-clause-near
of-requires-2-clause-near c = subst (IsWithin (2 ^ 54)) (sym c.at-at.ensures) (level_near c.args.scene.now c.args.level.now c.requires.scene c.requires.level)

pub of-requires-2-clause-grid : goal.of-requires-2-clause-grid
of-requires-2-clause-grid c = subst (All IsShapeOnGrid) (sym c.shapes_of-shapes.ensures)
    (shapes_on_grid (cells_of c.args.scene.now) c.requires.scene.grid.cells c.cell.result)
