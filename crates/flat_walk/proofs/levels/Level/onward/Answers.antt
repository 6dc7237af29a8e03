use Rattle.std.proofs.Common.{sym, subst}
use Rattle.cell_tree.specs.Cells.{placements_at}
use Rattle.flat_walk.specs.Blocks.{boxes_in}
use Rattle.flat_walk.specs.Boxes.{AreSpots}
use Rattle.flat_walk.specs.Ways.{cells_of}
use Rattle.flat_walk.proofs.BlockLemmas.{placements_passed}
use Rattle.flat_walk.proofs.WayLemmas.{level_near, level_reached}
use Rattle.flat_walk.proofs.levels.Level.onward.Goals as goal

pub next_in-requires-clause-at : goal.next_in-requires-clause-at
next_in-requires-clause-at c = level_near c.args.scene.now c.args.self.now c.requires.scene c.requires.level

pub returns-clause-skips : goal.returns-clause-skips
returns-clause-skips c =
    let sc = c.args.scene.now in
    let s = c.args.self.now in
    let reach = level_reached sc s c.requires.level in
    let n = c.next_in.ensures in
    placements_passed sc s.cell (boxes_in c.spots_in.result) c.requires.scene reach
    (subst (AreSpots (cells_of sc) (placements_at (cells_of sc) s.cell)) (sym c.spots_in.ensures) (c.requires.scene.boxed.spots s.cell reach))
    s.orient s.at s.next c.next_in.result n.later n.inside n.none
