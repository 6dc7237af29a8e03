use Rattle.std.proofs.Common.{◌≡◌, take}
use Rattle.std.specs.Option.{option_map}
use Rattle.layout_model.specs.declared.pair.Pair.{Pair}
use Rattle.cell_tree.specs.HullTables.{AreInOrder, hull_in, widest, placed_hull}
use Rattle.cell_tree.proofs.hulls.widen_by_placed.Given as goal

abbrev pub invariant-loop-there : goal.invariant-loop-there
invariant-loop-there l = AreInOrder l.hulls.items × ((pair : Pair) → hull_in l.hulls.items pair
    ≡ widest (hull_in l.fn.hulls.items pair) (option_map (placed_hull l.orient l.moves) (hull_in (take l.there-index l.placed) pair)))
