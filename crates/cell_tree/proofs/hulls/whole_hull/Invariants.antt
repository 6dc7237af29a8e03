use Rattle.std.proofs.Common.{◌≡◌, None, drop}
use Rattle.cell_tree.specs.HullTables.{whole_from}
use Rattle.cell_tree.proofs.hulls.whole_hull.Given as goal

abbrev pub invariant-loop-here : goal.invariant-loop-here
invariant-loop-here l = whole_from l.hull (drop l.here-index l.hulls) ≡ whole_from None l.hulls
