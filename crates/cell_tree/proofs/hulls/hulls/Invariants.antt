use Rattle.std.proofs.Common.{◌≡◌, length, map, []}
use Rattle.cell_tree.specs.HullTables.{AreCellHulls, AreOnlyAmong}
use Rattle.cell_tree.proofs.TableLemmas.{Known}
use Rattle.cell_tree.proofs.hulls.hulls.Given as goal

abbrev pub invariant-loop-cell : goal.invariant-loop-cell
invariant-loop-cell l = (length l.hulls.items ≡ length l.linked.cells)
    × Known (AreCellHulls l.linked.cells) [] l.order (map (λ list. list.items) l.hulls.items) l.cell-index
    × AreOnlyAmong l.order (map (λ list. list.items) l.hulls.items)
