use Rattle.std.proofs.Common.{◌≡◌, drop}
use Rattle.std.specs.List.{fold}
use Rattle.std.specs.Hash.DefaultHasher as sip
use Rattle.keyed_hash.specs.Keys.{hasher_after_all, start_of}
use Rattle.cell_tree.specs.Cells.{cell_names}
use Rattle.cell_tree.proofs.linked.key_of.Given as goal

abbrev pub invariant-loop-cell : goal.invariant-loop-cell
invariant-loop-cell l = fold sip.write (start_of l.key) (cell_names (drop l.cell-index l.cells)) ≡ hasher_after_all (cell_names l.fn.cells)
