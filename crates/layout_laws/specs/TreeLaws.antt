-- A layout's cells below its top cell are a tree, or they have a first fault.
use Rattle.std.specs.Prelude.{ℕ, List}
use Rattle.layout_model.specs.declared.cells.Cell.{Cell}
use Rattle.cell_tree.specs.Faults.{IsFirstTreeFault}
use Rattle.cell_tree.specs.Trees.{IsTree}
use Rattle.cell_tree.specs.declared.faults.TreeBad.{TreeBad}

-- nothing is a first fault of the cells below the top cell
abbrev pub HasNoFault : List Cell → ℕ → Type 0
HasNoFault cells top = (bad : TreeBad) → IsFirstTreeFault cells top bad → ⊥

-- cells of which nothing is a first fault are a tree
abbrev pub FaultlessIsTree : Type 0
FaultlessIsTree = (cells : List Cell) (top : ℕ) → HasNoFault cells top → IsTree cells top
