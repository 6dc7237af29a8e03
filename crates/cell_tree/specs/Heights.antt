-- The height of a cell: the number of cells in its longest chain of placements, or 65 where that has more.
use Rattle.std.specs.Prelude.{◌≡◌, ◌≤◌, ◌<◌, ◌+◌, ◌⊎◌, ◌↔◌, ℕ, List, Option, Some, length, slice_get, slice_index, min}
use Rattle.layout_model.specs.declared.cells.Cell.{Cell}
use Rattle.cell_tree.specs.Chains.{Link, IsChain, IsReachable, chain_cells}
use Rattle.cell_tree.specs.Orders.{IsAmong}

-- a chain from the cell has so many placements
abbrev pub HasChain : List Cell → ℕ → ℕ → Type 0
HasChain cells n count = (links : List Link) × IsChain cells n links × (length links ≡ count)

abbrev pub IsHeight : List Cell → ℕ → ℕ → Type 0
IsHeight cells n height = (count : ℕ) → count < 65 → (count < height) ↔ HasChain cells n count

-- of each cell of the order
abbrev pub AreHeights : List Cell → List ℕ → List ℕ → Type 0
AreHeights cells order heights = (n : ℕ) → IsAmong order n → IsHeight cells n (slice_index heights n)

-- of each reachable cell
abbrev pub AreHeightsBelow : List Cell → ℕ → List ℕ → Type 0
AreHeightsBelow cells top heights = (n : ℕ) → IsReachable cells top n → IsHeight cells n (slice_index heights n)

-- the cells of a chain of 65 cells from the top
pub record IsDeepChain (cells : List Cell) (top : ℕ) (numbers : List ℕ) : Type 0 where
  pub links : List Link
  pub chain : IsChain cells top links
  pub numbers_are : numbers ≡ chain_cells top links
  pub many : length numbers ≡ 65

-- the height of a cell by those of the cells that it places
pub record IsHeightOf (targets : List (Option ℕ)) (heights : List ℕ) (height : ℕ) : Type 0 where
  pub some : 1 ≤ height
  pub most : height ≤ 65
  pub above : (k m : ℕ) → slice_get targets k ≡ Some (Some m) → min 65 (slice_index heights m + 1) ≤ height
  pub from : (height ≤ 1) ⊎ ((k : ℕ) × (m : ℕ) × (slice_get targets k ≡ Some (Some m)) × (height ≤ slice_index heights m + 1))
