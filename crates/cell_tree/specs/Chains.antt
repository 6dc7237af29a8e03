-- Chains of placements, reachable cells and cycles.
--
-- A chain of placements from a cell is a list of placements, each in the cell that the one before places. A link is a
-- placement with the number of the cell that it places. The chain's cells are the first cell and the placed cells, and
-- its factor is the product of its placements' factors, 1 for the empty chain. A cell is reachable where a chain of
-- placements from the top cell ends in it. A cycle is a list of reachable cells each of which places the next, the last
-- the first.
use Rattle.std.specs.Prelude.{◌≡◌, ℕ, ◌+◌, ◌-◌, ◌*◌, ◌<◌, ◌≤◌, List, [], ◌∷◌, Some, map, length, slice_get}
use Rattle.layout_model.specs.declared.cells.Placement.{Placement}
use Rattle.layout_model.specs.declared.cells.Cell.{Cell}
use Rattle.cell_tree.specs.Cells.{Places, PlacesCell}

pub record Link : Type 0 where
  pub placement : Placement
  pub cell : ℕ

abbrev pub IsChain : List Cell → ℕ → List Link → Type 0
IsChain cells n [] = Unit {0}
IsChain cells n (link ∷ links) = Places cells n link.placement link.cell × IsChain cells link.cell links

abbrev pub chain_cells : ℕ → List Link → List ℕ
chain_cells n links = n ∷ map (λ link. link.cell) links

-- the last of its cells
abbrev pub chain_end : ℕ → List Link → ℕ
chain_end n [] = n
chain_end n (link ∷ links) = chain_end link.cell links

abbrev pub chain_factor : List Link → ℕ
chain_factor [] = 1
chain_factor (link ∷ links) = link.placement.orient.mag * chain_factor links

pub record IsReachable (cells : List Cell) (top n : ℕ) : Type 0 where
  pub links : List Link
  pub chain : IsChain cells top links
  pub end : chain_end top links ≡ n

pub record IsCycle (cells : List Cell) (top : ℕ) (numbers : List ℕ) : Type 0 where
  pub nonempty : 1 ≤ length numbers
  pub reachable : (k n : ℕ) → slice_get numbers k ≡ Some n → IsReachable cells top n
  pub onward : (k n m : ℕ) → slice_get numbers k ≡ Some n → slice_get numbers (k + 1) ≡ Some m → PlacesCell cells n m
  pub back : (n m : ℕ) → slice_get numbers (length numbers - 1) ≡ Some n → slice_get numbers 0 ≡ Some m → PlacesCell cells n m

-- each chain from the cell has fewer links
abbrev pub IsShort : List Cell → ℕ → ℕ → Type 0
IsShort cells bound n = (links : List Link) → IsChain cells n links → length links < bound
