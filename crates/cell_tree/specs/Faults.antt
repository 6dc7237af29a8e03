-- Why a layout is refused: the first of these, in this order, that is there. What a refusal keeps is one such thing.
use Rattle.std.specs.Prelude.{◌≡◌, ◌^◌, ◌<◌, ◌≤◌, ◌-◌, ◌||◌, ℕ, ℤ, pos, neg_ℤ, int_lt, Bool, List, [], ◌∷◌, Option, Some, map, length, take, find, min}
use Rattle.half_grid.specs.declared.extent.Frame.{Frame}
use Rattle.layout_model.specs.declared.pair.Pair.{Pair}
use Rattle.layout_model.specs.declared.cells.Placement.{Placement}
use Rattle.layout_model.specs.declared.cells.Cell.{Cell}
use Rattle.cell_tree.specs.Cells.{name_at, PlacesCell, PlacesUnknown, HasFixed}
use Rattle.cell_tree.specs.Chains.{Link, IsChain, chain_cells, chain_end, chain_factor, IsReachable, IsCycle}
use Rattle.cell_tree.specs.Flattening.{IsVertex, shape_count}
use Rattle.cell_tree.specs.Boxes.{IsLeastBox}
use Rattle.cell_tree.specs.Trees.{IsKnown, IsAcyclic, IsShallow, IsMild, KeepsFixed, AreVerticesNear}
use Rattle.cell_tree.specs.declared.faults.TreeBad.{TreeBad}
use Rattle.cell_tree.specs.declared.faults.TreeBad.TheVariants.{NoTop, Unknown, Cycle, Deep, Scale, Fixed, Extent, Count}

-- a reachable cell places a name that no cell has
pub record IsUnknown (cells : List Cell) (top : ℕ) (cell name : List ℕ) : Type 0 where
  pub number : ℕ
  pub placement : Placement
  pub reachable : IsReachable cells top number
  pub unknown : PlacesUnknown cells number placement
  pub named : cell ≡ name_at cells number
  pub named_target : name ≡ placement.target

-- a cycle, by the names of its cells
pub record IsNamedCycle (cells : List Cell) (top : ℕ) (names : List (List ℕ)) : Type 0 where
  pub numbers : List ℕ
  pub cycle : IsCycle cells top numbers
  pub named : names ≡ map (name_at cells) numbers

-- a chain of placements of 65 cells, by their names
pub record IsDeep (cells : List Cell) (top : ℕ) (names : List (List ℕ)) : Type 0 where
  pub links : List Link
  pub chain : IsChain cells top links
  pub many : length (chain_cells top links) ≡ 65
  pub named : names ≡ map (name_at cells) (chain_cells top links)

-- a chain of placements whose factor is above 16, while it isn't without its last placement
pub record IsScaled (cells : List Cell) (top : ℕ) (value : ℤ) (names : List (List ℕ)) : Type 0 where
  pub links : List Link
  pub chain : IsChain cells top links
  pub factor : value ≡ pos (chain_factor links)
  pub above : 16 < chain_factor links
  pub before : chain_factor (take (length links - 1) links) ≤ 16
  pub named : names ≡ map (name_at cells) (chain_cells top links)

-- a cell with a fixed shape that is reached by a chain of a factor above 1
pub record IsEnlarged (cells : List Cell) (top : ℕ) (value : ℤ) (cell : List ℕ) : Type 0 where
  pub links : List Link
  pub chain : IsChain cells top links
  pub fixed : HasFixed cells (chain_end top links)
  pub factor : value ≡ pos (chain_factor links)
  pub above : 1 < chain_factor links
  pub named : cell ≡ name_at cells (chain_end top links)

abbrev pub is_beyond : ℤ → Bool
is_beyond z = int_lt z (neg_ℤ (pos (2 ^ 30))) || int_lt (pos (2 ^ 30)) z

-- the first side of a box that is beyond 2^30
abbrev pub first_beyond : Frame → Option ℤ
first_beyond box = find is_beyond (box.x0 ∷ box.y0 ∷ box.x1 ∷ box.y1 ∷ [])

-- the first of least x, least y, greatest x and greatest y of the vertices that is beyond 2^30
pub record IsExtent (cells : List Cell) (top : ℕ) (value : ℤ) : Type 0 where
  pub box : Frame
  pub least : IsLeastBox (λ p. (pair : Pair) × IsVertex cells top pair p) box
  pub first : first_beyond box ≡ Some value

-- a reachable cell with more than 2^40 flattened shapes, while no cell that it places has more. The value is their
-- number, or 2^128 - 1 where there are more.
pub record IsCrowded (cells : List Cell) (top : ℕ) (cell : List ℕ) (value : ℕ) : Type 0 where
  pub number : ℕ
  pub reachable : IsReachable cells top number
  pub many : 2 ^ 40 < shape_count cells number
  pub lowest : (m : ℕ) → PlacesCell cells number m → shape_count cells m ≤ 2 ^ 40
  pub named : cell ≡ name_at cells number
  pub count : value ≡ min (shape_count cells number) (2 ^ 128 - 1)

-- the fault is there, and none that is looked for before it is
abbrev pub IsFirstTreeFault : List Cell → ℕ → TreeBad → Type 0
IsFirstTreeFault cells top NoTop = ⊥
IsFirstTreeFault cells top (Unknown cell name) = IsUnknown cells top cell name
IsFirstTreeFault cells top (Cycle names) = IsKnown cells top × IsNamedCycle cells top names
IsFirstTreeFault cells top (Deep names) = IsKnown cells top × IsAcyclic cells top × IsDeep cells top names
IsFirstTreeFault cells top (Scale value names) = IsKnown cells top × IsAcyclic cells top × IsShallow cells top × IsScaled cells top value names
IsFirstTreeFault cells top (Fixed value cell) = IsKnown cells top × IsAcyclic cells top × IsShallow cells top × IsMild cells top
    × IsEnlarged cells top value cell
IsFirstTreeFault cells top (Extent value) = IsKnown cells top × IsAcyclic cells top × IsShallow cells top × IsMild cells top
    × KeepsFixed cells top × IsExtent cells top value
IsFirstTreeFault cells top (Count cell value) = IsKnown cells top × IsAcyclic cells top × IsShallow cells top × IsMild cells top
    × KeepsFixed cells top × AreVerticesNear cells top × IsCrowded cells top cell value

-- the order in which they are looked for
abbrev pub order_of : TreeBad → ℕ
order_of NoTop = 0
order_of (Unknown cell name) = 1
order_of (Cycle names) = 2
order_of (Deep names) = 3
order_of (Scale value names) = 4
order_of (Fixed value cell) = 5
order_of (Extent value) = 6
order_of (Count cell value) = 7
