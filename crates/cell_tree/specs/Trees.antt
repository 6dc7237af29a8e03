-- What is asked of a layout and of its top cell.
use Rattle.std.specs.Prelude.{◌^◌, ◌≤◌, ℕ, List, length}
use Rattle.half_grid.specs.declared.plane.Point.{Point}
use Rattle.layout_model.specs.Layouts.{IsWithin}
use Rattle.layout_model.specs.declared.pair.Pair.{Pair}
use Rattle.layout_model.specs.declared.cells.Placement.{Placement}
use Rattle.layout_model.specs.declared.cells.Cell.{Cell}
use Rattle.layout_model.specs.declared.cells.Layout.{Layout}
use Rattle.cell_tree.specs.Cells.{PlacesUnknown, HasFixed}
use Rattle.cell_tree.specs.Chains.{Link, IsChain, chain_cells, chain_end, chain_factor, IsReachable, IsCycle}
use Rattle.cell_tree.specs.Flattening.{IsVertex, shape_count}

-- each name that a reachable cell places is there
abbrev pub IsKnown : List Cell → ℕ → Type 0
IsKnown cells top = (n : ℕ) (placement : Placement) → IsReachable cells top n → PlacesUnknown cells n placement → ⊥

abbrev pub IsAcyclic : List Cell → ℕ → Type 0
IsAcyclic cells top = (numbers : List ℕ) → IsCycle cells top numbers → ⊥

-- no chain of placements from the top has more than 64 cells
abbrev pub IsShallow : List Cell → ℕ → Type 0
IsShallow cells top = (links : List Link) → IsChain cells top links → length (chain_cells top links) ≤ 64

-- no chain of placements from the top enlarges by more than 16
abbrev pub IsMild : List Cell → ℕ → Type 0
IsMild cells top = (links : List Link) → IsChain cells top links → chain_factor links ≤ 16

-- a cell with a fixed shape is reached by chains of factor 1 alone
abbrev pub KeepsFixed : List Cell → ℕ → Type 0
KeepsFixed cells top = (links : List Link) → IsChain cells top links → HasFixed cells (chain_end top links) → chain_factor links ≤ 1

-- each vertex is within 2^30 of 0 both ways
abbrev pub AreVerticesNear : List Cell → ℕ → Type 0
AreVerticesNear cells top = (pair : Pair) (p : Point) → IsVertex cells top pair p → IsWithin (2 ^ 30) p

-- there are at most 2^40 flattened shapes
abbrev pub IsCounted : List Cell → ℕ → Type 0
IsCounted cells top = shape_count cells top ≤ 2 ^ 40

pub record IsTree (cells : List Cell) (top : ℕ) : Type 0 where
  pub known : IsKnown cells top
  pub acyclic : IsAcyclic cells top
  pub shallow : IsShallow cells top
  pub mild : IsMild cells top
  pub fixed : KeepsFixed cells top
  pub near : AreVerticesNear cells top
  pub counted : IsCounted cells top

-- a layout with the number of its top cell
pub record Rooted : Type 0 where
  pub layout : Layout
  pub top : ℕ
