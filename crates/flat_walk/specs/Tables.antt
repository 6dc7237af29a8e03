-- The pieces of a layout's shapes: trapezoids that cover a shape's tiles, each once. They are kept by the number of the
-- cell and the number of the shape in it. The lists of a cell come one after another, in the order of its shapes.
use Rattle.std.specs.Prelude.{◌≡◌, ◌⊎◌, ◌<◌, ◌≤◌, ◌-◌, ◌^◌, ◌++◌, ℕ, min, List, [], Some, length, get_or, set, slice_get, All}
use Rattle.std.specs.List.{sum_by}
use Rattle.half_grid.specs.Trapezoids.{Trapezoid, IsShot, CoversExactly}
use Rattle.half_grid.specs.Winding.{IsInPolygon}
use Rattle.layout_model.specs.declared.pair.Pair.{Pair}
use Rattle.layout_model.specs.declared.shapes.Shape.{Shape}
use Rattle.layout_model.specs.declared.cells.Cell.{Cell}
use Rattle.cell_tree.specs.Cells.{shapes_at}
use Rattle.cell_tree.specs.Chains.{IsReachable}

-- the lists of pieces of the shapes of cell n
abbrev pub lists_at : List (List (List Trapezoid)) → ℕ → List (List Trapezoid)
lists_at table n = get_or table n []

-- no lists yet, of so many cells
pub record HaveNoLists (cells : List Cell) (table : List (List (List Trapezoid))) : Type 0 where
  pub long : length table ≡ length cells
  pub none : (n : ℕ) → lists_at table n ≡ []

-- the table with these lists of cell n after those that it has
unfoldable pub with_lists : List (List (List Trapezoid)) → ℕ → List (List Trapezoid) → List (List (List Trapezoid))
with_lists table n lists = set table n (lists_at table n ++ lists)

-- what is kept are shots, fewer of a shape than 2^64
pub record IsKept (pieces : List Trapezoid) : Type 0 where
  pub shots : All IsShot pieces
  pub few : length pieces < 2 ^ 64

abbrev pub AreKept : List (List (List Trapezoid)) → Type 0
AreKept table = All (All IsKept) table

-- a number as it is counted: 2^64 - 1 is that many or more
abbrev pub count_within : ℕ → ℕ
count_within n = min n (2 ^ 64 - 1)

-- how many pieces the shapes of all cells have
abbrev pub piece_count : List (List (List Trapezoid)) → ℕ
piece_count table = count_within (sum_by (sum_by length) table)

-- the shape has pieces, and they cover exactly its tiles, each once
pub record IsCut (table : List (List (List Trapezoid))) (n k : ℕ) (shape : Shape) : Type 0 where
  pub pieces : List Trapezoid
  pub kept : slice_get (lists_at table n) k ≡ Some pieces
  pub covers : CoversExactly pieces (IsInPolygon shape.points)

-- shape k of cell n has its pieces, or none where the same shape stands earlier in the cell and has them there
pub record IsShownOnce (cells : List Cell) (table : List (List (List Trapezoid))) (n k : ℕ) (shape : Shape) : Type 0 where
  pub pieces : List Trapezoid
  pub kept : slice_get (lists_at table n) k ≡ Some pieces
  pub inside : (pieces ≡ []) ⊎ CoversExactly pieces (IsInPolygon shape.points)
  pub twin : ℕ
  pub early : twin ≤ k
  pub same : slice_get (shapes_at cells n) twin ≡ Some shape
  pub cut : IsCut table n twin shape

-- each shape on the pair in a reachable cell is cut, or given once more
abbrev pub AreCut : List Cell → ℕ → List (List (List Trapezoid)) → Pair → Type 0
AreCut cells top table pair = (n k : ℕ) (shape : Shape) → IsReachable cells top n → slice_get (shapes_at cells n) k ≡ Some shape → shape.pair ≡ pair
    → IsShownOnce cells table n k shape
