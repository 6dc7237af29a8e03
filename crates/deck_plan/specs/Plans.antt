-- What a plan is seen as: a deck, and the cells of a layout with the number of its top cell.
use Rattle.std.specs.Prelude.{◌≡◌, ◌<◌, ◌⊎◌, ℕ, List, [], ◌∷◌, All, Some, slice_get, length}
use Rattle.half_grid.specs.Trapezoids.{Trapezoid, CoversExactly, IsShot}
use Rattle.half_grid.specs.Windows.{RowRange}
use Rattle.half_grid.specs.Winding.{IsInPolygon}
use Rattle.layout_model.specs.declared.shapes.Shape.{Shape}
use Rattle.cell_tree.specs.Cells.{shapes_at}
use Rattle.cell_tree.specs.Chains.{IsReachable}
use Rattle.flat_walk.specs.Tables.{IsShownOnce, lists_at, with_lists, piece_count}
use Rattle.layout_model.specs.declared.cells.Cell.{Cell}
use Rattle.bool_ops.specs.Operations.{IsJoinedOf}
use Rattle.deck_text.specs.Decks.{IsDeck}
use Rattle.deck_text.specs.declared.deck.Deck.{Deck}
use Rattle.cell_tree.specs.Trees.{Rooted}
use Rattle.half_grid.specs.declared.plane.Tile.{Tile}
use Rattle.deck_plan.specs.Areas.{IsInBand, IsInOutput}

pub record Planned : Type 0 where
  pub deck : Deck
  pub cells : List Cell
  pub top : ℕ

abbrev pub planned : Deck → Rooted → Planned
planned deck tree = record { deck = deck; cells = tree.layout.cells; top = tree.top }

-- the area of output k
abbrev pub planned_area : Planned → ℕ → Tile → Type 0
planned_area p k t = IsInOutput p.cells p.top p.deck k t

-- the joined list, of shots, of what output k of a plan has in the rows of a band
pub record IsBandOf (p : Planned) (k : ℕ) (band : RowRange) (traps : List Trapezoid) : Type 0 where
  pub shots : All IsShot traps
  pub joined : IsJoinedOf band (IsInBand p.cells p.top p.deck k band) traps

-- the deck is that of some bytes, where the command gives some names of layout and deck
pub record IsRead (deck : Deck) : Type 0 where
  pub bytes : List ℕ
  pub layout_name : List ℕ
  pub deck_name : List ℕ
  pub is : IsDeck bytes layout_name deck_name deck

-- each shape of each reachable cell has pieces that cover it, or none where the same shape stands earlier in the cell
abbrev pub AreAllCut : List Cell → ℕ → List (List (List Trapezoid)) → Type 0
AreAllCut cells top table = (n k : ℕ) (shape : Shape) → IsReachable cells top n → slice_get (shapes_at cells n) k ≡ Some shape
    → IsShownOnce cells table n k shape

-- so many pieces cover the shapes of the reachable cells
pub record CountsPieces (p : Planned) (count : ℕ) : Type 0 where
  pub table : List (List (List Trapezoid))
  pub cut : AreAllCut p.cells p.top table
  pub is : count ≡ piece_count table

-- each shape of the reachable cells before this one is cut, or given once more, and so is each of the first so many of this
-- one; there are no other lists of this cell, and none of later cells
pub record AreCutUpTo (cells : List Cell) (top : ℕ) (table : List (List (List Trapezoid))) (cell count : ℕ) : Type 0 where
  pub long : length table ≡ length cells
  pub own : length (lists_at table cell) ≡ count
  pub later : (n : ℕ) → cell < n → lists_at table n ≡ []
  pub cut : (n k : ℕ) (shape : Shape) → IsReachable cells top n → (n < cell) ⊎ ((n ≡ cell) × (k < count))
      → slice_get (shapes_at cells n) k ≡ Some shape → IsShownOnce cells table n k shape

-- a list that covers the shape's own tiles exactly is pushed for cell n
pub record IsPushedFor (shape : Shape) (before : List (List (List Trapezoid))) (n : ℕ) (after : List (List (List Trapezoid))) : Type 0 where
  pub pieces : List Trapezoid
  pub covers : CoversExactly pieces (IsInPolygon shape.points)
  pub is : after ≡ with_lists before n (pieces ∷ [])

-- shape k stands among the shapes before it, too
pub record IsGivenAgain (shapes : List Shape) (k : ℕ) (shape : Shape) : Type 0 where
  pub earlier : ℕ
  pub before : earlier < k
  pub same : slice_get shapes earlier ≡ Some shape

-- of these shapes of cell n, a list that covers the tiles of shape k exactly is pushed, or an empty one where it is given again
pub record IsPushedAmong (shapes : List Shape) (before : List (List (List Trapezoid))) (n k : ℕ) (after : List (List (List Trapezoid))) : Type 0 where
  pub shape : Shape
  pub here : slice_get shapes k ≡ Some shape
  pub pieces : List Trapezoid
  pub covers : CoversExactly pieces (IsInPolygon shape.points) ⊎ ((pieces ≡ []) × IsGivenAgain shapes k shape)
  pub is : after ≡ with_lists before n (pieces ∷ [])
