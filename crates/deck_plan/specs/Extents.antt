-- Rows outside of which areas are empty, area by area: none where the area is empty.
use Rattle.std.specs.Prelude.{◌≡◌, ◌<◌, ◌≤◌, length, slice_get, ◌+◌, ◌*◌, ◌^◌, ℕ, ℤ, List}
use Rattle.std.specs.Prelude.{Option, Some, None, get_or, IfSome, int_le, if◌then◌else◌}
use Rattle.std.specs.Int.{int_min, int_max}
use Rattle.half_grid.specs.Windows.{RowRange, row_range}
use Rattle.half_grid.specs.declared.plane.Tile.{Tile}
use Rattle.half_grid.specs.declared.extent.Frame.{Frame}
use Rattle.cell_tree.specs.Boxes.{IsUpTo}
use Rattle.bool_ops.specs.Operations.{IsInRows}
use Rattle.deck_text.specs.declared.deck.Step.{Step}
use Rattle.deck_text.specs.declared.deck.Step.TheVariants.{Layer, Or, And, Sub, Xor, Grow, Shrink, Invert, Mirror}
use Rattle.deck_text.specs.declared.deck.Deck.{Deck}
use Rattle.deck_plan.specs.Areas.{IsInArea}
use Rattle.deck_plan.specs.declared.needs.Taken.{Taken}
use Rattle.deck_plan.specs.Needs.{widened, operands_of}
use Rattle.layout_model.specs.declared.pair.Pair.{Pair}
use Rattle.layout_model.specs.declared.cells.Cell.{Cell}
use Rattle.cell_tree.specs.Flattening.{IsInLayer}

-- the tile is in the rows, if there are any
abbrev pub IsInRowsOf : Option RowRange → Tile → Type 0
IsInRowsOf None t = ⊥
IsInRowsOf (Some window) t = IsInRows window t

pub record IsRowsUpTo (bound : ℕ) (window : RowRange) : Type 0 where
  pub low : IsUpTo bound window.y0
  pub high : IsUpTo bound window.y1

-- so far the rows of definition n may be
abbrev pub rows_bound : ℕ → ℕ
rows_bound n = 2 ^ 30 + n * 65536

abbrev pub joined_rows : RowRange → RowRange → RowRange
joined_rows a b = row_range (int_min a.y0 b.y0) (int_max a.y1 b.y1)

abbrev pub either_rows : Option RowRange → Option RowRange → Option RowRange
either_rows None b = b
either_rows (Some a) None = Some a
either_rows (Some a) (Some b) = Some (joined_rows a b)

-- the rows that are in both
abbrev pub shared_rows : RowRange → RowRange → Option RowRange
shared_rows a b = if int_le (int_max a.y0 b.y0) (int_min a.y1 b.y1) then Some (row_range (int_max a.y0 b.y0) (int_min a.y1 b.y1)) else None

abbrev pub both_rows : Option RowRange → Option RowRange → Option RowRange
both_rows None b = None
both_rows (Some a) None = None
both_rows (Some a) (Some b) = shared_rows a b

abbrev pub wider_rows : ℤ → Option RowRange → Option RowRange
wider_rows by None = None
wider_rows by (Some a) = Some (widened by a)

abbrev pub frame_rows : Frame → Option RowRange
frame_rows frame = if int_le frame.y0 frame.y1 then Some (row_range frame.y0 frame.y1) else None

abbrev pub option_rows : Option Frame → Option RowRange
option_rows None = None
option_rows (Some frame) = frame_rows frame

-- the rows of a step that isn't a layer, by those of its operands
abbrev pub derived_rows : Option Frame → Step → Option RowRange → Option RowRange → Option RowRange
derived_rows frame (Layer pair) first second = None
derived_rows frame (Or a b) first second = either_rows first second
derived_rows frame (And a b) first second = both_rows first second
derived_rows frame (Sub a b) first second = first
derived_rows frame (Xor a b) first second = either_rows first second
derived_rows frame (Grow a dx dy) first second = wider_rows dy first
derived_rows frame (Shrink a dx dy) first second = first
derived_rows frame (Invert a) first second = option_rows frame
derived_rows frame (Mirror a m) first second = first

abbrev pub rows_at : List (Option RowRange) → Option Taken → Option RowRange
rows_at rows None = None
rows_at rows (Some operand) = get_or rows operand.name None

-- what holds of a layer's rows
pub record AreLayerRows (cells : List Cell) (top : ℕ) (pair : Pair) (rows : Option RowRange) : Type 0 where
  pub outside : (t : Tile) → IsInLayer cells top pair t → IsInRowsOf rows t
  pub near : IfSome rows (IsRowsUpTo (2 ^ 30))

-- the rows of a step, by those of the definitions before it
pub record AreRowsOf (cells : List Cell) (top : ℕ) (frame : Option Frame) (before : List (Option RowRange))
    (step : Step) (rows : Option RowRange) : Type 0 where
  pub layer : (pair : Pair) → step ≡ Layer pair → AreLayerRows cells top pair rows
  pub derived : ((pair : Pair) → step ≡ Layer pair → ⊥)
      → rows ≡ derived_rows frame step (rows_at before (slice_get (operands_of step) 0))
      (rows_at before (slice_get (operands_of step) 1))

-- the rows of the first definitions of a deck, so many; no others are known yet
pub record AreExtents (cells : List Cell) (top : ℕ) (deck : Deck) (count : ℕ) (rows : List (Option RowRange)) : Type 0 where
  pub long : length rows ≡ 256
  pub outside : (n : ℕ) → n < count → (t : Tile) → IsInArea cells top deck n t → IsInRowsOf (get_or rows n None) t
  pub near : (n : ℕ) → IfSome (get_or rows n None) (IsRowsUpTo (rows_bound n))
  pub unknown : (n : ℕ) → count ≤ n → get_or rows n None ≡ None
