-- How many flattened shapes a cell has, by its own and those of the cells that it places.
use Rattle.std.specs.Prelude.{◌≡◌, ◌≤◌, ◌<◌, ◌*◌, ◌^◌, ◌-◌, ℕ, List, Option, length, slice_index, min}
use Rattle.std.specs.List.{sum_by}
use Rattle.std.specs.Option.{option_map_or}
use Rattle.layout_model.specs.declared.shapes.Shape.{Shape}
use Rattle.layout_model.specs.declared.cells.Placement.{Placement}
use Rattle.layout_model.specs.declared.cells.Cell.{Cell}
use Rattle.cell_tree.specs.Cells.{PlacesCell, cell_number}
use Rattle.cell_tree.specs.Orders.{IsAmong}
use Rattle.cell_tree.specs.declared.crowds.Counted.{Counted}
use Rattle.cell_tree.specs.declared.crowds.Counted.TheVariants.{Each, Crowded}
use Rattle.cell_tree.specs.Flattening.{shape_count}

-- at most 2^128 - 1
abbrev pub saturated : ℕ → ℕ
saturated n = min n (2 ^ 128 - 1)

abbrev pub own_count : List Shape → ℕ
own_count shapes = sum_by (λ shape. length shape.offsets) shapes

-- by way of a placement
abbrev pub placed_count : List Cell → Placement → ℕ
placed_count cells placement = length placement.offsets * option_map_or (shape_count cells) (cell_number cells placement.target) 0

-- by way of a placement, by the numbers of the placed cells
abbrev pub copies_of : List ℕ → Placement → Option ℕ → ℕ
copies_of counts placement target = length placement.offsets * option_map_or (slice_index counts) target 0

-- a cell of the order with more than 2^40, while no cell that it places has more, and their number
pub record IsCrowd (cells : List Cell) (order : List ℕ) (n count : ℕ) : Type 0 where
  pub among : IsAmong order n
  pub many : 2 ^ 40 < shape_count cells n
  pub lowest : (m : ℕ) → PlacesCell cells n m → shape_count cells m ≤ 2 ^ 40
  pub number : count ≡ saturated (shape_count cells n)

-- the cell's number of flattened shapes, by the table, and it is at most 2^40
pub record HasCount (cells : List Cell) (counts : List ℕ) (n : ℕ) : Type 0 where
  pub number : slice_index counts n ≡ shape_count cells n
  pub few : shape_count cells n ≤ 2 ^ 40

-- a table of the numbers of the cells of the order, or the first of these that has too many
abbrev pub AreCounted : List Cell → List ℕ → Counted → Type 0
AreCounted cells order (Each counts) = (length counts.items ≡ length cells) × ((n : ℕ) → IsAmong order n → HasCount cells counts.items n)
AreCounted cells order (Crowded crowd) = IsCrowd cells order crowd.cell crowd.count
