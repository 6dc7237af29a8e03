-- Cells by number, and what they place. The cells of a layout are numbered from 0 in the order of the file, and a
-- placement names the cell that it places. No two cells of a layout have one name.
--
-- GDSII Stream Format Manual 6.0, SREF and AREF with SNAME; SEMI P39, PLACEMENT records.
use Rattle.std.specs.Prelude.{◌≡◌, ◌≤◌, ◌<◌, ℕ, nat_eq, true, List, [], Option, Some, None, map, slice_get, position}
use Rattle.std.specs.Option.{option_map_or}
use Rattle.std.specs.Cmp.Lexicographic.{pointwise}
use Rattle.layout_model.specs.declared.shapes.Shape.{Shape}
use Rattle.layout_model.specs.declared.cells.Placement.{Placement}
use Rattle.layout_model.specs.declared.cells.Cell.{Cell}

abbrev pub cell_names : List Cell → List (List ℕ)
cell_names cells = map (λ cell. cell.name) cells

-- the number of the cell of this name, if there is one
unfoldable pub cell_number : List Cell → List ℕ → Option ℕ
cell_number cells name = position (pointwise nat_eq name) (cell_names cells)

-- the name, the shapes and the placements of the cell of this number
abbrev pub name_at : List Cell → ℕ → List ℕ
name_at cells n = option_map_or (λ cell. cell.name) (slice_get cells n) []

abbrev pub shapes_at : List Cell → ℕ → List Shape
shapes_at cells n = option_map_or (λ cell. cell.shapes) (slice_get cells n) []

abbrev pub placements_at : List Cell → ℕ → List Placement
placements_at cells n = option_map_or (λ cell. cell.placements) (slice_get cells n) []

-- the number of the cell that each placement places, if there is one
abbrev pub targets_of : List Cell → List Placement → List (Option ℕ)
targets_of cells placements = map (λ placement. cell_number cells placement.target) placements

abbrev pub targets_at : List Cell → ℕ → List (Option ℕ)
targets_at cells n = targets_of cells (placements_at cells n)

abbrev pub all_targets : List Cell → List (List (Option ℕ))
all_targets cells = map (λ cell. targets_of cells cell.placements) cells

-- placement k of cell n places cell m
abbrev pub PlacesAt : List Cell → ℕ → ℕ → ℕ → Type 0
PlacesAt cells n k m = slice_get (targets_at cells n) k ≡ Some (Some m)

-- cell n has this placement, which places cell m
pub record Places (cells : List Cell) (n : ℕ) (placement : Placement) (m : ℕ) : Type 0 where
  pub number : ℕ
  pub placed : slice_get (placements_at cells n) number ≡ Some placement
  pub target : cell_number cells placement.target ≡ Some m

-- cell n places cell m
abbrev pub PlacesCell : List Cell → ℕ → ℕ → Type 0
PlacesCell cells n m = (placement : Placement) × Places cells n placement m

-- cell n has a placement of a name that no cell has
pub record PlacesUnknown (cells : List Cell) (n : ℕ) (placement : Placement) : Type 0 where
  pub number : ℕ
  pub placed : slice_get (placements_at cells n) number ≡ Some placement
  pub unknown : cell_number cells placement.target ≡ None

-- one of the shapes may not be enlarged
pub record HasFixedShape (shapes : List Shape) : Type 0 where
  pub number : ℕ
  pub shape : Shape
  pub here : slice_get shapes number ≡ Some shape
  pub fixed : shape.fixed ≡ true

abbrev pub HasFixed : List Cell → ℕ → Type 0
HasFixed cells n = HasFixedShape (shapes_at cells n)

-- each of the shapes with these numbers may be enlarged
abbrev pub HasNoneFixed : List Shape → ℕ → ℕ → Type 0
HasNoneFixed shapes from to = (k : ℕ) (shape : Shape) → from ≤ k → k < to → slice_get shapes k ≡ Some shape → shape.fixed ≡ true → ⊥
