-- What a walk still has to show, by what it keeps. This is for the contracts of the walk's own functions.
--
-- The list of a cell is taken with a mark at each cell: None where a cell begins, and then its own pieces.
use Rattle.std.specs.Prelude.{◌≡◌, ℕ, Bool, true, false, List, [], ◌∷◌, ◌++◌, Option, Some, None, map, drop, IfSome, MatchOption, if◌then◌else◌}
use Rattle.std.specs.List.{filter, flat_map}
use Rattle.std.specs.Option.{option_map}
use Rattle.half_grid.specs.Quads.{Corners, IsQuad, corners_of}
use Rattle.half_grid.specs.Trapezoids.{Trapezoid}
use Rattle.half_grid.specs.Windows.{RowRange}
use Rattle.half_grid.specs.declared.plane.Point.{Point}
use Rattle.layout_model.specs.declared.pair.Pair.{Pair}
use Rattle.layout_model.specs.declared.orient.Orient.{Orient}
use Rattle.layout_model.specs.declared.shapes.Shape.{Shape}
use Rattle.layout_model.specs.declared.cells.Cell.{Cell}
use Rattle.cell_tree.specs.Flattening.{things_within}
use Rattle.flat_walk.specs.Quads.{quad_image, moved_quad, has_row_in}
use Rattle.flat_walk.specs.Walks.{is_on, pieces_of_shapes, own_pieces}

-- ---- marked lists

abbrev pub marked_image : Orient → Point → Option Corners → Option Corners
marked_image orient at item = option_map (quad_image orient at) item

abbrev pub marked_own : List Cell → List (List (List Trapezoid)) → Pair → ℕ → List (Option Corners)
marked_own cells table pair n = None ∷ map Some (own_pieces cells table pair n)

unfoldable pub marked : List Cell → List (List (List Trapezoid)) → Pair → ℕ → List (Option Corners)
marked cells table pair n = things_within (marked_own cells table pair) marked_image cells 64 n

abbrev pub shows_in : RowRange → Option Corners → Bool
shows_in window None = false
shows_in window (Some q) = has_row_in window q

abbrev pub IsMarkedQuad : Option Corners → Type 0
IsMarkedQuad item = IfSome item IsQuad

-- the first list is the second, after items that don't show in the window
pub record Skips (window : RowRange) (before after : List (Option Corners)) : Type 0 where
  pub front : List (Option Corners)
  pub is : before ≡ front ++ after
  pub none : filter (shows_in window) front ≡ []

-- ---- a cell's own pieces

-- the images of the corners of pieces
abbrev pub placed_list : Orient → Point → List Trapezoid → List Corners
placed_list orient at pieces = map (λ piece. quad_image orient at (corners_of piece)) pieces

-- those of a shape from the offset of this number on
abbrev pub places_rest : Pair → Shape → List Trapezoid → ℕ → List Corners
places_rest pair shape pieces place = if is_on pair shape then flat_map
    (λ by. map (λ piece. moved_quad by (corners_of piece)) pieces) (drop place shape.offsets) else []

-- where the shape is placed so, none of them has a row in the window
abbrev pub ShowsNothing : RowRange → Orient → Point → Pair → Shape → List Trapezoid → ℕ → Type 0
ShowsNothing window orient at pair shape pieces place = filter (shows_in window)
    (map Some (map (quad_image orient at) (places_rest pair shape pieces place))) ≡ []

-- those of shapes, of the first from the offset of this number on
abbrev pub shapes_rest : Pair → List Shape → List (List Trapezoid) → ℕ → List Corners
shapes_rest pair (shape ∷ shapes) (pieces ∷ lists) place = places_rest pair shape pieces place ++ pieces_of_shapes pair shapes lists
shapes_rest pair shapes lists place = []

abbrev pub placed_rest : Orient → Point → Pair → List Shape → List (List Trapezoid) → ℕ → List Corners
placed_rest orient at pair shapes lists place = map (quad_image orient at) (shapes_rest pair shapes lists place)

-- the answer is the first item that shows in the window, or None where there is none, and what is after it is still to come
abbrev pub Gives : RowRange → List (Option Corners) → Option Corners → List (Option Corners) → Type 0
Gives window before answer after =
    MatchOption answer (Skips window before [] × (after ≡ [])) (λ q. Skips window before (Some q ∷ after) × (has_row_in window q ≡ true))
