-- The placed pieces of a window: the images of the pieces of the flattened shapes on a pair, in the order of the
-- flattened layout, less those that have no row in the window.
--
-- A cell shows the pieces of its own shapes on the pair in order, each shape at its offsets in order, and at each of them
-- its pieces in the order put; and then what its placements show, as the flattened layout says it.
use Rattle.std.specs.Prelude.{◌≤ℤ◌, ◌<ℤ◌, ◌↔◌, ◌&&◌, ℕ, nat_eq, Bool, List, [], ◌∷◌, ◌++◌, map, Any, if◌then◌else◌}
use Rattle.std.specs.List.{filter, flat_map}
use Rattle.half_grid.specs.Quads.{Corners, corners_of, ring_of}
use Rattle.half_grid.specs.Trapezoids.{Trapezoid}
use Rattle.half_grid.specs.Winding.{IsInPolygon}
use Rattle.half_grid.specs.Windows.{RowRange}
use Rattle.half_grid.specs.declared.plane.Tile.{Tile}
use Rattle.layout_model.specs.declared.pair.Pair.{Pair}
use Rattle.layout_model.specs.declared.shapes.Shape.{Shape}
use Rattle.layout_model.specs.declared.cells.Cell.{Cell}
use Rattle.cell_tree.specs.Cells.{shapes_at}
use Rattle.cell_tree.specs.Flattening.{things_within, IsInLayer}
use Rattle.flat_walk.specs.Quads.{quad_image, moved_quad, has_row_in}
use Rattle.flat_walk.specs.Tables.{lists_at}

abbrev pub is_on : Pair → Shape → Bool
is_on pair shape = nat_eq shape.pair.layer pair.layer && nat_eq shape.pair.datatype pair.datatype

-- the pieces of a shape, at each of its offsets in order
abbrev pub pieces_of_shape : Shape → List Trapezoid → List Corners
pieces_of_shape shape pieces = flat_map (λ by. map (λ piece. moved_quad by (corners_of piece)) pieces) shape.offsets

-- the pieces of the shapes on a pair, by the list of each shape
abbrev pub pieces_of_shapes : Pair → List Shape → List (List Trapezoid) → List Corners
pieces_of_shapes pair (shape ∷ shapes) (pieces ∷ lists) = (if is_on pair shape then pieces_of_shape shape pieces else []) ++ pieces_of_shapes pair shapes lists
pieces_of_shapes pair shapes lists = []

-- the pieces of a cell's own shapes
abbrev pub own_pieces : List Cell → List (List (List Trapezoid)) → Pair → ℕ → List Corners
own_pieces cells table pair n = pieces_of_shapes pair (shapes_at cells n) (lists_at table n)

-- the pieces of all that a cell shows
unfoldable pub placed_pieces : List Cell → List (List (List Trapezoid)) → Pair → ℕ → List Corners
placed_pieces cells table pair n = things_within (own_pieces cells table pair) quad_image cells 64 n

-- those of the top cell that have a row in the window
unfoldable pub pieces_in : List Cell → ℕ → List (List (List Trapezoid)) → Pair → RowRange → List Corners
pieces_in cells top table pair window = filter (has_row_in window) (placed_pieces cells table pair top)

-- each tile of the window's rows is in some quadrilateral of the list exactly where it is in the area of the pair
abbrev pub CoversLayer : List Cell → ℕ → Pair → RowRange → List Corners → Type 0
CoversLayer cells top pair window quads = (t : Tile) → window.y0 ≤ℤ t.j → t.j <ℤ window.y1
    → Any (λ q. IsInPolygon (ring_of q) t) quads ↔ IsInLayer cells top pair t
