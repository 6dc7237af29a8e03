-- What a record draws: closed outlines in half units, at a position in grid steps.
use Rattle.std.specs.Prelude.{ℤ, pos, false, if◌then◌else◌, List, [], ◌∷◌, ◌++◌, map}
use Rattle.std.specs.Ordering.{int_eq}
use Rattle.half_grid.specs.Halves.{twice}
use Rattle.half_grid.specs.declared.plane.Point.{Point}
use Rattle.layout_model.specs.Images.{moved}
use Rattle.layout_model.specs.Paths.{drawn_path}
use Rattle.layout_model.specs.declared.pair.Pair.{Pair}
use Rattle.layout_model.specs.declared.shapes.Shape.{Shape}
use Rattle.oas_record.specs.declared.fields.Deltas.{Deltas}
use Rattle.oas_shapes.specs.Plane.{doubled}
use Rattle.oas_shapes.specs.Figures.{figure_corners}
use Rattle.oas_shapes.specs.PointLists.{list_places, polygon_corners}
use Rattle.oas_shapes.specs.declared.figures.Figure.{Figure}
use Rattle.oas_shapes.specs.declared.figures.Brush.{Brush}

-- the points, and the first again
abbrev pub closed : List Point → List Point
closed [] = []
closed (first ∷ points) = (first ∷ points) ++ first ∷ []

-- the outline with these corners
abbrev pub outline_of : List Point → List Point
outline_of corners = closed (map doubled corners)

abbrev pub figure_outline : Point → Figure → List Point
figure_outline at figure = outline_of (map (moved at) (figure_corners figure))

abbrev pub polygon_outline : Point → Deltas → List Point
polygon_outline at deltas = outline_of (polygon_corners at deltas)

abbrev pub outline_shape : Pair → List Point → List Point → Shape
outline_shape pair outline offsets = record { pair = pair; points = outline; offsets = offsets; fixed = false }

abbrev pub path_points : Point → Deltas → List Point
path_points at deltas = map doubled (list_places at deltas)

-- half of its width, in half units
abbrev pub half_of : Brush → ℤ
half_of brush = twice (pos brush.half_width)

-- the shapes of a path: none where it has no width
abbrev pub path_shapes_of : Pair → Point → Brush → Deltas → List Point → List Shape
path_shapes_of pair at brush deltas offsets =
    if int_eq (half_of brush) (pos 0) then []
    else drawn_path pair offsets false (path_points at deltas) (half_of brush) (twice brush.start) (twice brush.end)
