-- Point lists in grid steps (SEMI P39 1.0, section 7, point lists): the places that the stored deltas lead to.
--
-- Each delta of kinds 0 to 4 is a move. A delta of kind 5 is added to the move before it, the first to none. A polygon
-- of kind 0 or 1 has one more vertex, from which level and upright edges lead back to its start.
use Rattle.std.specs.Prelude.{ℕ, ◌==◌, if◌then◌else◌, List, [], ◌∷◌, ◌++◌}
use Rattle.half_grid.specs.Outlines.{last_of}
use Rattle.half_grid.specs.declared.plane.Point.{Point}
use Rattle.layout_model.specs.Images.{moved}
use Rattle.oas_record.specs.declared.fields.Deltas.{Deltas}
use Rattle.oas_shapes.specs.Plane.{point, origin, places_along}

-- each delta added to the move before it
abbrev pub added_up : Point → List Point → List Point
added_up move [] = []
added_up move (delta ∷ deltas) = moved move delta ∷ added_up (moved move delta) deltas

abbrev pub moves_by : ℕ → List Point → List Point
moves_by kind items = if kind == 5 then added_up origin items else items

-- the places of a point list from a start, the start first
abbrev pub places_by : Point → ℕ → List Point → List Point
places_by start kind items = places_along start (moves_by kind items)

abbrev pub list_places : Point → Deltas → List Point
list_places start deltas = places_by start deltas.kind deltas.items

-- the vertex that isn't stored, by the start and the last vertex that is
abbrev pub implied : ℕ → Point → Point → List Point
implied kind start last =
    if kind == 0 then point start.x last.y ∷ []
    else if kind == 1 then point last.x start.y ∷ []
    else []

abbrev pub polygon_corners : Point → Deltas → List Point
polygon_corners start deltas =
    list_places start deltas ++ implied deltas.kind start (last_of start (list_places start deltas))
