-- The outline of a polygon by its stored vertices.
use Rattle.std.specs.Prelude.{ℕ, Option, Some, None, List, [], ◌∷◌, ◌++◌}
use Rattle.half_grid.specs.Outlines.{last_of}
use Rattle.half_grid.specs.declared.plane.Point.{Point}
use Rattle.oas_shapes.specs.PointLists.{implied}
use Rattle.oas_shapes.specs.Outlines.{closed}

abbrev pub option_list : Option Point → List Point
option_list None = []
option_list (Some p) = p ∷ []

abbrev pub ring_by : ℕ → List Point → List Point
ring_by kind [] = []
ring_by kind (first ∷ vertices) = closed ((first ∷ vertices) ++ implied kind first (last_of first vertices))
