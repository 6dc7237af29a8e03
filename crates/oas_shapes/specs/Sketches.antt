-- The corners of sketches, of rings and of outlines as lists.
use Rattle.std.specs.Prelude.{List, [], ◌∷◌}
use Rattle.half_grid.specs.declared.plane.Point.{Point}
use Rattle.oas_shapes.specs.Ways.{way_of}
use Rattle.oas_shapes.specs.declared.tables.Mark.{Mark}
use Rattle.oas_shapes.specs.declared.tables.Sketch.{Sketch}
use Rattle.oas_shapes.specs.declared.tables.Sketch.TheVariants as sketches
use Rattle.oas_shapes.specs.declared.corners.Ring.{Ring}
use Rattle.oas_shapes.specs.declared.corners.Ring.TheVariants as rings
use Rattle.oas_shapes.specs.declared.corners.Outline.{Outline}
use Rattle.oas_shapes.specs.declared.corners.Outline.TheVariants as outlines

abbrev pub marks_of : Sketch → List (Mark × Mark)
marks_of (sketches.Three a b c) = a ∷ b ∷ c ∷ []
marks_of (sketches.Four a b c d) = a ∷ b ∷ c ∷ d ∷ []

abbrev pub corners_of : Ring → List Point
corners_of (rings.Three a b c) = way_of a ∷ way_of b ∷ way_of c ∷ []
corners_of (rings.Four a b c d) = way_of a ∷ way_of b ∷ way_of c ∷ way_of d ∷ []

-- closed
abbrev pub points_of : Outline → List Point
points_of (outlines.Three a b c) = a ∷ b ∷ c ∷ a ∷ []
points_of (outlines.Four a b c d) = a ∷ b ∷ c ∷ d ∷ a ∷ []
