-- What a kept shape is: a rectangle at the place 0 by two of its corners, or a shape as it was drawn.
use Rattle.std.specs.Prelude.{Bool, true, false, List, [], ◌∷◌, ℤ, pos, neg_ℤ, ◌≤ℤ◌, ◌<ℤ◌, ◌<◌, ◌^◌}
use Rattle.half_grid.specs.declared.plane.Point.{Point}
use Rattle.layout_model.specs.Places.{origin}
use Rattle.layout_model.specs.declared.pair.Pair.{Pair}
use Rattle.layout_model.specs.declared.shapes.Shape.{Shape}
use Rattle.layout_model.specs.declared.kept.Plain.{Plain}
use Rattle.layout_model.specs.declared.kept.ShortPoint.{ShortPoint}
use Rattle.layout_model.specs.declared.kept.Outline.{Outline}
use Rattle.layout_model.specs.declared.kept.Outline.TheVariants.{Ring, Kept}
use Rattle.layout_model.specs.declared.kept.Form.{Form}
use Rattle.layout_model.specs.declared.kept.Form.TheVariants.{Rectangle, Drawn}

-- above or below the first point, and as high as the second
abbrev pub corner : Point → Point → Point
corner along beside = record { x = along.x; y = beside.y }

-- from the first corner upright or level to the second, on to the opposite one, and back
abbrev pub ring_between : Point → Point → Bool → List Point
ring_between a c true = a ∷ corner a c ∷ c ∷ corner c a ∷ a ∷ []
ring_between a c false = a ∷ corner c a ∷ c ∷ corner a c ∷ a ∷ []

abbrev pub shape_with : Pair → List Point → List Point → Bool → Shape
shape_with pair points offsets fixed = record { pair = pair; points = points; offsets = offsets; fixed = fixed }

-- a coordinate of 32 bits
pub record IsShort (z : ℤ) : Type 0 where
  pub low : neg_ℤ (pos (2 ^ 31)) ≤ℤ z
  pub high : z <ℤ pos (2 ^ 31)

pub record IsShortPoint (p : Point) : Type 0 where
  pub x : IsShort p.x
  pub y : IsShort p.y

-- a layer and a datatype of 32 bits each
pub record IsShortPair (pair : Pair) : Type 0 where
  pub layer : pair.layer < 2 ^ 32
  pub datatype : pair.datatype < 2 ^ 32

abbrev pub point_from : ShortPoint → Point
point_from few = record { x = few.x; y = few.y }

abbrev pub pair_from : Plain → Pair
pair_from plain = record { layer = plain.layer; datatype = plain.datatype }

abbrev pub rectangle_kept : Plain → Shape
rectangle_kept plain =
    shape_with (pair_from plain) (ring_between (point_from plain.first) (point_from plain.opposite) plain.is_upright) (origin ∷ []) plain.is_fixed

abbrev pub kept_shape : Form → Shape
kept_shape (Rectangle plain) = rectangle_kept plain
kept_shape (Drawn shape) = shape.value

abbrev pub points_in : Outline → List Point
points_in (Ring points) = points
points_in (Kept points) = points.now
