-- Quadrilaterals where they are placed, and the rows that they have.
--
-- The image of a quadrilateral has the images of its corners. A flip turns the way round, so there the corners are told
-- in the other order, and the closed point list runs clockwise as before. A quadrilateral has the rows from the least to
-- the greatest Y of its corners.
--
-- GDSII Stream Format Manual 6.0, STRANS, MAG and ANGLE, for the image of a point.
use Rattle.std.specs.Prelude.{ℤ, Bool, true, false, int_lt}
use Rattle.std.specs.Int.{int_min, int_max}
use Rattle.half_grid.specs.Quads.{Corners, corners}
use Rattle.half_grid.specs.Windows.{RowRange}
use Rattle.half_grid.specs.declared.plane.Point.{Point}
use Rattle.layout_model.specs.Images.{image_of, moved}
use Rattle.layout_model.specs.declared.orient.Orient.{Orient}

-- what becomes of each corner
abbrev pub with_corners : (Point → Point) → Corners → Corners
with_corners f q = corners (f q.a) (f q.b) (f q.c) (f q.d)

-- the corners in the other order, from the same one on
abbrev pub turned_round : Bool → Corners → Corners
turned_round true q = corners q.a q.d q.c q.b
turned_round false q = q

abbrev pub quad_image : Orient → Point → Corners → Corners
quad_image orient at q = turned_round orient.flip (with_corners (image_of orient at) q)

abbrev pub moved_quad : Point → Corners → Corners
moved_quad by q = with_corners (moved by) q

-- ---- rows

abbrev pub lowest_of : Corners → ℤ
lowest_of q = int_min (int_min q.a.y q.b.y) (int_min q.c.y q.d.y)

abbrev pub highest_of : Corners → ℤ
highest_of q = int_max (int_max q.a.y q.b.y) (int_max q.c.y q.d.y)

-- whether some row of the window is one of the quadrilateral
unfoldable pub has_row_in : RowRange → Corners → Bool
has_row_in window q = int_lt (int_max window.y0 (lowest_of q)) (int_min window.y1 (highest_of q))
