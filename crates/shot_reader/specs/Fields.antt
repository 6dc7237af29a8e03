-- What the fields of a record say of its shot.
use Rattle.std.specs.Prelude.{pos, ◌≡◌, ◌-ℤ◌, ◌+ℤ◌}
use Rattle.std.specs.Int.{int_min, int_max}
use Rattle.half_grid.specs.Lines.{x_on}
use Rattle.half_grid.specs.Trapezoids.{Trapezoid}
use Rattle.oas_lex.specs.ShotText.{fields_of}
use Rattle.oas_lex.specs.declared.fields.ShotFields.{ShotFields}
use Rattle.shot_reader.specs.declared.corners.Corners.{Corners}

-- the shot has these sizes and this place
abbrev pub HasShape : ShotFields → Trapezoid → Type 0
HasShape f z = f ≡ fields_of f.layer f.datatype z

-- the corners that the fields say
pub record AreCorners (f : ShotFields) (c : Corners) : Type 0 where
  pub bottom_left_y : c.bottom_left.y ≡ f.y
  pub bottom_right_y : c.bottom_right.y ≡ f.y
  pub top_left_y : c.top_left.y ≡ f.y +ℤ pos f.height
  pub top_right_y : c.top_right.y ≡ f.y +ℤ pos f.height
  pub left : c.top_left.x -ℤ c.bottom_left.x ≡ f.left_delta
  pub right : c.top_right.x -ℤ c.bottom_right.x ≡ f.right_delta
  pub least : int_min c.bottom_left.x c.top_left.x ≡ f.x
  pub greatest : int_max c.bottom_right.x c.top_right.x ≡ f.x +ℤ pos f.width

-- the trapezoid has these corners
pub record IsCornered (c : Corners) (z : Trapezoid) : Type 0 where
  pub bottom_left : c.bottom_left.x ≡ x_on z.left z.y0
  pub bottom_right : c.bottom_right.x ≡ x_on z.right z.y0
  pub top_left : c.top_left.x ≡ x_on z.left z.y1
  pub top_right : c.top_right.x ≡ x_on z.right z.y1
  pub bottom_left_y : c.bottom_left.y ≡ z.y0
  pub bottom_right_y : c.bottom_right.y ≡ z.y0
  pub top_left_y : c.top_left.y ≡ z.y1
  pub top_right_y : c.top_right.y ≡ z.y1
