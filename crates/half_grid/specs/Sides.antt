-- A horizontal side between two lines at a Y: both ends within reach, and its length not negative.
use Rattle.std.specs.Prelude.{ℤ, pos, ◌-ℤ◌, ◌≤ℤ◌}
use Rattle.half_grid.specs.Reach.{IsWithinReach}
use Rattle.half_grid.specs.Lines.{x_on}
use Rattle.half_grid.specs.declared.plane.Line.{Line}

abbrev pub side_length : Line → Line → ℤ → ℤ
side_length left right y = x_on right y -ℤ x_on left y

pub record IsSide (left right : Line) (y : ℤ) : Type 0 where
  pub left_end : IsWithinReach (x_on left y)
  pub right_end : IsWithinReach (x_on right y)
  pub not_negative : pos 0 ≤ℤ side_length left right y
