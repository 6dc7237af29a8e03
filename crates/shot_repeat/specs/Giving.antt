-- The shots that a record gives.
use Rattle.std.specs.Prelude.{ℕ, ◌≡◌, List, map, All}
use Rattle.half_grid.specs.Trapezoids.{Trapezoid, IsShot}
use Rattle.half_grid.specs.declared.plane.Point.{Point}
use Rattle.oas_lex.specs.ShotText.{fields_of}
use Rattle.oas_lex.specs.declared.fields.ShotFields.{ShotFields}
use Rattle.shot_repeat.specs.Values.{moved_from}

-- so many shots, the first of these fields, each next one moved by one step more
pub record IsGivenBy (f : ShotFields) (step : Point) (count : ℕ) (shots : List Trapezoid) : Type 0 where
  pub legal : All IsShot shots
  pub are : map (fields_of f.layer f.datatype) shots ≡ moved_from f step 0 count
