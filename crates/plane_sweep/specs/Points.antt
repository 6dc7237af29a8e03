-- What passes a stop at a point, and left of it.
use Rattle.std.specs.Prelude.{ℤ, pos, ◌-ℤ◌, ◌<ℤ◌, ◌≡◌, ◌≢◌, List, All}
use Rattle.half_grid.specs.Lines.{x_on}
use Rattle.half_grid.specs.Rows.{place}
use Rattle.scan_line.specs.declared.runs.Run.{Run}
use Rattle.trap_join.specs.declared.front.Growing.{Growing}

-- growing trapezoids that begin left of the point, and runs that do
abbrev pub GrowLeft : ℤ → ℤ → List Growing → Type 0
GrowLeft y x front = All (λ g. x_on g.left y <ℤ x) front

abbrev pub RunLeft : ℤ → ℤ → List Run → Type 0
RunLeft y x runs = All (λ r. x_on r.left y <ℤ x) runs

-- a growing trapezoid that ends in the point: both of its lines pass through it
pub record EndsIn (y x : ℤ) (g : Growing) : Type 0 where
  pub left : x_on g.left y ≡ x
  pub right : x_on g.right y ≡ x
  pub has_tile : place g.left (y -ℤ pos 1) <ℤ place g.right (y -ℤ pos 1)

-- a run that begins in the point: both of its lines pass through it
pub record BeginsIn (y x : ℤ) (r : Run) : Type 0 where
  pub left : x_on r.left y ≡ x
  pub right : x_on r.right y ≡ x
  pub has_tile : place r.left y <ℤ place r.right y

-- a growing trapezoid whose left line passes through the point, and whose right line passes further right
pub record Leaves (y x : ℤ) (g : Growing) : Type 0 where
  pub left : x_on g.left y ≡ x
  pub right : x <ℤ x_on g.right y

-- no growing trapezoid has the run's left line, or one that has it has its right line left of where the run ends
abbrev pub IsApartFrom : ℤ → List Growing → Run → Type 0
IsApartFrom y front r = All (λ g. g.left ≡ r.left → x_on g.right y ≢ x_on r.right y) front
