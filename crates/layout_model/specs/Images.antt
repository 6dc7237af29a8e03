-- The image of a point under an orientation and a move: both coordinates are multiplied by the factor; y is negated
-- where the orientation flips; then come quarter turns counterclockwise, each of which sends (x, y) to (-y, x); then
-- the move is added, which the factor doesn't enlarge. The image of a point list is the list of the images.
--
-- GDSII Stream Format Manual 6.0, STRANS, MAG and ANGLE: reflection about the X axis comes before rotation. SEMI P39,
-- PLACEMENT records, say the same.
use Rattle.std.specs.Prelude.{ℕ, zero, suc, pos, neg_ℤ, ◌+ℤ◌, ◌*ℤ◌, ◌<◌, ◌≤◌, Bool, true, false, List, map}
use Rattle.half_grid.specs.declared.plane.Point.{Point}
use Rattle.layout_model.specs.Products.{IsProduct}
use Rattle.layout_model.specs.declared.orient.Orient.{Orient}
use Rattle.layout_model.specs.declared.orient.Wide.{Wide}

abbrev pub enlarged : ℕ → Point → Point
enlarged factor p = record { x = pos factor *ℤ p.x; y = pos factor *ℤ p.y }

abbrev pub flipped : Bool → Point → Point
flipped true p = record { x = p.x; y = neg_ℤ p.y }
flipped false p = p

abbrev pub quarter_turn : Point → Point
quarter_turn p = record { x = neg_ℤ p.y; y = p.x }

abbrev pub turned : ℕ → Point → Point
turned zero p = p
turned (suc turns) p = turned turns (quarter_turn p)

abbrev pub moved : Point → Point → Point
moved at p = record { x = p.x +ℤ at.x; y = p.y +ℤ at.y }

abbrev pub image_of : Orient → Point → Point → Point
image_of orient at p = moved at (turned orient.turns (flipped orient.flip (enlarged orient.mag p)))

abbrev pub image_of_points : Orient → Point → List Point → List Point
image_of_points orient at points = map (image_of orient at) points

-- an orientation of a layout: up to three quarter turns, and a factor from 1 to 16
pub record IsOrient (orient : Orient) : Type 0 where
  pub turns : orient.turns < 4
  pub enlarges : 1 ≤ orient.mag
  pub factor : orient.mag ≤ 16

abbrev pub wide_point : Wide → Point
wide_point w = record { x = w.x; y = w.y }

pub record IsWide (w : Wide) : Type 0 where
  pub x : IsProduct w.x
  pub y : IsProduct w.y
