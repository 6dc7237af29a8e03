-- How far from 0 the numbers of a path are.
use Rattle.std.specs.Prelude.{◌^◌, ℤ, pos, neg_ℤ, ◌≤ℤ◌, ◌<ℤ◌}
use Rattle.half_grid.specs.declared.plane.Point.{Point}
use Rattle.layout_model.specs.declared.stretches.Stretch.{Stretch}
use Rattle.layout_model.specs.declared.stretches.Brush.{Brush}
use Rattle.layout_model.specs.declared.rectangles.Rectangle.{Rectangle}

-- at most 2^41 from 0
pub record IsNearOnPath (z : ℤ) : Type 0 where
  pub low : neg_ℤ (pos (2 ^ 41)) ≤ℤ z
  pub high : z ≤ℤ pos (2 ^ 41)

pub record IsNearPoint (p : Point) : Type 0 where
  pub x : IsNearOnPath p.x
  pub y : IsNearOnPath p.y

pub record IsNearBrush (brush : Brush) : Type 0 where
  pub half : IsNearOnPath brush.half
  pub begin : IsNearOnPath brush.begin
  pub end : IsNearOnPath brush.end

pub record IsNearStretch (s : Stretch) : Type 0 where
  pub from : IsNearPoint s.from
  pub to : IsNearPoint s.to
  pub half : IsNearOnPath s.half
  pub before : IsNearOnPath s.before
  pub after : IsNearOnPath s.after

-- at most 2^66 from 0
pub record IsShort (z : ℤ) : Type 0 where
  pub low : neg_ℤ (pos (2 ^ 66)) ≤ℤ z
  pub high : z ≤ℤ pos (2 ^ 66)

-- it has tiles: its sides aren't empty
pub record HasTiles (r : Rectangle) : Type 0 where
  pub columns : r.x0 <ℤ r.x1
  pub rows : r.y0 <ℤ r.y1
