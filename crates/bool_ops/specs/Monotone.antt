-- Outlines that go up once and down once, whose pieces are known by one look at their points.
--
-- The points are numbered along the outline twice round. From its lowest points two ways go up: one ahead, from each point
-- to the next, and one back, from each point to the one before. `winding_after` of the one less that of the other is what
-- the edges wind that neither way has come to.
use Rattle.std.specs.Int.{int_min}
use Rattle.std.specs.Prelude.{◌≡◌, ◌<◌, ◌≤◌, ◌-◌, ℕ, ℤ, pos, ◌+ℤ◌, ◌-ℤ◌, ◌≤ℤ◌, ◌<ℤ◌, ◌&&◌, int_le, int_lt, List, [], ◌∷◌, ◌++◌, drop, length, get_or}
use Rattle.half_grid.specs.Lines.{Passes, strip_along, first_strip}
use Rattle.half_grid.specs.Winding.{winding, count_one}
use Rattle.half_grid.specs.declared.plane.Tile.{Tile}
use Rattle.half_grid.specs.declared.plane.Point.{Point}
use Rattle.half_grid.specs.declared.plane.Line.{Line}
use Rattle.half_grid.specs.Trapezoids.{Trapezoid}
use Rattle.bool_ops.specs.declared.ascents.Ascent.{Ascent}
use Rattle.bool_ops.specs.Lone.{IsBetween}
use Rattle.bool_ops.specs.declared.lone.Slab.{Slab}
use Rattle.bool_ops.specs.declared.climbs.Climb.{Climb}

-- the points of a closed outline, and these again without the first
abbrev pub twice_round : List Point → List Point
twice_round points = points ++ drop 1 points

-- point k of a list
abbrev pub point_of : List Point → ℕ → Point
point_of ring k = get_or ring k (record { x = pos 0; y = pos 0 })

-- what all edges from point k on wind round the tile
abbrev pub winding_after : List Point → ℕ → Tile → ℤ
winding_after ring k t = winding (drop k ring) t

-- what the stretch of a line from y0 up to y1 winds round the tile
abbrev pub stretch : Tile → Line → ℤ → ℤ → ℤ
stretch t line y0 y1 = pos (count_one ((int_le y0 t.j && int_lt t.j y1) && int_le (first_strip line) (strip_along line t)))

-- no edge between points i and k winds round any tile, and both points have one Y
pub record IsLevel (ring : List Point) (i k : ℕ) : Type 0 where
  pub row : (point_of ring k).y ≡ (point_of ring i).y
  pub winds : (t : Tile) → winding_after ring k t ≡ winding_after ring i t

-- between point i and point k, on the line and not lower, the edges wind as the line does from the one up to the other
pub record IsAlong (ring : List Point) (line : Line) (i k : ℕ) : Type 0 where
  pub passes : Passes line (point_of ring k)
  pub up : (point_of ring i).y ≤ℤ (point_of ring k).y
  pub winds : (t : Tile) → winding_after ring k t ≡ winding_after ring i t -ℤ stretch t line (point_of ring i).y (point_of ring k).y

-- from point i up along a line to the Y of another point, and the edges between the two wind as the line does
pub record IsAscent (ring : List Point) (i : ℕ) (a : Ascent) : Type 0 where
  pub top : a.top ≡ (point_of ring a.at).y
  pub rows : (point_of ring i).y <ℤ a.top
  pub winds : (t : Tile) → winding_after ring a.at t ≡ winding_after ring i t -ℤ stretch t a.line (point_of ring i).y a.top

-- both ways go up from the Y `from`
pub record IsClimb (ring : List Point) (c : Climb) : Type 0 where
  pub order : c.ahead.at ≤ c.back.at
  pub within : c.back.at < length ring
  pub ahead_top : c.ahead.top ≡ (point_of ring c.ahead.at).y
  pub back_top : c.back.top ≡ (point_of ring c.back.at).y
  pub ahead_rows : c.from <ℤ c.ahead.top
  pub back_rows : c.from <ℤ c.back.top

-- what both ways and the edges between them wind round the tile, from this Y up
abbrev pub rest_of : List Point → Climb → ℤ → Tile → ℤ
rest_of ring c y t =
    (stretch t c.ahead.line y c.ahead.top -ℤ stretch t c.back.line y c.back.top)
    +ℤ (winding_after ring c.ahead.at t -ℤ winding_after ring c.back.at t)

-- where the first of both ways ends
abbrev pub top_of : Climb → ℤ
top_of c = int_min c.ahead.top c.back.top

-- the ways from there on, with fewer edges between them, and the same of the winding left
pub record IsNextClimb (ring : List Point) (before after : Climb) : Type 0 where
  pub climb : IsClimb ring after
  pub from : after.from ≡ top_of before
  pub fewer : after.back.at - after.ahead.at < before.back.at - before.ahead.at
  pub rest : (t : Tile) → rest_of ring after after.from t ≡ rest_of ring before after.from t

-- the rows up to there, and the lines of both
abbrev pub slab_of : Climb → Slab
slab_of c = record { y0 = c.from; y1 = top_of c; first = c.ahead.line; second = c.back.line }

-- the list has one more trapezoid, in these rows between these lines
pub record IsPutBetween (c : Climb) (before after : List Trapezoid) : Type 0 where
  pub trap : Trapezoid
  pub between : IsBetween (slab_of c) trap
  pub put : after ≡ before ++ trap ∷ []

-- from this Y the way goes on: it is the same, or another where the old one ends at it
pub record IsWayFrom (ring : List Point) (y : ℤ) (before after : Ascent) : Type 0 where
  pub top : after.top ≡ (point_of ring after.at).y
  pub rows : y <ℤ after.top
  pub winds : (t : Tile) → stretch t after.line y after.top +ℤ winding_after ring after.at t
      ≡ stretch t before.line y before.top +ℤ winding_after ring before.at t
