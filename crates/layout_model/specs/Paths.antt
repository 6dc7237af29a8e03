-- Paths: a wire of a given half width along a polyline whose moves go along the two axes.
--
-- Consecutive equal points count as one, and a point between two segments of one direction is no corner. Each segment
-- from corner to corner gives a rectangle that reaches half the width to each side of it. At an inner corner it is
-- longer by half the width, so that the rectangles of a corner share a square; at the path's beginning and at its end
-- it is longer by what the path says, or shorter where that is negative.
--
-- GDSII Stream Format Manual 6.0, PATHTYPE, BGNEXTN and ENDEXTN: square ends are those of type 0 (no longer), 2 (longer
-- by half the width) and 4 (as given). The PATH records of SEMI P39 have the same three.
use Rattle.std.specs.Prelude.{◌≡◌, ℕ, ℤ, pos, ◌+ℤ◌, ◌-ℤ◌, ◌≤ℤ◌, ◌<◌, ◌-◌, ◌⊎◌, Bool, true, false, not, ◌&&◌}
use Rattle.std.specs.Prelude.{if◌then◌else◌, int_lt, List, [], ◌∷◌, length, map, fold, take, All, IsTrue, IsSomeAnd}
use Rattle.std.specs.Prelude.{slice_get}
use Rattle.std.specs.Ordering.{int_eq}
use Rattle.half_grid.specs.Quads.{corners, ring_of}
use Rattle.half_grid.specs.Winding.{edges_of}
use Rattle.half_grid.specs.declared.plane.Point.{Point}
use Rattle.layout_model.specs.declared.directions.Direction.{Direction}
use Rattle.layout_model.specs.declared.directions.Direction.TheVariants.{Still, East, West, North, South}
use Rattle.layout_model.specs.declared.stretches.Stretch.{Stretch}
use Rattle.layout_model.specs.declared.rectangles.Rectangle.{Rectangle}
use Rattle.layout_model.specs.declared.pair.Pair.{Pair}
use Rattle.layout_model.specs.declared.shapes.Shape.{Shape}

-- ---- directions

-- where one goes from a to b, two points that differ in at most one coordinate
abbrev pub direction_of : Point → Point → Direction
direction_of a b =
    if int_lt a.x b.x then East
    else if int_lt b.x a.x then West
    else if int_lt a.y b.y then North
    else if int_lt b.y a.y then South
    else Still

abbrev pub are_opposite : Direction → Direction → Bool
are_opposite East West = true
are_opposite West East = true
are_opposite North South = true
are_opposite South North = true
are_opposite _ _ = false

abbrev pub are_one : Direction → Direction → Bool
are_one Still Still = true
are_one East East = true
are_one West West = true
are_one North North = true
are_one South South = true
are_one _ _ = false

-- the second direction, or the first where the second is Still
abbrev pub later : Direction → Direction → Direction
later first Still = first
later first second = second

-- the last of a list of directions that isn't Still, or Still where there is none
abbrev pub last_direction : List Direction → Direction
last_direction directions = fold later Still directions

-- ---- what of a list of points is no path, by the points' numbers from 0

-- the directions of the moves from each point to the next
abbrev pub moves : List Point → List Direction
moves points = map (λ (a, b). direction_of a b) (edges_of points)

-- the least number of which something holds
pub record IsFirst (P : ℕ → Type 0) (k : ℕ) : Type 0 where
  pub here : P k
  pub before : (i : ℕ) → i < k → P i → ⊥

-- no two points differ
abbrev pub HasNoLength : List Point → Type 0
HasNoLength [] = Unit {0}
HasNoLength (first ∷ points) = All (λ point. point ≡ first) points

abbrev pub HasLength : List Point → Type 0
HasLength points = HasNoLength points → ⊥

-- the two points differ in both coordinates
abbrev pub is_diagonal : Point × Point → Bool
is_diagonal (a, b) = not (int_eq a.x b.x) && not (int_eq a.y b.y)

-- the point after point k differs from it in both coordinates
abbrev pub IsDiagonalAt : List Point → ℕ → Type 0
IsDiagonalAt points k = IsSomeAnd (slice_get (edges_of points) k) (λ edge. IsTrue (is_diagonal edge))

abbrev pub HasNoDiagonal : List Point → Type 0
HasNoDiagonal points = (k : ℕ) → IsDiagonalAt points k → ⊥

abbrev pub IsFirstDiagonal : List Point → ℕ → Type 0
IsFirstDiagonal points k = IsFirst (IsDiagonalAt points) k

-- the move from point k has the direction opposite to that of the last move before it that has one
abbrev pub IsTurnBackAt : List Point → ℕ → Type 0
IsTurnBackAt points k = IsSomeAnd (slice_get (moves points) k) (λ move. IsTrue (are_opposite (last_direction (take k (moves points))) move))

abbrev pub HasNoTurnBack : List Point → Type 0
HasNoTurnBack points = (k : ℕ) → IsTurnBackAt points k → ⊥

abbrev pub IsFirstTurnBack : List Point → ℕ → Type 0
IsFirstTurnBack points k = IsFirst (IsTurnBackAt points) k

-- ---- the segments of a path

abbrev pub same_point : Point → Point → Bool
same_point a b = int_eq a.x b.x && int_eq a.y b.y

-- the points that come after `previous`, without each that equals the one before it
abbrev pub without_repeats_after : Point → List Point → List Point
without_repeats_after previous [] = []
without_repeats_after previous (point ∷ points) =
    if same_point previous point then without_repeats_after point points
    else point ∷ without_repeats_after point points

abbrev pub without_repeats : List Point → List Point
without_repeats [] = []
without_repeats (first ∷ points) = first ∷ without_repeats_after first points

-- the points that come after `previous`, without each at which the direction stays as it was; the last one stays
abbrev pub corners_after : Point → List Point → List Point
corners_after previous [] = []
corners_after previous (last ∷ []) = last ∷ []
corners_after previous (point ∷ next ∷ points) =
    if are_one (direction_of previous point) (direction_of point next) then corners_after point (next ∷ points)
    else point ∷ corners_after point (next ∷ points)

-- the first point, the last, and those between at which the direction changes
abbrev pub without_straight_joints : List Point → List Point
without_straight_joints [] = []
without_straight_joints (first ∷ points) = first ∷ corners_after first points

-- from each corner of the path to the next
abbrev pub segments_of : List Point → List (Point × Point)
segments_of points = edges_of (without_straight_joints (without_repeats points))

-- ---- what is drawn of a segment

-- a segment with the half width, and what it is longer by at its beginning and at its end
abbrev pub stretch : ℤ → ℤ → ℤ → Point × Point → Stretch
stretch half before after (from, to) = record { from = from; to = to; half = half; before = before; after = after }

-- segments of which the first is longer by `before` at its beginning, the last by `end` at its end, and each by half
-- the width wherever it meets another
abbrev pub extended : ℤ → ℤ → ℤ → List (Point × Point) → List Stretch
extended half before end [] = []
extended half before end (segment ∷ []) = stretch half before end segment ∷ []
extended half before end (segment ∷ next ∷ segments) = stretch half before half segment ∷ extended half half end (next ∷ segments)

abbrev pub stretches : List Point → ℤ → ℤ → ℤ → List Stretch
stretches points half begin end = extended half begin end (segments_of points)

-- how far it is from a to b in this direction
abbrev pub distance_along : Direction → Point → Point → ℤ
distance_along East a b = b.x -ℤ a.x
distance_along West a b = a.x -ℤ b.x
distance_along North a b = b.y -ℤ a.y
distance_along South a b = a.y -ℤ b.y
distance_along Still a b = pos 0

-- the length of a segment with what it is longer by
abbrev pub length_of : Stretch → ℤ
length_of s = (distance_along (direction_of s.from s.to) s.from s.to +ℤ s.before) +ℤ s.after

abbrev pub IsEmpty : Stretch → Type 0
IsEmpty s = length_of s ≤ℤ pos 0

-- the first or the last is empty
abbrev pub HasEmptyEnd : List Stretch → Type 0
HasEmptyEnd s = IsSomeAnd (slice_get s 0) IsEmpty ⊎ IsSomeAnd (slice_get s (length s - 1)) IsEmpty

-- a path can be drawn: some of its points differ, each move is along an axis and none goes back, and neither its first
-- nor its last segment is empty
pub record IsDrawable (points : List Point) (half begin end : ℤ) : Type 0 where
  pub long : HasLength points
  pub straight : HasNoDiagonal points
  pub onward : HasNoTurnBack points
  pub ends : HasEmptyEnd (stretches points half begin end) → ⊥

-- points that are a path for some lengths: some differ, each move is along an axis and none goes back
pub record IsCourse (points : List Point) : Type 0 where
  pub long : HasLength points
  pub straight : HasNoDiagonal points
  pub onward : HasNoTurnBack points

abbrev pub rectangle : ℤ → ℤ → ℤ → ℤ → Rectangle
rectangle x0 y0 x1 y1 = record { x0 = x0; y0 = y0; x1 = x1; y1 = y1 }

-- the rectangle of a segment in this direction; one that is Still is drawn as one of length 0 to the east
abbrev pub rectangle_along : Direction → Stretch → Rectangle
rectangle_along West s = rectangle (s.to.x -ℤ s.after) (s.from.y -ℤ s.half) (s.from.x +ℤ s.before) (s.from.y +ℤ s.half)
rectangle_along North s = rectangle (s.from.x -ℤ s.half) (s.from.y -ℤ s.before) (s.from.x +ℤ s.half) (s.to.y +ℤ s.after)
rectangle_along South s = rectangle (s.from.x -ℤ s.half) (s.to.y -ℤ s.after) (s.from.x +ℤ s.half) (s.from.y +ℤ s.before)
rectangle_along East s = rectangle (s.from.x -ℤ s.before) (s.from.y -ℤ s.half) (s.to.x +ℤ s.after) (s.from.y +ℤ s.half)
rectangle_along Still s = rectangle (s.from.x -ℤ s.before) (s.from.y -ℤ s.half) (s.to.x +ℤ s.after) (s.from.y +ℤ s.half)

abbrev pub rectangle_of : Stretch → Rectangle
rectangle_of s = rectangle_along (direction_of s.from s.to) s

-- the rectangles of a path in order
abbrev pub rectangles : List Point → ℤ → ℤ → ℤ → List Rectangle
rectangles points half begin end = map rectangle_of (stretches points half begin end)

abbrev pub point_at : ℤ → ℤ → Point
point_at x y = record { x = x; y = y }

-- the closed outline of a rectangle, clockwise from its lower left corner
abbrev pub rectangle_ring : Rectangle → List Point
rectangle_ring r = ring_of (corners (point_at r.x0 r.y0) (point_at r.x0 r.y1) (point_at r.x1 r.y1) (point_at r.x1 r.y0))

-- the shape of a rectangle
abbrev pub rectangle_shape : Pair → List Point → Bool → Rectangle → Shape
rectangle_shape pair offsets fixed r = record { pair = pair; points = rectangle_ring r; offsets = offsets; fixed = fixed }

-- the shapes of a path in order
abbrev pub drawn_path : Pair → List Point → Bool → List Point → ℤ → ℤ → ℤ → List Shape
drawn_path pair offsets fixed points half begin end = map (rectangle_shape pair offsets fixed) (rectangles points half begin end)

-- the shapes of these segments in order, as those of a path
abbrev pub drawn_along : Pair → List Point → Bool → List (Point × Point) → ℤ → ℤ → ℤ → List Shape
drawn_along pair offsets fixed segments half begin end =
    map (rectangle_shape pair offsets fixed) (map rectangle_of (extended half begin end segments))
