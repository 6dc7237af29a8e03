-- The least box of points, and what becomes of it.
use Rattle.std.specs.Prelude.{◌≡◌, ◌≤ℤ◌, ◌+ℤ◌, ◌*ℤ◌, neg_ℤ, pos, ℕ, ℤ, zero, suc, Bool, true, false, List, slice_get, Option, Some, MatchOption}
use Rattle.std.specs.Int.{int_min, int_max}
use Rattle.half_grid.specs.declared.plane.Point.{Point}
use Rattle.half_grid.specs.declared.extent.Frame.{Frame}
use Rattle.layout_model.specs.Hulls.{IsInBox}
use Rattle.layout_model.specs.declared.orient.Orient.{Orient}

-- the point stands in the list
abbrev pub IsOneOf : List Point → Point → Type 0
IsOneOf points p = (k : ℕ) × (slice_get points k ≡ Some p)

-- the least box of the points that meet P: each lies in it, and each of its sides has one
pub record IsLeastBox (P : Point → Type 0) (box : Frame) : Type 0 where
  pub around : (p : Point) → P p → IsInBox box p
  pub left : (p : Point) × P p × (p.x ≡ box.x0)
  pub bottom : (p : Point) × P p × (p.y ≡ box.y0)
  pub right : (p : Point) × P p × (p.x ≡ box.x1)
  pub top : (p : Point) × P p × (p.y ≡ box.y1)

-- the least box of the points that meet P, or none where no point does
abbrev pub IsHull : (Point → Type 0) → Option Frame → Type 0
IsHull P hull = MatchOption hull ((p : Point) → P p → ⊥) (IsLeastBox P)

-- ---- boxes as numbers

abbrev pub joined_box : Frame → Frame → Frame
joined_box a b = record { x0 = int_min a.x0 b.x0; y0 = int_min a.y0 b.y0; x1 = int_max a.x1 b.x1; y1 = int_max a.y1 b.y1 }

-- of all sums of a point of the one and a point of the other
abbrev pub summed_box : Frame → Frame → Frame
summed_box a b = record { x0 = a.x0 +ℤ b.x0; y0 = a.y0 +ℤ b.y0; x1 = a.x1 +ℤ b.x1; y1 = a.y1 +ℤ b.y1 }

abbrev pub moved_box : Point → Frame → Frame
moved_box at a = record { x0 = a.x0 +ℤ at.x; y0 = a.y0 +ℤ at.y; x1 = a.x1 +ℤ at.x; y1 = a.y1 +ℤ at.y }

abbrev pub enlarged_box : ℕ → Frame → Frame
enlarged_box mag a = record { x0 = pos mag *ℤ a.x0; y0 = pos mag *ℤ a.y0; x1 = pos mag *ℤ a.x1; y1 = pos mag *ℤ a.y1 }

abbrev pub flipped_box : Bool → Frame → Frame
flipped_box true a = record { x0 = a.x0; y0 = neg_ℤ a.y1; x1 = a.x1; y1 = neg_ℤ a.y0 }
flipped_box false a = a

abbrev pub quarter_box : Frame → Frame
quarter_box a = record { x0 = neg_ℤ a.y1; y0 = a.x0; x1 = neg_ℤ a.y0; y1 = a.x1 }

abbrev pub turned_box : ℕ → Frame → Frame
turned_box zero a = a
turned_box (suc turns) a = turned_box turns (quarter_box a)

abbrev pub oriented_box : Orient → Frame → Frame
oriented_box orient a = turned_box orient.turns (flipped_box orient.flip (enlarged_box orient.mag a))

-- at most so far from 0
pub record IsUpTo (bound : ℕ) (z : ℤ) : Type 0 where
  pub low : neg_ℤ (pos bound) ≤ℤ z
  pub high : z ≤ℤ pos bound

pub record IsBoxUpTo (bound : ℕ) (box : Frame) : Type 0 where
  pub x0 : IsUpTo bound box.x0
  pub y0 : IsUpTo bound box.y0
  pub x1 : IsUpTo bound box.x1
  pub y1 : IsUpTo bound box.y1
