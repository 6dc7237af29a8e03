-- How far up the image of a point is, by one of its coordinates, and which coordinates bring a cell's rows into a window.
-- This is for the contracts of the walk's own functions.
use Rattle.std.specs.Prelude.{◌≡◌, ◌<◌, ◌<ℤ◌, ◌≤ℤ◌, ◌+ℤ◌, ◌≤◌, ℕ, ℤ, zero, suc, pos, neg_ℤ, List, Bool, true, false, not, Some, slice_get, int_lt}
use Rattle.std.specs.Int.{int_min, int_max}
use Rattle.half_grid.specs.Windows.{RowRange}
use Rattle.half_grid.specs.declared.plane.Point.{Point}
use Rattle.layout_model.specs.Images.{image_of, moved}
use Rattle.layout_model.specs.declared.intervals.Axis.{Axis}
use Rattle.layout_model.specs.declared.intervals.Axis.TheVariants.{X, Y}
use Rattle.layout_model.specs.declared.orient.Orient.{Orient}
use Rattle.flat_walk.specs.declared.levels.Run.{Run}
use Rattle.flat_walk.specs.declared.rises.Rise.{Rise}
use Rattle.flat_walk.specs.declared.rows.Rows.{Rows}

-- the axis that points up or down after so many quarter turns
abbrev pub upward : ℕ → Axis
upward zero = Y
upward (suc zero) = X
upward (suc (suc zero)) = Y
upward (suc (suc (suc turns))) = X

-- whether it points up then, where it was flipped before
abbrev pub is_upright : ℕ → Bool → Bool
is_upright zero flip = not flip
is_upright (suc zero) flip = true
is_upright (suc (suc zero)) flip = flip
is_upright (suc (suc (suc turns))) flip = false

abbrev pub rise_in : Orient → Rise
rise_in orient = record { axis = upward orient.turns; forward = is_upright orient.turns orient.flip; mag = orient.mag }

-- forward or backward
abbrev pub signed : Bool → ℤ → ℤ
signed true z = z
signed false z = neg_ℤ z

-- some row of the window is one of these, moved up so far
abbrev pub meets_at : RowRange → Rows → ℤ → Bool
meets_at window rows y = int_lt (int_max window.y0 (rows.low +ℤ y)) (int_min window.y1 (rows.high +ℤ y))

pub record IsRange (bound : ℕ) (range : Rows) : Type 0 where
  pub low_near : neg_ℤ (pos bound) ≤ℤ range.low
  pub low_far : range.low ≤ℤ pos bound
  pub high_near : neg_ℤ (pos bound) ≤ℤ range.high
  pub high_far : range.high ≤ℤ pos bound

-- more than the one and less than the other
pub record IsAmid (range : Rows) (z : ℤ) : Type 0 where
  pub above : range.low <ℤ z
  pub below : z <ℤ range.high

-- at no place after the run's own and before number `end` does the cell have rows in the window
abbrev pub HasNoneBefore : RowRange → Orient → Point → Run → ℕ → Type 0
HasNoneBefore window outer at run end = (k : ℕ) (by : Point) → run.place < k → k < end → slice_get run.placement.now.offsets k ≡ Some by
    → meets_at window run.rows (image_of outer at (moved by run.placement.now.at)).y ≡ false

-- at no place from number `from` on and before number `end` do rows so far from the place's come into the window
abbrev pub HasNoPlaceBefore : RowRange → Orient → Point → Rows → List Point → ℕ → ℕ → Type 0
HasNoPlaceBefore window orient at rows places from end = (k : ℕ) (by : Point) → from ≤ k → k < end → slice_get places k ≡ Some by
    → meets_at window rows (image_of orient at by).y ≡ false
