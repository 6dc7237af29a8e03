-- The order of two places changes only where the lines meet.
use Rattle.std.proofs.Common.{◌≡◌, ◌≢◌, ℤ, ◌-ℤ◌, ◌≤ℤ◌, ◌<ℤ◌, arith}
use Rattle.std.proofs.lemmas.Int.{ints}
use Rattle.half_grid.specs.Halves.{twice}
use Rattle.half_grid.specs.Lines.{x_on}
use Rattle.half_grid.specs.Rows.{place}
use Rattle.half_grid.specs.Meetings.{MeetBetween}
use Rattle.half_grid.specs.LineLaws.{HasNumberBetween}
use Rattle.half_grid.specs.Trapezoids.{Trapezoid, IsInTrapezoid}
use Rattle.half_grid.specs.declared.plane.Tile.{Tile}
use Rattle.half_grid.specs.declared.plane.Line.{Line}
use Rattle.half_grid.specs.declared.plane.Line.TheVariants.{Upright, Rising, Falling}
use Rattle.half_grid.proofs.Places.{one_line, place_at_most, number_below, right_by_place, left_by_place}

pub places_differ : (l m : Line) (j : ℤ) → l ≢ m → place l j ≢ place m j
places_differ l m j h = λ e. h (one_line l m j e)

met_at : (l m : Line) (j k y : ℤ) → j <ℤ y → y ≤ℤ k → x_on l y ≡ x_on m y → MeetBetween l m j k
met_at l m j k y a b h = record { y = y; above = a; up_to = b; meet = h }

pub order_changes : (l m : Line) (j k : ℤ) → j ≤ℤ k → place l j <ℤ place m j → place m k <ℤ place l k → MeetBetween l m j k
order_changes (Upright c) (Upright d) j k h a b = absurd (omega (arith, ints, a, b))
order_changes (Upright c) (Rising d) j k h a b = met_at (Upright c) (Rising d) j k (c -ℤ twice d)
    (omega (arith, ints, h, a, b)) (omega (arith, ints, h, a, b)) (omega (arith, ints))
order_changes (Upright c) (Falling d) j k h a b = met_at (Upright c) (Falling d) j k (twice d -ℤ c)
    (omega (arith, ints, h, a, b)) (omega (arith, ints, h, a, b)) (omega (arith, ints))
order_changes (Rising c) (Upright d) j k h a b = met_at (Rising c) (Upright d) j k (d -ℤ twice c)
    (omega (arith, ints, h, a, b)) (omega (arith, ints, h, a, b)) (omega (arith, ints))
order_changes (Rising c) (Rising d) j k h a b = absurd (omega (arith, ints, a, b))
order_changes (Rising c) (Falling d) j k h a b = met_at (Rising c) (Falling d) j k (d -ℤ c)
    (omega (arith, ints, h, a, b)) (omega (arith, ints, h, a, b)) (omega (arith, ints))
order_changes (Falling c) (Upright d) j k h a b = met_at (Falling c) (Upright d) j k (twice c -ℤ d)
    (omega (arith, ints, h, a, b)) (omega (arith, ints, h, a, b)) (omega (arith, ints))
order_changes (Falling c) (Rising d) j k h a b = met_at (Falling c) (Rising d) j k (c -ℤ d)
    (omega (arith, ints, h, a, b)) (omega (arith, ints, h, a, b)) (omega (arith, ints))
order_changes (Falling c) (Falling d) j k h a b = absurd (omega (arith, ints, a, b))

pub number_between : (z : Trapezoid) (t : Tile) → IsInTrapezoid z t → HasNumberBetween z t
number_between z t h =
    record {
      above_bottom = h.above_bottom;
      below_top = h.below_top;
      from_left =
          place_at_most t z.left h.right_of_left;
      below_right = number_below t z.right h.left_of_right;
    }

pub in_by_number : (z : Trapezoid) (t : Tile) → HasNumberBetween z t → IsInTrapezoid z t
in_by_number z t h =
    record {
      above_bottom = h.above_bottom;
      below_top = h.below_top;
      right_of_left =
          right_by_place t z.left h.from_left;
      left_of_right = left_by_place t z.right h.below_right;
    }
