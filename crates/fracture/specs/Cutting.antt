-- How a trapezoid is cut into shots within the limits.
--
-- It is first cut by height, from below: pieces of `height` rows, then the rest. Each piece is then cut by width, from
-- the left. Write lo for the least X of what is left of it, hi for its greatest X, and r for the least X on its right
-- line. Where hi - lo is at most `width`, it is a shot. Otherwise it is cut along the upright line at the lesser of
-- lo + width and r: the part on the left is a shot, and the rule is applied to the part on the right.
--
-- The rule is this project's own. A mask writer asks for trapezoids no larger than its limits.
use Rattle.std.specs.Prelude.{ℕ, zero, suc, ℤ, ◌^◌, ◌+ℤ◌, ◌-ℤ◌, Bool, if◌then◌else◌, int_le, List, [], ◌∷◌}
use Rattle.std.specs.List.{flat_map}
use Rattle.std.specs.Int.{int_min}
use Rattle.half_grid.specs.Lines.{x_on}
use Rattle.half_grid.specs.Trapezoids.{Trapezoid, trapezoid, box_width}
use Rattle.half_grid.specs.declared.plane.Line.TheVariants.{Upright}

-- ---- the parts of a trapezoid

abbrev pub height_of : Trapezoid → ℤ
height_of z = z.y1 -ℤ z.y0

-- its rows below y, and those from y on
abbrev pub below : Trapezoid → ℤ → Trapezoid
below z y = trapezoid z.y0 y z.left z.right

abbrev pub from_row : Trapezoid → ℤ → Trapezoid
from_row z y = trapezoid y z.y1 z.left z.right

-- its parts on the left and on the right of the upright line at x
abbrev pub left_part : Trapezoid → ℤ → Trapezoid
left_part z x = trapezoid z.y0 z.y1 z.left (Upright x)

abbrev pub right_part : Trapezoid → ℤ → Trapezoid
right_part z x = trapezoid z.y0 z.y1 (Upright x) z.right

-- the least X on its left line, and on its right line
abbrev pub least_left : Trapezoid → ℤ
least_left z = int_min (x_on z.left z.y0) (x_on z.left z.y1)

abbrev pub least_right : Trapezoid → ℤ
least_right z = int_min (x_on z.right z.y0) (x_on z.right z.y1)

-- ---- cutting

-- Parts are cut off for as long as what is left doesn't fit, at most so many of them.
unfoldable pub cut_off : (Trapezoid → Bool) → (Trapezoid → Trapezoid) → (Trapezoid → Trapezoid) → ℕ → Trapezoid → List Trapezoid
cut_off fits part rest zero z = z ∷ []
cut_off fits part rest (suc cuts) z = if fits z then z ∷ [] else part z ∷ cut_off fits part rest cuts (rest z)

-- More cuts than a trapezoid within reach ever needs: each leaves fewer rows, or a narrower box.
unfoldable pub enough_cuts : ℕ
enough_cuts = 2 ^ 46

-- by height, from below
abbrev pub is_low : ℤ → Trapezoid → Bool
is_low height z = int_le (height_of z) height

abbrev pub lowest_rows : ℤ → Trapezoid → Trapezoid
lowest_rows height z = below z (z.y0 +ℤ height)

abbrev pub rows_above : ℤ → Trapezoid → Trapezoid
rows_above height z = from_row z (z.y0 +ℤ height)

abbrev pub cut_by_height : ℤ → Trapezoid → List Trapezoid
cut_by_height height z = cut_off (is_low height) (lowest_rows height) (rows_above height) enough_cuts z

-- by width, from the left
abbrev pub is_narrow : ℤ → Trapezoid → Bool
is_narrow width z = int_le (box_width z) width

abbrev pub cut_at : ℤ → Trapezoid → ℤ
cut_at width z = int_min (least_left z +ℤ width) (least_right z)

abbrev pub leftmost_part : ℤ → Trapezoid → Trapezoid
leftmost_part width z = left_part z (cut_at width z)

abbrev pub part_beyond : ℤ → Trapezoid → Trapezoid
part_beyond width z = right_part z (cut_at width z)

abbrev pub cut_by_width : ℤ → Trapezoid → List Trapezoid
cut_by_width width z = cut_off (is_narrow width) (leftmost_part width) (part_beyond width) enough_cuts z

-- the shots of a trapezoid
abbrev pub cut_list : ℤ → ℤ → Trapezoid → List Trapezoid
cut_list height width z = flat_map (cut_by_width width) (cut_by_height height z)

-- the shots of a list of trapezoids, one after the other
abbrev pub shots_of : ℤ → ℤ → List Trapezoid → List Trapezoid
shots_of height width traps = flat_map (cut_list height width) traps
