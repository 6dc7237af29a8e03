-- How a shot is cut along the lines of fields.
--
-- In the columns between two upright lines a shot has the rows in which its left line lies left of the second, and its
-- right line right of the first. Up these rows its left side changes at most once, from its own line to the first of the
-- two or back, where it meets it; so does its right side with the second. A line of the half grid meets an upright one at
-- a whole Y. So there are at most three pieces, each of whole rows and between two lines.
use Rattle.std.specs.Prelude.{ℕ, zero, suc, ℤ, pos, negsuc, ◌+ℤ◌, ◌-ℤ◌, ◌*ℤ◌, ◌≤ℤ◌, ◌<ℤ◌, ◌*◌, ◌^◌, neg_ℤ}
use Rattle.std.specs.Prelude.{if◌then◌else◌, int_lt, List, [], ◌++◌, Option, None, Some, flat_map}
use Rattle.std.specs.Int.{int_min, int_max, int_div_euclid}
use Rattle.std.specs.Option.{option_to_list}
use Rattle.half_grid.specs.Halves.{twice}
use Rattle.half_grid.specs.Lines.{x_on}
use Rattle.half_grid.specs.Rows.{place}
use Rattle.half_grid.specs.Trapezoids.{Trapezoid, trapezoid}
use Rattle.half_grid.specs.declared.plane.Line.{Line}
use Rattle.half_grid.specs.declared.plane.Line.TheVariants.{Upright, Rising, Falling}
use Rattle.field_split.specs.declared.parts.Rows.{Rows}
use Rattle.field_split.specs.declared.parts.Columns.{Columns}

abbrev pub rows : ℤ → ℤ → Rows
rows y0 y1 = record { y0 = y0; y1 = y1 }

abbrev pub columns : ℤ → ℤ → Columns
columns x0 x1 = record { x0 = x0; x1 = x1 }

-- no line of a field that a shot meets is further away
pub record IsNearFieldLine (x : ℤ) : Type 0 where
  pub low : neg_ℤ (pos (2 ^ 56)) ≤ℤ x
  pub high : x ≤ℤ pos (2 ^ 56)

-- columns of which there are some, none far away
pub record AreColumns (cols : Columns) : Type 0 where
  pub some : cols.x0 <ℤ cols.x1
  pub first : IsNearFieldLine cols.x0
  pub last : IsNearFieldLine cols.x1

-- ---- the pieces of a trapezoid in some columns

-- y, or the end of the rows that is next to it
abbrev pub within : Rows → ℤ → ℤ
within range y = int_max range.y0 (int_min range.y1 y)

-- where the line meets the upright line at x; the first Y of the rows for a line that is upright itself
abbrev pub meeting : Line → ℤ → Rows → ℤ
meeting (Upright c) x range = range.y0
meeting (Rising c) x range = x -ℤ twice c
meeting (Falling c) x range = twice c -ℤ x

-- the Y of the rows that is next to it
unfoldable pub turn : Line → ℤ → Rows → ℤ
turn l x range = within range (meeting l x range)

-- the rows of the range in which the line lies left of the upright line at x
unfoldable pub rows_left_of : Line → ℤ → Rows → Rows
rows_left_of (Upright c) x range = if int_lt c x then range else rows range.y0 range.y0
rows_left_of (Rising c) x range = rows range.y0 (within range (x -ℤ twice c))
rows_left_of (Falling c) x range = rows (within range (twice c -ℤ x)) range.y1

-- the rows of the range in which the line lies right of it
unfoldable pub rows_right_of : Line → ℤ → Rows → Rows
rows_right_of (Upright c) x range = if int_lt x c then range else rows range.y0 range.y0
rows_right_of (Rising c) x range = rows (within range (x -ℤ twice c)) range.y1
rows_right_of (Falling c) x range = rows range.y0 (within range (twice c -ℤ x))

-- the rows in which the trapezoid has tiles in the columns
abbrev pub rows_in : Trapezoid → Columns → Rows
rows_in z cols = rows_right_of z.right cols.x0 (rows_left_of z.left cols.x1 (rows z.y0 z.y1))

-- the lines between which its tiles in the columns lie, in the row j
abbrev pub left_in : Trapezoid → Columns → ℤ → Line
left_in z cols j = if int_lt (place z.left j) (twice cols.x0) then Upright cols.x0 else z.left

abbrev pub right_in : Trapezoid → Columns → ℤ → Line
right_in z cols j = if int_lt (twice cols.x1) (place z.right j) then Upright cols.x1 else z.right

-- the piece of these rows, where there are any, between the lines of the first row
abbrev pub piece_shape : Trapezoid → Columns → Rows → Trapezoid
piece_shape z cols range = trapezoid range.y0 range.y1 (left_in z cols range.y0) (right_in z cols range.y0)

unfoldable pub piece : Trapezoid → Columns → Rows → Option Trapezoid
piece z cols range = if int_lt range.y0 range.y1 then Some (piece_shape z cols range) else None

-- the Y at which the one of its sides changes, and that at which the other does
abbrev pub first_turn : Trapezoid → Columns → Rows → ℤ
first_turn z cols range = int_min (turn z.left cols.x0 range) (turn z.right cols.x1 range)

abbrev pub second_turn : Trapezoid → Columns → Rows → ℤ
second_turn z cols range = int_max (turn z.left cols.x0 range) (turn z.right cols.x1 range)

abbrev pub lower_piece : Trapezoid → Columns → Rows → Option Trapezoid
lower_piece z cols range = piece z cols (rows range.y0 (first_turn z cols range))

abbrev pub middle_piece : Trapezoid → Columns → Rows → Option Trapezoid
middle_piece z cols range = piece z cols (rows (first_turn z cols range) (second_turn z cols range))

abbrev pub upper_piece : Trapezoid → Columns → Rows → Option Trapezoid
upper_piece z cols range = piece z cols (rows (second_turn z cols range) range.y1)

abbrev pub pieces_of_rows : Trapezoid → Columns → Rows → List Trapezoid
pieces_of_rows z cols range =
    option_to_list (lower_piece z cols range) ++ (option_to_list (middle_piece z cols range) ++ option_to_list (upper_piece z cols range))

unfoldable pub pieces_in : Trapezoid → Columns → List Trapezoid
pieces_in z cols = pieces_of_rows z cols (rows_in z cols)

-- ---- the pieces of a shot in the fields of a stripe

-- the pieces in so many fields, of which the first begins at x
abbrev pub pieces_across : ℤ → Trapezoid → ℕ → ℤ → List Trapezoid
pieces_across size z zero x = []
pieces_across size z (suc n) x = pieces_in z (columns x (x +ℤ size)) ++ pieces_across size z n (x +ℤ size)

-- the shot's rows in the stripe
abbrev pub in_stripe : ℤ → ℤ → Trapezoid → Trapezoid
in_stripe size k z = trapezoid (int_max z.y0 (k *ℤ size)) (int_min z.y1 ((k +ℤ pos 1) *ℤ size)) z.left z.right

abbrev pub least_x : Trapezoid → ℤ
least_x z = int_min (x_on z.left z.y0) (x_on z.left z.y1)

abbrev pub greatest_x : Trapezoid → ℤ
greatest_x z = int_max (x_on z.right z.y0) (x_on z.right z.y1)

-- the field that has the least X, and that just left of the greatest
abbrev pub first_field : ℤ → Trapezoid → ℤ
first_field size z = int_div_euclid (least_x z) size

abbrev pub last_field : ℤ → Trapezoid → ℤ
last_field size z = int_div_euclid (greatest_x z -ℤ pos 1) size

-- a number that isn't negative, as a count
abbrev pub natural_of : ℤ → ℕ
natural_of (pos n) = n
natural_of (negsuc n) = 0

unfoldable pub number_of_fields : ℤ → Trapezoid → ℕ
number_of_fields size z = natural_of ((last_field size z -ℤ first_field size z) +ℤ pos 1)

-- the pieces of rows of a shot in all fields that they meet
unfoldable pub pieces_of_part : ℤ → Trapezoid → List Trapezoid
pieces_of_part size z = pieces_across size z (number_of_fields size z) (first_field size z *ℤ size)

-- the pieces of a shot in stripe k
unfoldable pub pieces_of_shot : ℤ → ℤ → Trapezoid → List Trapezoid
pieces_of_shot size k z = if int_lt (in_stripe size k z).y0 (in_stripe size k z).y1 then pieces_of_part size (in_stripe size k z) else []

abbrev pub pieces_of : ℤ → ℤ → List Trapezoid → List Trapezoid
pieces_of size k shots = flat_map (pieces_of_shot size k) shots

-- No shot meets more fields of a stripe than this, nor has it more pieces there.
unfoldable pub most_fields : ℕ
most_fields = 2 ^ 26

unfoldable pub most_pieces : ℕ
most_pieces = 4 * most_fields
