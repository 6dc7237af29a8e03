-- The tiles and the lines of one row, by numbers.
--
-- In a row the left tile of the column i has the number 2i and the right one 2i + 1, so from left to right the
-- numbers count up by one. The place of a line in the row j is the sum of its X at the bottom and at the top of
-- the row: 2c for Upright(c), 2j + 4c + 1 for Rising(c) and 4c - 2j - 1 for Falling(c). A tile is right of a line
-- exactly where the place is at most the tile's number.
use Rattle.std.specs.Ordering.{int_eq}
use Rattle.std.specs.Prelude.{Bool, ◌&&◌, int_le, int_lt, if◌then◌else◌, ℤ, pos, ◌+ℤ◌, ◌-ℤ◌}
use Rattle.half_grid.specs.Halves.{twice, half, is_even}
use Rattle.half_grid.specs.Lines.{x_on}
use Rattle.half_grid.specs.declared.plane.Tile.{Tile}
use Rattle.half_grid.specs.declared.plane.Side.{Side}
use Rattle.half_grid.specs.declared.plane.Side.TheVariants.{Left, Right}
use Rattle.half_grid.specs.declared.plane.Line.{Line}
use Rattle.half_grid.specs.declared.plane.Line.TheVariants.{Upright, Rising, Falling}

abbrev pub number_at : ℤ → Side → ℤ
number_at i Left = twice i
number_at i Right = twice i +ℤ pos 1

-- the tile's number in its row
abbrev pub number_in_row : Tile → ℤ
number_in_row t = number_at t.i t.side

-- the line's place in the row
abbrev pub place : Line → ℤ → ℤ
place line j = x_on line j +ℤ x_on line (j +ℤ pos 1)

-- the line of a place in the row: for an even place n, Upright(n / 2); for an odd one the one of the two
-- diagonals of the cell
unfoldable pub line_with_place : ℤ → ℤ → Line
line_with_place n j =
    if is_even n then Upright (half n)
    else if is_even (half n -ℤ j) then Rising (half (half n -ℤ j))
    else Falling (half ((half n +ℤ j) +ℤ pos 1))

-- whether the tile stands in the row, with a number from `first` up to below `end`
abbrev pub in_row : ℤ → ℤ → ℤ → Tile → Bool
in_row j first end t = int_eq t.j j && (int_le first (number_in_row t) && int_lt (number_in_row t) end)
