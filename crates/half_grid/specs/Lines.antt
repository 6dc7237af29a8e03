-- Lines of the half grid, and the tiles to the right of one.
--
-- Upright(c) is X = c, Rising(c) is X - Y = 2c, Falling(c) is X + Y = 2c. A tile is right of Upright(c) where
-- i >= c, of Rising(c) where q >= c, of Falling(c) where p >= c. A tile that isn't right of a line is left of it.
use Rattle.std.specs.Prelude.{ℤ, ◌+ℤ◌, ◌-ℤ◌, ◌≤ℤ◌, ◌<ℤ◌, ◌≡◌, Bool, Option, Some, None, if◌then◌else◌, ◌&&◌}
use Rattle.std.specs.Ordering.{int_eq}
use Rattle.half_grid.specs.Halves.{twice, half, is_even}
use Rattle.half_grid.specs.Tiles.{strips_of}
use Rattle.half_grid.specs.declared.plane.Tile.{Tile}
use Rattle.half_grid.specs.declared.plane.Point.{Point}
use Rattle.half_grid.specs.declared.plane.Line.{Line}
use Rattle.half_grid.specs.declared.plane.Line.TheVariants.{Upright, Rising, Falling}

-- the number of a tile's strip of the kind that the line bounds
abbrev pub strip_along : Line → Tile → ℤ
strip_along (Upright c) t = t.i
strip_along (Rising c) t = (strips_of t).q
strip_along (Falling c) t = (strips_of t).p

-- the number of the first such strip right of the line
abbrev pub first_strip : Line → ℤ
first_strip (Upright c) = c
first_strip (Rising c) = c
first_strip (Falling c) = c

abbrev pub IsRightOf : Tile → Line → Type 0
IsRightOf t line = first_strip line ≤ℤ strip_along line t

abbrev pub IsLeftOf : Tile → Line → Type 0
IsLeftOf t line = strip_along line t <ℤ first_strip line

-- the X of the line at Y
abbrev pub x_on : Line → ℤ → ℤ
x_on (Upright c) y = c
x_on (Rising c) y = twice c +ℤ y
x_on (Falling c) y = twice c -ℤ y

-- the line passes through the point
abbrev pub Passes : Line → Point → Type 0
Passes line p = p.x ≡ x_on line p.y

-- two points lie on one line X - Y = 2c
abbrev pub share_rising : Point → Point → Bool
share_rising a b = is_even (a.x -ℤ a.y) && int_eq (a.x -ℤ a.y) (b.x -ℤ b.y)

-- two points lie on one line X + Y = 2c
abbrev pub share_falling : Point → Point → Bool
share_falling a b = is_even (a.x +ℤ a.y) && int_eq (a.x +ℤ a.y) (b.x +ℤ b.y)

-- The line through two points of different Y, where there is one of the three kinds.
unfoldable pub line_of : Point → Point → Option Line
line_of a b =
    if int_eq a.y b.y then None
    else if int_eq a.x b.x then Some (Upright a.x)
    else if share_rising a b then Some (Rising (half (a.x -ℤ a.y)))
    else if share_falling a b then Some (Falling (half (a.x +ℤ a.y)))
    else None
