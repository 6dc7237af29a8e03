-- The strips of a tile.
--
-- The cell (i, j) is crossed by one diagonal: X - Y = i - j where i + j is even, X + Y = i + j + 1 where it is
-- odd. The diagonal cuts the cell into a left and a right triangle. Each lies in one strip of each kind:
-- the column i, the row j, the strip 2p <= X + Y <= 2p + 2 and the strip 2q <= X - Y <= 2q + 2.
-- This is the elementary geometry of the half grid. A tile ranges over all whole numbers.
use Rattle.std.specs.Prelude.{ℤ, pos, ◌+ℤ◌, ◌-ℤ◌, if◌then◌else◌}
use Rattle.half_grid.specs.Halves.{half, is_even}
use Rattle.half_grid.specs.declared.plane.Side.{Side}
use Rattle.half_grid.specs.declared.plane.Side.TheVariants.{Left, Right}
use Rattle.half_grid.specs.declared.plane.Tile.{Tile}
use Rattle.half_grid.specs.declared.plane.Strips.{Strips}

--              i + j even            i + j odd
-- left         (i + j) / 2           (i + j - 1) / 2
-- right        (i + j) / 2           (i + j + 1) / 2
abbrev pub sum_strip : ℤ → ℤ → Side → ℤ
sum_strip i j Left = if is_even (i +ℤ j) then half (i +ℤ j) else half ((i +ℤ j) -ℤ pos 1)
sum_strip i j Right = if is_even (i +ℤ j) then half (i +ℤ j) else half ((i +ℤ j) +ℤ pos 1)

--              i + j even            i + j odd
-- left         (i - j) / 2 - 1       (i - j - 1) / 2
-- right        (i - j) / 2           (i - j - 1) / 2
abbrev pub difference_strip : ℤ → ℤ → Side → ℤ
difference_strip i j Left = if is_even (i +ℤ j) then half (i -ℤ j) -ℤ pos 1 else half ((i -ℤ j) -ℤ pos 1)
difference_strip i j Right = if is_even (i +ℤ j) then half (i -ℤ j) else half ((i -ℤ j) -ℤ pos 1)

unfoldable pub strips_of : Tile → Strips
strips_of t = record { i = t.i; j = t.j; p = sum_strip t.i t.j t.side; q = difference_strip t.i t.j t.side }
