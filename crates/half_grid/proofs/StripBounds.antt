-- The strips of a tile, by its number in the row. With n the number, 2i <= n <= 2i + 1,
-- 4p <= n + 2j + 1 <= 4p + 3 and 4q <= n - 2j - 1 <= 4q + 3.
use Rattle.std.proofs.Common.{◌≡◌, ◌+◌, ◌*◌, ◌≤◌, Bool, true, false, ℤ, pos, ◌+ℤ◌, ◌-ℤ◌, arith, refl}
use borrow.Author.Differences.{up, down}
use Rattle.std.proofs.lemmas.Int.{ints}
use Rattle.half_grid.specs.Halves.{half, is_even}
use Rattle.half_grid.specs.Tiles.{sum_strip, difference_strip, strips_of}
use Rattle.half_grid.specs.Rows.{number_at, number_in_row}
use Rattle.half_grid.specs.declared.plane.Side.{Side}
use Rattle.half_grid.specs.declared.plane.Side.TheVariants.{Left, Right}
use Rattle.half_grid.specs.declared.plane.Tile.{Tile}
use Rattle.half_grid.proofs.Halves.{half_low, half_high, half_even, half_odd}

sum_low : (b : Bool) (i j : ℤ) (side : Side) → is_even (i +ℤ j) ≡ b
    → 4 * up (sum_strip i j side) + down (number_at i side) + 2 * down j ≤ 4 * down (sum_strip i j side) + up
    (number_at i side) + 2 * up j + 1
sum_low true i j Left e = rw e (omega (arith, ints, half_even (i +ℤ j) e))
sum_low false i j Left e = rw e (omega (arith, ints, half_low ((i +ℤ j) -ℤ pos 1)))
sum_low true i j Right e = rw e (omega (arith, ints, half_even (i +ℤ j) e))
sum_low false i j Right e = rw e (omega (arith, ints, half_low ((i +ℤ j) +ℤ pos 1)))

sum_high : (b : Bool) (i j : ℤ) (side : Side) → is_even (i +ℤ j) ≡ b
    → up (number_at i side) + 2 * up j + 4 * down (sum_strip i j side) ≤ down (number_at i side) + 2 * down j + 4 * up
    (sum_strip i j side) + 2
sum_high true i j Left e = rw e (omega (arith, ints, half_even (i +ℤ j) e))
sum_high false i j Left e = rw e (omega (arith, ints, half_odd (i +ℤ j) e, half_high ((i +ℤ j) -ℤ pos 1)))
sum_high true i j Right e = rw e (omega (arith, ints, half_even (i +ℤ j) e))
sum_high false i j Right e = rw e (omega (arith, ints, half_odd (i +ℤ j) e, half_high ((i +ℤ j) +ℤ pos 1)))

difference_low : (b : Bool) (i j : ℤ) (side : Side) → is_even (i +ℤ j) ≡ b
    → 4 * up (difference_strip i j side) + down (number_at i side) + 2 * up j + 1 ≤ 4 * down
    (difference_strip i j side) + up (number_at i side) + 2 * down j
difference_low true i j Left e = rw e (omega (arith, ints, half_low (i -ℤ j)))
difference_low false i j Left e = rw e (omega (arith, ints, half_low ((i -ℤ j) -ℤ pos 1)))
difference_low true i j Right e = rw e (omega (arith, ints, half_low (i -ℤ j)))
difference_low false i j Right e = rw e (omega (arith, ints, half_low ((i -ℤ j) -ℤ pos 1)))

difference_high : (b : Bool) (i j : ℤ) (side : Side) → is_even (i +ℤ j) ≡ b
    → up (number_at i side) + 2 * down j + 4 * down (difference_strip i j side) ≤ down (number_at i side) + 2 * up j
    + 4 * up (difference_strip i j side) + 4
difference_high true i j Left e = rw e (omega (arith, ints, half_even (i +ℤ j) e, half_high (i -ℤ j)))
difference_high false i j Left e = rw e (omega (arith, ints, half_odd (i +ℤ j) e, half_high ((i -ℤ j) -ℤ pos 1)))
difference_high true i j Right e = rw e (omega (arith, ints, half_even (i +ℤ j) e, half_high (i -ℤ j)))
difference_high false i j Right e = rw e (omega (arith, ints, half_odd (i +ℤ j) e, half_high ((i -ℤ j) -ℤ pos 1)))

-- 4p <= n + 2j + 1
pub p_low : (t : Tile) → 4 * up (strips_of t).p + down (number_in_row t) + 2 * down t.j ≤ 4 * down (strips_of t).p + up (number_in_row t) + 2 * up t.j + 1
unfolding strips_of
p_low t = sum_low _ t.i t.j t.side refl

-- n + 2j + 1 <= 4p + 3
pub p_high : (t : Tile) → up (number_in_row t) + 2 * up t.j + 4 * down (strips_of t).p ≤ down (number_in_row t) + 2 * down t.j + 4 * up (strips_of t).p + 2
unfolding strips_of
p_high t = sum_high _ t.i t.j t.side refl

-- 4q <= n - 2j - 1
pub q_low : (t : Tile) → 4 * up (strips_of t).q + down (number_in_row t) + 2 * up t.j + 1 ≤ 4 * down (strips_of t).q + up (number_in_row t) + 2 * down t.j
unfolding strips_of
q_low t = difference_low _ t.i t.j t.side refl

-- n - 2j - 1 <= 4q + 3
pub q_high : (t : Tile) → up (number_in_row t) + 2 * down t.j + 4 * down (strips_of t).q ≤ down (number_in_row t) + 2 * up t.j + 4 * up (strips_of t).q + 4
unfolding strips_of
q_high t = difference_high _ t.i t.j t.side refl

number_low : (i : ℤ) (side : Side) → 2 * up i + down (number_at i side) ≤ 2 * down i + up (number_at i side)
number_low i Left = omega (arith, ints)
number_low i Right = omega (arith, ints)

number_high : (i : ℤ) (side : Side) → up (number_at i side) + 2 * down i ≤ down (number_at i side) + 2 * up i + 1
number_high i Left = omega (arith, ints)
number_high i Right = omega (arith, ints)

-- 2i <= n
pub i_low : (t : Tile) → 2 * up t.i + down (number_in_row t) ≤ 2 * down t.i + up (number_in_row t)
i_low t = number_low t.i t.side

-- n <= 2i + 1
pub i_high : (t : Tile) → up (number_in_row t) + 2 * down t.i ≤ down (number_in_row t) + 2 * up t.i + 1
i_high t = number_high t.i t.side
