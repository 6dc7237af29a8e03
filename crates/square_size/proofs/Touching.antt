-- Tiles that touch a trapezoid, and what makes two tiles near: by numbers in rows, and by columns.
use Rattle.std.proofs.Common.{◌≡◌, Bool, true, false, ℤ, pos, negsuc, ◌+ℤ◌, ◌-ℤ◌, ◌≤ℤ◌, ◌<ℤ◌, inl, inr, arith, refl, ap}
use Rattle.std.proofs.Common.{if◌then◌else◌}
use Rattle.std.proofs.lemmas.Int.{ints}
use Rattle.std.proofs.lemmas.Bool.Decides.{nat_tests}
use Rattle.half_grid.specs.Halves.{half, is_even, twice}
use Rattle.half_grid.specs.Lines.{IsRightOf, IsLeftOf, x_on}
use Rattle.half_grid.specs.Nearness.{DifferAtMost, IsNear}
use Rattle.half_grid.specs.Rows.{number_in_row, place}
use Rattle.half_grid.specs.Tiles.{strips_of}
use Rattle.half_grid.specs.Trapezoids.{Trapezoid, IsLegal}
use Rattle.half_grid.specs.declared.plane.Side.TheVariants.{Left, Right}
use Rattle.half_grid.specs.declared.plane.Tile.{Tile}
use Rattle.half_grid.specs.declared.plane.Line.{Line}
use Rattle.half_grid.specs.declared.plane.Line.TheVariants.{Upright, Rising, Falling}
use Rattle.half_grid.proofs.ForCallers.{i_low, i_high, p_low, p_high, q_low, q_high, tile_with, tile_with_number}
use Rattle.square_size.specs.Lone.{InSameStrips, IsUnder, IsOver, IsTouching}

-- half of a number and itself
pub half_double : (d : ℤ) → half (d +ℤ d) ≡ d
half_double (pos n) = grind (arith, ints)
half_double (negsuc n) = grind (arith, ints)

-- an even number is twice its half, an odd one is one more
even_half : (z : ℤ) → is_even z ≡ true → half z +ℤ half z ≡ z
even_half (pos n) e = grind (arith, ints, nat_tests)
even_half (negsuc n) e = grind (arith, ints, nat_tests)

odd_half : (z : ℤ) → is_even z ≡ false → (half z +ℤ half z) +ℤ pos 1 ≡ z
odd_half (pos n) e = grind (arith, ints, nat_tests)
odd_half (negsuc n) e = grind (arith, ints, nat_tests)

-- ---- the tiles that have a horizontal side at a height

-- that of the column and the row; the row is the one over the height or the one under it
abbrev pub tile_at : ℤ → ℤ → ℤ → Tile
tile_at k y j = record { i = k; j = j; side = if is_even (k +ℤ y) then Right else Left }

-- the strips along the diagonals of such a tile
pub record HasStripsAt (k y : ℤ) (t : Tile) : Type 0 where
  pub p_most : (twice (strips_of t).p) ≤ℤ (k +ℤ y)
  pub p_least : (k +ℤ y) ≤ℤ (twice (strips_of t).p +ℤ pos 1)
  pub q_most : (twice (strips_of t).q) ≤ℤ (k -ℤ y)
  pub q_least : (k -ℤ y) ≤ℤ (twice (strips_of t).q +ℤ pos 1)

-- the number of such a tile, by whether its column and the height have an even sum
even_number : (k y j : ℤ) → is_even (k +ℤ y) ≡ true → number_in_row (tile_at k y j) ≡ twice k +ℤ pos 1
even_number k y j e = rw e refl

odd_number : (k y j : ℤ) → is_even (k +ℤ y) ≡ false → number_in_row (tile_at k y j) ≡ twice k
odd_number k y j e = rw e refl

-- the strips of a tile with that number in the row over the height or the one under it
strips_of_even : (k y : ℤ) (t : Tile) → half (k +ℤ y) +ℤ half (k +ℤ y) ≡ k +ℤ y → number_in_row t ≡ twice k +ℤ pos 1
    → (t.j ≤ℤ y) → (y ≤ℤ (t.j +ℤ pos 1)) → HasStripsAt k y t
strips_of_even k y t e n a b = record {
  p_most = omega (arith, ints, e, n, a, b, p_low t);
  p_least = omega (arith, ints, e, n, a, b, p_high t);
  q_most = omega (arith, ints, e, n, a, b, q_low t);
  q_least = omega (arith, ints, e, n, a, b, q_high t);
}

strips_of_odd : (k y : ℤ) (t : Tile) → (half (k +ℤ y) +ℤ half (k +ℤ y)) +ℤ pos 1 ≡ k +ℤ y → number_in_row t ≡ twice k
    → (t.j ≤ℤ y) → (y ≤ℤ (t.j +ℤ pos 1)) → HasStripsAt k y t
strips_of_odd k y t e n a b = record {
  p_most = omega (arith, ints, e, n, a, b, p_low t);
  p_least = omega (arith, ints, e, n, a, b, p_high t);
  q_most = omega (arith, ints, e, n, a, b, q_low t);
  q_least = omega (arith, ints, e, n, a, b, q_high t);
}

-- the strips of such a tile, by that test
strips_by : (b : Bool) (k y j : ℤ) → is_even (k +ℤ y) ≡ b → j ≤ℤ y → y ≤ℤ (j +ℤ pos 1) → HasStripsAt k y (tile_at k y j)
strips_by true k y j e under over = strips_of_even k y (tile_at k y j) (even_half (k +ℤ y) e) (even_number k y j e) under over
strips_by false k y j e under over = strips_of_odd k y (tile_at k y j) (odd_half (k +ℤ y) e) (odd_number k y j e) under over

-- the strips of such a tile
pub strips_at : (k y j : ℤ) → j ≤ℤ y → y ≤ℤ (j +ℤ pos 1) → HasStripsAt k y (tile_at k y j)
strips_at k y j under over = strips_by _ k y j refl under over

-- two of them lie in the same strips
same_at : (k y : ℤ) (t u : Tile) → HasStripsAt k y t → HasStripsAt k y u → InSameStrips t u
same_at k y t u a b = record {
  sums = omega (arith, ints, a.p_most, a.p_least, b.p_most, b.p_least);
  differences = omega (arith, ints, a.q_most, a.q_least, b.q_most, b.q_least);
}

-- such a tile is right of a line, or left of one, where its side is
right_at : (l : Line) (y : ℤ) (t : Tile) → HasStripsAt t.i y t → x_on l y ≤ℤ t.i → IsRightOf t l
right_at (Upright c) y t s h = h
right_at (Rising c) y t s h = omega (arith, ints, s.q_least, h)
right_at (Falling c) y t s h = omega (arith, ints, s.p_least, h)

left_at : (l : Line) (y : ℤ) (t : Tile) → HasStripsAt t.i y t → t.i <ℤ x_on l y → IsLeftOf t l
left_at (Upright c) y t s h = h
left_at (Rising c) y t s h = omega (arith, ints, s.q_most, h)
left_at (Falling c) y t s h = omega (arith, ints, s.p_most, h)

-- ---- tiles that touch

-- just under the bottom side, whose row ends at r + 1
pub under_is : (z : Trapezoid) (k r : ℤ) → IsLegal z → r +ℤ pos 1 ≡ z.y0 → x_on z.left z.y0 ≤ℤ k → k <ℤ x_on z.right z.y0
    → IsUnder z (tile_at k (r +ℤ pos 1) r)
under_is z k r legal e low high =
    let here = strips_at k (r +ℤ pos 1) r (omega (arith, ints)) (omega (arith, ints)) in
    let next = strips_at k (r +ℤ pos 1) (r +ℤ pos 1) (omega (arith, ints)) (omega (arith, ints)) in
    record {
      row = e;
      shares = same_at k (r +ℤ pos 1) (tile_at k (r +ℤ pos 1) r) (tile_at k (r +ℤ pos 1) (r +ℤ pos 1)) here next;
      inside = record {
        above_bottom = omega (arith, ints, e);
        below_top = omega (arith, ints, e, legal.has_rows);
        right_of_left = right_at z.left (r +ℤ pos 1) (tile_at k (r +ℤ pos 1) (r +ℤ pos 1)) next (omega (arith, ints, low, ap (x_on z.left) e));
        left_of_right = left_at z.right (r +ℤ pos 1) (tile_at k (r +ℤ pos 1) (r +ℤ pos 1)) next (omega (arith, ints, high, ap (x_on z.right) e));
      };
    }

-- just over the top side
pub over_is : (z : Trapezoid) (k : ℤ) → IsLegal z → x_on z.left z.y1 ≤ℤ k → k <ℤ x_on z.right z.y1 → IsOver z (tile_at k z.y1 z.y1)
over_is z k legal low high =
    let here = strips_at k z.y1 z.y1 (omega (arith, ints)) (omega (arith, ints)) in
    let before = strips_at k z.y1 (z.y1 -ℤ pos 1) (omega (arith, ints)) (omega (arith, ints)) in
    record {
      row = refl;
      shares = same_at k z.y1 (tile_at k z.y1 z.y1) (tile_at k z.y1 (z.y1 -ℤ pos 1)) here before;
      inside = record {
        above_bottom = omega (arith, ints, legal.has_rows);
        below_top = omega (arith, ints);
        right_of_left = right_at z.left z.y1 (tile_at k z.y1 (z.y1 -ℤ pos 1)) before low;
        left_of_right = left_at z.right z.y1 (tile_at k z.y1 (z.y1 -ℤ pos 1)) before high;
      };
    }

-- the tile just left of the trapezoid in a row, and the one just right of it
abbrev pub left_tile : Trapezoid → ℤ → Tile
left_tile z j = tile_with (place z.left j -ℤ pos 1) j

abbrev pub right_tile : Trapezoid → ℤ → Tile
right_tile z j = tile_with (place z.right j) j

-- their numbers
pub left_number : (z : Trapezoid) (j : ℤ) → number_in_row (left_tile z j) ≡ place z.left j -ℤ pos 1
left_number z j = tile_with_number (place z.left j -ℤ pos 1) j

pub right_number : (z : Trapezoid) (j : ℤ) → number_in_row (right_tile z j) ≡ place z.right j
right_number z j = tile_with_number (place z.right j) j

-- both touch the trapezoid in its rows
pub left_touches : (z : Trapezoid) (j : ℤ) → z.y0 ≤ℤ j → j <ℤ z.y1 → IsTouching z (left_tile z j)
left_touches z j a b = inl (record { above_bottom = a; below_top = b; beside = inl (omega (arith, ints, left_number z j)) })

pub right_touches : (z : Trapezoid) (j : ℤ) → z.y0 ≤ℤ j → j <ℤ z.y1 → IsTouching z (right_tile z j)
right_touches z j a b = inl (record { above_bottom = a; below_top = b; beside = inr (right_number z j) })

-- ---- near

-- the column and the strips along the diagonals of the first tile are at most d more than those of the second
pub record IsAtMostPast (d : ℤ) (t n : Tile) : Type 0 where
  pub columns : (t.i -ℤ n.i) ≤ℤ d
  pub sums : ((strips_of t).p -ℤ (strips_of n).p) ≤ℤ d
  pub differences : ((strips_of t).q -ℤ (strips_of n).q) ≤ℤ d

-- two tiles are near where neither is past the other by more than d
pub near_by : (d : ℤ) (t n : Tile) → DifferAtMost d t.j n.j → IsAtMostPast d t n → IsAtMostPast d n t → IsNear d d t n
near_by d t n rows a b = record {
  columns = record { above = a.columns; below = b.columns };
  rows = rows;
  sums = record { above = omega (arith, ints, a.sums, half_double d); below = omega (arith, ints, b.sums, half_double d) };
  differences = record { above = omega (arith, ints, a.differences, half_double d); below = omega (arith, ints, b.differences, half_double d) };
}

-- where the rows differ by at most d and the numbers by at most twice d
pub past_by_numbers : (d : ℤ) (t n : Tile) → DifferAtMost d t.j n.j → (number_in_row t -ℤ number_in_row n) ≤ℤ twice d → IsAtMostPast d t n
past_by_numbers d t n rows h = record {
  columns = omega (arith, ints, h, i_low t, i_high n);
  sums = omega (arith, ints, h, rows.above, p_low t, p_high n);
  differences = omega (arith, ints, h, rows.below, q_low t, q_high n);
}

-- where the columns differ by at most d and the rows by less
pub past_by_columns : (d : ℤ) (t n : Tile) → pos 1 ≤ℤ d → (t.i -ℤ n.i) ≤ℤ d → (t.j -ℤ n.j) <ℤ d → (n.j -ℤ t.j) <ℤ d → IsAtMostPast d t n
past_by_columns d t n hd h a b = record {
  columns = h;
  sums = omega (arith, ints, h, a, hd, i_high t, i_low n, p_low t, p_high n);
  differences = omega (arith, ints, h, b, hd, i_high t, i_low n, q_low t, q_high n);
}

-- where a tile before it in its row is near
pub past_by_later : (d : ℤ) (t u n : Tile) → IsNear d d t u → n.j ≡ u.j → number_in_row u ≤ℤ number_in_row n → IsAtMostPast d t n
past_by_later d t u n near row h = record {
  columns = omega (arith, ints, h, near.columns.above, i_low u, i_high n);
  sums = omega (arith, ints, h, row, near.sums.above, half_double d, p_low u, p_high n);
  differences = omega (arith, ints, h, row, near.differences.above, half_double d, q_low u, q_high n);
}

-- where a tile after it in its row is near
pub past_by_earlier : (d : ℤ) (t u n : Tile) → IsNear d d t u → n.j ≡ u.j → number_in_row n ≤ℤ number_in_row u → IsAtMostPast d n t
past_by_earlier d t u n near row h = record {
  columns = omega (arith, ints, h, near.columns.below, i_low n, i_high u);
  sums = omega (arith, ints, h, row, near.sums.below, half_double d, p_low n, p_high u);
  differences = omega (arith, ints, h, row, near.differences.below, half_double d, q_low n, q_high u);
}

-- a line's place changes by at most twice the rows
pub place_steps : (l : Line) (d j k : ℤ) → (j -ℤ k) ≤ℤ d → (k -ℤ j) ≤ℤ d → (place l j -ℤ place l k) ≤ℤ twice d
place_steps (Upright c) d j k a b = omega (arith, ints, a, b)
place_steps (Rising c) d j k a b = omega (arith, ints, a, b)
place_steps (Falling c) d j k a b = omega (arith, ints, a, b)
