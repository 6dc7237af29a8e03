-- The least and the greatest strip numbers of a legal trapezoid's tiles: those of the first or the last tile of its
-- lowest or its highest row.
use Rattle.std.proofs.Common.{ℤ, pos, ◌+ℤ◌, ◌-ℤ◌, ◌≤ℤ◌, ◌<ℤ◌, ◌≡◌, arith, refl}
use Rattle.std.proofs.lemmas.Int.{ints}
use Rattle.half_grid.specs.Halves.{twice}
use Rattle.half_grid.specs.Lines.{IsRightOf, IsLeftOf}
use Rattle.half_grid.specs.Rows.{number_in_row, place}
use Rattle.half_grid.specs.Tiles.{strips_of}
use Rattle.half_grid.specs.Trapezoids.{Trapezoid, IsInTrapezoid, IsLegal}
use Rattle.half_grid.specs.declared.plane.Tile.{Tile}
use Rattle.half_grid.specs.declared.plane.Line.{Line}
use Rattle.half_grid.specs.declared.plane.Line.TheVariants.{Upright, Rising, Falling}
use Rattle.half_grid.proofs.ForCallers.{i_low, i_high, p_low, p_high, q_low, q_high, tile_with, tile_with_number, number_between, in_by_number, legal_places}
use Rattle.square_size.specs.Ranges.{column_of, row_of, sum_of, difference_of}

-- tiles of the trapezoid that have the least and the greatest number of a strip
pub record Span (strip : Tile → ℤ) (z : Trapezoid) : Type 0 where
  pub least : Tile
  pub greatest : Tile
  pub least_in : IsInTrapezoid z least
  pub greatest_in : IsInTrapezoid z greatest
  pub low : (t : Tile) → IsInTrapezoid z t → strip least ≤ℤ strip t
  pub high : (t : Tile) → IsInTrapezoid z t → strip t ≤ℤ strip greatest

pub record Extremes (z : Trapezoid) : Type 0 where
  pub columns : Span column_of z
  pub rows : Span row_of z
  pub sums : Span sum_of z
  pub differences : Span difference_of z

pub first_of : Trapezoid → ℤ → Tile
first_of z k = tile_with (place z.left k) k

pub last_of : Trapezoid → ℤ → Tile
last_of z k = tile_with (place z.right k -ℤ pos 1) k

-- their numbers and rows
pub number_first : (z : Trapezoid) (k : ℤ) → number_in_row (first_of z k) ≡ place z.left k
unfolding first_of
number_first z k = tile_with_number (place z.left k) k

pub row_first : (z : Trapezoid) (k : ℤ) → (first_of z k).j ≡ k
unfolding first_of
row_first z k = refl

pub number_last : (z : Trapezoid) (k : ℤ) → number_in_row (last_of z k) ≡ place z.right k -ℤ pos 1
unfolding last_of
number_last z k = tile_with_number (place z.right k -ℤ pos 1) k

pub row_last : (z : Trapezoid) (k : ℤ) → (last_of z k).j ≡ k
unfolding last_of
row_last z k = refl

-- an X plus Y of a line never falls from row to row, and an X less Y never rises
pub place_and_row : (l : Line) (j k : ℤ) → j ≤ℤ k → (place l j +ℤ twice j) ≤ℤ (place l k +ℤ twice k)
place_and_row (Upright c) j k h = omega (arith, ints, h)
place_and_row (Rising c) j k h = omega (arith, ints, h)
place_and_row (Falling c) j k h = omega (arith, ints, h)

pub place_less_row : (l : Line) (j k : ℤ) → j ≤ℤ k → (place l k -ℤ twice k) ≤ℤ (place l j -ℤ twice j)
place_less_row (Upright c) j k h = omega (arith, ints, h)
place_less_row (Rising c) j k h = omega (arith, ints, h)
place_less_row (Falling c) j k h = omega (arith, ints, h)

-- the row of a line's least place, and that of its greatest
record RowOfLeast (l : Line) (y0 y1 : ℤ) : Type 0 where
  k : ℤ
  from : y0 ≤ℤ k
  to : k <ℤ y1
  least : (j : ℤ) → y0 ≤ℤ j → j <ℤ y1 → place l k ≤ℤ place l j

row_of_least : (l : Line) (y0 y1 : ℤ) → y0 <ℤ y1 → RowOfLeast l y0 y1
row_of_least (Upright c) y0 y1 h = record { k = y0; from = omega (arith, ints); to = h; least = λ j a b. omega (arith, ints) }
row_of_least (Rising c) y0 y1 h = record { k = y0; from = omega (arith, ints); to = h; least = λ j a b. omega (arith, ints, a) }
row_of_least (Falling c) y0 y1 h = record { k = y1 -ℤ pos 1; from = omega (arith, ints, h); to = omega (arith, ints); least = λ j a b. omega (arith, ints, b) }

record RowOfGreatest (l : Line) (y0 y1 : ℤ) : Type 0 where
  k : ℤ
  from : y0 ≤ℤ k
  to : k <ℤ y1
  greatest : (j : ℤ) → y0 ≤ℤ j → j <ℤ y1 → place l j ≤ℤ place l k

row_of_greatest : (l : Line) (y0 y1 : ℤ) → y0 <ℤ y1 → RowOfGreatest l y0 y1
row_of_greatest (Upright c) y0 y1 h = record { k = y0; from = omega (arith, ints); to = h; greatest = λ j a b. omega (arith, ints) }
row_of_greatest (Rising c) y0 y1 h =
    record {
      k = y1 -ℤ pos 1;
      from = omega (arith, ints, h);
      to = omega (arith, ints);
      greatest = λ j a b. omega
          (arith, ints, b);
    }
row_of_greatest (Falling c) y0 y1 h = record { k = y0; from = omega (arith, ints); to = h; greatest = λ j a b. omega (arith, ints, a) }

module _ (z : Trapezoid) (legal : IsLegal z) where
  pub first_in : (k : ℤ) → z.y0 ≤ℤ k → k <ℤ z.y1 → IsInTrapezoid z (first_of z k)
  unfolding first_of
  first_in k a b =
      let n = tile_with_number (place z.left k) k in
      let w = legal_places z k legal a b in
      in_by_number z (tile_with (place z.left k) k)
      (record {
        above_bottom = a;
        below_top = b;
        from_left = omega (arith, ints, n);
        below_right = omega
            (arith, ints, n, w);
      })

  pub last_in : (k : ℤ) → z.y0 ≤ℤ k → k <ℤ z.y1 → IsInTrapezoid z (last_of z k)
  unfolding last_of
  last_in k a b =
      let n = tile_with_number (place z.right k -ℤ pos 1) k in
      let w = legal_places z k legal a b in
      in_by_number z (tile_with (place z.right k -ℤ pos 1) k)
      (record {
        above_bottom = a;
        below_top = b;
        from_left = omega (arith, ints, n, w);
        below_right = omega
            (arith, ints, n);
      })

  pub bottom_in : (z.y0 ≤ℤ z.y0) × (z.y0 <ℤ z.y1)
  bottom_in = (omega (arith, ints), legal.has_rows)

  pub top_in : (z.y0 ≤ℤ (z.y1 -ℤ pos 1)) × ((z.y1 -ℤ pos 1) <ℤ z.y1)
  top_in = (omega (arith, ints, legal.has_rows), omega (arith, ints))

  rows : Span row_of z
  unfolding first_of
  rows = record {
    least = first_of z z.y0;
    greatest = first_of z (z.y1 -ℤ pos 1);
    least_in = first_in z.y0 bottom_in.0 bottom_in.1;
    greatest_in = first_in (z.y1 -ℤ pos 1) top_in.0 top_in.1;
    low = λ t h. h.above_bottom;
    high = λ t h. omega (arith, ints, h.below_top);
  }

  sums_low : (t : Tile) → IsInTrapezoid z t → sum_of (first_of z z.y0) ≤ℤ sum_of t
  unfolding first_of
  sums_low t h =
      let b = number_between z t h in
      let n = tile_with_number (place z.left z.y0) z.y0 in
      let m = place_and_row z.left z.y0 t.j b.above_bottom in
      omega (arith, ints, n, m, b.from_left, p_low (tile_with (place z.left z.y0) z.y0), p_high t)

  sums_high : (t : Tile) → IsInTrapezoid z t → sum_of t ≤ℤ sum_of (last_of z (z.y1 -ℤ pos 1))
  unfolding last_of
  sums_high t h =
      let b = number_between z t h in
      let k = z.y1 -ℤ pos 1 in
      let n = tile_with_number (place z.right k -ℤ pos 1) k in
      let m = place_and_row z.right t.j k (omega (arith, ints, b.below_top)) in
      omega (arith, ints, n, m, b.below_right, p_low t, p_high (tile_with (place z.right k -ℤ pos 1) k))

  sums : Span sum_of z
  sums = record {
    least = first_of z z.y0;
    greatest = last_of z (z.y1 -ℤ pos 1);
    least_in = first_in z.y0 bottom_in.0 bottom_in.1;
    greatest_in = last_in (z.y1 -ℤ pos 1) top_in.0 top_in.1;
    low = sums_low;
    high = sums_high;
  }

  differences_low : (t : Tile) → IsInTrapezoid z t → difference_of (first_of z (z.y1 -ℤ pos 1)) ≤ℤ difference_of t
  unfolding first_of
  differences_low t h =
      let b = number_between z t h in
      let k = z.y1 -ℤ pos 1 in
      let n = tile_with_number (place z.left k) k in
      let m = place_less_row z.left t.j k (omega (arith, ints, b.below_top)) in
      omega (arith, ints, n, m, b.from_left, q_low (tile_with (place z.left k) k), q_high t)

  differences_high : (t : Tile) → IsInTrapezoid z t → difference_of t ≤ℤ difference_of (last_of z z.y0)
  unfolding last_of
  differences_high t h =
      let b = number_between z t h in
      let n = tile_with_number (place z.right z.y0 -ℤ pos 1) z.y0 in
      let m = place_less_row z.right z.y0 t.j b.above_bottom in
      omega (arith, ints, n, m, b.below_right, q_low t, q_high (tile_with (place z.right z.y0 -ℤ pos 1) z.y0))

  differences : Span difference_of z
  differences = record {
    least = first_of z (z.y1 -ℤ pos 1);
    greatest = last_of z z.y0;
    least_in = first_in (z.y1 -ℤ pos 1) top_in.0 top_in.1;
    greatest_in = last_in z.y0 bottom_in.0 bottom_in.1;
    low = differences_low;
    high = differences_high;
  }

  columns_low : (r : RowOfLeast z.left z.y0 z.y1) (t : Tile) → IsInTrapezoid z t → column_of (first_of z r.k) ≤ℤ column_of t
  unfolding first_of
  columns_low r t h =
      let b = number_between z t h in
      let n = tile_with_number (place z.left r.k) r.k in
      omega (arith, ints, n, r.least t.j b.above_bottom b.below_top, b.from_left, i_low (tile_with (place z.left r.k) r.k), i_high t)

  columns_high : (r : RowOfGreatest z.right z.y0 z.y1) (t : Tile) → IsInTrapezoid z t → column_of t ≤ℤ column_of (last_of z r.k)
  unfolding last_of
  columns_high r t h =
      let b = number_between z t h in
      let n = tile_with_number (place z.right r.k -ℤ pos 1) r.k in
      omega (arith, ints, n, r.greatest t.j b.above_bottom b.below_top, b.below_right, i_low t, i_high (tile_with (place z.right r.k -ℤ pos 1) r.k))

  columns_by : RowOfLeast z.left z.y0 z.y1 → RowOfGreatest z.right z.y0 z.y1 → Span column_of z
  columns_by l r = record {
    least = first_of z l.k;
    greatest = last_of z r.k;
    least_in = first_in l.k l.from l.to;
    greatest_in = last_in r.k r.from r.to;
    low = columns_low l;
    high = columns_high r;
  }

  pub extremes : Extremes z
  extremes = record {
    columns = columns_by (row_of_least z.left z.y0 z.y1 legal.has_rows) (row_of_greatest z.right z.y0 z.y1 legal.has_rows);
    rows = rows;
    sums = sums;
    differences = differences;
  }

-- a tile that is in each range is in the trapezoid, since each side is along strips of one kind
right_of_left : (l : Line) (t i p q : Tile) → IsRightOf i l → IsRightOf p l → IsRightOf q l → i.i ≤ℤ t.i
    → (strips_of p).p ≤ℤ (strips_of t).p → (strips_of q).q ≤ℤ (strips_of t).q → IsRightOf t l
right_of_left (Upright c) t i p q hi hp hq li lp lq = omega (arith, ints, hi, li)
right_of_left (Rising c) t i p q hi hp hq li lp lq = omega (arith, ints, hq, lq)
right_of_left (Falling c) t i p q hi hp hq li lp lq = omega (arith, ints, hp, lp)

left_of_right : (l : Line) (t i p q : Tile) → IsLeftOf i l → IsLeftOf p l → IsLeftOf q l → t.i ≤ℤ i.i
    → (strips_of t).p ≤ℤ (strips_of p).p → (strips_of t).q ≤ℤ (strips_of q).q → IsLeftOf t l
left_of_right (Upright c) t i p q hi hp hq li lp lq = omega (arith, ints, hi, li)
left_of_right (Rising c) t i p q hi hp hq li lp lq = omega (arith, ints, hq, lq)
left_of_right (Falling c) t i p q hi hp hq li lp lq = omega (arith, ints, hp, lp)

pub whole : (z : Trapezoid) (e : Extremes z) (t : Tile) → column_of e.columns.least ≤ℤ t.i → t.i ≤ℤ column_of e.columns.greatest
    → row_of e.rows.least ≤ℤ t.j → t.j ≤ℤ row_of e.rows.greatest
    → sum_of e.sums.least ≤ℤ (strips_of t).p → (strips_of t).p ≤ℤ sum_of e.sums.greatest
    → difference_of e.differences.least ≤ℤ (strips_of t).q → (strips_of t).q ≤ℤ difference_of e.differences.greatest
    → IsInTrapezoid z t
whole z e t i0 i1 j0 j1 p0 p1 q0 q1 = record {
  above_bottom = omega (arith, ints, j0, e.rows.least_in.above_bottom);
  below_top = omega (arith, ints, j1, e.rows.greatest_in.below_top);
  right_of_left = right_of_left z.left t e.columns.least e.sums.least e.differences.least
      e.columns.least_in.right_of_left e.sums.least_in.right_of_left e.differences.least_in.right_of_left i0 p0 q0;
  left_of_right = left_of_right z.right t e.columns.greatest e.sums.greatest e.differences.greatest
      e.columns.greatest_in.left_of_right e.sums.greatest_in.left_of_right e.differences.greatest_in.left_of_right i1
      p1 q1;
}
