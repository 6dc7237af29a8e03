-- The sides of a ring against the widened ranges of its trapezoid: in each row of the ring a tile is right of the left
-- side exactly where it is in the lower ends of the three ranges, and left of the right side likewise.
use Rattle.std.proofs.Common.{ℤ, pos, ◌+ℤ◌, ◌-ℤ◌, ◌≤ℤ◌, ◌<ℤ◌, ◌≡◌, arith}
use Rattle.std.proofs.lemmas.Int.{ints}
use Rattle.half_grid.specs.Halves.{twice}
use Rattle.half_grid.specs.Lines.{IsRightOf, IsLeftOf, x_on}
use Rattle.half_grid.specs.Rows.{place}
use Rattle.half_grid.specs.Tiles.{strips_of}
use Rattle.half_grid.specs.Trapezoids.{Trapezoid, IsLegal}
use Rattle.half_grid.specs.declared.plane.Tile.{Tile}
use Rattle.half_grid.specs.declared.plane.Line.{Line}
use Rattle.half_grid.specs.declared.plane.Line.TheVariants.{Upright, Rising, Falling}
use Rattle.half_grid.proofs.ForCallers.{i_low, i_high, p_low, p_high, q_low, q_high, number_between}
use Rattle.square_size.proofs.Extremes.{Extremes, first_of, last_of, number_first, row_first, number_last, row_last}
use Rattle.square_size.proofs.Extremes.{first_in, last_in, bottom_in, top_in, place_and_row, place_less_row}

-- two lines, one below and one above a Y
pub record Chain : Type 0 where
  pub lower : Line
  pub bend : ℤ
  pub upper : Line

-- the lines of the left side of the ring, where s is half the sum of dx and dy
abbrev pub left_chain : ℤ → ℤ → ℤ → ℤ → ℤ → Line → Chain
left_chain dx dy s y0 y1 (Upright c) = record { lower = Upright (c -ℤ dx); bend = y1 +ℤ dy; upper = Upright (c -ℤ dx) }
left_chain dx dy s y0 y1 (Rising c) = record { lower = Upright (x_on (Rising c) y0 -ℤ dx); bend = y0 +ℤ dy; upper = Rising (c -ℤ s) }
left_chain dx dy s y0 y1 (Falling c) = record { lower = Falling (c -ℤ s); bend = y1 -ℤ dy; upper = Upright (x_on (Falling c) y1 -ℤ dx) }

abbrev pub right_chain : ℤ → ℤ → ℤ → ℤ → ℤ → Line → Chain
right_chain dx dy s y0 y1 (Upright c) = record { lower = Upright (c +ℤ dx); bend = y1 +ℤ dy; upper = Upright (c +ℤ dx) }
right_chain dx dy s y0 y1 (Rising c) = record { lower = Rising (c +ℤ s); bend = y1 -ℤ dy; upper = Upright (x_on (Rising c) y1 +ℤ dx) }
right_chain dx dy s y0 y1 (Falling c) = record { lower = Upright (x_on (Falling c) y0 +ℤ dx); bend = y0 +ℤ dy; upper = Falling (c +ℤ s) }

-- ---- the lower ends

-- the least numbers of tiles right of a line between two Y: k is the Y of the row in which its place is least
pub record LowEnds (l : Line) (y0 y1 k i p q : ℤ) : Type 0 where
  i_low : twice i ≤ℤ place l k
  i_high : place l k ≤ℤ (twice i +ℤ pos 1)
  p_low : twice (twice p) ≤ℤ ((place l y0 +ℤ twice y0) +ℤ pos 1)
  p_high : (place l y0 +ℤ twice y0) ≤ℤ (twice (twice p) +ℤ pos 2)
  q_low : twice (twice q) ≤ℤ ((place l (y1 -ℤ pos 1) -ℤ twice y1) +ℤ pos 1)
  q_high : (place l (y1 -ℤ pos 1) -ℤ twice y1) ≤ℤ (twice (twice q) +ℤ pos 2)

abbrev pub least_row : ℤ → ℤ → Line → ℤ
least_row y0 y1 (Upright c) = y0
least_row y0 y1 (Rising c) = y0
least_row y0 y1 (Falling c) = y1 -ℤ pos 1

-- a tile in the lower ends of the widened ranges
pub record IsFromLow (dx s i p q : ℤ) (t : Tile) : Type 0 where
  pub columns : i ≤ℤ (t.i +ℤ dx)
  pub sums : p ≤ℤ ((strips_of t).p +ℤ s)
  pub differences : q ≤ℤ ((strips_of t).q +ℤ s)

pub low_lower : (l : Line) (dx dy s y0 y1 i p q : ℤ) (t : Tile) → LowEnds l y0 y1 (least_row y0 y1 l) i p q
    → s +ℤ s ≡ dx +ℤ dy → pos 0 ≤ℤ dx → pos 0 ≤ℤ dy → y0 <ℤ y1
    → (y0 -ℤ dy) ≤ℤ t.j → t.j <ℤ (y1 +ℤ dy) → t.j <ℤ (left_chain dx dy s y0 y1 l).bend → IsRightOf t (left_chain dx dy s y0 y1 l).lower → IsFromLow dx s i p q t
low_lower (Upright c) dx dy s y0 y1 i p q t e even wx wy rows a b below h = record {
  columns = omega (arith, ints, e.i_low, h);
  sums = omega (arith, ints, e.p_low, even, a, h, i_low t, p_high t);
  differences = omega (arith, ints, e.q_low, even, b, h, i_low t, q_high t);
}
low_lower (Rising c) dx dy s y0 y1 i p q t e even wx wy rows a b below h = record {
  columns = omega (arith, ints, e.i_low, h);
  sums = omega (arith, ints, e.p_low, even, a, h, i_low t, p_high t);
  differences = omega (arith, ints, e.q_low, even, below, h, i_low t, q_high t);
}
low_lower (Falling c) dx dy s y0 y1 i p q t e even wx wy rows a b below h = record {
  columns = omega (arith, ints, e.i_low, even, below, h, p_low t, i_high t);
  sums = omega (arith, ints, e.p_low, h);
  differences = omega (arith, ints, e.q_low, even, below, h, p_low t, q_high t, wy);
}

pub low_upper : (l : Line) (dx dy s y0 y1 i p q : ℤ) (t : Tile) → LowEnds l y0 y1 (least_row y0 y1 l) i p q
    → s +ℤ s ≡ dx +ℤ dy → pos 0 ≤ℤ dx → pos 0 ≤ℤ dy → y0 <ℤ y1
    → (y0 -ℤ dy) ≤ℤ t.j → t.j <ℤ (y1 +ℤ dy) → (left_chain dx dy s y0 y1 l).bend ≤ℤ t.j → IsRightOf t (left_chain dx dy s y0 y1 l).upper → IsFromLow dx s i p q t
low_upper (Upright c) dx dy s y0 y1 i p q t e even wx wy rows a b above h = record {
  columns = omega (arith, ints, e.i_low, h);
  sums = omega (arith, ints, e.p_low, even, a, h, i_low t, p_high t);
  differences = omega (arith, ints, e.q_low, even, b, h, i_low t, q_high t);
}
low_upper (Rising c) dx dy s y0 y1 i p q t e even wx wy rows a b above h = record {
  columns = omega (arith, ints, e.i_low, even, above, h, q_low t, i_high t);
  sums = omega (arith, ints, e.p_low, even, above, h, q_low t, p_high t, wy);
  differences = omega (arith, ints, e.q_low, h);
}
low_upper (Falling c) dx dy s y0 y1 i p q t e even wx wy rows a b above h = record {
  columns = omega (arith, ints, e.i_low, h);
  sums = omega (arith, ints, e.p_low, even, above, h, i_low t, p_high t);
  differences = omega (arith, ints, e.q_low, even, b, h, i_low t, q_high t);
}

pub right_lower : (l : Line) (dx dy s y0 y1 i p q : ℤ) (t : Tile) → LowEnds l y0 y1 (least_row y0 y1 l) i p q
    → IsFromLow dx s i p q t → IsRightOf t (left_chain dx dy s y0 y1 l).lower
right_lower (Upright c) dx dy s y0 y1 i p q t e h = omega (arith, ints, e.i_high, h.columns)
right_lower (Rising c) dx dy s y0 y1 i p q t e h = omega (arith, ints, e.i_high, h.columns)
right_lower (Falling c) dx dy s y0 y1 i p q t e h = omega (arith, ints, e.p_high, h.sums)

pub right_upper : (l : Line) (dx dy s y0 y1 i p q : ℤ) (t : Tile) → LowEnds l y0 y1 (least_row y0 y1 l) i p q
    → IsFromLow dx s i p q t → IsRightOf t (left_chain dx dy s y0 y1 l).upper
right_upper (Upright c) dx dy s y0 y1 i p q t e h = omega (arith, ints, e.i_high, h.columns)
right_upper (Rising c) dx dy s y0 y1 i p q t e h = omega (arith, ints, e.q_high, h.differences)
right_upper (Falling c) dx dy s y0 y1 i p q t e h = omega (arith, ints, e.i_high, h.columns)

-- ---- the upper ends

-- the greatest numbers of tiles left of a line between two Y: k is the Y of the row in which its place is greatest
pub record HighEnds (l : Line) (y0 y1 k i p q : ℤ) : Type 0 where
  i_low : (twice i +ℤ pos 1) ≤ℤ place l k
  i_high : place l k ≤ℤ (twice i +ℤ pos 2)
  p_low : (twice (twice p) +ℤ pos 2) ≤ℤ (place l (y1 -ℤ pos 1) +ℤ twice y1)
  p_high : (place l (y1 -ℤ pos 1) +ℤ twice y1) ≤ℤ (twice (twice p) +ℤ pos 5)
  q_low : (twice (twice q) +ℤ pos 2) ≤ℤ (place l y0 -ℤ twice y0)
  q_high : (place l y0 -ℤ twice y0) ≤ℤ (twice (twice q) +ℤ pos 5)

abbrev pub greatest_row : ℤ → ℤ → Line → ℤ
greatest_row y0 y1 (Upright c) = y0
greatest_row y0 y1 (Rising c) = y1 -ℤ pos 1
greatest_row y0 y1 (Falling c) = y0

-- a tile in the upper ends of the widened ranges
pub record IsToHigh (dx s i p q : ℤ) (t : Tile) : Type 0 where
  pub columns : (t.i -ℤ dx) ≤ℤ i
  pub sums : ((strips_of t).p -ℤ s) ≤ℤ p
  pub differences : ((strips_of t).q -ℤ s) ≤ℤ q

pub high_lower : (l : Line) (dx dy s y0 y1 i p q : ℤ) (t : Tile) → HighEnds l y0 y1 (greatest_row y0 y1 l) i p q
    → s +ℤ s ≡ dx +ℤ dy → pos 0 ≤ℤ dx → pos 0 ≤ℤ dy → y0 <ℤ y1
    → (y0 -ℤ dy) ≤ℤ t.j → t.j <ℤ (y1 +ℤ dy) → t.j <ℤ (right_chain dx dy s y0 y1 l).bend → IsLeftOf t (right_chain dx dy s y0 y1 l).lower → IsToHigh dx s i p q t
high_lower (Upright c) dx dy s y0 y1 i p q t e even wx wy rows a b below h = record {
  columns = omega (arith, ints, e.i_high, h);
  sums = omega (arith, ints, e.p_high, even, b, h, i_high t, p_low t);
  differences = omega (arith, ints, e.q_high, even, a, h, i_high t, q_low t);
}
high_lower (Rising c) dx dy s y0 y1 i p q t e even wx wy rows a b below h = record {
  columns = omega (arith, ints, e.i_high, even, below, h, q_high t, i_low t);
  sums = omega (arith, ints, e.p_high, even, below, h, q_high t, p_low t, wy);
  differences = omega (arith, ints, e.q_high, h);
}
high_lower (Falling c) dx dy s y0 y1 i p q t e even wx wy rows a b below h = record {
  columns = omega (arith, ints, e.i_high, h);
  sums = omega (arith, ints, e.p_high, even, below, h, i_high t, p_low t);
  differences = omega (arith, ints, e.q_high, even, a, h, i_high t, q_low t);
}

pub high_upper : (l : Line) (dx dy s y0 y1 i p q : ℤ) (t : Tile) → HighEnds l y0 y1 (greatest_row y0 y1 l) i p q
    → s +ℤ s ≡ dx +ℤ dy → pos 0 ≤ℤ dx → pos 0 ≤ℤ dy → y0 <ℤ y1
    → (y0 -ℤ dy) ≤ℤ t.j → t.j <ℤ (y1 +ℤ dy) → (right_chain dx dy s y0 y1 l).bend ≤ℤ t.j → IsLeftOf t (right_chain dx dy s y0 y1 l).upper → IsToHigh dx s i p q t
high_upper (Upright c) dx dy s y0 y1 i p q t e even wx wy rows a b above h = record {
  columns = omega (arith, ints, e.i_high, h);
  sums = omega (arith, ints, e.p_high, even, b, h, i_high t, p_low t);
  differences = omega (arith, ints, e.q_high, even, a, h, i_high t, q_low t);
}
high_upper (Rising c) dx dy s y0 y1 i p q t e even wx wy rows a b above h = record {
  columns = omega (arith, ints, e.i_high, h);
  sums = omega (arith, ints, e.p_high, even, b, h, i_high t, p_low t);
  differences = omega (arith, ints, e.q_high, even, above, h, i_high t, q_low t);
}
high_upper (Falling c) dx dy s y0 y1 i p q t e even wx wy rows a b above h = record {
  columns = omega (arith, ints, e.i_high, even, above, h, p_high t, i_low t);
  sums = omega (arith, ints, e.p_high, h);
  differences = omega (arith, ints, e.q_high, even, above, h, p_high t, q_low t, wy);
}

pub left_lower : (l : Line) (dx dy s y0 y1 i p q : ℤ) (t : Tile) → HighEnds l y0 y1 (greatest_row y0 y1 l) i p q
    → IsToHigh dx s i p q t → IsLeftOf t (right_chain dx dy s y0 y1 l).lower
left_lower (Upright c) dx dy s y0 y1 i p q t e h = omega (arith, ints, e.i_low, h.columns)
left_lower (Rising c) dx dy s y0 y1 i p q t e h = omega (arith, ints, e.q_low, h.differences)
left_lower (Falling c) dx dy s y0 y1 i p q t e h = omega (arith, ints, e.i_low, h.columns)

pub left_upper : (l : Line) (dx dy s y0 y1 i p q : ℤ) (t : Tile) → HighEnds l y0 y1 (greatest_row y0 y1 l) i p q
    → IsToHigh dx s i p q t → IsLeftOf t (right_chain dx dy s y0 y1 l).upper
left_upper (Upright c) dx dy s y0 y1 i p q t e h = omega (arith, ints, e.i_low, h.columns)
left_upper (Rising c) dx dy s y0 y1 i p q t e h = omega (arith, ints, e.i_low, h.columns)
left_upper (Falling c) dx dy s y0 y1 i p q t e h = omega (arith, ints, e.p_low, h.sums)

-- ---- the ends of a trapezoid's ranges

least_row_in : (l : Line) (y0 y1 : ℤ) → y0 <ℤ y1 → (y0 ≤ℤ least_row y0 y1 l) × (least_row y0 y1 l <ℤ y1)
least_row_in (Upright c) y0 y1 h = (omega (arith, ints), h)
least_row_in (Rising c) y0 y1 h = (omega (arith, ints), h)
least_row_in (Falling c) y0 y1 h = (omega (arith, ints, h), omega (arith, ints))

least_row_is : (l : Line) (y0 y1 j : ℤ) → y0 ≤ℤ j → j <ℤ y1 → place l (least_row y0 y1 l) ≤ℤ place l j
least_row_is (Upright c) y0 y1 j a b = omega (arith, ints)
least_row_is (Rising c) y0 y1 j a b = omega (arith, ints, a)
least_row_is (Falling c) y0 y1 j a b = omega (arith, ints, b)

greatest_row_in : (l : Line) (y0 y1 : ℤ) → y0 <ℤ y1 → (y0 ≤ℤ greatest_row y0 y1 l) × (greatest_row y0 y1 l <ℤ y1)
greatest_row_in (Upright c) y0 y1 h = (omega (arith, ints), h)
greatest_row_in (Rising c) y0 y1 h = (omega (arith, ints, h), omega (arith, ints))
greatest_row_in (Falling c) y0 y1 h = (omega (arith, ints), h)

greatest_row_is : (l : Line) (y0 y1 j : ℤ) → y0 ≤ℤ j → j <ℤ y1 → place l j ≤ℤ place l (greatest_row y0 y1 l)
greatest_row_is (Upright c) y0 y1 j a b = omega (arith, ints)
greatest_row_is (Rising c) y0 y1 j a b = omega (arith, ints, b)
greatest_row_is (Falling c) y0 y1 j a b = omega (arith, ints, a)

module _ (z : Trapezoid) (legal : IsLegal z) (e : Extremes z) where
  pub low_ends : LowEnds z.left z.y0 z.y1 (least_row z.y0 z.y1 z.left) (e.columns.least).i (strips_of e.sums.least).p (strips_of e.differences.least).q
  low_ends =
      let k = least_row z.y0 z.y1 z.left in
      let k_in = least_row_in z.left z.y0 z.y1 legal.has_rows in
      let top = z.y1 -ℤ pos 1 in
      let ti = first_of z k in
      let tp = first_of z z.y0 in
      let tq = first_of z top in
      let bi = number_between z e.columns.least e.columns.least_in in
      let bp = number_between z e.sums.least e.sums.least_in in
      let bq = number_between z e.differences.least e.differences.least_in in
      let bottom = bottom_in z legal in
      let high = top_in z legal in
      record {
        i_low = omega (arith, ints, e.columns.low ti (first_in z legal k k_in.0 k_in.1), number_first z k, i_low ti);
        i_high = omega (arith, ints, least_row_is z.left z.y0 z.y1 e.columns.least.j bi.above_bottom bi.below_top, bi.from_left, i_high e.columns.least);
        p_low = omega (arith, ints, e.sums.low tp (first_in z legal z.y0 bottom.0 bottom.1), number_first z z.y0, row_first z z.y0, p_low tp);
        p_high = omega (arith, ints, place_and_row z.left z.y0 e.sums.least.j bp.above_bottom, bp.from_left, p_high e.sums.least);
        q_low = omega (arith, ints, e.differences.low tq (first_in z legal top high.0 high.1), number_first z top, row_first z top, q_low tq);
        q_high = omega (
          arith,
          ints,
          place_less_row z.left e.differences.least.j top
              (omega (arith, ints, bq.below_top)),
          bq.from_left,
          q_high e.differences.least,
        );
      }

  pub high_ends : HighEnds z.right z.y0 z.y1 (greatest_row z.y0 z.y1 z.right) (e.columns.greatest).i
      (strips_of e.sums.greatest).p (strips_of e.differences.greatest).q
  high_ends =
      let k = greatest_row z.y0 z.y1 z.right in
      let k_in = greatest_row_in z.right z.y0 z.y1 legal.has_rows in
      let top = z.y1 -ℤ pos 1 in
      let ti = last_of z k in
      let tp = last_of z top in
      let tq = last_of z z.y0 in
      let bi = number_between z e.columns.greatest e.columns.greatest_in in
      let bp = number_between z e.sums.greatest e.sums.greatest_in in
      let bq = number_between z e.differences.greatest e.differences.greatest_in in
      let bottom = bottom_in z legal in
      let high = top_in z legal in
      record {
        i_low = omega (
          arith,
          ints,
          greatest_row_is z.right z.y0 z.y1 e.columns.greatest.j bi.above_bottom
              bi.below_top,
          bi.below_right,
          i_low e.columns.greatest,
        );
        i_high = omega (arith, ints, e.columns.high ti (last_in z legal k k_in.0 k_in.1), number_last z k, i_high ti);
        p_low = omega (arith, ints, place_and_row z.right e.sums.greatest.j top (omega (arith, ints, bp.below_top)), bp.below_right, p_low e.sums.greatest);
        p_high = omega (arith, ints, e.sums.high tp (last_in z legal top high.0 high.1), number_last z top, row_last z top, p_high tp);
        q_low = omega (arith, ints, place_less_row z.right z.y0 e.differences.greatest.j bq.above_bottom, bq.below_right, q_low e.differences.greatest);
        q_high = omega (arith, ints, e.differences.high tq (last_in z legal z.y0 bottom.0 bottom.1), number_last z z.y0, row_last z z.y0, q_high tq);
      }
