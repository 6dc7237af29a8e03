-- A maximal trapezoid of a column's part that lies strictly inside the column is maximal in the whole.
use Rattle.std.proofs.Common.{◌≡◌, ℤ, pos, ◌+ℤ◌, ◌-ℤ◌, ◌≤ℤ◌, ◌<ℤ◌, IsTrue, arith}
use Rattle.std.proofs.lemmas.Int.{ints}
use Rattle.half_grid.specs.Lines.{x_on}
use Rattle.half_grid.specs.Rows.{place, number_in_row}
use Rattle.half_grid.specs.Trapezoids.{Trapezoid}
use Rattle.half_grid.specs.Windows.{RowRange}
use Rattle.half_grid.specs.declared.plane.Tile.{Tile}
use Rattle.half_grid.specs.declared.plane.Line.{Line}
use Rattle.half_grid.specs.declared.plane.Line.TheVariants.{Upright, Rising, Falling}
use Rattle.half_grid.proofs.ForCallers.{i_low, i_high}
use Rattle.trap_join.specs.Maximal.{IsRunAt, IsMaximal}
use Rattle.column_sweep.specs.ColumnLaws.{IsInColumn, PartIn, IsStrictlyInside, StaysMaximal}

-- between two Y a line stays between its X at both, on either side
right_between : (l : Line) (low high y b : ℤ) → low ≤ℤ y → y ≤ℤ high → b <ℤ x_on l low → b <ℤ x_on l high → b <ℤ x_on l y
right_between (Upright c) low high y b h k f g = f
right_between (Rising c) low high y b h k f g = omega (arith, ints, h, f)
right_between (Falling c) low high y b h k f g = omega (arith, ints, k, g)

left_between : (l : Line) (low high y b : ℤ) → low ≤ℤ y → y ≤ℤ high → x_on l low <ℤ b → x_on l high <ℤ b → x_on l y <ℤ b
left_between (Upright c) low high y b h k f g = f
left_between (Rising c) low high y b h k f g = omega (arith, ints, k, g)
left_between (Falling c) low high y b h k f g = omega (arith, ints, h, f)

-- from one Y to the next a line moves by one at most
moves_right : (l : Line) (y : ℤ) → x_on l (y +ℤ pos 1) ≤ℤ (x_on l y +ℤ pos 1)
moves_right (Upright c) y = omega (arith, ints)
moves_right (Rising c) y = omega (arith, ints)
moves_right (Falling c) y = omega (arith, ints)

moves_left : (l : Line) (y : ℤ) → (x_on l y -ℤ pos 1) ≤ℤ x_on l (y +ℤ pos 1)
moves_left (Upright c) y = omega (arith, ints)
moves_left (Rising c) y = omega (arith, ints)
moves_left (Falling c) y = omega (arith, ints)

-- a tile by its number, against the sides of a column
right_of_side : (from : ℤ) (t : Tile) → (from +ℤ from) ≤ℤ number_in_row t → from ≤ℤ t.i
right_of_side from t h = let a = i_high t in omega (arith, ints, h, a)

left_of_side : (to : ℤ) (t : Tile) → number_in_row t <ℤ (to +ℤ to) → t.i <ℤ to
left_of_side to t h = let a = i_low t in omega (arith, ints, h, a)

-- the row above and the row below a Y at which a line is right or left of a side
place_right : (l : Line) (y b : ℤ) → b <ℤ x_on l y → (b +ℤ b) <ℤ place l y
place_right l y b h = let m = moves_left l y in omega (arith, ints, h, m)

place_left : (l : Line) (y b : ℤ) → x_on l y <ℤ b → place l y <ℤ (b +ℤ b)
place_left l y b h = let m = moves_right l y in omega (arith, ints, h, m)

place_right_below : (l : Line) (j y b : ℤ) → y ≡ j +ℤ pos 1 → b <ℤ x_on l y → (b +ℤ b) <ℤ place l j
place_right_below l j y b e h = let m = moves_right l j in let k : b <ℤ x_on l (j +ℤ pos 1) = rw e at h in omega (arith, ints, k, m)

place_left_below : (l : Line) (j y b : ℤ) → y ≡ j +ℤ pos 1 → x_on l y <ℤ b → place l j <ℤ (b +ℤ b)
place_left_below l j y b e h = let m = moves_left l j in let k : x_on l (j +ℤ pos 1) <ℤ b = rw e at h in omega (arith, ints, k, m)

-- a tile with a number between the doubled sides is in the column
in_column : (from to : ℤ) (t : Tile) (low high : ℤ) → (from +ℤ from) <ℤ low → high <ℤ (to +ℤ to)
    → (low -ℤ pos 1) ≤ℤ number_in_row t → number_in_row t ≤ℤ high → IsInColumn from to t
in_column from to t low high a b c d = record {
  from_left = right_of_side from t (omega (arith, ints, a, c));
  below_right = left_of_side to t (omega (arith, ints, b, d));
}

module _ (area : Tile → Type 0) (window : RowRange) (from to : ℤ) (z : Trapezoid)
    (m : IsMaximal (PartIn from to area) window z) (s : IsStrictlyInside from to z) where
  left_side : (y : ℤ) → z.y0 ≤ℤ y → y ≤ℤ z.y1 → from <ℤ x_on z.left y
  left_side y a b = right_between z.left z.y0 z.y1 y from a b s.bottom_left s.top_left

  right_side : (y : ℤ) → z.y0 ≤ℤ y → y ≤ℤ z.y1 → x_on z.right y <ℤ to
  right_side y a b = left_between z.right z.y0 z.y1 y to a b s.bottom_right s.top_right

  -- a tile that is at most one left of the left line, and at most on the place of the right line
  beside : (t : Tile) (j : ℤ) → z.y0 ≤ℤ j → j <ℤ z.y1 → (place z.left j -ℤ pos 1) ≤ℤ number_in_row t → number_in_row t ≤ℤ place z.right j → IsInColumn from to t
  beside t j a b = in_column from to t (place z.left j) (place z.right j)
      (place_right z.left j from (left_side j a (omega (arith, ints, b)))) (place_left z.right j to (right_side j a (omega (arith, ints, b))))

  whole_run : (j : ℤ) → z.y0 ≤ℤ j → j <ℤ z.y1 → IsRunAt area z.left z.right j
  whole_run j a b =
      let run = m.runs j a b in
      let some = run.has_tile in
      record {
        has_tile = some;
        inside = λ t e f g. (run.inside t e f g).1;
        left_end = λ t e f at. run.left_end t e f (beside t j a b (omega (arith, ints, f)) (omega (arith, ints, f, some)), at);
        right_end = λ t e f at. run.right_end t e f (beside t j a b (omega (arith, ints, f, some)) (omega (arith, ints, f)), at);
      }

  -- a run of the area just above or just below lies in the column too
  part_run : (j : ℤ) → (from +ℤ from) <ℤ place z.left j → place z.right j <ℤ (to +ℤ to) → IsRunAt area z.left z.right j
      → IsRunAt (PartIn from to area) z.left z.right j
  part_run j low high run = record {
    has_tile = run.has_tile;
    inside = λ t e f g. (in_column from to t (place z.left j) (place z.right j) low high (omega (arith, ints, f)) (omega (arith, ints, g)), run.inside t e f g);
    left_end = λ t e f at. run.left_end t e f at.1;
    right_end = λ t e f at. run.right_end t e f at.1;
  }

  pub one_of_whole : IsMaximal area window z
  one_of_whole =
      let has_rows = m.legal.has_rows in
      record {
        legal = m.legal;
        in_window = m.in_window;
        runs = whole_run;
        top = λ lt run. m.top lt (part_run z.y1
            (place_right z.left z.y1 from s.top_left) (place_left z.right z.y1 to s.top_right) run);
        bottom = λ lt run. m.bottom lt (part_run (z.y0 -ℤ pos 1)
            (place_right_below z.left (z.y0 -ℤ pos 1) z.y0 from (omega (arith, ints)) s.bottom_left)
            (place_left_below z.right (z.y0 -ℤ pos 1) z.y0 to (omega (arith, ints)) s.bottom_right) run);
      }

pub stays_maximal : StaysMaximal
stays_maximal has window from to z m s = one_of_whole (λ t. IsTrue (has t)) window from to z m s
