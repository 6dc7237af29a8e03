-- A tile of a trapezoid that is near to one that isn't in it: it is near to one that touches the trapezoid.
use Rattle.std.proofs.Common.{◌≡◌, ℤ, pos, ◌+ℤ◌, ◌-ℤ◌, ◌≤ℤ◌, ◌<ℤ◌, inl, inr, arith, refl, ap}
use Rattle.std.proofs.lemmas.Int.{ints, by_lt_z}
use Rattle.half_grid.specs.Lines.{x_on}
use Rattle.half_grid.specs.Nearness.{DifferAtMost, IsNear}
use Rattle.half_grid.specs.Rows.{number_in_row, place}
use Rattle.half_grid.specs.Trapezoids.{Trapezoid, IsInTrapezoid, IsLegal}
use Rattle.half_grid.specs.declared.plane.Tile.{Tile}
use Rattle.half_grid.proofs.ForCallers.{i_low, i_high, p_low, p_high, q_low, q_high, in_by_number, place_at_most, number_below, bottom_close, top_close}
use Rattle.square_size.specs.Lone.{IsTouching}
use Rattle.square_size.proofs.Touching.{tile_at, strips_at, under_is, over_is, left_tile, right_tile, left_number, right_number, left_touches, right_touches}
use Rattle.square_size.proofs.Touching.{IsAtMostPast, half_double, near_by, past_by_numbers, past_by_columns, past_by_later, past_by_earlier, place_steps}

-- the tile just left of the left line in a row isn't left of a column that ends at the line or before it, at the row's bottom
left_column : (z : Trapezoid) (j i : ℤ) → i <ℤ x_on z.left j → i ≤ℤ (left_tile z j).i
left_column z j i h =
    let c = bottom_close z.left j in
    omega (arith, ints, h, left_number z j, c.0, i_high (left_tile z j))

-- the same at the top of the row
left_column_top : (z : Trapezoid) (j y i : ℤ) → j +ℤ pos 1 ≡ y → i <ℤ x_on z.left y → i ≤ℤ (left_tile z j).i
left_column_top z j y i e h =
    let c = top_close z.left j in
    omega (arith, ints, ap (x_on z.left) e, h, left_number z j, c.0, i_high (left_tile z j))

-- the tile just right of the right line isn't right of a column that begins at the line or after it, at the row's bottom
right_column : (z : Trapezoid) (j i : ℤ) → x_on z.right j ≤ℤ i → (right_tile z j).i ≤ℤ i
right_column z j i h =
    let c = bottom_close z.right j in
    omega (arith, ints, h, right_number z j, c.1, i_low (right_tile z j))

-- the same at the top of the row
right_column_top : (z : Trapezoid) (j y i : ℤ) → j +ℤ pos 1 ≡ y → x_on z.right y ≤ℤ i → (right_tile z j).i ≤ℤ i
right_column_top z j y i e h =
    let c = top_close z.right j in
    omega (arith, ints, ap (x_on z.right) e, h, right_number z j, c.1, i_low (right_tile z j))

module _ (d : ℤ) (z : Trapezoid) (t u : Tile) (hd : pos 1 ≤ℤ d) (legal : IsLegal z) (near : IsNear d d t u) (inside : IsInTrapezoid z t) where
  abbrev Found : Type 0
  Found = (n : Tile) × IsTouching z n × IsNear d d t n

  -- the tile is right of the left line
  from : place z.left t.j ≤ℤ number_in_row t
  from = place_at_most t z.left inside.right_of_left

  -- and left of the right one
  up_to : number_in_row t <ℤ place z.right t.j
  up_to = number_below t z.right inside.left_of_right

  -- rows that differ by at most d, from the other one
  rows_turned : (j : ℤ) → DifferAtMost d t.j j → DifferAtMost d j t.j
  rows_turned j rows = record { above = rows.below; below = rows.above }

  -- the tile just left of the trapezoid in a near row is at most d right of the tile
  left_past : (j : ℤ) → DifferAtMost d t.j j → IsAtMostPast d (left_tile z j) t
  left_past j rows =
      let number = left_number z j in
      let steps = place_steps z.left d j t.j rows.below rows.above in
      past_by_numbers d (left_tile z j) t (rows_turned j rows) (omega (arith, ints, number, steps, from))

  -- the tile just right of it is at most d left of the tile
  right_past : (j : ℤ) → DifferAtMost d t.j j → IsAtMostPast d t (right_tile z j)
  right_past j rows =
      let number = right_number z j in
      let steps = place_steps z.right d t.j j rows.above rows.below in
      past_by_numbers d t (right_tile z j) rows (omega (arith, ints, number, steps, up_to))

  -- ---- the other tile is in a row of the trapezoid

  -- left of the left line: the tile just left of the trapezoid in that row
  leaves_left : z.y0 ≤ℤ u.j → u.j <ℤ z.y1 → number_in_row u <ℤ place z.left u.j → Found
  leaves_left low high h =
      let n = left_tile z u.j in (
        n,
        left_touches z u.j low high,
        near_by d t n near.rows
            (past_by_later d t u n near refl (omega (arith, ints, h, left_number z u.j)))
            (left_past u.j near.rows),
      )

  -- right of the right line: the tile just right of it
  leaves_right : z.y0 ≤ℤ u.j → u.j <ℤ z.y1 → place z.right u.j ≤ℤ number_in_row u → Found
  leaves_right low high h =
      let n = right_tile z u.j in (
        n,
        right_touches z u.j low high,
        near_by d t n near.rows
            (right_past u.j near.rows)
            (past_by_earlier d t u n near refl (omega (arith, ints, h, right_number z u.j))),
      )

  -- ---- it is in a row over the trapezoid or under it, left or right of the side there

  -- left of the side: the tile just left of the trapezoid in its row at that side
  leaves_end_left : (j : ℤ) → z.y0 ≤ℤ j → j <ℤ z.y1 → (t.j -ℤ j) <ℤ d → (j -ℤ t.j) <ℤ d → u.i ≤ℤ (left_tile z j).i → Found
  leaves_end_left j low high above below h =
      let n = left_tile z j in
      let rows : DifferAtMost d t.j j = record { above = omega (arith, ints, above); below = omega (arith, ints, below) } in (
        n,
        left_touches z j low high,
        near_by d t n rows
            (past_by_columns d t n hd (omega (arith, ints, h, near.columns.above)) above below)
            (left_past j rows),
      )

  -- right of the side: the tile just right of it
  leaves_end_right : (j : ℤ) → z.y0 ≤ℤ j → j <ℤ z.y1 → (t.j -ℤ j) <ℤ d → (j -ℤ t.j) <ℤ d → (right_tile z j).i ≤ℤ u.i → Found
  leaves_end_right j low high above below h =
      let n = right_tile z j in
      let rows : DifferAtMost d t.j j = record { above = omega (arith, ints, above); below = omega (arith, ints, below) } in (
        n,
        right_touches z j low high,
        near_by d t n rows
            (right_past j rows)
            (past_by_columns d n t hd (omega (arith, ints, h, near.columns.below)) below above),
      )

  -- ---- over the trapezoid

  -- between the ends of the top side: the tile just over the side in the other tile's column
  leaves_over : z.y1 ≤ℤ u.j → x_on z.left z.y1 ≤ℤ u.i → u.i <ℤ x_on z.right z.y1 → Found
  leaves_over over g h =
      let n = tile_at u.i z.y1 z.y1 in
      let s = strips_at u.i z.y1 z.y1 (omega (arith, ints)) (omega (arith, ints)) in
      let under = inside.below_top in
      let rows : DifferAtMost d t.j z.y1 = record { above = omega (arith, ints, under, hd); below = omega (arith, ints, over, near.rows.below) } in
      let right : IsAtMostPast d t n = record {
        columns = near.columns.above;
        sums = omega (arith, ints, under, hd, near.columns.above, s.p_least, i_high t, p_low t);
        differences = omega (arith, ints, over, near.differences.above, half_double d, s.q_least, i_high u, q_low u);
      } in
      let left : IsAtMostPast d n t = record {
        columns = near.columns.below;
        sums = omega (arith, ints, over, near.sums.below, half_double d, s.p_most, i_low u, p_high u);
        differences = omega (arith, ints, under, hd, near.columns.below, s.q_most, i_low t, q_high t);
      } in
      (n, inr (inr (over_is z u.i legal g h)), near_by d t n rows right left)

  -- all places in a row over the trapezoid
  leaves_top : z.y1 ≤ℤ u.j → Found
  leaves_top over =
      let j = z.y1 -ℤ pos 1 in
      let e : j +ℤ pos 1 ≡ z.y1 = omega (arith, ints) in
      let low : z.y0 ≤ℤ j = omega (arith, ints, legal.has_rows) in
      let high : j <ℤ z.y1 = omega (arith, ints) in
      let above : (t.j -ℤ j) <ℤ d = omega (arith, ints, inside.below_top, hd) in
      let below : (j -ℤ t.j) <ℤ d = omega (arith, ints, over, near.rows.below) in
      by_lt_z u.i (x_on z.left z.y1)
      (λ left. leaves_end_left j low high above below (left_column_top z j z.y1 u.i e left))
      (λ g. by_lt_z u.i (x_on z.right z.y1)
      (λ h. leaves_over over g h)
      (λ right. leaves_end_right j low high above below (right_column_top z j z.y1 u.i e right)))

  -- ---- under the trapezoid

  -- between the ends of the bottom side: the tile just under it in the other tile's column
  leaves_under : u.j <ℤ z.y0 → x_on z.left z.y0 ≤ℤ u.i → u.i <ℤ x_on z.right z.y0 → Found
  leaves_under under g h =
      let r = z.y0 -ℤ pos 1 in
      let n = tile_at u.i (r +ℤ pos 1) r in
      let s = strips_at u.i (r +ℤ pos 1) r (omega (arith, ints)) (omega (arith, ints)) in
      let over = inside.above_bottom in
      let rows : DifferAtMost d t.j r = record { above = omega (arith, ints, under, near.rows.above); below = omega (arith, ints, over, hd) } in
      let right : IsAtMostPast d t n = record {
        columns = near.columns.above;
        sums = omega (arith, ints, under, near.sums.above, half_double d, s.p_least, i_high u, p_low u);
        differences = omega (arith, ints, over, hd, near.columns.above, s.q_least, i_high t, q_low t);
      } in
      let left : IsAtMostPast d n t = record {
        columns = near.columns.below;
        sums = omega (arith, ints, over, hd, near.columns.below, s.p_most, i_low t, p_high t);
        differences = omega (arith, ints, under, near.differences.below, half_double d, s.q_most, i_low u, q_high u);
      } in
      (n, inr (inl (under_is z u.i r legal (omega (arith, ints)) g h)), near_by d t n rows right left)

  -- all places in a row under the trapezoid
  leaves_bottom : u.j <ℤ z.y0 → Found
  leaves_bottom under =
      let low : z.y0 ≤ℤ z.y0 = omega (arith, ints) in
      let above : (t.j -ℤ z.y0) <ℤ d = omega (arith, ints, under, near.rows.above) in
      let below : (z.y0 -ℤ t.j) <ℤ d = omega (arith, ints, inside.above_bottom, hd) in
      by_lt_z u.i (x_on z.left z.y0)
      (λ left. leaves_end_left z.y0 low legal.has_rows above below (left_column z z.y0 u.i left))
      (λ g. by_lt_z u.i (x_on z.right z.y0)
      (λ h. leaves_under under g h)
      (λ right. leaves_end_right z.y0 low legal.has_rows above below (right_column z z.y0 u.i right)))

  -- all places in a row of the trapezoid, but those in it
  leaves_row : z.y0 ≤ℤ u.j → u.j <ℤ z.y1 → (IsInTrapezoid z u → ⊥) → Found
  leaves_row low high out =
      by_lt_z (number_in_row u) (place z.left u.j)
      (λ left. leaves_left low high left)
      (λ g. by_lt_z (number_in_row u) (place z.right u.j)
      (λ h. absurd (out (in_by_number z u (record { above_bottom = low; below_top = high; from_left = g; below_right = h }))))
      (λ right. leaves_right low high right))

-- where a tile of a trapezoid is near to one that isn't in it, it is near to one that touches the trapezoid
pub leaves : (d : ℤ) (z : Trapezoid) (t u : Tile) → pos 1 ≤ℤ d → IsLegal z → IsNear d d t u → IsInTrapezoid z t → (IsInTrapezoid z u → ⊥)
    → (n : Tile) × IsTouching z n × IsNear d d t n
leaves d z t u hd legal near inside out =
    by_lt_z u.j z.y0
    (λ under. leaves_bottom d z t u hd legal near inside under)
    (λ low. by_lt_z u.j z.y1
    (λ high. leaves_row d z t u hd legal near inside low high out)
    (λ over. leaves_top d z t u hd legal near inside over))
