-- A tile that isn't in a trapezoid and is near to one that is: it is near to one that touches the trapezoid.
use Rattle.std.proofs.Common.{ℤ, pos, ◌+ℤ◌, ◌-ℤ◌, ◌≤ℤ◌, ◌<ℤ◌, inl, inr, arith, refl}
use Rattle.std.proofs.lemmas.Int.{ints, by_lt_z}
use Rattle.half_grid.specs.Lines.{x_on}
use Rattle.half_grid.specs.Nearness.{DifferAtMost, IsNear}
use Rattle.half_grid.specs.Rows.{number_in_row, place}
use Rattle.half_grid.specs.Trapezoids.{Trapezoid, IsInTrapezoid, IsLegal}
use Rattle.half_grid.specs.declared.plane.Tile.{Tile}
use Rattle.half_grid.specs.declared.plane.Line.{Line}
use Rattle.half_grid.specs.declared.plane.Line.TheVariants.{Upright, Rising, Falling}
use Rattle.half_grid.proofs.ForCallers.{i_low, i_high, in_by_number, place_at_most, number_below}
use Rattle.square_size.specs.Lone.{IsTouching}
use Rattle.square_size.proofs.Touching.{tile_at, under_is, over_is, left_tile, right_tile, left_number, right_number, left_touches, right_touches}
use Rattle.square_size.proofs.Touching.{near_by, past_by_numbers, past_by_columns, past_by_later, past_by_earlier, place_steps}

-- a line that has tiles of two rows to its right, at a height between them
x_at_most : (l : Line) (t u : Tile) (y m : ℤ) → t.j <ℤ y → y ≤ℤ u.j → place l t.j ≤ℤ number_in_row t → place l u.j ≤ℤ number_in_row u
    → t.i ≤ℤ m → u.i ≤ℤ m → x_on l y ≤ℤ m
x_at_most (Upright c) t u y m a b g h p q = omega (arith, ints, g, p, i_high t)
x_at_most (Rising c) t u y m a b g h p q = omega (arith, ints, b, h, q, i_high u)
x_at_most (Falling c) t u y m a b g h p q = omega (arith, ints, a, g, p, i_high t)

-- the same to its left
x_above : (l : Line) (t u : Tile) (y m : ℤ) → t.j <ℤ y → y ≤ℤ u.j → number_in_row t <ℤ place l t.j → number_in_row u <ℤ place l u.j
    → m ≤ℤ t.i → m ≤ℤ u.i → m <ℤ x_on l y
x_above (Upright c) t u y m a b g h p q = omega (arith, ints, g, p, i_low t)
x_above (Rising c) t u y m a b g h p q = omega (arith, ints, a, g, p, i_low t)
x_above (Falling c) t u y m a b g h p q = omega (arith, ints, b, h, q, i_low u)

-- two lines that have tiles of two rows between them don't meet at a height between those
lines_apart : (l r : Line) (j y k : ℤ) → j <ℤ y → y ≤ℤ k → place l j <ℤ place r j → place l k <ℤ place r k → x_on l y <ℤ x_on r y
lines_apart (Upright c) (Upright e) j y k a b g h = omega (arith, ints, g)
lines_apart (Upright c) (Rising e) j y k a b g h = omega (arith, ints, a, b, g, h)
lines_apart (Upright c) (Falling e) j y k a b g h = omega (arith, ints, a, b, g, h)
lines_apart (Rising c) (Upright e) j y k a b g h = omega (arith, ints, a, b, g, h)
lines_apart (Rising c) (Rising e) j y k a b g h = omega (arith, ints, g)
lines_apart (Rising c) (Falling e) j y k a b g h = omega (arith, ints, a, b, g, h)
lines_apart (Falling c) (Upright e) j y k a b g h = omega (arith, ints, a, b, g, h)
lines_apart (Falling c) (Rising e) j y k a b g h = omega (arith, ints, a, b, g, h)
lines_apart (Falling c) (Falling e) j y k a b g h = omega (arith, ints, g)

-- a column of a side, at most d from another one
record IsColumnNear (z : Trapezoid) (y d i : ℤ) : Type 0 where
  k : ℤ
  low : x_on z.left y ≤ℤ k
  high : k <ℤ x_on z.right y
  past : (i -ℤ k) ≤ℤ d
  before : (k -ℤ i) ≤ℤ d

-- there is one where the side isn't empty, its left end is at most d past the column and its right end is past the column less d
column_near : (z : Trapezoid) (y d i : ℤ) → pos 1 ≤ℤ d → x_on z.left y <ℤ x_on z.right y → x_on z.left y ≤ℤ (i +ℤ d) → (i -ℤ d) <ℤ x_on z.right y
    → IsColumnNear z y d i
column_near z y d i hd apart low high =
    by_lt_z i (x_on z.left y)
    (λ lt. record {
      k = x_on z.left y;
      low = omega (arith, ints);
      high = apart;
      past = omega (arith, ints, lt, hd);
      before = omega (arith, ints, low);
    })
    (λ ge. by_lt_z i (x_on z.right y)
    (λ lt. record { k = i; low = ge; high = lt; past = omega (arith, ints, hd); before = omega (arith, ints, hd) })
    (λ over. record {
      k = x_on z.right y -ℤ pos 1;
      low = omega (arith, ints, apart);
      high = omega (arith, ints);
      past = omega (arith, ints, high);
      before = omega (arith, ints, over, hd);
    }))

module _ (d : ℤ) (z : Trapezoid) (t u : Tile) (hd : pos 1 ≤ℤ d) (legal : IsLegal z) (near : IsNear d d t u) (inside : IsInTrapezoid z u) where
  abbrev Found : Type 0
  Found = (n : Tile) × IsTouching z n × IsNear d d t n

  -- left of the left line: the tile just left of the trapezoid in the other tile's row
  enters_left : number_in_row t <ℤ place z.left t.j → Found
  enters_left h =
      let n = left_tile z u.j in
      let number = left_number z u.j in
      let steps = place_steps z.left d t.j u.j near.rows.above near.rows.below in
      let from = place_at_most u z.left inside.right_of_left in (
        n,
        left_touches z u.j inside.above_bottom inside.below_top,
        near_by d t n near.rows
            (past_by_numbers d t n near.rows (omega (arith, ints, number, steps, h)))
            (past_by_earlier d t u n near refl (omega (arith, ints, number, from))),
      )

  -- right of the right line: the tile just right of it
  enters_right : place z.right t.j ≤ℤ number_in_row t → Found
  enters_right h =
      let n = right_tile z u.j in
      let number = right_number z u.j in
      let steps = place_steps z.right d u.j t.j near.rows.below near.rows.above in
      let back : DifferAtMost d u.j t.j = record { above = near.rows.below; below = near.rows.above } in
      let up_to = number_below u z.right inside.left_of_right in (
        n,
        right_touches z u.j inside.above_bottom inside.below_top,
        near_by d t n near.rows
            (past_by_later d t u n near refl (omega (arith, ints, number, up_to)))
            (past_by_numbers d n t back (omega (arith, ints, number, steps, h))),
      )

  -- between both lines, in a row under the trapezoid: a tile just under it
  enters_under : place z.left t.j ≤ℤ number_in_row t → number_in_row t <ℤ place z.right t.j → t.j <ℤ z.y0 → Found
  enters_under g h under =
      let from = place_at_most u z.left inside.right_of_left in
      let up_to = number_below u z.right inside.left_of_right in
      let over = inside.above_bottom in
      let apart = lines_apart z.left z.right t.j z.y0 u.j under over (omega (arith, ints, g, h)) (omega (arith, ints, from, up_to)) in
      let low = x_at_most z.left t u z.y0 (t.i +ℤ d) under over g from (omega (arith, ints, hd)) (omega (arith, ints, near.columns.below)) in
      let high = x_above z.right t u z.y0 (t.i -ℤ d) under over h up_to (omega (arith, ints, hd)) (omega (arith, ints, near.columns.above)) in
      let c = column_near z z.y0 d t.i hd apart low high in
      let r = z.y0 -ℤ pos 1 in
      let n = tile_at c.k (r +ℤ pos 1) r in
      let above : (t.j -ℤ r) <ℤ d = omega (arith, ints, under, hd) in
      let below : (r -ℤ t.j) <ℤ d = omega (arith, ints, over, near.rows.below) in (
        n,
        inr (inl (under_is z c.k r legal (omega (arith, ints)) c.low c.high)),
        near_by d t n
            (record { above = omega (arith, ints, above); below = omega (arith, ints, below) })
            (past_by_columns d t n hd c.past above below)
            (past_by_columns d n t hd c.before below above),
      )

  -- in a row over the trapezoid: a tile just over it
  enters_over : place z.left t.j ≤ℤ number_in_row t → number_in_row t <ℤ place z.right t.j → z.y1 ≤ℤ t.j → Found
  enters_over g h over =
      let from = place_at_most u z.left inside.right_of_left in
      let up_to = number_below u z.right inside.left_of_right in
      let under = inside.below_top in
      let apart = lines_apart z.left z.right u.j z.y1 t.j under over (omega (arith, ints, from, up_to)) (omega (arith, ints, g, h)) in
      let low = x_at_most z.left u t z.y1 (t.i +ℤ d) under over from g (omega (arith, ints, near.columns.below)) (omega (arith, ints, hd)) in
      let high = x_above z.right u t z.y1 (t.i -ℤ d) under over up_to h (omega (arith, ints, near.columns.above)) (omega (arith, ints, hd)) in
      let c = column_near z z.y1 d t.i hd apart low high in
      let n = tile_at c.k z.y1 z.y1 in
      let above : (t.j -ℤ z.y1) <ℤ d = omega (arith, ints, under, near.rows.above) in
      let below : (z.y1 -ℤ t.j) <ℤ d = omega (arith, ints, over, hd) in (
        n,
        inr (inr (over_is z c.k legal c.low c.high)),
        near_by d t n
            (record { above = omega (arith, ints, above); below = omega (arith, ints, below) })
            (past_by_columns d t n hd c.past above below)
            (past_by_columns d n t hd c.before below above),
      )

-- where a tile that isn't in a trapezoid is near to one that is, it is near to one that touches the trapezoid
pub enters : (d : ℤ) (z : Trapezoid) (t u : Tile) → pos 1 ≤ℤ d → IsLegal z → IsNear d d t u → (IsInTrapezoid z t → ⊥) → IsInTrapezoid z u
    → (n : Tile) × IsTouching z n × IsNear d d t n
enters d z t u hd legal near out inside =
    by_lt_z (number_in_row t) (place z.left t.j)
    (λ left. enters_left d z t u hd legal near inside left)
    (λ g. by_lt_z (number_in_row t) (place z.right t.j)
    (λ h. by_lt_z t.j z.y0
    (λ under. enters_under d z t u hd legal near inside g h under)
    (λ low. by_lt_z t.j z.y1
    (λ high. absurd (out (in_by_number z t (record { above_bottom = low; below_top = high; from_left = g; below_right = h }))))
    (λ over. enters_over d z t u hd legal near inside g h over)))
    (λ right. enters_right d z t u hd legal near inside right))
