-- The ring of a grown trapezoid winds once round each tile that is near to some tile of the trapezoid, and round no
-- other.
use Rattle.std.proofs.Common.{◌≡◌, ℕ, ℤ, pos, ◌+ℤ◌, ◌-ℤ◌, ◌≤ℤ◌, ◌<ℤ◌, arith, refl, ap, sym, [], ◌∷◌}
use Rattle.std.proofs.lemmas.Int.{ints, by_lt_z}
use Rattle.half_grid.specs.Halves.{half}
use Rattle.half_grid.specs.Lines.{x_on}
use Rattle.half_grid.specs.Nearness.{IsNear, IsGrown}
use Rattle.half_grid.specs.Rows.{number_in_row, place}
use Rattle.half_grid.specs.Tiles.{strips_of}
use Rattle.half_grid.specs.Trapezoids.{Trapezoid, IsInTrapezoid, IsLegal}
use Rattle.half_grid.specs.Winding.{winding}
use Rattle.half_grid.specs.declared.plane.Tile.{Tile}
use Rattle.half_grid.specs.declared.plane.Line.{Line}
use Rattle.half_grid.specs.declared.plane.Line.TheVariants.{Upright, Rising, Falling}
use Rattle.half_grid.proofs.ForCallers.{winding_along, place_at_most, number_below, tile_with, tile_with_number, i_low, i_high, p_low, p_high, q_low, q_high}
use Rattle.square_size.specs.Ranges.{IsRectangle}
use Rattle.square_size.specs.Rings.{grown_ring, lower_left, upper_left, lower_right, upper_right, left_bend, right_bend}
use Rattle.square_size.proofs.Extremes.{Extremes, extremes, first_of, first_in, number_first, row_first}
use Rattle.square_size.proofs.NearLaw.{half_twice, near_where_meets, meets_where_near}
use Rattle.square_size.proofs.Ends.{Chain, left_chain, right_chain, IsFromLow, IsToHigh, low_ends, high_ends, low_lower}
use Rattle.square_size.proofs.Ends.{low_upper, right_lower, right_upper, high_lower, high_upper, left_lower, left_upper}
use Rattle.square_size.proofs.Sides.{IsAlong, IsRightOfChain, IsLeftOfChain, chain_count, chain_up, chain_down, level}
use Rattle.square_size.proofs.Sides.{count_right, count_left, count_under, count_over, by_side}

-- ---- the points of the ring along its lines

left_along : (l : Line) (dx dy s y0 y1 : ℤ) → s +ℤ s ≡ dx +ℤ dy → pos 0 ≤ℤ dy → y0 <ℤ y1
    → IsAlong (left_chain dx dy s y0 y1 l) (record { x = x_on l y0 -ℤ dx; y = y0 -ℤ dy }) (left_bend dx dy y0 y1 l)
    (record { x = x_on l y1 -ℤ dx; y = y1 +ℤ dy })
left_along (Upright c) dx dy s y0 y1 even wy rows =
    record {
      foot_on = refl;
      bend_on = refl;
      bend_upper = refl;
      head_on = refl;
      bend_at = refl;
      low = omega
          (arith, ints, wy, rows);
      high = omega (arith, ints);
    }
left_along (Rising c) dx dy s y0 y1 even wy rows =
    record {
      foot_on = refl;
      bend_on = refl;
      bend_upper = omega (arith, ints, even);
      head_on = omega
          (arith, ints, even);
      bend_at = refl;
      low = omega (arith, ints, wy);
      high = omega (arith, ints, rows);
    }
left_along (Falling c) dx dy s y0 y1 even wy rows =
    record {
      foot_on = omega (arith, ints, even);
      bend_on = omega (arith, ints, even);
      bend_upper = refl;
      head_on =
          refl;
      bend_at = refl;
      low = omega (arith, ints, rows);
      high = omega (arith, ints, wy);
    }

right_along : (l : Line) (dx dy s y0 y1 : ℤ) → s +ℤ s ≡ dx +ℤ dy → pos 0 ≤ℤ dy → y0 <ℤ y1
    → IsAlong (right_chain dx dy s y0 y1 l) (record { x = x_on l y0 +ℤ dx; y = y0 -ℤ dy }) (right_bend dx dy y0 y1 l)
    (record { x = x_on l y1 +ℤ dx; y = y1 +ℤ dy })
right_along (Upright c) dx dy s y0 y1 even wy rows =
    record {
      foot_on = refl;
      bend_on = refl;
      bend_upper = refl;
      head_on = refl;
      bend_at = refl;
      low = omega
          (arith, ints, wy, rows);
      high = omega (arith, ints);
    }
right_along (Rising c) dx dy s y0 y1 even wy rows =
    record {
      foot_on = omega (arith, ints, even);
      bend_on = omega (arith, ints, even);
      bend_upper = refl;
      head_on =
          refl;
      bend_at = refl;
      low = omega (arith, ints, rows);
      high = omega (arith, ints, wy);
    }
right_along (Falling c) dx dy s y0 y1 even wy rows =
    record {
      foot_on = refl;
      bend_on = refl;
      bend_upper = omega (arith, ints, even);
      head_on = omega
          (arith, ints, even);
      bend_at = refl;
      low = omega (arith, ints, wy);
      high = omega (arith, ints, rows);
    }

module _ (dx dy : ℤ) (z : Trapezoid) (r : IsRectangle dx dy) (legal : IsLegal z) where
  abbrev s : ℤ
  s = half (dx +ℤ dy)

  abbrev y0 : ℤ
  y0 = z.y0 -ℤ dy

  abbrev y1 : ℤ
  y1 = z.y1 +ℤ dy

  abbrev left : Chain
  left = left_chain dx dy s z.y0 z.y1 z.left

  abbrev right : Chain
  right = right_chain dx dy s z.y0 z.y1 z.right

  even : s +ℤ s ≡ dx +ℤ dy
  even = half_twice (dx +ℤ dy) r.even

  pub left_is : IsAlong left (lower_left dx dy z) (left_bend dx dy z.y0 z.y1 z.left) (upper_left dx dy z)
  left_is = left_along z.left dx dy s z.y0 z.y1 even r.rows legal.has_rows

  pub right_is : IsAlong right (lower_right dx dy z) (right_bend dx dy z.y0 z.y1 z.right) (upper_right dx dy z)
  right_is = right_along z.right dx dy s z.y0 z.y1 even r.rows legal.has_rows

  -- the winding: one where the tile is right of the left side, less one where it is right of the right side
  ring_winding : (t : Tile) → winding (grown_ring dx dy z) t ≡ pos (chain_count t y0 left y1) -ℤ pos (chain_count t y0 right y1)
  ring_winding t =
      omega (
        arith,
        ints,
        winding_along t (lower_left dx dy z)
            (left_bend dx dy z.y0 z.y1 z.left ∷ upper_left dx dy z ∷ upper_right dx dy z
            ∷ right_bend dx dy z.y0 z.y1 z.right ∷ lower_right dx dy z ∷ lower_left dx dy z ∷ []),
        chain_up t left (lower_left dx dy z) (left_bend dx dy z.y0 z.y1 z.left) (upper_left dx dy z) left_is,
        chain_down t right (lower_right dx dy z) (right_bend dx dy z.y0 z.y1 z.right) (upper_right dx dy z) right_is,
        level t (upper_left dx dy z) (upper_right dx dy z) refl,
        level t (lower_right dx dy z) (lower_left dx dy z) refl,
      )

  abbrev e : Extremes z
  e = extremes z legal

  -- the lower ends of the ranges, and the upper ones
  abbrev FromLow : Tile → Type 0
  FromLow t = IsFromLow dx s (e.columns.least).i (strips_of e.sums.least).p (strips_of e.differences.least).q t

  abbrev ToHigh : Tile → Type 0
  ToHigh t = IsToHigh dx s (e.columns.greatest).i (strips_of e.sums.greatest).p (strips_of e.differences.greatest).q t

  abbrev Near : Tile → Type 0
  Near t = IsGrown dx dy (IsInTrapezoid z) t

  right_of_left : (t : Tile) → FromLow t → IsRightOfChain t left
  right_of_left t h = record {
    below = λ _. right_lower z.left dx dy s z.y0 z.y1 _ _ _ t (low_ends z legal e) h;
    above = λ _. right_upper z.left dx dy s z.y0 z.y1 _ _ _ t (low_ends z legal e) h;
  }

  left_of_right : (t : Tile) → ToHigh t → IsLeftOfChain t right
  left_of_right t h = record {
    below = λ _. left_lower z.right dx dy s z.y0 z.y1 _ _ _ t (high_ends z legal e) h;
    above = λ _. left_upper z.right dx dy s z.y0 z.y1 _ _ _ t (high_ends z legal e) h;
  }

  from_low : (t : Tile) → y0 ≤ℤ t.j → t.j <ℤ y1 → IsRightOfChain t left → FromLow t
  from_low t a b h =
      by_lt_z t.j left.bend
      (λ lt. low_lower z.left dx dy s z.y0 z.y1 _ _ _ t (low_ends z legal e) even r.columns r.rows legal.has_rows a b lt (h.below lt))
      (λ ge. low_upper z.left dx dy s z.y0 z.y1 _ _ _ t (low_ends z legal e) even r.columns r.rows legal.has_rows a b ge (h.above ge))

  to_high : (t : Tile) → y0 ≤ℤ t.j → t.j <ℤ y1 → IsLeftOfChain t right → ToHigh t
  to_high t a b h =
      by_lt_z t.j right.bend
      (λ lt. high_lower z.right dx dy s z.y0 z.y1 _ _ _ t (high_ends z legal e) even r.columns r.rows legal.has_rows a b lt (h.below lt))
      (λ ge. high_upper z.right dx dy s z.y0 z.y1 _ _ _ t (high_ends z legal e) even r.columns r.rows legal.has_rows a b ge (h.above ge))

  -- ---- near to the trapezoid: in the ring's rows, right of its left side and left of its right side

  record IsWithin (t : Tile) : Type 0 where
    low : y0 ≤ℤ t.j
    high : t.j <ℤ y1
    left_side : IsRightOfChain t left
    right_side : IsLeftOfChain t right

  within : (t : Tile) → Near t → IsWithin t
  within t h =
      let m = meets_where_near dx dy z e t r h in
      record {
        low = omega (arith, ints, m.rows.from, e.rows.least_in.above_bottom);
        high = omega (arith, ints, m.rows.to, e.rows.greatest_in.below_top);
        left_side = right_of_left t (record { columns = m.columns.from; sums = m.sums.from; differences = m.differences.from });
        right_side = left_of_right t (record { columns = m.columns.to; sums = m.sums.to; differences = m.differences.to });
      }

  near : (t : Tile) → IsWithin t → Near t
  near t w =
      let low = from_low t w.low w.high w.left_side in
      let high = to_high t w.low w.high w.right_side in
      let bottom = e.rows.low (first_of z z.y0) (first_in z legal z.y0 (omega (arith, ints)) legal.has_rows) in
      let top = e.rows.high (first_of z (z.y1 -ℤ pos 1)) (first_in z legal (z.y1 -ℤ pos 1) (omega (arith, ints, legal.has_rows)) (omega (arith, ints))) in
      let ws : pos 0 ≤ℤ s = omega (arith, ints, even, r.columns, r.rows) in
      near_where_meets dx dy z e t r (record {
        columns = record { some = e.columns.low e.columns.greatest e.columns.greatest_in; wide = r.columns; from = low.columns; to = high.columns };
        rows = record {
          some = e.rows.low e.rows.greatest e.rows.greatest_in;
          wide = r.rows;
          from = omega
              (arith, ints, bottom, row_first z z.y0, w.low);
          to = omega
              (arith, ints, top, row_first z (z.y1 -ℤ pos 1), w.high);
        };
        sums = record { some = e.sums.low e.sums.greatest e.sums.greatest_in; wide = ws; from = low.sums; to = high.sums };
        differences = record {
          some = e.differences.low e.differences.greatest e.differences.greatest_in;
          wide =
              ws;
          from = low.differences;
          to = high.differences;
        };
      })

  -- ---- each row of the ring has a near tile: that with the number of a first tile of the trapezoid's nearest row

  record NearestRow (j : ℤ) : Type 0 where
    k : ℤ
    from : z.y0 ≤ℤ k
    to : k <ℤ z.y1
    above : (j -ℤ k) ≤ℤ dy
    below : (k -ℤ j) ≤ℤ dy

  nearest_row : (j : ℤ) → y0 ≤ℤ j → j <ℤ y1 → NearestRow j
  nearest_row j a b =
      by_lt_z j z.y0
      (λ lt. record { k = z.y0; from = omega (arith, ints); to = legal.has_rows; above = omega (arith, ints, lt, r.rows); below = omega (arith, ints, a) })
      (λ ge. by_lt_z j z.y1
      (λ lt. record { k = j; from = ge; to = lt; above = omega (arith, ints, r.rows); below = omega (arith, ints, r.rows) })
      (λ over. record {
        k = z.y1 -ℤ pos 1;
        from = omega (arith, ints, legal.has_rows);
        to = omega
            (arith, ints);
        above = omega (arith, ints, b);
        below = omega (arith, ints, over, r.rows);
      }))

  -- tiles with one number in two rows that are near
  one_number : (t u : Tile) → number_in_row t ≡ number_in_row u → (t.j -ℤ u.j) ≤ℤ dy → (u.j -ℤ t.j) ≤ℤ dy → IsNear dx dy t u
  one_number t u n a b = record {
    columns = record { above = omega (arith, ints, n, r.columns, i_low t, i_high u); below = omega (arith, ints, n, r.columns, i_high t, i_low u) };
    rows = record { above = a; below = b };
    sums = record {
      above = omega (arith, ints, n, even, r.columns, a, p_low t, p_high u);
      below = omega
          (arith, ints, n, even, r.columns, b, p_high t, p_low u);
    };
    differences = record {
      above = omega (arith, ints, n, even, r.columns, b, q_low t, q_high u);
      below = omega
          (arith, ints, n, even, r.columns, a, q_high t, q_low u);
    };
  }

  near_in_row : (j : ℤ) → y0 ≤ℤ j → j <ℤ y1 → (v : Tile) × (v.j ≡ j) × IsWithin v
  near_in_row j a b =
      let n = nearest_row j a b in
      let v = tile_with (place z.left n.k) j in
      let f = first_of z n.k in
      let same : number_in_row (tile_with (place z.left n.k) j) ≡ number_in_row (first_of z n.k) = omega
      (arith, ints, tile_with_number (place z.left n.k) j, number_first z n.k) in
      let row = row_first z n.k in
      (v, refl, within v (f, first_in z legal n.k n.from n.to, one_number v f same (omega (arith, ints, row, n.above)) (omega (arith, ints, row, n.below))))

  chain_orders : (c : Chain) (t v : Tile) → t.j ≡ v.j → IsRightOfChain v c → IsLeftOfChain t c → number_in_row t <ℤ number_in_row v
  chain_orders c t v e h k =
      by_lt_z t.j c.bend
      (λ lt. (let same : place c.lower t.j ≡ place c.lower v.j = ap (λ j. place c.lower j) e in
      omega (arith, ints, same, number_below t c.lower (k.below lt), place_at_most v c.lower (h.below (omega (arith, ints, e, lt))))))
      (λ ge. (let same : place c.upper t.j ≡ place c.upper v.j = ap (λ j. place c.upper j) e in
      omega (arith, ints, same, number_below t c.upper (k.above ge), place_at_most v c.upper (h.above (omega (arith, ints, e, ge))))))

  -- a tile of the ring's rows isn't left of its left side and right of its right side
  not_between : (t : Tile) → y0 ≤ℤ t.j → t.j <ℤ y1 → IsLeftOfChain t left → IsRightOfChain t right → ⊥
  not_between t a b l h =
      let v = near_in_row t.j a b in
      let first = chain_orders left t v.0 (sym v.1) v.2.left_side l in
      let second = chain_orders right v.0 t v.1 h v.2.right_side in
      omega (arith, ints, first, second)

  -- ---- the ring

  pub ring_inside : (t : Tile) → Near t → winding (grown_ring dx dy z) t ≡ pos 1
  ring_inside t h =
      let w = within t h in
      omega (arith, ints, ring_winding t, count_right t y0 y1 left w.low w.high w.left_side, count_left t y0 y1 right w.low w.high w.right_side)

  same_counts : (t : Tile) (n : ℕ) → chain_count t y0 left y1 ≡ n → chain_count t y0 right y1 ≡ n → winding (grown_ring dx dy z) t ≡ pos 0
  same_counts t n l h = omega (arith, ints, ring_winding t, l, h)

  low_left : y0 ≤ℤ left.bend
  low_left = omega (arith, ints, left_is.low, left_is.bend_at)

  high_left : left.bend ≤ℤ y1
  high_left = omega (arith, ints, left_is.high, left_is.bend_at)

  low_right : y0 ≤ℤ right.bend
  low_right = omega (arith, ints, right_is.low, right_is.bend_at)

  high_right : right.bend ≤ℤ y1
  high_right = omega (arith, ints, right_is.high, right_is.bend_at)

  pub ring_outside : (t : Tile) → (Near t → ⊥) → winding (grown_ring dx dy z) t ≡ pos 0
  ring_outside t out =
      by_lt_z t.j y0
      (λ under. same_counts t 0 (count_under t y0 y1 left under low_left) (count_under t y0 y1 right under low_right))
      (λ a. by_lt_z t.j y1
      (λ b. by_side t left
      (λ l. by_side t right
      (λ h. same_counts t 1 (count_right t y0 y1 left a b l) (count_right t y0 y1 right a b h))
      (λ h. absurd (out (near t (record { low = a; high = b; left_side = l; right_side = h })))))
      (λ l. by_side t right
      (λ h. absurd (not_between t a b l h))
      (λ h. same_counts t 0 (count_left t y0 y1 left a b l) (count_left t y0 y1 right a b h))))
      (λ over. same_counts t 0 (count_over t y0 y1 left over high_left) (count_over t y0 y1 right over high_right)))

  -- a tile isn't on both sides of a chain
  one_side : (t : Tile) (c : Chain) → IsRightOfChain t c → IsLeftOfChain t c → ⊥
  one_side t c h k =
      by_lt_z t.j c.bend
      (λ lt. (let on = h.below lt in let out = k.below lt in omega (arith, ints, on, out)))
      (λ ge. (let on = h.above ge in let out = k.above ge in omega (arith, ints, on, out)))

  pub near_or_not : {P : Type 0} (t : Tile) → (Near t → P) → ((Near t → ⊥) → P) → P
  near_or_not {P} t close far =
      by_lt_z t.j y0
      (λ under. far (λ h. (let low = (within t h).low in omega (arith, ints, under, low))))
      (λ a. by_lt_z t.j y1
      (λ b. by_side t left
      (λ l. by_side t right
      (λ h. far (λ n. one_side t right h (within t n).right_side))
      (λ h. close (near t (record { low = a; high = b; left_side = l; right_side = h }))))
      (λ l. far (λ n. one_side t left (within t n).left_side l)))
      (λ over. far (λ h. (let high = (within t h).high in omega (arith, ints, over, high)))))
