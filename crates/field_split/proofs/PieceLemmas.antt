-- The pieces of a trapezoid in some columns: each is legal and within the trapezoid's box, together they are the joined
-- list of its tiles there.
use Rattle.std.proofs.Common.{◌≡◌, ◌^◌, ℤ, pos, neg_ℤ, ◌-ℤ◌, ◌≤ℤ◌, ◌<ℤ◌, arith}
use Rattle.std.proofs.lemmas.Int.{ints, clamps, by_lt_z}
use Rattle.std.specs.Int.{int_min, int_max}
use Rattle.half_grid.specs.Halves.{twice}
use Rattle.half_grid.specs.Lines.{x_on}
use Rattle.half_grid.specs.Reach.{IsWithinReach}
use Rattle.half_grid.specs.Rows.{number_in_row, place}
use Rattle.half_grid.specs.Trapezoids.{Trapezoid, trapezoid, IsInTrapezoid, IsLegal, IsShot, box_width}
use Rattle.half_grid.specs.declared.plane.Tile.{Tile}
use Rattle.half_grid.specs.declared.plane.Line.{Line}
use Rattle.half_grid.specs.declared.plane.Line.TheVariants.{Upright, Rising, Falling}
use Rattle.half_grid.proofs.ForCallers.{number_between, in_by_number, legal_places, i_low, i_high}
use Rattle.field_split.specs.declared.parts.Columns.{Columns}
use Rattle.field_split.specs.Cutting.{rows, left_in, right_in, piece_shape}
use Rattle.field_split.proofs.Turns.{lt_yes, lt_no}

-- ---- lines

-- two lines that keep their order from the first to the last of some rows bound a legal trapezoid
pub legal_between : (l r : Line) (p q : ℤ) → p <ℤ q → place l p <ℤ place r p → place l (q -ℤ pos 1) <ℤ place r (q -ℤ pos 1) → IsLegal (trapezoid p q l r)
legal_between (Upright c) (Upright d) p q h a b =
    record {
      has_rows = h;
      bottom = omega (arith, ints, h, a, b);
      top = omega (arith, ints, h, a, b);
      not_flat = omega
          (arith, ints, h, a, b);
    }
legal_between (Upright c) (Rising d) p q h a b =
    record {
      has_rows = h;
      bottom = omega (arith, ints, h, a, b);
      top = omega (arith, ints, h, a, b);
      not_flat = omega
          (arith, ints, h, a, b);
    }
legal_between (Upright c) (Falling d) p q h a b =
    record {
      has_rows = h;
      bottom = omega (arith, ints, h, a, b);
      top = omega (arith, ints, h, a, b);
      not_flat = omega
          (arith, ints, h, a, b);
    }
legal_between (Rising c) (Upright d) p q h a b =
    record {
      has_rows = h;
      bottom = omega (arith, ints, h, a, b);
      top = omega (arith, ints, h, a, b);
      not_flat = omega
          (arith, ints, h, a, b);
    }
legal_between (Rising c) (Rising d) p q h a b =
    record {
      has_rows = h;
      bottom = omega (arith, ints, h, a, b);
      top = omega (arith, ints, h, a, b);
      not_flat = omega
          (arith, ints, h, a, b);
    }
legal_between (Rising c) (Falling d) p q h a b =
    record {
      has_rows = h;
      bottom = omega (arith, ints, h, a, b);
      top = omega (arith, ints, h, a, b);
      not_flat = omega
          (arith, ints, h, a, b);
    }
legal_between (Falling c) (Upright d) p q h a b =
    record {
      has_rows = h;
      bottom = omega (arith, ints, h, a, b);
      top = omega (arith, ints, h, a, b);
      not_flat = omega
          (arith, ints, h, a, b);
    }
legal_between (Falling c) (Rising d) p q h a b =
    record {
      has_rows = h;
      bottom = omega (arith, ints, h, a, b);
      top = omega (arith, ints, h, a, b);
      not_flat = omega
          (arith, ints, h, a, b);
    }
legal_between (Falling c) (Falling d) p q h a b =
    record {
      has_rows = h;
      bottom = omega (arith, ints, h, a, b);
      top = omega (arith, ints, h, a, b);
      not_flat = omega
          (arith, ints, h, a, b);
    }

-- a line between two heights stays between bounds of its ends
pub x_low : (l : Line) (y0 y y1 low : ℤ) → y0 ≤ℤ y → y ≤ℤ y1 → low ≤ℤ x_on l y0 → low ≤ℤ x_on l y1 → low ≤ℤ x_on l y
x_low (Upright c) y0 y y1 low a b p q = p
x_low (Rising c) y0 y y1 low a b p q = omega (arith, ints, a, b, p, q)
x_low (Falling c) y0 y y1 low a b p q = omega (arith, ints, a, b, p, q)

pub x_high : (l : Line) (y0 y y1 high : ℤ) → y0 ≤ℤ y → y ≤ℤ y1 → x_on l y0 ≤ℤ high → x_on l y1 ≤ℤ high → x_on l y ≤ℤ high
x_high (Upright c) y0 y y1 high a b p q = p
x_high (Rising c) y0 y y1 high a b p q = omega (arith, ints, a, b, p, q)
x_high (Falling c) y0 y y1 high a b p q = omega (arith, ints, a, b, p, q)

-- ---- boxes

-- all corners lie between two X
pub record IsBoxed (z : Trapezoid) (low high : ℤ) : Type 0 where
  pub bottom_left : low ≤ℤ x_on z.left z.y0
  pub top_left : low ≤ℤ x_on z.left z.y1
  pub left_bottom : x_on z.left z.y0 ≤ℤ high
  pub left_top : x_on z.left z.y1 ≤ℤ high
  pub right_bottom : low ≤ℤ x_on z.right z.y0
  pub right_top : low ≤ℤ x_on z.right z.y1
  pub bottom_right : x_on z.right z.y0 ≤ℤ high
  pub top_right : x_on z.right z.y1 ≤ℤ high

pub boxed_by_reach : (z : Trapezoid) → IsShot z → IsBoxed z (neg_ℤ (pos (2 ^ 44))) (pos (2 ^ 44))
boxed_by_reach z s =
    let r = s.reach in
    record {
      bottom_left = r.bottom_left.low;
      top_left = r.top_left.low;
      left_bottom = r.bottom_left.high;
      left_top = r.top_left.high;
      right_bottom = r.bottom_right.low;
      right_top = r.top_right.low;
      bottom_right = r.bottom_right.high;
      top_right = r.top_right.high;
    }

pub boxed_by_itself : (z : Trapezoid) → IsLegal z → IsBoxed z (int_min (x_on z.left z.y0) (x_on z.left z.y1)) (int_max (x_on z.right z.y0) (x_on z.right z.y1))
boxed_by_itself z l = record {
  bottom_left = omega (arith, ints, clamps);
  top_left = omega (arith, ints, clamps);
  left_bottom = omega (arith, ints, clamps, l.bottom);
  left_top = omega (arith, ints, clamps, l.top);
  right_bottom = omega (arith, ints, clamps, l.bottom);
  right_top = omega (arith, ints, clamps, l.top);
  bottom_right = omega (arith, ints, clamps);
  top_right = omega (arith, ints, clamps);
}

pub shot_of_box : (z : Trapezoid) → IsLegal z → IsWithinReach z.y0 → IsWithinReach z.y1 → IsBoxed z (neg_ℤ (pos (2 ^ 44))) (pos (2 ^ 44)) → IsShot z
shot_of_box z l low high b = record {
  legal = l;
  reach = record {
    y0 = low;
    y1 = high;
    bottom_left = record { low = b.bottom_left; high = b.left_bottom };
    bottom_right = record { low = b.right_bottom; high = b.bottom_right };
    top_left = record { low = b.top_left; high = b.left_top };
    top_right = record { low = b.right_top; high = b.top_right };
  };
}

pub width_in_box : (z : Trapezoid) (low high : ℤ) → IsBoxed z low high → box_width z ≤ℤ (high -ℤ low)
width_in_box z low high b =
    let bl = b.bottom_left in
    let tl = b.top_left in
    let br = b.bottom_right in
    let tr = b.top_right in
    omega (arith, ints, clamps, bl, tl, br, tr)

-- ---- one piece

-- the trapezoid's tile is in the columns
pub record IsInColumns (z : Trapezoid) (cols : Columns) (t : Tile) : Type 0 where
  pub inside : IsInTrapezoid z t
  pub from : cols.x0 ≤ℤ t.i
  pub below : t.i <ℤ cols.x1

-- In the rows from p up to below q no side of the trapezoid's part in the columns changes, and the part has tiles in each.
pub record IsSteady (z : Trapezoid) (cols : Columns) (p q : ℤ) : Type 0 where
  pub low : z.y0 ≤ℤ p
  pub high : q ≤ℤ z.y1
  pub left : (j k : ℤ) → p ≤ℤ j → j <ℤ q → p ≤ℤ k → k <ℤ q → place z.left j <ℤ twice cols.x0 → place z.left k <ℤ twice cols.x0
  pub right : (j k : ℤ) → p ≤ℤ j → j <ℤ q → p ≤ℤ k → k <ℤ q → twice cols.x1 <ℤ place z.right j → twice cols.x1 <ℤ place z.right k
  pub from_left : (j : ℤ) → p ≤ℤ j → j <ℤ q → place z.left j <ℤ twice cols.x1
  pub to_right : (j : ℤ) → p ≤ℤ j → j <ℤ q → twice cols.x0 <ℤ place z.right j

-- a tile's column by its number
columns_of : (t : Tile) (cols : Columns) → twice cols.x0 ≤ℤ number_in_row t → number_in_row t <ℤ twice cols.x1 → (cols.x0 ≤ℤ t.i) × (t.i <ℤ cols.x1)
columns_of t cols a b = (omega (arith, ints, a, b, i_low t, i_high t), omega (arith, ints, a, b, i_low t, i_high t))

pub numbers_of : (t : Tile) (cols : Columns) → cols.x0 ≤ℤ t.i → t.i <ℤ cols.x1 → (twice cols.x0 ≤ℤ number_in_row t) × (number_in_row t <ℤ twice cols.x1)
numbers_of t cols a b = (omega (arith, ints, a, b, i_low t, i_high t), omega (arith, ints, a, b, i_low t, i_high t))

module _ (z : Trapezoid) (cols : Columns) (legal : IsLegal z) (wide : cols.x0 <ℤ cols.x1) (p q : ℤ) (s : IsSteady z cols p q) (some : p <ℤ q) where
  -- its places in a row
  pub left_place : (j : ℤ) → p ≤ℤ j → j <ℤ q → place (left_in z cols p) j ≡ int_max (place z.left j) (twice cols.x0)
  left_place j a b =
      by_lt_z (place z.left p) (twice cols.x0)
      (λ lt. (let here = s.left p j (omega (arith, ints)) some a b lt in rw (lt_yes _ _ lt) (omega (arith, ints, clamps, here))))
      (λ ge. by_lt_z (place z.left j) (twice cols.x0)
      (λ lt. (let back = s.left j p a b (omega (arith, ints)) some lt in absurd (omega (arith, ints, ge, back))))
      (λ here. rw (lt_no _ _ ge) (omega (arith, ints, clamps, here))))

  pub right_place : (j : ℤ) → p ≤ℤ j → j <ℤ q → place (right_in z cols p) j ≡ int_min (place z.right j) (twice cols.x1)
  right_place j a b =
      by_lt_z (twice cols.x1) (place z.right p)
      (λ lt. (let here = s.right p j (omega (arith, ints)) some a b lt in rw (lt_yes _ _ lt) (omega (arith, ints, clamps, here))))
      (λ ge. by_lt_z (twice cols.x1) (place z.right j)
      (λ lt. (let back = s.right j p a b (omega (arith, ints)) some lt in absurd (omega (arith, ints, ge, back))))
      (λ here. rw (lt_no _ _ ge) (omega (arith, ints, clamps, here))))

  pub in_order : (j : ℤ) → p ≤ℤ j → j <ℤ q → place (left_in z cols p) j <ℤ place (right_in z cols p) j
  in_order j a b =
      let l = left_place j a b in
      let r = right_place j a b in
      let both = legal_places z j legal (omega (arith, ints, a, s.low)) (omega (arith, ints, b, s.high)) in
      let one = s.from_left j a b in
      let other = s.to_right j a b in
      rw (l, r) (omega (arith, ints, clamps, both, one, other, wide))

  pub piece_legal : IsLegal (piece_shape z cols (rows p q))
  piece_legal = legal_between (left_in z cols p) (right_in z cols p) p q some (in_order p (omega (arith, ints)) some)
      (in_order (q -ℤ pos 1) (omega (arith, ints, some)) (omega (arith, ints)))

  -- its tiles are the trapezoid's in the columns ..
  pub piece_in : (t : Tile) → IsInTrapezoid (piece_shape z cols (rows p q)) t → IsInColumns z cols t
  piece_in t h =
      let n = number_between (piece_shape z cols (rows p q)) t h in
      let l = left_place t.j n.above_bottom n.below_top in
      let r = right_place t.j n.above_bottom n.below_top in
      let from : int_max (place z.left t.j) (twice cols.x0) ≤ℤ number_in_row t = rw l at n.from_left in
      let to : number_in_row t <ℤ int_min (place z.right t.j) (twice cols.x1) = rw r at n.below_right in
      let column = columns_of t cols (omega (arith, ints, clamps, from)) (omega (arith, ints, clamps, to)) in
      record {
        inside = in_by_number z t (record {
          above_bottom = omega (arith, ints, n.above_bottom, s.low);
          below_top = omega (arith, ints, n.below_top, s.high);
          from_left = omega (arith, ints, clamps, from);
          below_right = omega (arith, ints, clamps, to);
        });
        from = column.0;
        below = column.1;
      }

  -- .. in its rows
  pub in_piece : (t : Tile) → p ≤ℤ t.j → t.j <ℤ q → IsInColumns z cols t → IsInTrapezoid (piece_shape z cols (rows p q)) t
  in_piece t a b h =
      let n = number_between z t h.inside in
      let l = left_place t.j a b in
      let r = right_place t.j a b in
      let c = numbers_of t cols h.from h.below in
      in_by_number (piece_shape z cols (rows p q)) t (record {
        above_bottom = a;
        below_top = b;
        from_left = rw l (omega (arith, ints, clamps, n.from_left, c.0));
        below_right = rw r (omega (arith, ints, clamps, n.below_right, c.1));
      })
