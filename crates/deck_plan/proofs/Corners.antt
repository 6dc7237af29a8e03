-- Where the tiles of a trapezoid are near to 0, so are its corners.
use Rattle.std.proofs.Common.{◌≡◌, ℕ, ◌+◌, ◌≤◌, ℤ, pos, neg_ℤ, ◌+ℤ◌, ◌-ℤ◌, ◌≤ℤ◌, ◌<ℤ◌, List, All, arith, ap}
use Rattle.std.proofs.lemmas.Int.{ints}
use Rattle.std.proofs.lemmas.List.Elements.{All-contains}
use Rattle.half_grid.specs.Lines.{x_on}
use Rattle.half_grid.specs.Rows.{number_in_row, place}
use Rattle.half_grid.specs.Trapezoids.{Trapezoid, IsInTrapezoid, IsLegal}
use Rattle.half_grid.specs.declared.plane.Tile.{Tile}
use Rattle.half_grid.specs.declared.plane.Line.{Line}
use Rattle.half_grid.proofs.ForCallers.{i_low, i_high, tile_with, tile_with_number, in_by_number, legal_places, bottom_close, top_close, in_has}
use Rattle.trap_join.proofs.ForCallers.{all_members, counted}
use Rattle.square_size.specs.EdgeLaws.{IsInSome}
use Rattle.cell_tree.specs.Boxes.{IsUpTo}
use Rattle.deck_plan.specs.Bounds.{IsTileUpTo, HasCornersUpTo}

first_in : (z : Trapezoid) (k : ℤ) → IsLegal z → z.y0 ≤ℤ k → k <ℤ z.y1 → IsInTrapezoid z (tile_with (place z.left k) k)
first_in z k legal a b =
    let n = tile_with_number (place z.left k) k in
    let w = legal_places z k legal a b in
    in_by_number z (tile_with (place z.left k) k)
    (record {
      above_bottom = a;
      below_top = b;
      from_left = omega (arith, ints, n);
      below_right = omega
          (arith, ints, n, w);
    })

last_in : (z : Trapezoid) (k : ℤ) → IsLegal z → z.y0 ≤ℤ k → k <ℤ z.y1 → IsInTrapezoid z (tile_with (place z.right k -ℤ pos 1) k)
last_in z k legal a b =
    let n = tile_with_number (place z.right k -ℤ pos 1) k in
    let w = legal_places z k legal a b in
    in_by_number z (tile_with (place z.right k -ℤ pos 1) k)
    (record {
      above_bottom = a;
      below_top = b;
      from_left = omega (arith, ints, n, w);
      below_right = omega
          (arith, ints, n);
    })

-- a tile's number, by its column
record Numbered (b : ℕ) (n : ℤ) : Type 0 where
  low : neg_ℤ (pos (b + b)) ≤ℤ n
  high : n ≤ℤ pos (b + b + 1)

numbered : (b : ℕ) (t : Tile) → IsUpTo b t.i → Numbered b (number_in_row t)
numbered b t h = record { low = omega (arith, ints, i_low t, i_high t, h.low, h.high); high = omega (arith, ints, i_low t, i_high t, h.low, h.high) }

module _ (b : ℕ) (z : Trapezoid) (legal : IsLegal z) (near : (t : Tile) → IsInTrapezoid z t → IsTileUpTo b t) where
  left_at : (k : ℤ) → z.y0 ≤ℤ k → k <ℤ z.y1 → Numbered b (place z.left k)
  left_at k low high =
      let n = numbered b (tile_with (place z.left k) k) (near (tile_with (place z.left k) k) (first_in z k legal low high)).column in
      let e = tile_with_number (place z.left k) k in
      record { low = omega (arith, ints, n.low, e); high = omega (arith, ints, n.high, e) }

  right_at : (k : ℤ) → z.y0 ≤ℤ k → k <ℤ z.y1 → Numbered b (place z.right k -ℤ pos 1)
  right_at k low high =
      let n = numbered b (tile_with (place z.right k -ℤ pos 1) k) (near (tile_with (place z.right k -ℤ pos 1) k) (last_in z k legal low high)).column in
      let e = tile_with_number (place z.right k -ℤ pos 1) k in
      record { low = omega (arith, ints, n.low, e); high = omega (arith, ints, n.high, e) }

  top_row : ℤ
  top_row = z.y1 -ℤ pos 1

  bottom_left : IsUpTo (b + 1) (x_on z.left z.y0)
  bottom_left =
      let n = left_at z.y0 (omega (arith, ints)) legal.has_rows in
      let c = bottom_close z.left z.y0 in
      record { low = omega (arith, ints, n.low, c.0, c.1); high = omega (arith, ints, n.high, c.0, c.1) }

  bottom_right : IsUpTo (b + 1) (x_on z.right z.y0)
  bottom_right =
      let n = right_at z.y0 (omega (arith, ints)) legal.has_rows in
      let c = bottom_close z.right z.y0 in
      record { low = omega (arith, ints, n.low, c.0, c.1); high = omega (arith, ints, n.high, c.0, c.1) }

  at_top : (l : Line) → x_on l ((z.y1 -ℤ pos 1) +ℤ pos 1) ≡ x_on l z.y1
  at_top l = let e : (z.y1 -ℤ pos 1) +ℤ pos 1 ≡ z.y1 = omega (arith, ints) in ap (x_on l) e

  top_left : IsUpTo (b + 1) (x_on z.left z.y1)
  top_left =
      let n = left_at (z.y1 -ℤ pos 1) (omega (arith, ints, legal.has_rows)) (omega (arith, ints)) in
      let c = top_close z.left (z.y1 -ℤ pos 1) in
      let e = at_top z.left in
      record { low = omega (arith, ints, n.low, c.0, c.1, e); high = omega (arith, ints, n.high, c.0, c.1, e) }

  top_right : IsUpTo (b + 1) (x_on z.right z.y1)
  top_right =
      let n = right_at (z.y1 -ℤ pos 1) (omega (arith, ints, legal.has_rows)) (omega (arith, ints)) in
      let c = top_close z.right (z.y1 -ℤ pos 1) in
      let e = at_top z.right in
      record { low = omega (arith, ints, n.low, c.0, c.1, e); high = omega (arith, ints, n.high, c.0, c.1, e) }

  pub corners_up_to : HasCornersUpTo (b + 1) z
  corners_up_to =
      let low = (near (tile_with (place z.left z.y0) z.y0) (first_in z z.y0 legal (omega (arith, ints)) legal.has_rows)).row in
      let high = (near (tile_with (place z.left (z.y1 -ℤ pos 1)) (z.y1 -ℤ pos 1))
      (first_in z (z.y1 -ℤ pos 1) legal (omega (arith, ints, legal.has_rows)) (omega (arith, ints)))).row in
      record {
        y0 = record { low = omega (arith, ints, low.low); high = omega (arith, ints, low.high) };
        y1 = record { low = omega (arith, ints, high.low); high = omega (arith, ints, high.high) };
        bottom_left = bottom_left;
        bottom_right = bottom_right;
        top_left = top_left;
        top_right = top_right;
      }

up_to_more : (b c : ℕ) (x : ℤ) → b ≤ c → IsUpTo b x → IsUpTo c x
up_to_more b c x more h = record { low = omega (arith, ints, more, h.low); high = omega (arith, ints, more, h.high) }

pub corners_more : (b c : ℕ) (z : Trapezoid) → b ≤ c → HasCornersUpTo b z → HasCornersUpTo c z
corners_more b c z more h = record {
  y0 = up_to_more b c z.y0 more h.y0;
  y1 = up_to_more b c z.y1 more h.y1;
  bottom_left = up_to_more b c (x_on z.left z.y0) more h.bottom_left;
  bottom_right = up_to_more b c (x_on z.right z.y0) more h.bottom_right;
  top_left = up_to_more b c (x_on z.left z.y1) more h.top_left;
  top_right = up_to_more b c (x_on z.right z.y1) more h.top_right;
}

-- the corners of a list, by its tiles
pub corners_of_all : (b c : ℕ) (traps : List Trapezoid) → All IsLegal traps
    → ((t : Tile) → IsInSome traps t → IsTileUpTo b t) → b + 1 ≤ c → All (HasCornersUpTo c) traps
corners_of_all b c traps legal near more =
    all_members (HasCornersUpTo c) traps (λ z h. corners_more (b + 1) c z more
    (corners_up_to b z (All-contains IsLegal traps z legal h) (λ t i. near t (counted t z traps h (in_has t z i)))))
