-- Quadrilaterals that wind once round their tiles, and their images.
use Rattle.std.proofs.Common.{◌≡◌, inl, inr, ℤ, pos, neg_ℤ, ◌≤◌, Bool, true, false, [], ◌∷◌, refl, sym, ◌∙◌, arith}
use Rattle.std.proofs.lemmas.Int.{ints, by_lt_z}
use Rattle.half_grid.specs.Halves.{is_even}
use Rattle.half_grid.specs.Outlines.{IsOnGrid}
use Rattle.half_grid.specs.Rows.{place, number_in_row}
use Rattle.half_grid.specs.Quads.{Corners, ring_of, corners_of}
use Rattle.half_grid.specs.Trapezoids.{Trapezoid, IsShot}
use Rattle.half_grid.specs.Winding.{winding, IsInPolygon, crossing_of}
use Rattle.half_grid.specs.declared.plane.Tile.{Tile}
use Rattle.half_grid.specs.declared.plane.Point.{Point}
use Rattle.layout_model.specs.Images.{image_of}
use Rattle.layout_model.specs.declared.orient.Orient.{Orient}
use Rattle.half_grid.proofs.ForCallers.{winding_along, quad_of_shot}
use Rattle.flat_walk.specs.Quads.{with_corners, turned_round, quad_image, moved_quad}
use Rattle.flat_walk.proofs.Motions.{IsLoop, before_image, before_move, image_loop, image_winding, move_loop, move_winding, signed}
use Rattle.flat_walk.proofs.EdgeCrossings.{crossing_right, crossing_left, crossing_flat}

-- a quadrilateral on the half grid that winds once round its tiles
pub record IsRing (q : Corners) : Type 0 where
  pub loop : IsLoop (ring_of q)
  pub once : (t : Tile) → IsInPolygon (ring_of q) t → winding (ring_of q) t ≡ pos 1

-- an edge told from its other end
back_by : (t : Tile) (a b : Point) → IsOnGrid (a, b) → crossing_of t b a ≡ neg_ℤ (crossing_of t a b)
back_by t a b (inl e) = let p = crossing_flat t a b e in let q = crossing_flat t b a (sym e) in omega (arith, ints, p, q)
back_by t a b (inr share) =
    let l = share.0 in
    let pa = share.1 in
    let pb = share.2 in
    by_lt_z (number_in_row t) (place l t.j)
    (λ lt. (let p = crossing_left t a b l pa pb lt in let q = crossing_left t b a l pb pa lt in omega (arith, ints, p, q)))
    (λ ge. (let p = crossing_right t a b l pa pb ge in let q = crossing_right t b a l pb pa ge in omega (arith, ints, p, q)))

-- a ring told in the other order winds the other way
round_winding : (q : Corners) (t : Tile) → IsLoop (ring_of q) → winding (ring_of (turned_round true q)) t ≡ neg_ℤ (winding (ring_of q) t)
round_winding q t loop =
    let g = loop.grid in
    omega (
      arith,
      ints,
      winding_along t q.a (q.d ∷ q.c ∷ q.b ∷ q.a ∷ []),
      winding_along t q.a (q.b ∷ q.c ∷ q.d ∷ q.a ∷ []),
      back_by t q.a q.b g.0,
      back_by t q.b q.c g.1.0,
      back_by t q.c q.d g.1.1.0,
      back_by t q.d q.a g.1.1.1.0,
    )

on_grid_back : (a b : Point) → IsOnGrid (a, b) → IsOnGrid (b, a)
on_grid_back a b g = elim g [ inl e ↦ inl (sym e) | inr s ↦ inr (s.0, s.2, s.1) ]

round_loop : (q : Corners) → IsLoop (ring_of q) → IsLoop (ring_of (turned_round true q))
round_loop q loop =
    let g = loop.grid in
    record {
      closed = refl;
      grid = (
        on_grid_back q.d q.a g.1.1.1.0,
        (on_grid_back q.c q.d g.1.1.0, (on_grid_back q.b q.c g.1.0, (on_grid_back q.a q.b g.0, tt))),
      );
    }

round_image : (flip : Bool) (q : Corners) (t : Tile) (w : ℤ) → IsLoop (ring_of q)
    → winding (ring_of q) t ≡ signed flip w → winding (ring_of (turned_round flip q)) t ≡ w
round_image true q t w loop e = let r = round_winding q t loop in omega (arith, ints, r, e)
round_image false q t w loop e = e

round_stays : (flip : Bool) (q : Corners) → IsLoop (ring_of q) → IsLoop (ring_of (turned_round flip q))
round_stays true q loop = round_loop q loop
round_stays false q loop = loop

-- the winding of an image is that of the quadrilateral at the tile before
pub quad_winding : (orient : Orient) (at : Point) (q : Corners) (t : Tile) → 1 ≤ orient.mag → is_even at.x ≡ true → is_even at.y ≡ true → IsLoop (ring_of q)
    → winding (ring_of (quad_image orient at q)) t ≡ winding (ring_of q) (before_image orient at t)
quad_winding orient at q t some x y loop = round_image orient.flip (with_corners (image_of orient at) q) t
    (winding (ring_of q) (before_image orient at t)) (image_loop orient at (ring_of q) x y loop)
    (image_winding orient at t (ring_of q) some x y loop)

pub ring_image : (orient : Orient) (at : Point) (q : Corners) → 1 ≤ orient.mag → is_even at.x ≡ true
    → is_even at.y ≡ true → IsRing q → IsRing (quad_image orient at q)
ring_image orient at q some x y ring = record {
  loop = round_stays orient.flip (with_corners (image_of orient at) q) (image_loop orient at (ring_of q) x y ring.loop);
  once = λ t inside. (let e = quad_winding orient at q t some x y ring.loop in e ∙ ring.once (before_image orient at t) (λ none. inside (e ∙ none)));
}

pub ring_moved : (by : Point) (q : Corners) → is_even by.x ≡ true → is_even by.y ≡ true → IsRing q → IsRing (moved_quad by q)
ring_moved by q x y ring = record {
  loop = move_loop by (ring_of q) x y ring.loop;
  once = λ t inside. (let e = move_winding by t (ring_of q) x y ring.loop in e ∙ ring.once (before_move by t) (λ none. inside (e ∙ none)));
}

-- the corners of a shot
pub shot_ring : (z : Trapezoid) → IsShot z → IsRing (corners_of z)
shot_ring z shot = record {
  loop = record { closed = refl; grid = (inr (z.left, refl, refl), (inl refl, (inr (z.right, refl, refl), (inl refl, tt)))) };
  once = (quad_of_shot z shot).once;
}
