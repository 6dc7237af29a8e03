-- The points of a ring: they are within reach, and its edges are on the grid.
use Rattle.std.proofs.Common.{◌≡◌, ℤ, ◌+ℤ◌, ◌-ℤ◌, ap, ◌∙◌, inl, inr, refl, arith, All}
use Rattle.std.proofs.lemmas.Int.{ints, clamps}
use Rattle.std.proofs.lemmas.List.Elements.{All-from_recursion}
use Rattle.half_grid.specs.Halves.{half}
use Rattle.half_grid.specs.Lines.{Passes, x_on}
use Rattle.half_grid.specs.Outlines.{HasGridEdges, IsOnGrid}
use Rattle.half_grid.specs.Reach.{IsPointWithinReach, IsWithinReach}
use Rattle.half_grid.specs.Trapezoids.{Trapezoid, IsLegal, IsShot}
use Rattle.half_grid.specs.Winding.{edges_of}
use Rattle.half_grid.specs.declared.plane.Point.{Point}
use Rattle.half_grid.specs.declared.plane.Line.{Line}
use Rattle.half_grid.specs.declared.plane.Line.TheVariants.{Upright, Rising, Falling}
use Rattle.square_size.specs.Ranges.{IsRectangle}
use Rattle.square_size.specs.Rings.{HasRingWithinReach, point, grown_ring, lower_left, upper_left, lower_right, upper_right, left_bend, right_bend}
use Rattle.square_size.proofs.Ends.{left_chain, right_chain}
use Rattle.square_size.proofs.RingLaw.{left_is, right_is}

pub same_point : (x y u v : ℤ) → x ≡ u → y ≡ v → point x y ≡ point u v
same_point x y u v e f = ap (λ (w : ℤ). point w y) e ∙ ap (λ (w : ℤ). point u w) f

on_line : (l : Line) (a b : Point) → Passes l a → Passes l b → IsOnGrid (a, b)
on_line l a b pa pb = inr (l, pa, pb)

pub ring_on_grid : (dx dy : ℤ) (z : Trapezoid) → IsRectangle dx dy → IsLegal z → HasGridEdges (grown_ring dx dy z)
ring_on_grid dx dy z r legal =
    let left = left_chain dx dy (half (dx +ℤ dy)) z.y0 z.y1 z.left in
    let right = right_chain dx dy (half (dx +ℤ dy)) z.y0 z.y1 z.right in
    let l = left_is dx dy z r legal in
    let h = right_is dx dy z r legal in
    All-from_recursion IsOnGrid (edges_of (grown_ring dx dy z)) (
      on_line left.lower _ _ l.foot_on l.bend_on,
      (
        on_line left.upper _ _ l.bend_upper l.head_on,
        (
          inl refl,
          (
            on_line right.upper _ _ h.head_on h.bend_upper,
            (on_line right.lower _ _ h.bend_on h.foot_on, (inl refl, tt)),
          ),
        ),
      ),
    )

module _ (dx dy : ℤ) (z : Trapezoid) (r : IsRectangle dx dy) (shot : IsShot z) (h : HasRingWithinReach dx dy z) where
  bottom_left : IsWithinReach (x_on z.left z.y0 -ℤ dx)
  bottom_left = record { low = omega (arith, ints, clamps, h.left.low); high = omega (arith, ints, shot.reach.bottom_left.high, r.columns) }

  top_left : IsWithinReach (x_on z.left z.y1 -ℤ dx)
  top_left = record { low = omega (arith, ints, clamps, h.left.low); high = omega (arith, ints, shot.reach.top_left.high, r.columns) }

  bottom_right : IsWithinReach (x_on z.right z.y0 +ℤ dx)
  bottom_right = record { low = omega (arith, ints, shot.reach.bottom_right.low, r.columns); high = omega (arith, ints, clamps, h.right.high) }

  top_right : IsWithinReach (x_on z.right z.y1 +ℤ dx)
  top_right = record { low = omega (arith, ints, shot.reach.top_right.low, r.columns); high = omega (arith, ints, clamps, h.right.high) }

  above_bottom : IsWithinReach (z.y0 +ℤ dy)
  above_bottom = let rows = shot.legal.has_rows in record { low = omega (arith, ints, h.bottom.low, r.rows); high = omega (arith, ints, h.top.high, rows) }

  below_top : IsWithinReach (z.y1 -ℤ dy)
  below_top = let rows = shot.legal.has_rows in record { low = omega (arith, ints, h.bottom.low, rows); high = omega (arith, ints, h.top.high, r.rows) }

  left_bend_by : (l : Line) → IsWithinReach (x_on l z.y0 -ℤ dx) → IsWithinReach (x_on l z.y1 -ℤ dx) → IsPointWithinReach (left_bend dx dy z.y0 z.y1 l)
  left_bend_by (Upright c) low high = record { x = high; y = h.top }
  left_bend_by (Rising c) low high = record { x = low; y = above_bottom }
  left_bend_by (Falling c) low high = record { x = high; y = below_top }

  right_bend_by : (l : Line) → IsWithinReach (x_on l z.y0 +ℤ dx) → IsWithinReach (x_on l z.y1 +ℤ dx) → IsPointWithinReach (right_bend dx dy z.y0 z.y1 l)
  right_bend_by (Upright c) low high = record { x = high; y = h.top }
  right_bend_by (Rising c) low high = record { x = high; y = below_top }
  right_bend_by (Falling c) low high = record { x = low; y = above_bottom }

  pub lower_left_within : IsPointWithinReach (lower_left dx dy z)
  lower_left_within = record { x = bottom_left; y = h.bottom }

  pub upper_left_within : IsPointWithinReach (upper_left dx dy z)
  upper_left_within = record { x = top_left; y = h.top }

  pub lower_right_within : IsPointWithinReach (lower_right dx dy z)
  lower_right_within = record { x = bottom_right; y = h.bottom }

  pub upper_right_within : IsPointWithinReach (upper_right dx dy z)
  upper_right_within = record { x = top_right; y = h.top }

  pub left_bend_within : IsPointWithinReach (left_bend dx dy z.y0 z.y1 z.left)
  left_bend_within = left_bend_by z.left bottom_left top_left

  pub right_bend_within : IsPointWithinReach (right_bend dx dy z.y0 z.y1 z.right)
  right_bend_within = right_bend_by z.right bottom_right top_right

  pub ring_within_reach : All IsPointWithinReach (grown_ring dx dy z)
  ring_within_reach =
      All-from_recursion IsPointWithinReach (grown_ring dx dy z)
      (lower_left_within, (left_bend_within, (upper_left_within, (upper_right_within, (right_bend_within, (lower_right_within, (lower_left_within, tt)))))))
