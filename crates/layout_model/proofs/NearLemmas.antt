-- The rectangles of a path whose numbers are at most 2^41 from 0 have corners at most 2^42 from 0.
use Rattle.std.proofs.Common.{◌^◌, ℤ, pos, neg_ℤ, ◌+ℤ◌, ◌-ℤ◌, ◌≤ℤ◌, Bool, List, [], ◌∷◌, map, All, refl, arith, inl, inr}
use Rattle.std.proofs.lemmas.Int.{ints}
use Rattle.std.proofs.lemmas.Bool.{cases_Bool}
use Rattle.std.proofs.lemmas.List.Elements.{All-head, All-tail, All-cons, All-nil, All-map, All-weaker, All-from_recursion}
use Rattle.half_grid.specs.Winding.{edges_of}
use Rattle.half_grid.specs.declared.plane.Point.{Point}
use Rattle.layout_model.specs.declared.directions.Direction.{Direction}
use Rattle.layout_model.specs.declared.directions.Direction.TheVariants.{Still, East, West, North, South}
use Rattle.layout_model.specs.declared.pair.Pair.{Pair}
use Rattle.layout_model.specs.declared.shapes.Shape.{Shape}
use Rattle.layout_model.specs.declared.stretches.Stretch.{Stretch}
use Rattle.layout_model.specs.declared.rectangles.Rectangle.{Rectangle}
use Rattle.layout_model.specs.Layouts.{IsWithin}
use Rattle.layout_model.specs.Paths.{direction_of, are_one, same_point, without_repeats_after, corners_after}
use Rattle.layout_model.specs.Paths.{segments_of, extended, stretch, stretches, rectangle_along, rectangle_of}
use Rattle.layout_model.specs.Paths.{rectangles, rectangle_ring, rectangle_shape, point_at}
use Rattle.layout_model.specs.PathBounds.{IsNearOnPath, IsNearPoint, IsNearStretch}
use Rattle.layout_model.specs.PathLaws.{IsOutline}
use Rattle.layout_model.proofs.RectangleLemmas.{ring_on_grid}

-- ---- what holds of all points holds of all corners and of both ends of each segment

module _ (P : Point → Type 0) where
  all_repeats : (a : Point) (points : List Point) → All P points → All P (without_repeats_after a points)
  all_repeats a [] all = All-nil P
  all_repeats a (p ∷ points) all =
      elim (cases_Bool (same_point a p)) [
        | inl s ↦ rw s (all_repeats p points (All-tail P p points all))
        | inr s ↦ rw s (All-cons P p (without_repeats_after p points) (All-head P p points all) (all_repeats p points (All-tail P p points all)))
      ]

  all_corners : (a : Point) (points : List Point) → All P points → All P (corners_after a points)
  all_corners a [] all = All-nil P
  all_corners a (p ∷ []) all = all
  all_corners a (p ∷ q ∷ points) all =
      elim (cases_Bool (are_one (direction_of a p) (direction_of p q))) [
        | inl s ↦ rw s (all_corners p (q ∷ points) (All-tail P p (q ∷ points) all))
        | inr s ↦ rw s (All-cons P p (corners_after p (q ∷ points)) (All-head P p (q ∷ points) all)
            (all_corners p (q ∷ points) (All-tail P p (q ∷ points) all)))
      ]

  all_edges : (points : List Point) → All P points → All (λ (edge : Point × Point). P edge.0 × P edge.1) (edges_of points)
  all_edges [] all = All-nil (λ (edge : Point × Point). P edge.0 × P edge.1)
  all_edges (a ∷ []) all = All-nil (λ (edge : Point × Point). P edge.0 × P edge.1)
  all_edges (a ∷ b ∷ points) all =
      let rest = All-tail P a (b ∷ points) all in
      All-cons (λ (edge : Point × Point). P edge.0 × P edge.1) (a, b) (edges_of (b ∷ points))
      (All-head P a (b ∷ points) all, All-head P b points rest) (all_edges (b ∷ points) rest)

  pub all_segments : (points : List Point) → All P points → All (λ (edge : Point × Point). P edge.0 × P edge.1) (segments_of points)
  all_segments [] all = All-nil (λ (edge : Point × Point). P edge.0 × P edge.1)
  all_segments (a ∷ points) all =
      let first = All-head P a points all in
      let corners = all_corners a (without_repeats_after a points) (all_repeats a points (All-tail P a points all)) in
      all_edges (a ∷ corners_after a (without_repeats_after a points)) (All-cons P a (corners_after a (without_repeats_after a points)) first corners)

abbrev IsNearEdge : Point × Point → Type 0
IsNearEdge edge = IsNearPoint edge.0 × IsNearPoint edge.1

near_stretch : (half before after : ℤ) (edge : Point × Point) → IsNearOnPath half → IsNearOnPath before → IsNearOnPath after
    → IsNearEdge edge → IsNearStretch (stretch half before after edge)
near_stretch half before after edge h b a e = record { from = e.0; to = e.1; half = h; before = b; after = a }

pub near_extended : (half before end : ℤ) (segments : List (Point × Point)) → IsNearOnPath half → IsNearOnPath before → IsNearOnPath end
    → All IsNearEdge segments → All IsNearStretch (extended half before end segments)
near_extended half before end [] h b e all = All-nil IsNearStretch
near_extended half before end (s ∷ []) h b e all =
    All-cons IsNearStretch (stretch half before end s) [] (near_stretch half before end s h b e (All-head IsNearEdge s [] all)) (All-nil IsNearStretch)
near_extended half before end (s ∷ t ∷ segments) h b e all =
    All-cons IsNearStretch (stretch half before half s) (extended half half end (t ∷ segments))
    (near_stretch half before half s h b h (All-head IsNearEdge s (t ∷ segments) all))
    (near_extended half half end (t ∷ segments) h h e (All-tail IsNearEdge s (t ∷ segments) all))

-- ---- the corners of a rectangle

record IsFar (z : ℤ) : Type 0 where
  low : neg_ℤ (pos (2 ^ 42)) ≤ℤ z
  high : z ≤ℤ pos (2 ^ 42)

less_far : (z by : ℤ) → IsNearOnPath z → IsNearOnPath by → IsFar (z -ℤ by)
less_far z by h k = record { low = omega (arith, ints, h.low, h.high, k.low, k.high); high = omega (arith, ints, h.low, h.high, k.low, k.high) }

more_far : (z by : ℤ) → IsNearOnPath z → IsNearOnPath by → IsFar (z +ℤ by)
more_far z by h k = record { low = omega (arith, ints, h.low, h.high, k.low, k.high); high = omega (arith, ints, h.low, h.high, k.low, k.high) }

record IsFarRectangle (r : Rectangle) : Type 0 where
  x0 : IsFar r.x0
  y0 : IsFar r.y0
  x1 : IsFar r.x1
  y1 : IsFar r.y1

far_along : (s : Stretch) (d : Direction) → IsNearStretch s → IsFarRectangle (rectangle_along d s)
far_along s West h =
    record {
      x0 = less_far _ _ h.to.x h.after;
      y0 = less_far _ _ h.from.y h.half;
      x1 =
          more_far _ _ h.from.x h.before;
      y1 = more_far _ _ h.from.y h.half;
    }
far_along s North h =
    record {
      x0 = less_far _ _ h.from.x h.half;
      y0 = less_far _ _ h.from.y h.before;
      x1 =
          more_far _ _ h.from.x h.half;
      y1 = more_far _ _ h.to.y h.after;
    }
far_along s South h =
    record {
      x0 = less_far _ _ h.from.x h.half;
      y0 = less_far _ _ h.to.y h.after;
      x1 =
          more_far _ _ h.from.x h.half;
      y1 = more_far _ _ h.from.y h.before;
    }
far_along s East h =
    record {
      x0 = less_far _ _ h.from.x h.before;
      y0 = less_far _ _ h.from.y h.half;
      x1 =
          more_far _ _ h.to.x h.after;
      y1 = more_far _ _ h.from.y h.half;
    }
far_along s Still h =
    record {
      x0 = less_far _ _ h.from.x h.before;
      y0 = less_far _ _ h.from.y h.half;
      x1 =
          more_far _ _ h.to.x h.after;
      y1 = more_far _ _ h.from.y h.half;
    }

far_point : (x y : ℤ) → IsFar x → IsFar y → IsWithin (2 ^ 42) (point_at x y)
far_point x y h k = record { x_low = h.low; x_high = h.high; y_low = k.low; y_high = k.high }

far_ring : (r : Rectangle) → IsFarRectangle r → All (IsWithin (2 ^ 42)) (rectangle_ring r)
far_ring r h =
    let a = far_point r.x0 r.y0 h.x0 h.y0 in
    All-from_recursion (IsWithin (2 ^ 42)) (rectangle_ring r)
    (a, (far_point r.x0 r.y1 h.x0 h.y1, (far_point r.x1 r.y1 h.x1 h.y1, (far_point r.x1 r.y0 h.x1 h.y0, (a, tt)))))

outline_of : (s : Stretch) → IsNearStretch s → IsOutline (rectangle_ring (rectangle_of s))
outline_of s h = record {
  closed = refl;
  edges = ring_on_grid (rectangle_of s);
  near = far_ring (rectangle_of s) (far_along s (direction_of s.from s.to) h);
}

-- ---- the shapes of a path

pub all_outlines : (pair : Pair) (offsets : List Point) (fixed : Bool) (points : List Point) (half begin end : ℤ)
    → All IsNearPoint points → IsNearOnPath half → IsNearOnPath begin → IsNearOnPath end
    → All (λ (shape : Shape). IsOutline shape.points) (map (rectangle_shape pair offsets fixed) (rectangles points half begin end))
all_outlines pair offsets fixed points half begin end all h b e =
    let near = near_extended half begin end (segments_of points) h b e (all_segments IsNearPoint points all) in
    let outlines = All-weaker IsNearStretch (λ s. IsOutline (rectangle_ring (rectangle_of s))) outline_of (stretches points half begin end) near in
    let rings = All-map (λ r. IsOutline (rectangle_ring r)) rectangle_of (stretches points half begin end) outlines in
    All-map (λ (shape : Shape). IsOutline shape.points) (rectangle_shape pair offsets fixed) (rectangles points half begin end) rings
