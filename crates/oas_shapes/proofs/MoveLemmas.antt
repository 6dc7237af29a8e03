-- The outline of a polygon, or the points of a path, moved from one position to another: they are those there, near 0 where its box is, and on the
-- grid as before.
use Rattle.std.proofs.Common.{◌≡◌, ◌^◌, ◌==◌, ℕ, ℤ, pos, neg_ℤ, ◌+ℤ◌, ◌-ℤ◌, ◌≤ℤ◌, inl, inr, Bool, true, false, cond, List, [], ◌∷◌, ◌++◌, map}
use Rattle.std.proofs.Common.{refl, sym, ap, subst, ◌∙◌, arith}
use Rattle.std.specs.Prelude.{All, Any}
use Rattle.std.proofs.lemmas.Int.{ints}
use Rattle.std.proofs.lemmas.List.{map-append}
use Rattle.std.proofs.lemmas.List.Elements.{All-nil, All-cons, All-head, All-tail, All-map, All-weaker}
use Rattle.half_grid.specs.Halves.{twice}
use Rattle.half_grid.specs.Outlines.{last_of, IsOnGrid, ShareLine, HasGridEdges}
use Rattle.half_grid.specs.Reach.{IsPointWithinReach}
use Rattle.half_grid.specs.Winding.{edges_of}
use Rattle.half_grid.specs.declared.extent.Frame.{Frame}
use Rattle.half_grid.specs.declared.plane.Line.TheVariants.{Upright, Rising, Falling}
use Rattle.half_grid.specs.declared.plane.Point.{Point}
use Rattle.layout_model.specs.Hulls.{IsInBox, IsLeastBoxOf}
use Rattle.layout_model.specs.Images.{moved}
use Rattle.layout_model.specs.Layouts.{IsWithin}
use Rattle.oas_record.specs.declared.fields.Deltas.{Deltas}
use Rattle.oas_shapes.specs.Moves.{steps_between, way_between, low_corner, high_corner, IsItsOutline}
use Rattle.oas_shapes.specs.Outlines.{closed, outline_of, polygon_outline, path_points}
use Rattle.oas_shapes.specs.Plane.{point, doubled, places_along, IsNearInSteps, IsNearInHalves}
use Rattle.oas_shapes.specs.PointLists.{implied, moves_by}
use Rattle.oas_shapes.specs.Rules.{AreNear}
use Rattle.oas_shapes.specs.declared.outlines.Made.{Made}
use Rattle.oas_shapes.proofs.NearLemmas.{same_point, all_mapped}

-- ---- the outline at another position

moves_exchange : (m p d : Point) → moved (moved m p) d ≡ moved m (moved p d)
moves_exchange m p d =
    same_point (d.x +ℤ (p.x +ℤ m.x)) ((d.x +ℤ p.x) +ℤ m.x) (d.y +ℤ (p.y +ℤ m.y)) ((d.y +ℤ p.y) +ℤ m.y)
    (omega (arith, ints)) (omega (arith, ints))

places_moved : (m p : Point) (moves : List Point) → places_along (moved m p) moves ≡ map (moved m) (places_along p moves)
places_moved m p [] = refl
places_moved m p (d ∷ moves) =
    ap (λ q. moved m p ∷ places_along q moves) (moves_exchange m p d)
    ∙ ap (λ rest. moved m p ∷ rest) (places_moved m (moved p d) moves)

last_moved : (m a : Point) (points : List Point) → last_of (moved m a) (map (moved m) points) ≡ moved m (last_of a points)
last_moved m a [] = refl
last_moved m a (b ∷ points) = last_moved m b points

implied_cases : (s t : Bool) (m a b : Point)
    → cond s (moved m a ∷ []) (cond t (moved m b ∷ []) []) ≡ map (moved m) (cond s (a ∷ []) (cond t (b ∷ []) []))
implied_cases true t m a b = refl
implied_cases false true m a b = refl
implied_cases false false m a b = refl

implied_moved : (kind : ℕ) (m f l : Point) → implied kind (moved m f) (moved m l) ≡ map (moved m) (implied kind f l)
implied_moved kind m f l = implied_cases (kind == 0) (kind == 1) m (point f.x l.y) (point l.x f.y)

corners_moved : (kind : ℕ) (m p : Point) (moves : List Point)
    → places_along (moved m p) moves ++ implied kind (moved m p) (last_of (moved m p) (places_along (moved m p) moves))
    ≡ map (moved m) (places_along p moves ++ implied kind p (last_of p (places_along p moves)))
corners_moved kind m p moves =
    let places = places_along p moves in
    ap (λ ps. ps ++ implied kind (moved m p) (last_of (moved m p) ps)) (places_moved m p moves)
    ∙ ap (λ q. map (moved m) places ++ implied kind (moved m p) q) (last_moved m p places)
    ∙ ap (λ qs. map (moved m) places ++ qs) (implied_moved kind m p (last_of p places))
    ∙ sym (map-append (moved m) places (implied kind p (last_of p places)))

doubled_moved : (m p : Point) → doubled (moved m p) ≡ moved (doubled m) (doubled p)
doubled_moved m p =
    same_point (twice (p.x +ℤ m.x)) (twice p.x +ℤ twice m.x) (twice (p.y +ℤ m.y)) (twice p.y +ℤ twice m.y)
    (omega (arith, ints)) (omega (arith, ints))

all_doubled : (m : Point) (ps : List Point) → map doubled (map (moved m) ps) ≡ map (moved (doubled m)) (map doubled ps)
all_doubled m [] = refl
all_doubled m (p ∷ ps) =
    ap (λ q. q ∷ map doubled (map (moved m) ps)) (doubled_moved m p)
    ∙ ap (λ qs. moved (doubled m) (doubled p) ∷ qs) (all_doubled m ps)

closed_moved : (m : Point) (ps : List Point) → closed (map (moved m) ps) ≡ map (moved m) (closed ps)
closed_moved m [] = refl
closed_moved m (p ∷ ps) = sym (map-append (moved m) (p ∷ ps) (p ∷ []))

ring_moved : (kind : ℕ) (m p : Point) (moves : List Point)
    → outline_of (places_along (moved m p) moves ++ implied kind (moved m p) (last_of (moved m p) (places_along (moved m p) moves)))
    ≡ map (moved (doubled m)) (outline_of (places_along p moves ++ implied kind p (last_of p (places_along p moves))))
ring_moved kind m p moves =
    let corners = places_along p moves ++ implied kind p (last_of p (places_along p moves)) in
    ap outline_of (corners_moved kind m p moves) ∙ ap closed (all_doubled m corners) ∙ closed_moved (doubled m) (map doubled corners)

there : (from to : Point) → moved (steps_between from to) from ≡ to
there from to =
    same_point (from.x +ℤ (to.x -ℤ from.x)) to.x (from.y +ℤ (to.y -ℤ from.y)) to.y (omega (arith, ints)) (omega (arith, ints))

pub polygon_moved : (from to : Point) (d : Deltas) → map (moved (way_between from to)) (polygon_outline from d) ≡ polygon_outline to d
polygon_moved from to d =
    sym (ring_moved d.kind (steps_between from to) from (moves_by d.kind d.items)) ∙ ap (λ p. polygon_outline p d) (there from to)

pub points_moved : (from to : Point) (d : Deltas) → map (moved (way_between from to)) (path_points from d) ≡ path_points to d
points_moved from to d =
    let steps = steps_between from to in
    let moves = moves_by d.kind d.items in
    sym (ap (map doubled) (places_moved steps from moves) ∙ all_doubled steps (places_along from moves))
    ∙ ap (λ p. path_points p d) (there from to)

pub outline_there : (d : Deltas) (made : Made) (to : Point) → IsItsOutline d made
    → map (moved (way_between made.at to)) made.outline ≡ polygon_outline to d
outline_there d made to is = ap (map (moved (way_between made.at to))) is.outline ∙ polygon_moved made.at to d

-- ---- on the grid there as well

line_moved : (m a b : Point) → ShareLine a b → ShareLine (moved (doubled m) a) (moved (doubled m) b)
line_moved m a b (Upright c, e, f) = (Upright (c +ℤ twice m.x), omega (arith, ints, e), omega (arith, ints, f))
line_moved m a b (Rising c, e, f) = (Rising (c +ℤ (m.x -ℤ m.y)), omega (arith, ints, e), omega (arith, ints, f))
line_moved m a b (Falling c, e, f) = (Falling (c +ℤ (m.x +ℤ m.y)), omega (arith, ints, e), omega (arith, ints, f))

edge_moved : (m a b : Point) → IsOnGrid (a, b) → IsOnGrid (moved (doubled m) a, moved (doubled m) b)
edge_moved m a b (inl level) = inl (ap (λ y. y +ℤ twice m.y) level)
edge_moved m a b (inr line) = inr (line_moved m a b line)

pub edges_moved : (m : Point) (points : List Point) → HasGridEdges points → HasGridEdges (map (moved (doubled m)) points)
edges_moved m [] h = All-nil IsOnGrid
edges_moved m (a ∷ []) h = All-nil IsOnGrid
edges_moved m (a ∷ b ∷ points) h =
    All-cons IsOnGrid (moved (doubled m) a, moved (doubled m) b) (edges_of (map (moved (doubled m)) (b ∷ points)))
    (edge_moved m a b (All-head IsOnGrid (a, b) (edges_of (b ∷ points)) h))
    (edges_moved m (b ∷ points) (All-tail IsOnGrid (a, b) (edges_of (b ∷ points)) h))

pub edges_there : (d : Deltas) (made : Made) (to : Point) → IsItsOutline d made → HasGridEdges (polygon_outline to d)
edges_there d made to is = subst HasGridEdges (outline_there d made to is) (edges_moved (steps_between made.at to) made.outline is.edges)

-- ---- near 0 by the box

pub way_small : (from to : Point) → IsNearInSteps from → IsNearInSteps to → IsWithin (2 ^ 42) (way_between from to)
way_small from to m n = record {
  x_low = omega (arith, ints, m.x_low, m.x_high, n.x_low, n.x_high);
  x_high = omega (arith, ints, m.x_low, m.x_high, n.x_low, n.x_high);
  y_low = omega (arith, ints, m.y_low, m.y_high, n.y_low, n.y_high);
  y_high = omega (arith, ints, m.y_low, m.y_high, n.y_low, n.y_high);
}

-- what each item meets, an item on a side of the box meets
at_side : {A : Type 0} (P Q : Point → Type 0) (points : List Point) → ((p : Point) → P p → Q p → A) → Any P points → All Q points → A
at_side P Q points h (k, p, inside, at, here) all = h p here (subst Q at (all k p inside))

-- a coordinate that some item has is near 0
near_x : (points : List Point) (x : ℤ) → Any (λ p. p.x ≡ x) points → AreNear points → (neg_ℤ (pos (2 ^ 41)) ≤ℤ x) × (x ≤ℤ pos (2 ^ 41))
near_x points x some all = at_side (λ p. p.x ≡ x) IsNearInHalves points (λ p e n. (omega (arith, ints, e, n.x_low), omega (arith, ints, e, n.x_high))) some all

near_y : (points : List Point) (y : ℤ) → Any (λ p. p.y ≡ y) points → AreNear points → (neg_ℤ (pos (2 ^ 41)) ≤ℤ y) × (y ≤ℤ pos (2 ^ 41))
near_y points y some all = at_side (λ p. p.y ≡ y) IsNearInHalves points (λ p e n. (omega (arith, ints, e, n.y_low), omega (arith, ints, e, n.y_high))) some all

pub low_near : (points : List Point) (box : Frame) → IsLeastBoxOf points box → AreNear points → IsNearInHalves (low_corner box)
low_near points box least all =
    let (x_low, x_high) = near_x points box.x0 least.left all in
    let (y_low, y_high) = near_y points box.y0 least.bottom all in
    record { x_low = x_low; x_high = x_high; y_low = y_low; y_high = y_high }

pub high_near : (points : List Point) (box : Frame) → IsLeastBoxOf points box → AreNear points → IsNearInHalves (high_corner box)
high_near points box least all =
    let (x_low, x_high) = near_x points box.x1 least.right all in
    let (y_low, y_high) = near_y points box.y1 least.top all in
    record { x_low = x_low; x_high = x_high; y_low = y_low; y_high = y_high }

-- and moved
moved_x : (points : List Point) (by : Point) (x : ℤ) → Any (λ p. p.x ≡ x) points → All (λ p. IsNearInHalves (moved by p)) points
    → (neg_ℤ (pos (2 ^ 41)) ≤ℤ (x +ℤ by.x)) × ((x +ℤ by.x) ≤ℤ pos (2 ^ 41))
moved_x points by x some all =
    at_side (λ p. p.x ≡ x) (λ p. IsNearInHalves (moved by p)) points (λ p e n. (omega (arith, ints, e, n.x_low), omega (arith, ints, e, n.x_high))) some all

moved_y : (points : List Point) (by : Point) (y : ℤ) → Any (λ p. p.y ≡ y) points → All (λ p. IsNearInHalves (moved by p)) points
    → (neg_ℤ (pos (2 ^ 41)) ≤ℤ (y +ℤ by.y)) × ((y +ℤ by.y) ≤ℤ pos (2 ^ 41))
moved_y points by y some all =
    at_side (λ p. p.y ≡ y) (λ p. IsNearInHalves (moved by p)) points (λ p e n. (omega (arith, ints, e, n.y_low), omega (arith, ints, e, n.y_high))) some all

pub low_moved : (points : List Point) (by : Point) (box : Frame) → IsLeastBoxOf points box → AreNear (map (moved by) points)
    → IsNearInHalves (moved by (low_corner box))
low_moved points by box least all =
    let each = all_mapped IsNearInHalves (moved by) points all in
    let (x_low, x_high) = moved_x points by box.x0 least.left each in
    let (y_low, y_high) = moved_y points by box.y0 least.bottom each in
    record { x_low = x_low; x_high = x_high; y_low = y_low; y_high = y_high }

pub high_moved : (points : List Point) (by : Point) (box : Frame) → IsLeastBoxOf points box → AreNear (map (moved by) points)
    → IsNearInHalves (moved by (high_corner box))
high_moved points by box least all =
    let each = all_mapped IsNearInHalves (moved by) points all in
    let (x_low, x_high) = moved_x points by box.x1 least.right each in
    let (y_low, y_high) = moved_y points by box.y1 least.top each in
    record { x_low = x_low; x_high = x_high; y_low = y_low; y_high = y_high }

pub near_by_corners : (points : List Point) (by : Point) (box : Frame) → IsLeastBoxOf points box → IsNearInHalves (moved by (low_corner box))
    → IsNearInHalves (moved by (high_corner box)) → AreNear (map (moved by) points)
near_by_corners points by box least low high =
    let here : (p : Point) → IsInBox box p → IsNearInHalves (moved by p) = λ p h. record {
      x_low = omega (arith, ints, h.left, low.x_low);
      x_high = omega (arith, ints, h.right, high.x_high);
      y_low = omega (arith, ints, h.bottom, low.y_low);
      y_high = omega (arith, ints, h.top, high.y_high);
    } in
    All-map IsNearInHalves (moved by) points (All-weaker (IsInBox box) (λ p. IsNearInHalves (moved by p)) here points least.around)

near_reaches : (p : Point) → IsNearInHalves p → IsPointWithinReach p
near_reaches p n = record {
  x = record { low = omega (arith, ints, n.x_low); high = omega (arith, ints, n.x_high) };
  y = record { low = omega (arith, ints, n.y_low); high = omega (arith, ints, n.y_high) };
}

pub all_reach : (points : List Point) → AreNear points → All IsPointWithinReach points
all_reach points near = All-weaker IsNearInHalves IsPointWithinReach near_reaches points near
