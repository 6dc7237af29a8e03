-- What a walk draws: no numbers too far from 0, and a rectangle with tiles of each segment.
use Rattle.std.proofs.Common.{◌≡◌, ◌^◌, ℤ, Bool, true, false, List, [], ◌∷◌, ◌++◌, map, All, refl, ap, ◌∙◌, sym, subst, append_assoc}
use Rattle.std.proofs.lemmas.List.Elements.{All-weaker, All-head, All-tail}
use Rattle.half_grid.specs.declared.plane.Point.{Point}
use Rattle.layout_model.specs.declared.pair.Pair.{Pair}
use Rattle.layout_model.specs.declared.shapes.Shape.{Shape}
use Rattle.layout_model.specs.declared.stretches.Stretch.{Stretch}
use Rattle.layout_model.specs.declared.stretches.Brush.{Brush}
use Rattle.layout_model.specs.declared.stretches.Walk.{Walk}
use Rattle.layout_model.specs.Paths.{rectangle, rectangle_of, rectangle_shape, rectangles, stretches, HasNoLength}
use Rattle.layout_model.specs.Layouts.{IsWithin}
use Rattle.layout_model.specs.PathBounds.{IsNearOnPath, IsNearPoint, IsNearBrush, IsNearStretch}
use Rattle.layout_model.specs.Walks.{turns_at, walk_from, walk_on, walk_round, stretch_of}
use Rattle.layout_model.proofs.WalkLemmas.{walk_list, walk_straight, walk_turn, whole_walk}

pub rectangle_at : (x0 y0 x1 y1 a b c d : ℤ) → x0 ≡ a → y0 ≡ b → x1 ≡ c → y1 ≡ d → rectangle x0 y0 x1 y1 ≡ rectangle a b c d
rectangle_at x0 y0 x1 y1 a b c d e f g h = rw (e, f, g, h) refl

-- ---- the bounds

near_point : (p : Point) → IsWithin (2 ^ 41) p → IsNearPoint p
near_point p h = record { x = record { low = h.x_low; high = h.x_high }; y = record { low = h.y_low; high = h.y_high } }

pub near_points : (points : List Point) → All (IsWithin (2 ^ 41)) points → All IsNearPoint points
near_points points all = All-weaker (IsWithin (2 ^ 41)) IsNearPoint near_point points all

pub record IsNearWalk (w : Walk) : Type 0 where
  pub from : IsNearPoint w.from
  pub last : IsNearPoint w.last
  pub before : IsNearOnPath w.before

pub near_stretch : (b : Brush) (after : ℤ) (w : Walk) → IsNearBrush b → IsNearOnPath after → IsNearWalk w → IsNearStretch (stretch_of b after w)
near_stretch b after w hb ha hw = record { from = hw.from; to = hw.last; half = hb.half; before = hw.before; after = ha }

-- ---- the shapes so far, with those of the segments that are left, are the shapes of the whole

-- the shape of a segment
abbrev pub drawn : Pair → List Point → Bool → Stretch → Shape
drawn pair offsets fixed s = rectangle_shape pair offsets fixed (rectangle_of s)

-- what the walk has drawn, with what it will draw of the points that are left, is all; and its numbers are near 0
pub record Drawn (pair : Pair) (offsets : List Point) (fixed : Bool) (b : Brush) (whole : List Stretch)
    (shapes : List Shape) (w : Walk) (rest : List Point) : Type 0 where
  pub split : shapes ++ map (drawn pair offsets fixed) (walk_list b w rest) ≡ map (drawn pair offsets fixed) whole
  pub near : IsNearWalk w
  pub rest_near : All IsNearPoint rest

pub drawn_start : (pair : Pair) (offsets : List Point) (fixed : Bool) (b : Brush) (a : Point) (rest : List Point) → IsNearBrush b → All IsNearPoint (a ∷ rest)
    → Drawn pair offsets fixed b (walk_list b (walk_from b a) rest) [] (walk_from b a) rest
drawn_start pair offsets fixed b a rest hb near = record {
  split = refl;
  near = record { from = All-head IsNearPoint a rest near; last = All-head IsNearPoint a rest near; before = hb.begin };
  rest_near = All-tail IsNearPoint a rest near;
}

pub drawn_turn : (pair : Pair) (offsets : List Point) (fixed : Bool) (b : Brush) (whole : List Stretch)
    (shapes : List Shape) (w : Walk) (p : Point) (rest : List Point)
    → IsNearBrush b → Drawn pair offsets fixed b whole shapes w (p ∷ rest) → turns_at w p ≡ true
    → Drawn pair offsets fixed b whole (shapes ++ drawn pair offsets fixed (stretch_of b b.half w) ∷ []) (walk_round b w p) rest
drawn_turn pair offsets fixed b whole shapes w p rest hb d t = record {
  split =
      append_assoc shapes (drawn pair offsets fixed (stretch_of b b.half w) ∷ []) (map (drawn pair offsets fixed) (walk_list b (walk_round b w p) rest))
      ∙ ap (λ (xs : List Stretch). shapes ++ map (drawn pair offsets fixed) xs) (sym (walk_turn b w p rest t)) ∙ d.split;
  near = record { from = d.near.last; last = All-head IsNearPoint p rest d.rest_near; before = hb.half };
  rest_near = All-tail IsNearPoint p rest d.rest_near;
}

pub drawn_on : (pair : Pair) (offsets : List Point) (fixed : Bool) (b : Brush) (whole : List Stretch)
    (shapes : List Shape) (w : Walk) (p : Point) (rest : List Point)
    → Drawn pair offsets fixed b whole shapes w (p ∷ rest) → turns_at w p ≡ false → Drawn pair offsets fixed b whole shapes (walk_on w p) rest
drawn_on pair offsets fixed b whole shapes w p rest d t = record {
  split = ap (λ (xs : List Stretch). shapes ++ map (drawn pair offsets fixed) xs) (sym (walk_straight b w p rest t)) ∙ d.split;
  near = record { from = d.near.from; last = All-head IsNearPoint p rest d.rest_near; before = d.near.before };
  rest_near = All-tail IsNearPoint p rest d.rest_near;
}

pub drawn_as : (pair : Pair) (offsets : List Point) (fixed : Bool) (b : Brush) (whole : List Stretch)
    (shapes more : List Shape) (w v : Walk) (rest : List Point) → v ≡ w → more ≡ shapes
    → Drawn pair offsets fixed b whole shapes w rest → Drawn pair offsets fixed b whole more v rest
drawn_as pair offsets fixed b whole shapes more w v rest e h d = rw (e, h) d

pub drawn_begin : (pair : Pair) (offsets : List Point) (fixed : Bool) (b : Brush) (points : List Point) (a : Point)
    (rest : List Point) (shapes : List Shape) (w : Walk)
    → points ≡ a ∷ rest → shapes ≡ [] → w ≡ walk_from b a → IsNearBrush b → All IsNearPoint points
    → Drawn pair offsets fixed b (walk_list b w rest) shapes w rest
drawn_begin pair offsets fixed b points a rest shapes w e es ew hb near = rw (ew, es)
    (drawn_start pair offsets fixed b a rest hb (subst (All IsNearPoint) e near))

-- the shapes of segments are those of their rectangles
shapes_by : (pair : Pair) (offsets : List Point) (fixed : Bool) (s : List Stretch)
    → map (drawn pair offsets fixed) s ≡ map (rectangle_shape pair offsets fixed) (map rectangle_of s)
shapes_by pair offsets fixed [] = refl
shapes_by pair offsets fixed (x ∷ s) = ap (λ (xs : List Shape). drawn pair offsets fixed x ∷ xs) (shapes_by pair offsets fixed s)

drawn_whole : (pair : Pair) (offsets : List Point) (fixed : Bool) (b : Brush) (a : Point) (rest : List Point) (shapes : List Shape) (w : Walk)
    → (HasNoLength (a ∷ rest) → ⊥) → Drawn pair offsets fixed b (walk_list b (walk_from b a) rest) shapes w []
    → shapes ++ drawn pair offsets fixed (stretch_of b b.end w) ∷ [] ≡ map (rectangle_shape pair offsets fixed) (rectangles (a ∷ rest) b.half b.begin b.end)
drawn_whole pair offsets fixed b a rest shapes w long d =
    d.split ∙ ap (map (drawn pair offsets fixed)) (whole_walk b rest a long) ∙ shapes_by pair offsets fixed (stretches (a ∷ rest) b.half b.begin b.end)

pub drawn_end : (pair : Pair) (offsets : List Point) (fixed : Bool) (b : Brush) (points : List Point) (a : Point)
    (rest : List Point) (shapes : List Shape) (w : Walk)
    → points ≡ a ∷ rest → (HasNoLength points → ⊥) → Drawn pair offsets fixed b (walk_list b (walk_from b a) rest) shapes w []
    → shapes ++ drawn pair offsets fixed (stretch_of b b.end w) ∷ [] ≡ map (rectangle_shape pair offsets fixed) (rectangles points b.half b.begin b.end)
drawn_end pair offsets fixed b points a rest shapes w e long d =
    drawn_whole pair offsets fixed b a rest shapes w (λ none. long (subst HasNoLength (sym e) none)) d
    ∙ ap (λ (ps : List Point). map (rectangle_shape pair offsets fixed) (rectangles ps b.half b.begin b.end)) (sym e)
