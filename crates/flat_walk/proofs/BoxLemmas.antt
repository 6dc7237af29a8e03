-- Boxes round what shapes show, and shapes that are passed by.
use Rattle.std.proofs.Common.{◌≡◌, ℕ, ℤ, zero, suc, pos, ◌+◌, ◌-◌, ◌^◌, ◌<◌, ◌≤◌, ◌+ℤ◌, Bool, true}
use Rattle.std.proofs.Common.{false, int_lt, if◌then◌else◌, List, [], ◌∷◌, ◌++◌, Option, Some, All, Any, map}
use Rattle.std.proofs.Common.{drop, length, get_or, slice_get, refl, sym, ap, subst, ◌∙◌, arith, append_assoc}
use Rattle.std.specs.Int.{int_min, int_max}
use Rattle.std.specs.List.{filter, flat_map, AllByRecursion}
use Rattle.std.proofs.lemmas.Int.{ints, clamps}
use Rattle.std.proofs.lemmas.List.{length-drop}
use Rattle.std.proofs.lemmas.List.Elements.{recursion_from_All, All-from_recursion}
use Rattle.std.proofs.lemmas.Option.{none-some, same_Some, slice_get-get_or}
use Rattle.half_grid.specs.Quads.{Corners, corners_of}
use Rattle.half_grid.specs.Reach.{IsPointWithinReach}
use Rattle.half_grid.specs.Trapezoids.{Trapezoid}
use Rattle.half_grid.specs.Windows.{RowRange}
use Rattle.half_grid.specs.declared.plane.Point.{Point}
use Rattle.half_grid.specs.declared.extent.Frame.{Frame}
use Rattle.layout_model.specs.Hulls.{IsInBox, IsLeastBoxOf}
use Rattle.layout_model.specs.Images.{image_of, moved}
use Rattle.layout_model.specs.Layouts.{IsWithin, IsMove, AreOffsets}
use Rattle.layout_model.specs.declared.pair.Pair.{Pair}
use Rattle.layout_model.specs.declared.orient.Orient.{Orient}
use Rattle.layout_model.specs.declared.shapes.Shape.{Shape}
use Rattle.layout_model.specs.declared.cells.Cell.{Cell}
use Rattle.layout_model.specs.declared.cells.Placement.{Placement}
use Rattle.cell_tree.specs.Boxes.{IsUpTo, IsBoxUpTo, joined_box, summed_box}
use Rattle.cell_tree.specs.Cells.{shapes_at, placements_at}
use Rattle.cell_tree.specs.Chains.{IsReachable}
use Rattle.flat_walk.specs.Boxes.{IsQuadIn, HasBox, AreBoxed, AreNear, AreSpots, boxes_at, AreAllBoxed}
use Rattle.flat_walk.specs.Tables.{lists_at}
use Rattle.flat_walk.specs.Quads.{quad_image, moved_quad, has_row_in}
use Rattle.flat_walk.specs.Walks.{is_on, pieces_of_shape, pieces_of_shapes}
use Rattle.flat_walk.specs.Rests.{Skips, shows_in, ShowsNothing, placed_list, places_rest, placed_rest}
use Rattle.flat_walk.specs.Hands.{steps_from}
use Rattle.flat_walk.specs.Ways.{IsBetweenRows, low_corner, high_corner}
use Rattle.flat_walk.proofs.RestLemmas.{skip_on, skip_same, skip_front, placed_rest_is, shapes_from_first, marks_apart}
use Rattle.flat_walk.proofs.RestLemmas.{slot_all, places_on, places_off, drop_past}
use Rattle.flat_walk.proofs.PointLemmas.{same_point}
use Rattle.flat_walk.proofs.ShowLemmas.{quad_hidden}

-- ---- boxes

pub same_frame : (a b : Frame) → a.x0 ≡ b.x0 → a.y0 ≡ b.y0 → a.x1 ≡ b.x1 → a.y1 ≡ b.y1 → a ≡ b
same_frame a b e f g h = λ i. record { x0 = e i; y0 = f i; x1 = g i; y1 = h i }

pub empty_list : {X : Type 0} (xs : List X) → length xs ≡ 0 → xs ≡ []
empty_list [] none = refl
empty_list (x ∷ xs) none = absurd (omega (arith, none))

pub origin_near : IsPointWithinReach (record { x = pos 0; y = pos 0 })
origin_near = record {
  x = record { low = omega (arith, ints); high = omega (arith, ints) };
  y =
      record { low = omega (arith, ints); high = omega (arith, ints) };
}

module _ (a b : Frame) where
  pub left_in : (p : Point) → IsInBox a p → IsInBox (joined_box a b) p
  left_in p h = record {
    left = omega (arith, ints, clamps, h.left);
    bottom = omega
        (arith, ints, clamps, h.bottom);
    right = omega (arith, ints, clamps, h.right);
    top = omega
        (arith, ints, clamps, h.top);
  }

  pub right_in : (p : Point) → IsInBox b p → IsInBox (joined_box a b) p
  right_in p h = record {
    left = omega (arith, ints, clamps, h.left);
    bottom = omega
        (arith, ints, clamps, h.bottom);
    right = omega (arith, ints, clamps, h.right);
    top = omega
        (arith, ints, clamps, h.top);
  }

  pub quad_left : (q : Corners) → IsQuadIn a q → IsQuadIn (joined_box a b) q
  quad_left q h = record { a = left_in q.a h.a; b = left_in q.b h.b; c = left_in q.c h.c; d = left_in q.d h.d }

  pub quad_right : (q : Corners) → IsQuadIn b q → IsQuadIn (joined_box a b) q
  quad_right q h = record { a = right_in q.a h.a; b = right_in q.b h.b; c = right_in q.c h.c; d = right_in q.d h.d }

up_min : (n : ℕ) (y z : ℤ) → IsUpTo n y → IsUpTo n z → IsUpTo n (int_min y z)
up_min n y z h k = record { low = omega (arith, ints, clamps, h.low, k.low); high = omega (arith, ints, clamps, h.high, k.high) }

up_max : (n : ℕ) (y z : ℤ) → IsUpTo n y → IsUpTo n z → IsUpTo n (int_max y z)
up_max n y z h k = record { low = omega (arith, ints, clamps, h.low, k.low); high = omega (arith, ints, clamps, h.high, k.high) }

pub near_both : (n : ℕ) (a b : Frame) → IsBoxUpTo n a → IsBoxUpTo n b → IsBoxUpTo n (joined_box a b)
near_both n a b h k =
    record {
      x0 = up_min n a.x0 b.x0 h.x0 k.x0;
      y0 = up_min n a.y0 b.y0 h.y0 k.y0;
      x1 =
          up_max n a.x1 b.x1 h.x1 k.x1;
      y1 = up_max n a.y1 b.y1 h.y1 k.y1;
    }

-- the box of four corners
pub four_in : (q : Corners) (a b c d l r box : Frame) → IsInBox a q.a → IsInBox b q.b → IsInBox c q.c → IsInBox d q.d
    → l ≡ joined_box a b → r ≡ joined_box c d → box ≡ joined_box l r → IsQuadIn box q
four_in q a b c d l r box ha hb hc hd el er is =
    subst (λ k. IsQuadIn k q) (sym (is ∙ (ap (λ k. joined_box k r) el ∙ ap (joined_box (joined_box a b)) er)))
    (record {
      a = left_in (joined_box a b) (joined_box c d) q.a (left_in a b q.a ha);
      b = left_in (joined_box a b) (joined_box c d) q.b (right_in a b q.b hb);
      c = right_in (joined_box a b) (joined_box c d) q.c (left_in c d q.c hc);
      d = right_in (joined_box a b) (joined_box c d) q.d (right_in c d q.d hd);
    })

pub four_near : (n : ℕ) (a b c d l r box : Frame) → IsBoxUpTo n a → IsBoxUpTo n b → IsBoxUpTo n c → IsBoxUpTo n d
    → l ≡ joined_box a b → r ≡ joined_box c d → box ≡ joined_box l r → IsBoxUpTo n box
four_near n a b c d l r box ha hb hc hd el er is =
    subst (IsBoxUpTo n) (sym (is ∙ (ap (λ k. joined_box k r) el ∙ ap (joined_box (joined_box a b)) er)))
    (near_both n (joined_box a b) (joined_box c d) (near_both n a b ha hb) (near_both n c d hc hd))

pub box_corners : (box : Frame) → IsBoxUpTo (2 ^ 44) box → IsWithin (2 ^ 53) (low_corner box) × IsWithin (2 ^ 53) (high_corner box)
box_corners box near = (
  record {
    x_low = omega (arith, ints, near.x0.low);
    x_high = omega (arith, ints, near.x0.high);
    y_low = omega
        (arith, ints, near.y0.low);
    y_high = omega (arith, ints, near.y0.high);
  },
  record {
    x_low = omega (arith, ints, near.x1.low);
    x_high = omega (arith, ints, near.x1.high);
    y_low = omega
        (arith, ints, near.y1.low);
    y_high = omega (arith, ints, near.y1.high);
  },
)

-- one more piece
pieces_wider : (a b : Frame) (pieces : List Trapezoid) → AllByRecursion (λ piece. IsQuadIn a (corners_of piece)) pieces
    → AllByRecursion (λ piece. IsQuadIn (joined_box a b) (corners_of piece)) pieces
pieces_wider a b [] all = tt
pieces_wider a b (piece ∷ pieces) all = (quad_left a b (corners_of piece) all.0, pieces_wider a b pieces all.1)

pieces_last : (a b : Frame) (pieces : List Trapezoid) (last : Trapezoid)
    → AllByRecursion (λ piece. IsQuadIn a (corners_of piece)) pieces → IsQuadIn b (corners_of last)
    → AllByRecursion (λ piece. IsQuadIn (joined_box a b) (corners_of piece)) (pieces ++ last ∷ [])
pieces_last a b [] last all h = (quad_right a b (corners_of last) h, tt)
pieces_last a b (piece ∷ pieces) last all h = (quad_left a b (corners_of piece) all.0, pieces_last a b pieces last all.1 h)

abbrev pub AreIn : Frame → List Trapezoid → Type 0
AreIn box pieces = All (λ piece. IsQuadIn box (corners_of piece)) pieces

pub more_in : (a b box : Frame) (pieces : List Trapezoid) (last : Trapezoid) → AreIn a pieces
    → IsQuadIn b (corners_of last) → box ≡ joined_box a b → AreIn box (pieces ++ last ∷ [])
more_in a b box pieces last all h is =
    subst (λ k. AreIn k (pieces ++ last ∷ [])) (sym is)
    (All-from_recursion (λ piece. IsQuadIn (joined_box a b) (corners_of piece)) (pieces ++ last ∷ [])
    (pieces_last a b pieces last (recursion_from_All (λ piece. IsQuadIn a (corners_of piece)) pieces all) h))

pub one_in : (box : Frame) (piece : Trapezoid) → IsQuadIn box (corners_of piece) → AreIn box (piece ∷ [])
one_in box piece h = All-from_recursion (λ piece. IsQuadIn box (corners_of piece)) (piece ∷ []) (h, tt)

-- ---- the pieces of a shape

sum_in : (a b : Frame) (p by : Point) → IsInBox a p → IsInBox b by → IsInBox (summed_box a b) (moved by p)
sum_in a b p by h k =
    record {
      left = omega (arith, ints, h.left, k.left);
      bottom = omega (arith, ints, h.bottom, k.bottom);
      right =
          omega (arith, ints, h.right, k.right);
      top = omega (arith, ints, h.top, k.top);
    }

moved_in : (a b : Frame) (by : Point) (pieces : List Trapezoid) → IsInBox b by → AllByRecursion (λ piece. IsQuadIn a (corners_of piece)) pieces
    → AllByRecursion (IsQuadIn (summed_box a b)) (map (λ piece. moved_quad by (corners_of piece)) pieces)
moved_in a b by [] k all = tt
moved_in a b by (piece ∷ pieces) k all = (
  record {
    a = sum_in a b (corners_of piece).a by all.0.a k;
    b = sum_in a b (corners_of piece).b by all.0.b k;
    c =
        sum_in a b (corners_of piece).c by all.0.c k;
    d = sum_in a b (corners_of piece).d by all.0.d k;
  },
  moved_in a b by pieces k all.1,
)

all_both : {X : Type 0} (P : X → Type 0) (xs ys : List X) → AllByRecursion P xs → AllByRecursion P ys → AllByRecursion P (xs ++ ys)
all_both P [] ys h k = k
all_both P (x ∷ xs) ys h k = (h.0, all_both P xs ys h.1 k)

at_all : (a b : Frame) (offsets : List Point) (pieces : List Trapezoid) → AllByRecursion (IsInBox b) offsets
    → AllByRecursion (λ piece. IsQuadIn a (corners_of piece)) pieces
    → AllByRecursion (IsQuadIn (summed_box a b)) (flat_map (λ by. map (λ piece. moved_quad by (corners_of piece)) pieces) offsets)
at_all a b [] pieces k all = tt
at_all a b (by ∷ offsets) pieces k all =
    all_both (IsQuadIn (summed_box a b)) (map (λ piece. moved_quad by (corners_of piece)) pieces)
    (flat_map (λ by. map (λ piece. moved_quad by (corners_of piece)) pieces) offsets)
    (moved_in a b by pieces k.0 all) (at_all a b offsets pieces k.1 all)

up_sum : (y z : ℤ) → IsUpTo (2 ^ 44) y → IsUpTo (2 ^ 44) z → IsUpTo (2 ^ 53) (y +ℤ z)
up_sum y z h k = record { low = omega (arith, ints, h.low, k.low); high = omega (arith, ints, h.high, k.high) }

pub shape_boxed : (shape : Shape) (pieces : List Trapezoid) (a b box : Frame) → AreIn a pieces
    → All (IsInBox b) shape.offsets → IsBoxUpTo (2 ^ 44) a → IsBoxUpTo (2 ^ 44) b → box ≡ summed_box a b
    → HasBox shape pieces box
shape_boxed shape pieces a b box all around near by is =
    subst (HasBox shape pieces) (sym is) (record {
      around = All-from_recursion (IsQuadIn (summed_box a b)) (pieces_of_shape shape pieces)
          (at_all a b shape.offsets pieces (recursion_from_All (IsInBox b) shape.offsets around)
          (recursion_from_All (λ piece. IsQuadIn a (corners_of piece)) pieces all));
      near = record {
        x0 = up_sum a.x0 b.x0 near.x0 by.x0;
        y0 = up_sum a.y0 b.y0 near.y0 by.y0;
        x1 =
            up_sum a.x1 b.x1 near.x1 by.x1;
        y1 = up_sum a.y1 b.y1 near.y1 by.y1;
      };
    })

no_pieces_at : (P : Corners → Type 0) (offsets : List Point) → AllByRecursion P (flat_map (λ by. map (λ piece. moved_quad by (corners_of piece)) []) offsets)
no_pieces_at P [] = tt
no_pieces_at P (by ∷ offsets) = no_pieces_at P offsets

pub bare_boxed : (shape : Shape) (box : Frame) → IsBoxUpTo (2 ^ 44) box → HasBox shape [] box
bare_boxed shape box near = record {
  around = All-from_recursion (IsQuadIn box) (pieces_of_shape shape []) (no_pieces_at (IsQuadIn box) shape.offsets);
  near = record {
    x0 = record { low = omega (arith, ints, near.x0.low); high = omega (arith, ints, near.x0.high) };
    y0 = record { low = omega (arith, ints, near.y0.low); high = omega (arith, ints, near.y0.high) };
    x1 = record { low = omega (arith, ints, near.x1.low); high = omega (arith, ints, near.x1.high) };
    y1 = record { low = omega (arith, ints, near.y1.low); high = omega (arith, ints, near.y1.high) };
  };
}

-- some corner of the box is a place, and places are near
pub places_near : (offsets : List Point) (box : Frame) → AreOffsets offsets → IsLeastBoxOf offsets box → IsBoxUpTo (2 ^ 44) box
places_near offsets box are least = record {
  x0 = up_by (λ p. p.x) offsets box.x0
      (λ p near. record { low = omega (arith, ints, near.x_low); high = omega (arith, ints, near.x_high) }) are.moves
      least.left;
  y0 = up_by (λ p. p.y) offsets box.y0
      (λ p near. record { low = omega (arith, ints, near.y_low); high = omega (arith, ints, near.y_high) }) are.moves
      least.bottom;
  x1 = up_by (λ p. p.x) offsets box.x1
      (λ p near. record { low = omega (arith, ints, near.x_low); high = omega (arith, ints, near.x_high) }) are.moves
      least.right;
  y1 = up_by (λ p. p.y) offsets box.y1
      (λ p near. record { low = omega (arith, ints, near.y_low); high = omega (arith, ints, near.y_high) }) are.moves
      least.top;
}
  where
    up_by : (f : Point → ℤ) (offsets : List Point) (z : ℤ)
        → ((p : Point) → IsWithin (2 ^ 41) p → IsUpTo (2 ^ 44) (f p)) → All IsMove offsets → Any (λ p. f p ≡ z) offsets
        → IsUpTo (2 ^ 44) z
    up_by f offsets z each moves some =
        subst (IsUpTo (2 ^ 44)) some.4
        (each some.1 (slot_all IsMove offsets some.0 some.1 moves
        (slice_get-get_or offsets some.0 some.1 some.2 ∙ ap Some some.3)).near)

-- ---- shapes, one by one

pub boxed_more : (shapes : List Shape) (lists : List (List Trapezoid)) (boxes : List Frame) (shape : Shape)
    (pieces : List Trapezoid) (box : Frame) → AreBoxed shapes lists boxes → slice_get shapes (length boxes) ≡ Some shape
    → slice_get lists (length boxes) ≡ Some pieces → HasBox shape pieces box → AreBoxed shapes lists (boxes ++ box ∷ [])
boxed_more [] lists boxes shape pieces box are here there has = absurd (none-some shape here)
boxed_more (s ∷ shapes) [] boxes shape pieces box are here there has = absurd (none-some pieces there)
boxed_more (s ∷ shapes) (l ∷ lists) [] shape pieces box are here there has = (
  subst (λ k. HasBox k l box) (sym (same_Some s shape here))
      (subst (λ k. HasBox shape k box) (sym (same_Some l pieces there)) has),
  tt,
)
boxed_more (s ∷ shapes) (l ∷ lists) (b ∷ boxes) shape pieces box are here there has =
    (are.0, boxed_more shapes lists boxes shape pieces box are.1 here there has)

pub boxed_none : (shapes : List Shape) (lists : List (List Trapezoid)) → AreBoxed shapes lists []
boxed_none [] lists = tt
boxed_none (s ∷ shapes) [] = tt
boxed_none (s ∷ shapes) (l ∷ lists) = tt

get_pushed : {X : Type 0} (xs : List X) (x none : X) (n : ℕ) (P : ℕ → X → Type 0) → P (length xs) x
    → ((k : ℕ) → P k (get_or xs k none)) → P n (get_or (xs ++ x ∷ []) n none)
get_pushed [] x none zero P h each = h
get_pushed [] x none (suc n) P h each = each (suc n)
get_pushed (y ∷ xs) x none zero P h each = each 0
get_pushed (y ∷ xs) x none (suc n) P h each = get_pushed xs x none n (λ k. P (suc k)) h (λ k. each (suc k))

-- the boxes of one more cell
pub cells_more : (cells : List Cell) (table : List (List (List Trapezoid))) (boxes : List (List Frame))
    (new : List Frame) → ((n : ℕ) → AreBoxed (shapes_at cells n) (lists_at table n) (boxes_at boxes n))
    → AreBoxed (shapes_at cells (length boxes)) (lists_at table (length boxes)) new → (n : ℕ)
    → AreBoxed (shapes_at cells n) (lists_at table n) (boxes_at (boxes ++ new ∷ []) n)
cells_more cells table boxes new all here = λ n. get_pushed boxes new [] n (λ k list. AreBoxed (shapes_at cells k) (lists_at table k) list) here all

pub spots_more : (cells : List Cell) (top : ℕ) (boxes : List (List Frame)) (new : List Frame)
    → ((n : ℕ) → IsReachable cells top n → AreSpots cells (placements_at cells n) (boxes_at boxes n))
    → (IsReachable cells top (length boxes) → AreSpots cells (placements_at cells (length boxes)) new) → (n : ℕ)
    → IsReachable cells top n → AreSpots cells (placements_at cells n) (boxes_at (boxes ++ new ∷ []) n)
spots_more cells top boxes new all here = λ n. get_pushed boxes new [] n
    (λ k list. IsReachable cells top k → AreSpots cells (placements_at cells k) list) here all

pub no_spots : (cells : List Cell) (placements : List Placement) → AreSpots cells placements []
no_spots cells placements = λ k placement box p here there vertex. absurd (none-some box there)

-- no boxes
pub none_boxed : (cells : List Cell) (top : ℕ) (table : List (List (List Trapezoid))) → AreAllBoxed cells top table (record { shapes = []; spots = [] })
none_boxed cells top table =
    record {
      shapes = λ n. boxed_none (shapes_at cells n) (lists_at table n);
      spots = λ n reach. no_spots cells
          (placements_at cells n);
    }

-- the boxes of shapes are near
pub boxed_all_near : (shapes : List Shape) (lists : List (List Trapezoid)) (boxes : List Frame) → AreBoxed shapes lists boxes → AreNear boxes
boxed_all_near shapes lists [] boxed k box there = absurd (none-some box there)
boxed_all_near [] lists (b ∷ boxes) boxed k box there = absurd boxed
boxed_all_near (s ∷ shapes) [] (b ∷ boxes) boxed k box there = absurd boxed
boxed_all_near (s ∷ shapes) (l ∷ lists) (b ∷ boxes) boxed zero box there = subst (IsBoxUpTo (2 ^ 53)) (same_Some b box there) boxed.0.near
boxed_all_near (s ∷ shapes) (l ∷ lists) (b ∷ boxes) boxed (suc k) box there = boxed_all_near shapes lists boxes boxed.1 k box there

-- ---- what is passed by

pub box_hides : (w : RowRange) (orient : Orient) (at : Point) (low high : ℤ) (box : Frame)
    → ((p : Point) → IsInBox box p → IsBetweenRows orient low high p)
    → int_lt (int_max w.y0 (low +ℤ at.y)) (int_min w.y1 (high +ℤ at.y)) ≡ false
    → (q : Corners) → IsQuadIn box q → has_row_in w (quad_image orient at q) ≡ false
box_hides w orient at low high box each apart q inside =
    quad_hidden w orient at low high q (record { a = each q.a inside.a; b = each q.b inside.b; c = each q.c inside.c; d = each q.d inside.d }) apart

hidden_list : (w : RowRange) (orient : Orient) (at : Point) (box : Frame) (quads : List Corners)
    → ((q : Corners) → IsQuadIn box q → has_row_in w (quad_image orient at q) ≡ false)
    → AllByRecursion (IsQuadIn box) quads
    → filter (shows_in w) (map Some (map (quad_image orient at) quads)) ≡ []
hidden_list w orient at box [] hides all = refl
hidden_list w orient at box (q ∷ quads) hides all = rw (hides q all.0) (hidden_list w orient at box quads hides all.1)

all_right : {X : Type 0} (P : X → Type 0) (xs ys : List X) → AllByRecursion P (xs ++ ys) → AllByRecursion P ys
all_right P [] ys all = all
all_right P (x ∷ xs) ys all = all_right P xs ys all.1

all_dropped : {X Y : Type 0} (P : Y → Type 0) (f : X → List Y) (xs : List X) (k : ℕ) → AllByRecursion P (flat_map f xs)
    → AllByRecursion P (flat_map f (drop k xs))
all_dropped P f [] zero all = tt
all_dropped P f [] (suc k) all = tt
all_dropped P f (x ∷ xs) zero all = all
all_dropped P f (x ∷ xs) (suc k) all = all_dropped P f xs k (all_right P (f x) (flat_map f xs) all)

rest_in : (box : Frame) (pair : Pair) (shape : Shape) (pieces : List Trapezoid) (place : ℕ)
    → AllByRecursion (IsQuadIn box) (pieces_of_shape shape pieces)
    → AllByRecursion (IsQuadIn box) (places_rest pair shape pieces place)
rest_in box pair shape pieces place all = by_test (is_on pair shape)
  where
    by_test : (on : Bool)
        → AllByRecursion (IsQuadIn box)
        (if on then flat_map (λ by. map (λ piece. moved_quad by (corners_of piece)) pieces)
        (drop place shape.offsets) else [])
    by_test true = all_dropped (IsQuadIn box) (λ by. map (λ piece. moved_quad by (corners_of piece)) pieces) shape.offsets place all
    by_test false = tt

pub box_shows_none : (w : RowRange) (orient : Orient) (at : Point) (pair : Pair) (shape : Shape)
    (pieces : List Trapezoid) (place : ℕ) (box : Frame)
    → ((q : Corners) → IsQuadIn box q → has_row_in w (quad_image orient at q) ≡ false) → HasBox shape pieces box
    → ShowsNothing w orient at pair shape pieces place
box_shows_none w orient at pair shape pieces place box hides has =
    hidden_list w orient at box (places_rest pair shape pieces place) hides
    (rest_in box pair shape pieces place
    (recursion_from_All (IsQuadIn box) (pieces_of_shape shape pieces) has.around))

-- a shape that has no more places shows nothing
pub places_past : (pair : Pair) (shape : Shape) (pieces : List Trapezoid) (place : ℕ) → length shape.offsets ≤ place → places_rest pair shape pieces place ≡ []
places_past pair shape pieces place past = by_test (is_on pair shape)
  where
    by_test : (on : Bool) → (if on then flat_map (λ by. map (λ piece. moved_quad by (corners_of piece)) pieces) (drop place shape.offsets) else []) ≡ []
    by_test true = ap (flat_map (λ by. map (λ piece. moved_quad by (corners_of piece)) pieces)) (drop_past shape.offsets place past)
    by_test false = refl

-- the first shape shows nothing
pub shape_passed : (w : RowRange) (before : List (Option Corners)) (orient : Orient) (at : Point) (pair : Pair)
    (shapes rest : List Shape) (shape : Shape) (lists later : List (List Trapezoid)) (pieces : List Trapezoid)
    (place : ℕ)
    → shapes ≡ shape ∷ rest → lists ≡ pieces ∷ later → ShowsNothing w orient at pair shape pieces place
    → Skips w before (map Some (placed_rest orient at pair shapes lists place)) → Skips w before (map Some (placed_rest orient at pair rest later 0))
shape_passed w before orient at pair shapes rest shape lists later pieces place is are none s =
    let here = map (quad_image orient at) (places_rest pair shape pieces place) in
    let after = map (quad_image orient at) (pieces_of_shapes pair rest later) in
    let e : map Some (placed_rest orient at pair shapes lists place) ≡ map Some here ++ map Some after =
    rw (is, are) (ap (map Some) (placed_rest_is orient at pair shape rest pieces later place) ∙ marks_apart here after) in
    let last : map Some after ≡ map Some (placed_rest orient at pair rest later 0) = ap
    (λ l. map Some (map (quad_image orient at) l)) (sym (shapes_from_first pair rest later)) in
    subst (Skips w before) last
    (skip_on w before (map Some (placed_rest orient at pair shapes lists place)) (map Some after) s
    (subst (λ l. Skips w l (map Some after)) (sym e) (skip_front w (map Some here) (map Some after) none)))

-- ---- the places of a shape

pieces_hidden : (w : RowRange) (orient : Orient) (spot : Point) (low high : ℤ) (box : Frame) (pieces : List Trapezoid)
    → ((p : Point) → IsInBox box p → IsBetweenRows orient low high p)
    → AllByRecursion (λ piece. IsQuadIn box (corners_of piece)) pieces
    → int_lt (int_max w.y0 (low +ℤ spot.y)) (int_min w.y1 (high +ℤ spot.y)) ≡ false
    → filter (shows_in w) (map Some (placed_list orient spot pieces)) ≡ []
pieces_hidden w orient spot low high box [] each all apart = refl
pieces_hidden w orient spot low high box (piece ∷ pieces) each all apart =
    rw (box_hides w orient spot low high box each apart (corners_of piece) all.0) (pieces_hidden w orient spot low high box pieces each all.1 apart)

place_passed : (w : RowRange) (before : List (Option Corners)) (orient : Orient) (at by : Point) (pair : Pair)
    (shape : Shape) (rest : List Shape) (pieces : List Trapezoid) (later : List (List Trapezoid)) (place : ℕ)
    → slice_get shape.offsets place ≡ Some by → filter (shows_in w) (map Some (placed_list orient (image_of orient at by) pieces)) ≡ []
    → Skips w before (map Some (placed_rest orient at pair (shape ∷ rest) (pieces ∷ later) place))
    → Skips w before (map Some (placed_rest orient at pair (shape ∷ rest) (pieces ∷ later) (place + 1)))
place_passed w before orient at by pair shape rest pieces later place here hidden s = by_test (is_on pair shape) refl
  where
    after : List Corners
    after = map (quad_image orient at) (pieces_of_shapes pair rest later)

    next : List Corners
    next = map (quad_image orient at) (places_rest pair shape pieces (place + 1))

    by_test : (on : Bool) → is_on pair shape ≡ on → Skips w before (map Some (placed_rest orient at pair (shape ∷ rest) (pieces ∷ later) (place + 1)))
    by_test true on =
        let shown = placed_list orient (image_of orient at by) pieces in
        let e : map Some (placed_rest orient at pair (shape ∷ rest) (pieces ∷ later) place) ≡ map Some shown ++ map Some (next ++ after) =
        ap (map Some) (placed_rest_is orient at pair shape rest pieces later place
        ∙ (ap (λ l. l ++ after) (places_on orient at by pair shape pieces place on here)
        ∙ append_assoc shown next after)) ∙ marks_apart shown (next ++ after) in
        subst (Skips w before) (ap (map Some) (sym (placed_rest_is orient at pair shape rest pieces later (place + 1))))
        (skip_on w before (map Some (placed_rest orient at pair (shape ∷ rest) (pieces ∷ later) place)) (map Some (next ++ after)) s
        (subst (λ l. Skips w l (map Some (next ++ after))) (sym e) (skip_front w (map Some shown) (map Some (next ++ after)) hidden)))
    by_test false off =
        let e : placed_rest orient at pair (shape ∷ rest) (pieces ∷ later) place ≡ placed_rest orient at pair (shape ∷ rest) (pieces ∷ later) (place + 1) =
        placed_rest_is orient at pair shape rest pieces later place
        ∙ (ap (λ l. map (quad_image orient at) l ++ after)
        (places_off pair shape pieces place off ∙ sym (places_off pair shape pieces (place + 1) off)) ∙ sym
        (placed_rest_is orient at pair shape rest pieces later (place + 1))) in
        subst (λ l. Skips w before (map Some l)) e s

-- the places from one on up to below another
pub places_over : (w : RowRange) (before : List (Option Corners)) (orient : Orient) (at : Point) (low high : ℤ)
    (box : Frame) (pair : Pair) (shape : Shape) (rest : List Shape) (pieces : List Trapezoid)
    (later : List (List Trapezoid))
    (many from : ℕ) → ((p : Point) → IsInBox box p → IsBetweenRows orient low high p) → AreIn box pieces → from + many ≤ length shape.offsets
    → ((k : ℕ) (by : Point) → from ≤ k → k < from + many → slice_get shape.offsets k ≡ Some by
    → int_lt (int_max w.y0 (low +ℤ (image_of orient at by).y)) (int_min w.y1 (high +ℤ (image_of orient at by).y))
    ≡ false)
    → Skips w before (map Some (placed_rest orient at pair (shape ∷ rest) (pieces ∷ later) from))
    → Skips w before (map Some (placed_rest orient at pair (shape ∷ rest) (pieces ∷ later) (from + many)))
places_over w before orient at low high box pair shape rest pieces later zero from each all few none s =
    let e : from + zero ≡ from = omega arith in
    subst (λ k. Skips w before (map Some (placed_rest orient at pair (shape ∷ rest) (pieces ∷ later) k))) (sym e) s
places_over w before orient at low high box pair shape rest pieces later (suc many) from each all few none s =
    let by : Point = get_or shape.offsets from at in
    let here = slice_get-get_or shape.offsets from at (omega arith) in
    let e : (from + 1) + many ≡ from + suc many = omega arith in
    subst (λ k. Skips w before (map Some (placed_rest orient at pair (shape ∷ rest) (pieces ∷ later) k))) e
    (places_over w before orient at low high box pair shape rest pieces later many (from + 1) each all (omega arith)
    (λ k by after early there. none k by (omega arith) (omega arith) there)
    (place_passed w before orient at by pair shape rest pieces later from here
    (pieces_hidden w orient (image_of orient at by) low high box pieces each
    (recursion_from_All (λ piece. IsQuadIn box (corners_of piece)) pieces all)
    (none from by (omega arith) (omega arith) here)) s))

pub moved_by_none : (p : Point) → moved p (record { x = pos 0; y = pos 0 }) ≡ p
moved_by_none p = same_point _ _ (omega (arith, ints)) (omega (arith, ints))

-- how many steps are left at a later place
pub steps_later : (shapes rest : List Shape) (shape : Shape) (j k : ℕ) → shapes ≡ shape ∷ rest → j ≤ k → steps_from shapes k ≤ steps_from shapes j
steps_later shapes rest shape j k is less = rw is (let a = length-drop j shape.offsets in let b = length-drop k shape.offsets in omega (arith, a, b, less))

-- the first shape shows nothing before a later place
pub places_passed : (w : RowRange) (orient : Orient) (at : Point) (low high : ℤ) (box : Frame) (pair : Pair)
    (shapes rest : List Shape) (shape : Shape) (lists later : List (List Trapezoid)) (pieces : List Trapezoid)
    (from end : ℕ)
    → shapes ≡ shape ∷ rest → lists ≡ pieces ∷ later → ((p : Point) → IsInBox box p → IsBetweenRows orient low high p)
    → AreIn box pieces → from ≤ end → end ≤ length shape.offsets
    → ((k : ℕ) (by : Point) → from ≤ k → k < end → slice_get shape.offsets k ≡ Some by
    → int_lt (int_max w.y0 (low +ℤ (image_of orient at by).y)) (int_min w.y1 (high +ℤ (image_of orient at by).y))
    ≡ false)
    → Skips w (map Some (placed_rest orient at pair shapes lists from)) (map Some (placed_rest orient at pair shapes lists end))
places_passed w orient at low high box pair shapes rest shape lists later pieces from end is are each all less few none =
    let many : ℕ = end - from in
    let e : from + many ≡ end = omega (arith, less) in
    rw (is, are) (subst (λ k. Skips w (map Some (placed_rest orient at pair (shape ∷ rest) (pieces ∷ later) from))
    (map Some (placed_rest orient at pair (shape ∷ rest) (pieces ∷ later) k))) e
    (places_over w (map Some (placed_rest orient at pair (shape ∷ rest) (pieces ∷ later) from)) orient at low high box
    pair shape rest pieces later many from each all (omega (arith, e, few))
    (λ k by after early here. none k by after (omega (arith, e, early)) here) (skip_same w _ _ refl)))
