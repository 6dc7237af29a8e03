-- Lists of boxes, and the shapes and placements that are passed by.
use Rattle.std.specs.Int.{int_min, int_max}
use Rattle.std.proofs.Common.{◌≡◌, ◌≤ℤ◌, ◌+ℤ◌, ◌-ℤ◌, int_lt, ℤ, ◌⊎◌, inl, inr, ℕ, zero, suc, pos, ◌+◌, ◌-◌, ◌*◌, ◌^◌, ◌<◌, ◌≤◌, false, List}
use Rattle.std.proofs.Common.{[], ◌∷◌, ◌++◌, Option, Some, None, IfSome, All, map, drop, length, slice_get, get_or}
use Rattle.std.proofs.Common.{refl, sym, ap, subst, ◌∙◌, arith, length-append}
use Rattle.std.specs.List.{filter, AllByRecursion}
use Rattle.std.proofs.lemmas.Int.{ints, clamps}
use Rattle.std.proofs.lemmas.List.{length-drop}
use Rattle.std.proofs.lemmas.List.Elements.{recursion_from_All, All-tail, All-weaker}
use Rattle.std.proofs.lemmas.Option.{none-some, same_Some, slice_get-get_or}
use Rattle.half_grid.specs.Quads.{Corners}
use Rattle.half_grid.specs.Trapezoids.{Trapezoid}
use Rattle.half_grid.specs.Windows.{RowRange}
use Rattle.half_grid.specs.declared.plane.Point.{Point}
use Rattle.half_grid.specs.declared.extent.Frame.{Frame}
use Rattle.layout_model.specs.Hulls.{IsInBox}
use Rattle.layout_model.specs.Images.{image_of, moved}
use Rattle.layout_model.specs.Layouts.{IsShapeOnGrid}
use Rattle.layout_model.specs.declared.pair.Pair.{Pair}
use Rattle.layout_model.specs.declared.orient.Orient.{Orient}
use Rattle.layout_model.specs.declared.shapes.Shape.{Shape}
use Rattle.layout_model.specs.declared.cells.Placement.{Placement}
use Rattle.layout_model.specs.declared.cells.Cell.{Cell}
use Rattle.cell_tree.specs.Boxes.{IsBoxUpTo, joined_box}
use Rattle.cell_tree.specs.Cells.{placements_at, cell_number}
use Rattle.cell_tree.specs.Chains.{IsReachable}
use Rattle.cell_tree.specs.Flattening.{IsVertex, placed_things}
use Rattle.cell_tree.specs.Spots.{IsSpotVertex}
use Rattle.cell_tree.proofs.ForCallers.{reach_more}
use Rattle.flat_walk.specs.Blocks.{IsRound, IsBeside, AreRowsFor, IsRoundThose, AreBlocks, ShowNothing}
use Rattle.flat_walk.specs.Boxes.{IsQuadIn, HasBox, AreBoxed, AreNear, AreSpots}
use Rattle.flat_walk.specs.Hands.{steps_from}
use Rattle.flat_walk.specs.Poses.{IsPlain}
use Rattle.flat_walk.specs.ShortBoxes.{side_of}
use Rattle.flat_walk.specs.declared.short_boxes.KeptRows.{KeptRows}
use Rattle.flat_walk.specs.Quads.{quad_image, has_row_in}
use Rattle.flat_walk.specs.Walks.{pieces_of_shape}
use Rattle.flat_walk.specs.Rests.{Skips, marked_image, shows_in, placed_rest}
use Rattle.flat_walk.specs.Ways.{IsScene, cells_of, marked_of, things_at, placements_rest}
use Rattle.flat_walk.specs.declared.scenes.Scene.{Scene}
use Rattle.flat_walk.proofs.AllThings.{each_map, each_flat}
use Rattle.flat_walk.proofs.Amid.{IsAmid, IsSpanned, spanned_image}
use Rattle.flat_walk.proofs.BoxLemmas.{box_hides, box_shows_none, shape_passed}
use Rattle.flat_walk.proofs.RestLemmas.{skip_on, skip_same, skip_front, steps_skip}
use Rattle.flat_walk.proofs.ShowLemmas.{nothing_shown, plain_point}
use Rattle.flat_walk.proofs.SpanLemmas.{marked_spanned}
use Rattle.flat_walk.proofs.WayLemmas.{things_are_placed, placements_step, placements_end}

-- ---- lists

-- what holds of the elements and of one more holds of each
pub slot_pushed : {X : Type 0} (xs : List X) (x y : X) (k : ℕ) (P : ℕ → X → Type 0)
    → slice_get (xs ++ x ∷ []) k ≡ Some y → P (length xs) x → ((k : ℕ) (y : X) → slice_get xs k ≡ Some y → P k y)
    → P k y
slot_pushed [] x y zero P at here each = subst (P 0) (same_Some x y at) here
slot_pushed [] x y (suc k) P at here each = absurd (none-some y at)
slot_pushed (z ∷ xs) x y zero P at here each = each 0 y at
slot_pushed (z ∷ xs) x y (suc k) P at here each = slot_pushed xs x y k (λ i. P (suc i)) at here (λ i w h. each (suc i) w h)

drop_none : {X : Type 0} (n : ℕ) (none : List X) → length none ≡ 0 → drop n none ≡ none
drop_none zero none e = refl
drop_none (suc n) [] e = refl
drop_none (suc n) (x ∷ xs) e = absurd (omega (arith, e))

-- all but some of all but some
pub drop_on : {X : Type 0} (n c m : ℕ) (xs : List X) → m ≡ n + c → drop c (drop n xs) ≡ drop m xs
drop_on zero c m xs e = ap (λ k. drop k xs) (let f : c ≡ m = omega (arith, e) in f)
drop_on (suc n) c m [] e = drop_none c [] refl ∙ sym (drop_none m [] refl)
drop_on (suc n) c zero (x ∷ xs) e = absurd (omega (arith, e))
drop_on (suc n) c (suc m) (x ∷ xs) e = drop_on n c m xs (omega (arith, e))

slot_drop : {X : Type 0} (n k m : ℕ) (xs : List X) (x : X) → m ≡ n + k → slice_get (drop n xs) k ≡ Some x → slice_get xs m ≡ Some x
slot_drop zero k m xs x e at = subst (λ i. slice_get xs i ≡ Some x) (let f : k ≡ m = omega (arith, e) in f) at
slot_drop (suc n) k m [] x e at = absurd (none-some x at)
slot_drop (suc n) k zero (y ∷ xs) x e at = absurd (omega (arith, e))
slot_drop (suc n) k (suc m) (y ∷ xs) x e at = slot_drop n k m xs x (omega (arith, e)) at

-- ---- lists of boxes

pub none_near : AreNear []
none_near k box there = absurd (none-some box there)

pub near_more : (boxes : List Frame) (new : Frame) → AreNear boxes → IsBoxUpTo (2 ^ 53) new → AreNear (boxes ++ new ∷ [])
near_more boxes new are near k box there = slot_pushed boxes new box k (λ i f. IsBoxUpTo (2 ^ 53) f) there near are

pub spot_more : (cells : List Cell) (placements : List Placement) (boxes : List Frame) (new : Frame) → AreSpots cells placements boxes
    → ((placement : Placement) (p : Point) → slice_get placements (length boxes) ≡ Some placement
    → IsSpotVertex cells placement p → IsInBox new p) → AreSpots cells placements (boxes ++ new ∷ [])
spot_more cells placements boxes new are last k placement box p here there vertex =
    slot_pushed boxes new box k (λ i f. slice_get placements i ≡ Some placement → IsInBox f p) there
    (λ at. last placement p at vertex) (λ i f at on. are i placement f p on at vertex) here

-- ---- rows of a window in a cell that is only moved

pub both_some : {X : Type 0} (found : Option X) (P Q R : X → Type 0) → IfSome found P → IfSome found Q → ((x : X) → P x → Q x → R x) → IfSome found R
both_some (Some x) P Q R p q r = r x p q
both_some None P Q R p q r = tt

rows_apart : (w : RowRange) (y bottom top : ℤ) (rows : KeptRows) (box : Frame) → bottom ≡ w.y0 -ℤ y → top ≡ w.y1 -ℤ y
    → side_of rows.low ≤ℤ bottom → top ≤ℤ side_of rows.high → IsBeside rows box
    → int_lt (int_max w.y0 (box.y0 +ℤ y)) (int_min w.y1 (box.y1 +ℤ y)) ≡ false
rows_apart w y bottom top rows box eb et under over (inl h) = grind (arith, ints, clamps, eb, et, under, over, h)
rows_apart w y bottom top rows box eb et under over (inr h) = grind (arith, ints, clamps, eb, et, under, over, h)

pub rows_hide : (w : RowRange) (orient : Orient) (at : Point) (bottom top : ℤ) (rows : KeptRows) → IsPlain orient
    → bottom ≡ w.y0 -ℤ at.y → top ≡ w.y1 -ℤ at.y → side_of rows.low ≤ℤ bottom → top ≤ℤ side_of rows.high → AreRowsFor w orient at rows
rows_hide w orient at bottom top rows plain eb et under over = λ box q beside inside.
    box_hides w orient at box.y0 box.y1 box
    (λ p h. record {
      above = subst (λ r. box.y0 ≤ℤ r.y) (sym (plain_point orient p plain.flip plain.turns plain.mag)) h.bottom;
      below = subst (λ r. r.y ≤ℤ box.y1) (sym (plain_point orient p plain.flip plain.turns plain.mag)) h.top;
    })
    (rows_apart w at.y bottom top rows box eb et under over beside) q inside

-- ---- boxes round boxes

pub round_itself : (box : Frame) → IsRound box box
round_itself box = record { left = omega (arith, ints); bottom = omega (arith, ints); right = omega (arith, ints); top = omega (arith, ints) }

round_left : (a b box : Frame) → IsRound a box → IsRound (joined_box a b) box
round_left a b box r = let l = r.left in let c = r.bottom in let d = r.right in let e = r.top in
    record {
      left = omega (arith, ints, clamps, l);
      bottom = omega (arith, ints, clamps, c);
      right = omega
          (arith, ints, clamps, d);
      top = omega (arith, ints, clamps, e);
    }

round_right : (a b : Frame) → IsRound (joined_box a b) b
round_right a b = record {
  left = omega (arith, ints, clamps);
  bottom = omega (arith, ints, clamps);
  right = omega
      (arith, ints, clamps);
  top = omega (arith, ints, clamps);
}

lt_or : (k n : ℕ) → k < n + 1 → (k < n) ⊎ (k ≡ n)
lt_or zero zero h = inr refl
lt_or zero (suc n) h = inl (omega arith)
lt_or (suc k) zero h = absurd (omega (arith, h))
lt_or (suc k) (suc n) h = elim (lt_or k n (omega (arith, h))) [ inl l ↦ inl (omega (arith, l)) | inr e ↦ inr (ap suc e) ]

-- one more box
pub round_more : (boxes : List Frame) (from end : ℕ) (a b box : Frame) → IsRoundThose boxes from end a
    → slice_get boxes end ≡ Some b → box ≡ joined_box a b → IsRoundThose boxes from (end + 1) box
round_more boxes from end a b box those there is k c after early at = subst (λ f. IsRound f c) (sym is) (elim (lt_or k end early) [
  | inl before ↦ round_left a b c (those k c after before at)
  | inr here ↦ subst (IsRound (joined_box a b)) (same_Some b c (sym there ∙ (ap (slice_get boxes) (sym here) ∙ at))) (round_right a b)
])

-- one box alone
pub round_one : (boxes : List Frame) (from end : ℕ) (a : Frame) → end ≡ from + 1 → slice_get boxes from ≡ Some a → IsRoundThose boxes from end a
round_one boxes from end a is there k c after early at =
    let e : from ≡ k = omega (arith, is, after, early) in
    subst (IsRound a) (same_Some a c (sym there ∙ (ap (slice_get boxes) e ∙ at))) (round_itself a)

pub point_round : (block box : Frame) (p : Point) → IsRound block box → IsInBox box p → IsInBox block p
point_round block box p r h = record {
  left = omega (arith, ints, r.left, h.left);
  bottom = omega (arith, ints, r.bottom, h.bottom);
  right = omega (arith, ints, r.right, h.right);
  top = omega (arith, ints, r.top, h.top);
}

quad_round : (block box : Frame) (q : Corners) → IsRound block box → IsQuadIn box q → IsQuadIn block q
quad_round block box q r inside =
    record {
      a = point_round block box q.a r inside.a;
      b = point_round block box q.b r inside.b;
      c = point_round block box q.c r inside.c;
      d = point_round block box q.d r inside.d;
    }

-- a box round that of a shape
pub has_round : (shape : Shape) (pieces : List Trapezoid) (block box : Frame) → IsRound block box
    → IsBoxUpTo (2 ^ 53) block → HasBox shape pieces box → HasBox shape pieces block
has_round shape pieces block box r near has = record {
  around = All-weaker (IsQuadIn box) (IsQuadIn block) (λ q. quad_round block box q r) (pieces_of_shape shape pieces) has.around;
  near = near;
}

-- where a box shows nothing, those that it is round don't
pub block_hides : (w : RowRange) (orient : Orient) (at : Point) (boxes : List Frame) (from end : ℕ) (block : Frame) → IsRoundThose boxes from end block
    → ((q : Corners) → IsQuadIn block q → has_row_in w (quad_image orient at q) ≡ false) → ShowNothing w orient at boxes from end
block_hides w orient at boxes from end block those hides = λ k box after early there q inside. hides q
    (quad_round block box q (those k box after early there) inside)

-- nothing, and then some more
pub nothing_yet : (w : RowRange) (orient : Orient) (at : Point) (boxes : List Frame) (from : ℕ) → ShowNothing w orient at boxes from from
nothing_yet w orient at boxes from k box after early there q inside = absurd (omega (arith, after, early))

le_or : (m k : ℕ) → (k < m) ⊎ (m ≤ k)
le_or zero k = inr (omega arith)
le_or (suc m) zero = inl (omega arith)
le_or (suc m) (suc k) = elim (le_or m k) [ inl h ↦ inl (omega (arith, h)) | inr h ↦ inr (omega (arith, h)) ]

pub nothing_more : (w : RowRange) (orient : Orient) (at : Point) (boxes : List Frame) (from next end : ℕ)
    → ShowNothing w orient at boxes from next → ShowNothing w orient at boxes next end
    → ShowNothing w orient at boxes from end
nothing_more w orient at boxes from next end before more k box after early there q inside =
    elim (le_or next k) [ inl h ↦ before k box after h there q inside | inr h ↦ more k box h early there q inside ]

pub nothing_there : (w : RowRange) (orient : Orient) (at : Point) (boxes : List Frame) (k end : ℕ) (box : Frame) → end ≡ k + 1 → slice_get boxes k ≡ Some box
    → ((q : Corners) → IsQuadIn box q → has_row_in w (quad_image orient at q) ≡ false) → ShowNothing w orient at boxes k end
nothing_there w orient at boxes k end box is there hides j b after early here q inside =
    let e : k ≡ j = omega (arith, is, after, early) in
    hides q (subst (λ f. IsQuadIn f q) (sym (same_Some box b (sym there ∙ (ap (slice_get boxes) e ∙ here)))) inside)

pub no_blocks : (boxes : List Frame) → AreBlocks boxes []
no_blocks boxes = record { whole = omega arith; near = none_near; around = λ b block at. absurd (none-some block at) }

-- one more block
pub blocks_more : (boxes blocks : List Frame) (block : Frame) → AreBlocks boxes blocks
    → length blocks * 64 + 64 ≤ length boxes → IsRoundThose boxes (length blocks * 64) (length blocks * 64 + 64) block
    → IsBoxUpTo (2 ^ 53) block
    → AreBlocks boxes (blocks ++ block ∷ [])
blocks_more boxes blocks block are inside those near = record {
  whole = let e = length-append blocks (block ∷ []) in omega (arith, e, inside);
  near = λ b box at. slot_pushed blocks block box b (λ i f. IsBoxUpTo (2 ^ 53) f) at near are.near;
  around = λ b box at. slot_pushed blocks block box b (λ i f. IsRoundThose boxes (i * 64) (i * 64 + 64) f) at those are.around;
}

-- ---- shapes

pub grid_rest : (count : ℕ) (shapes : List Shape) → All IsShapeOnGrid shapes → All IsShapeOnGrid (drop count shapes)
grid_rest zero shapes all = all
grid_rest (suc count) [] all = all
grid_rest (suc count) (s ∷ shapes) all = grid_rest count shapes (All-tail IsShapeOnGrid s shapes all)

-- the first shapes are passed by, since nothing in their boxes shows
pub record ArePassed (w : RowRange) (orient : Orient) (at : Point) (shapes rest : List Shape)
    (lists later : List (List Trapezoid)) (others : List Frame) (place : ℕ) : Type 0 where
  pub skips : (pair : Pair) → Skips w (map Some (placed_rest orient at pair shapes lists place)) (map Some (placed_rest orient at pair rest later 0))
  pub steps : steps_from rest 0 ≤ steps_from shapes place
  pub boxed : AreBoxed rest later others

module _ (w : RowRange) (orient : Orient) (at : Point) where
  first_passed : (pair : Pair) (s : Shape) (shapes : List Shape) (l : List Trapezoid) (lists : List (List Trapezoid))
      (b : Frame) (place : ℕ) → HasBox s l b
      → ((q : Corners) → IsQuadIn b q → has_row_in w (quad_image orient at q) ≡ false)
      → Skips w (map Some (placed_rest orient at pair (s ∷ shapes) (l ∷ lists) place)) (map Some (placed_rest orient at pair shapes lists 0))
  first_passed pair s shapes l lists b place has hides =
      shape_passed w (map Some (placed_rest orient at pair (s ∷ shapes) (l ∷ lists) place)) orient at pair
      (s ∷ shapes) shapes s (l ∷ lists) lists l place refl refl
      (box_shows_none w orient at pair s l place b hides has) (skip_same w _ _ refl)

  shapes_passed : (count : ℕ) (shapes : List Shape) (lists : List (List Trapezoid)) (boxes : List Frame) (place : ℕ)
      → AreBoxed shapes lists boxes → suc count ≤ length boxes
      → ((k : ℕ) (box : Frame) → k < suc count → slice_get boxes k ≡ Some box → (q : Corners) → IsQuadIn box q → has_row_in w (quad_image orient at q) ≡ false)
      → ArePassed w orient at shapes (drop (suc count) shapes) lists (drop (suc count) lists) (drop (suc count) boxes) place
  shapes_passed count shapes lists [] place boxed few hides = absurd (omega (arith, few))
  shapes_passed count [] lists (b ∷ boxes) place boxed few hides = absurd boxed
  shapes_passed count (s ∷ shapes) [] (b ∷ boxes) place boxed few hides = absurd boxed
  shapes_passed zero (s ∷ shapes) (l ∷ lists) (b ∷ boxes) place boxed few hides = record {
    skips = λ pair. first_passed pair s shapes l lists b place boxed.0 (hides 0 b (omega arith) refl);
    steps = steps_skip (s ∷ shapes) shapes s place refl;
    boxed = boxed.1;
  }
  shapes_passed (suc count) (s ∷ shapes) (l ∷ lists) (b ∷ boxes) place boxed few hides =
      let rest = shapes_passed count shapes lists boxes 0 boxed.1 (omega (arith, few)) (λ k box early there. hides (suc k) box (omega (arith, early)) there) in
      record {
        skips = λ pair. skip_on w _ _ _ (first_passed pair s shapes l lists b place boxed.0 (hides 0 b (omega arith) refl)) (rest.skips pair);
        steps = let h = steps_skip (s ∷ shapes) shapes s place refl in let g = rest.steps in omega (arith, h, g);
        boxed = rest.boxed;
      }

  -- the next ones of a cell, by the boxes of all of its shapes
  pub boxes_passed : (number next count : ℕ) (shapes rest : List Shape) (lists later : List (List Trapezoid))
      (boxes : List Frame) (place : ℕ) → AreBoxed shapes lists (drop number boxes) → next ≡ number + count → 1 ≤ count
      → next ≤ length boxes
      → ShowNothing w orient at boxes number next → rest ≡ drop count shapes → later ≡ drop count lists
      → ArePassed w orient at shapes rest lists later (drop next boxes) place
  boxes_passed number next count shapes rest lists later boxes place boxed is some inside none cut_shapes cut_lists =
      let c : ℕ = count - 1 in
      let e : suc c ≡ count = omega (arith, some) in
      let long = length-drop number boxes in
      let passed = shapes_passed c shapes lists (drop number boxes) place boxed (omega (arith, e, is, inside, long))
      (λ k box early there. none (number + k) box (omega arith) (omega (arith, early, e, is)) (slot_drop number k (number + k) boxes box refl there)) in
      let all = subst (λ n. ArePassed w orient at shapes (drop n shapes) lists (drop n lists) (drop n (drop number boxes)) place) e passed in
      rw (cut_shapes, cut_lists)
      (subst (λ b. ArePassed w orient at shapes (drop count shapes) lists (drop count lists) b place)
      (drop_on number count next boxes is) all)

-- ---- placements

quad_in : (box : Frame) (q : Corners) → IsSpanned (IsInBox box) q → IsQuadIn box q
quad_in box q s = record { a = amid_in q.a s.a; b = amid_in q.b s.b; c = amid_in q.c s.c; d = amid_in q.d s.d }
  where
    amid_in : (p : Point) → IsAmid (IsInBox box) p → IsInBox box p
    amid_in p amid = record {
      left = let h = amid.left.1.left in let g = amid.left.2 in omega (arith, ints, h, g);
      bottom = let h = amid.bottom.1.bottom in let g = amid.bottom.2 in omega (arith, ints, h, g);
      right = let h = amid.right.1.right in let g = amid.right.2 in omega (arith, ints, h, g);
      top = let h = amid.top.1.top in let g = amid.top.2 in omega (arith, ints, h, g);
    }

shown_none : (w : RowRange) (orient : Orient) (at : Point) (box : Frame) (items : List (Option Corners))
    → ((q : Corners) → IsQuadIn box q → has_row_in w (quad_image orient at q) ≡ false)
    → AllByRecursion (λ item. IfSome item (IsQuadIn box)) items → filter (shows_in w) (map (marked_image orient at) items) ≡ []
shown_none w orient at box [] hides all = refl
shown_none w orient at box (None ∷ items) hides all = shown_none w orient at box items hides all.1
shown_none w orient at box (Some q ∷ items) hides all = rw (hides q all.0) (shown_none w orient at box items hides all.1)

slot_none : {X : Type 0} (xs : List X) (k : ℕ) → slice_get xs k ≡ None → length xs ≤ k
slot_none [] k e = omega arith
slot_none (x ∷ xs) zero e = absurd (none-some x (sym e))
slot_none (x ∷ xs) (suc k) e = let h = slot_none xs k e in omega (arith, h)

module _ (scene : Scene) (n : ℕ) (boxes : List Frame) (sc : IsScene scene)
    (reach : IsReachable (cells_of scene) scene.tree.now.top n)
    (spots : AreSpots (cells_of scene) (placements_at (cells_of scene) n) boxes) where
  -- what a placement shows is in its box
  spot_things : (k m : ℕ) (placement : Placement) (box : Frame)
      → slice_get (placements_at (cells_of scene) n) k ≡ Some placement → slice_get boxes k ≡ Some box
      → cell_number (cells_of scene) placement.target ≡ Some m
      → AllByRecursion (λ item. IfSome item (IsQuadIn box)) (placed_things marked_image placement (marked_of scene m))
  spot_things k m placement box here there target =
      each_flat (λ item. IfSome item (IsQuadIn box)) (λ by. map (marked_image placement.orient (moved by placement.at)) (marked_of scene m)) placement.offsets
      (λ j by at. each_map (λ item. IfSome item (IsSpanned (IsVertex (cells_of scene) m scene.pair)))
      (λ item. IfSome item (IsQuadIn box)) (marked_image placement.orient (moved by placement.at))
      (marked_of scene m)
      (item_in j by at)
      (recursion_from_All (λ item. IfSome item (IsSpanned (IsVertex (cells_of scene) m scene.pair))) (marked_of scene m)
      (marked_spanned scene m sc
      (reach_more (cells_of scene) scene.tree.now.top n m reach
      (placement, record { number = k; placed = here; target = target })))))
    where
      item_in : (j : ℕ) (by : Point) → slice_get placement.offsets j ≡ Some by → (item : Option Corners)
          → IfSome item (IsSpanned (IsVertex (cells_of scene) m scene.pair))
          → IfSome (marked_image placement.orient (moved by placement.at) item) (IsQuadIn box)
      item_in j by at None h = tt
      item_in j by at (Some q) h =
          quad_in box (quad_image placement.orient (moved by placement.at) q)
          (spanned_image placement.orient (moved by placement.at) (IsVertex (cells_of scene) m scene.pair)
          (IsInBox box) q
          (λ v vertex. spots k placement box (image_of placement.orient (moved by placement.at) v) here there
          (record { target = m; targeted = target; place = j; by = by; offset = at; pair = scene.pair; v = v; vertex = vertex; is = refl })) h)

  spot_hidden : (k : ℕ) (placement : Placement) (box : Frame) (orient : Orient) (at : Point)
      → slice_get (placements_at (cells_of scene) n) k ≡ Some placement → slice_get boxes k ≡ Some box
      → ((q : Corners) → IsQuadIn box q → has_row_in scene.window (quad_image orient at q) ≡ false)
      → filter (shows_in scene.window) (map (marked_image orient at) (things_at scene placement)) ≡ []
  spot_hidden k placement box orient at here there hides = by_target (cell_number (cells_of scene) placement.target) refl
    where
      by_target : (o : Option ℕ) → cell_number (cells_of scene) placement.target ≡ o
          → filter (shows_in scene.window) (map (marked_image orient at) (things_at scene placement)) ≡ []
      by_target None e = rw e (nothing_shown scene.window orient at placement [] tt)
      by_target (Some m) e = rw (things_are_placed scene placement m e)
          (shown_none scene.window orient at box (placed_things marked_image placement (marked_of scene m)) hides
          (spot_things k m placement box here there e))

  one_placement : (orient : Orient) (at : Point) (k : ℕ) (o : Option Placement)
      → slice_get (placements_at (cells_of scene) n) k ≡ o → k < length boxes
      → ShowNothing scene.window orient at boxes k (k + 1)
      → Skips scene.window (placements_rest scene orient at n k) (placements_rest scene orient at n (k + 1))
  one_placement orient at k None e inside none =
      let past = slot_none (placements_at (cells_of scene) n) k e in
      skip_same scene.window _ _ (placements_end scene orient at n k past ∙ sym (placements_end scene orient at n (k + 1) (omega (arith, past))))
  one_placement orient at k (Some placement) e inside none =
      let zero_box : Frame = record { x0 = pos 0; y0 = pos 0; x1 = pos 0; y1 = pos 0 } in
      let there = slice_get-get_or boxes k zero_box inside in
      skip_on scene.window _ _ _ (skip_same scene.window _ _ (placements_step scene orient at n k placement e))
      (skip_front scene.window (map (marked_image orient at) (things_at scene placement)) (placements_rest scene orient at n (k + 1))
      (spot_hidden k placement (get_or boxes k zero_box) orient at e there (none k (get_or boxes k zero_box) (omega arith) (omega arith) there)))

  placements_over : (orient : Orient) (at : Point) (many from : ℕ) → from + many ≤ length boxes → ShowNothing scene.window orient at boxes from (from + many)
      → Skips scene.window (placements_rest scene orient at n from) (placements_rest scene orient at n (from + many))
  placements_over orient at zero from inside none = let e : from ≡ from + zero = omega arith in
      skip_same scene.window _ _ (ap (placements_rest scene orient at n) e)
  placements_over orient at (suc many) from inside none =
      let e : (from + 1) + many ≡ from + suc many = omega arith in
      skip_on scene.window _ _ _
      (one_placement orient at from (slice_get (placements_at (cells_of scene) n) from) refl
      (omega (arith, inside)) (λ k box after early there. none k box after (omega (arith, early)) there))
      (subst (λ k. Skips scene.window (placements_rest scene orient at n (from + 1)) (placements_rest scene orient at n k)) e
      (placements_over orient at many (from + 1) (omega (arith, inside))
      (λ k box after early there. none k box (omega (arith, after)) (omega (arith, early)) there)))

  -- placements are passed by, since nothing in their boxes shows
  pub placements_passed : (orient : Orient) (at : Point) (from next : ℕ) → from ≤ next
      → (from < next → next ≤ length boxes) → ShowNothing scene.window orient at boxes from next
      → Skips scene.window (placements_rest scene orient at n from) (placements_rest scene orient at n next)
  placements_passed orient at from next later inside none = by_many (next - from) (omega (arith, later))
    where
      by_many : (many : ℕ) → next ≡ from + many → Skips scene.window (placements_rest scene orient at n from) (placements_rest scene orient at n next)
      by_many zero e = skip_same scene.window _ _ (ap (placements_rest scene orient at n) (let f : from ≡ next = omega (arith, e) in f))
      by_many (suc many) e = subst (λ k. Skips scene.window (placements_rest scene orient at n from) (placements_rest scene orient at n k)) (sym e)
          (placements_over orient at (suc many) from (let h = inside (omega (arith, e)) in omega (arith, h, e))
          (subst (ShowNothing scene.window orient at boxes from) e none))
