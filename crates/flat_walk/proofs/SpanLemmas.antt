-- Each corner of what a cell shows stands between vertices of the cell, and each quadrilateral winds once round its tiles.
use Rattle.std.proofs.Common.{◌≡◌, ◌≢◌, ◌⊎◌, inl, inr, ℕ, zero, suc, pos, ◌≤◌, Bool, true, false}
use Rattle.std.proofs.Common.{cond, List, [], ◌∷◌, Option, Some, None, All, IfSome, map, length}
use Rattle.std.proofs.Common.{slice_get, nat_eq, ◌&&◌, refl, sym, ap, subst, ◌∙◌, arith}
use Rattle.std.specs.List.{AllByRecursion}
use Rattle.std.proofs.lemmas.List.Elements.{recursion_from_All, All-from_recursion, All-head, All-tail}
use Rattle.half_grid.specs.Quads.{Corners, corners_of}
use Rattle.half_grid.specs.Trapezoids.{Trapezoid, IsShot, IsInTrapezoid, CoversExactly, count_in, trapezoid_has}
use Rattle.half_grid.specs.Winding.{winding, IsInPolygon}
use Rattle.half_grid.specs.declared.plane.Tile.{Tile}
use Rattle.half_grid.specs.declared.plane.Point.{Point}
use Rattle.half_grid.proofs.ForCallers.{in_has, count_by-cons}
use Rattle.layout_model.specs.Images.{image_of, moved}
use Rattle.layout_model.specs.Layouts.{IsMove, IsShapeOnGrid, IsPlacementOnGrid}
use Rattle.layout_model.specs.declared.pair.Pair.{Pair}
use Rattle.layout_model.specs.declared.shapes.Shape.{Shape}
use Rattle.layout_model.specs.declared.cells.Placement.{Placement}
use Rattle.cell_tree.specs.Cells.{shapes_at, placements_at, cell_number}
use Rattle.cell_tree.specs.Chains.{IsReachable}
use Rattle.cell_tree.specs.Flattening.{IsVertex}
use Rattle.cell_tree.proofs.ForCallers.{own_vertex, placed_vertex, shapes_on_grid, on_grid, short_below}
use Rattle.half_grid.specs.Outlines.{IsOnGrid}
use Rattle.half_grid.specs.Winding.{edges_of, count_one}
use Rattle.std.proofs.lemmas.Option.{none-some, same_Some, slice_get_within}
use Rattle.std.proofs.lemmas.Bool.Decides.{nat_tests}
use Rattle.flat_walk.specs.Quads.{moved_quad}
use Rattle.flat_walk.specs.Tables.{lists_at, IsKept, AreKept}
use Rattle.flat_walk.specs.Walks.{is_on, pieces_of_shape, pieces_of_shapes, own_pieces}
use Rattle.flat_walk.proofs.AllThings.{each_both, each_map, each_flat, all_things}
use Rattle.flat_walk.proofs.Amid.{IsSpanned, spanned_image, spanned_moved}
use Rattle.flat_walk.proofs.AmidLemmas.{IsIn, corners_amid}
use Rattle.flat_walk.proofs.Motions.{IsLoop, even_sum}
use Rattle.flat_walk.proofs.RestLemmas.{slot_all}
use Rattle.flat_walk.proofs.RingImages.{IsRing, ring_image, ring_moved, shot_ring}
use Rattle.flat_walk.specs.Rests.{marked, marked_own, marked_image}
use Rattle.flat_walk.specs.Ways.{IsScene, cells_of, marked_of}
use Rattle.flat_walk.specs.declared.scenes.Scene.{Scene}

-- ---- the pieces of shapes

pub each_map_at : {X Y : Type 0} (Q : Y → Type 0) (f : X → Y) (xs : List X)
    → ((k : ℕ) (x : X) → slice_get xs k ≡ Some x → Q (f x)) → AllByRecursion Q (map f xs)
each_map_at Q f [] each = tt
each_map_at Q f (x ∷ xs) each = (each 0 x refl, each_map_at Q f xs (λ k y at. each (suc k) y at))

count_some : (t : Tile) (pieces : List Trapezoid) (k : ℕ) (z : Trapezoid) → slice_get pieces k ≡ Some z → trapezoid_has t z ≡ true → 1 ≤ count_in pieces t
count_some t [] k z at has = absurd (none-some z at)
count_some t (y ∷ pieces) zero z at has =
    let e = count_by-cons (trapezoid_has t) y pieces in
    let h : trapezoid_has t y ≡ true = ap (trapezoid_has t) (same_Some y z at) ∙ has in
    let one = ap count_one h in
    omega (arith, e, one)
count_some t (y ∷ pieces) (suc k) z at has = let e = count_by-cons (trapezoid_has t) y pieces in let r = count_some t pieces k z at has in omega (arith, e, r)

-- an outline winds round the tiles of its pieces
pub piece_wound : (points : List Point) (pieces : List Trapezoid) (k : ℕ) (z : Trapezoid)
    → (pieces ≡ []) ⊎ CoversExactly pieces (IsInPolygon points) → slice_get pieces k ≡ Some z → (t : Tile) → IsInTrapezoid z t
    → winding points t ≢ pos 0
piece_wound points pieces k z (inl empty) at t inside none = absurd (none-some z (sym (ap (λ l. slice_get l k) empty) ∙ at))
piece_wound points pieces k z (inr covers) at t inside none =
    let zero_count = covers.never t (λ wound. wound none) in
    let some = count_some t pieces k z at (in_has t z inside) in
    absurd (omega (arith, zero_count, some))

on_by : (b : Bool) (Q : Corners → Type 0) (xs : List Corners) → (b ≡ true → AllByRecursion Q xs) → AllByRecursion Q (cond b xs [])
on_by true Q xs all = all refl
on_by false Q xs all = tt

pub pieces_each : (Q : Corners → Type 0) (pair : Pair) (shapes : List Shape) (lists : List (List Trapezoid))
    → ((k : ℕ) (shape : Shape) (pieces : List Trapezoid) → slice_get shapes k ≡ Some shape
    → slice_get lists k ≡ Some pieces → is_on pair shape ≡ true → AllByRecursion Q (pieces_of_shape shape pieces))
    → AllByRecursion Q (pieces_of_shapes pair shapes lists)
pieces_each Q pair [] lists each = tt
pieces_each Q pair (shape ∷ shapes) [] each = tt
pieces_each Q pair (shape ∷ shapes) (pieces ∷ lists) each = each_both Q
    (cond (is_on pair shape) (pieces_of_shape shape pieces) []) (pieces_of_shapes pair shapes lists)
    (on_by (is_on pair shape) Q (pieces_of_shape shape pieces) (λ on. each 0 shape pieces refl refl on))
    (pieces_each Q pair shapes lists (λ k s p at_s at_p on. each (suc k) s p at_s at_p on))

pub pair_is : (pair : Pair) (shape : Shape) → is_on pair shape ≡ true → shape.pair ≡ pair
pair_is pair shape on = same_pair shape.pair pair (both_of (nat_eq shape.pair.layer pair.layer) (nat_eq shape.pair.datatype pair.datatype) on)
  where
    both_of : (a b : Bool) → a && b ≡ true → (a ≡ true) × (b ≡ true)
    both_of true true h = (refl, refl)
    both_of true false h = absurd (let clash : ⊥ = cc in clash)
    both_of false b h = absurd (let clash : ⊥ = cc in clash)

    eq_is : (m n : ℕ) → nat_eq m n ≡ true → m ≡ n
    eq_is m n h = grind (arith, nat_tests)

    same_pair : (a b : Pair) → (nat_eq a.layer b.layer ≡ true) × (nat_eq a.datatype b.datatype ≡ true) → a ≡ b
    same_pair a b h = let l = eq_is a.layer b.layer h.0 in let d = eq_is a.datatype b.datatype h.1 in λ i. record { layer = l i; datatype = d i }

-- ---- what a reachable cell shows

abbrev pub IsShown : Scene → ℕ → Option Corners → Type 0
IsShown scene n item = IfSome item (λ q. IsSpanned (IsVertex (cells_of scene) n scene.pair) q × IsRing q)

pub shape_closed : (shape : Shape) → IsShapeOnGrid shape → IsLoop shape.points
shape_closed shape grid = record { closed = grid.closed; grid = recursion_from_All IsOnGrid (edges_of shape.points) grid.edges }

pub kept_at : (table : List (List (List Trapezoid))) (n : ℕ) → AreKept table → All IsKept (lists_at table n)
kept_at [] n all = λ k d inside. absurd (omega arith)
kept_at (lists ∷ table) zero all = All-head (All IsKept) lists table all
kept_at (lists ∷ table) (suc n) all = kept_at table n (All-tail (All IsKept) lists table all)

module _ (scene : Scene) (sc : IsScene scene) where
  pub own_shown : (n : ℕ) → IsReachable (cells_of scene) scene.tree.now.top n
      → (k : ℕ) (shape : Shape) (pieces : List Trapezoid) → slice_get (shapes_at (cells_of scene) n) k ≡ Some shape
      → slice_get (lists_at scene.parts.now n) k ≡ Some pieces → is_on scene.pair shape ≡ true
      → AllByRecursion (λ q. IsSpanned (IsVertex (cells_of scene) n scene.pair) q × IsRing q)
      (pieces_of_shape shape pieces)
  own_shown n reach k shape pieces at_shape at_pieces on =
      let grid = slot_all IsShapeOnGrid (shapes_at (cells_of scene) n) k shape (shapes_on_grid (cells_of scene) sc.grid.cells n) at_shape in
      let pair = pair_is scene.pair shape on in
      let once = sc.cut n k shape reach at_shape pair in
      let same : once.pieces ≡ pieces = same_Some once.pieces pieces (sym once.kept ∙ at_pieces) in
      let in_shape = subst (λ l. (l ≡ []) ⊎ CoversExactly l (IsInPolygon shape.points)) same once.inside in
      let kept = slot_all IsKept (lists_at scene.parts.now n) k pieces (kept_at scene.parts.now n sc.kept) at_pieces in
      let loop = shape_closed shape grid in
      let short = short_below (cells_of scene) scene.tree.now.top n sc.tree.shallow reach in
      each_flat (λ q. IsSpanned (IsVertex (cells_of scene) n scene.pair) q × IsRing q)
      (λ by. map (λ piece. moved_quad by (corners_of piece)) pieces) shape.offsets
      (λ j by at_by. (let move = slot_all IsMove shape.offsets j by grid.offsets.moves at_by in
      each_map_at (λ q. IsSpanned (IsVertex (cells_of scene) n scene.pair) q × IsRing q) (λ piece. moved_quad by (corners_of piece)) pieces
      (λ i z at_z. (let shot = slot_all IsShot pieces i z kept.shots at_z in (
        spanned_moved by (IsIn shape.points) (IsVertex (cells_of scene) n scene.pair) (corners_of z)
            (λ v one. own_vertex (cells_of scene) n scene.pair (moved by v) (length (shapes_at (cells_of scene) n)) short (record {
              number = k;
              early = slice_get_within (shapes_at (cells_of scene) n) k shape at_shape;
              shape = shape;
              here = at_shape;
              on_pair = pair;
              vertex = record { place = j; by = by; offset = at_by; corner = one.0; v = v; point = one.1; is = refl };
            }))
            (corners_amid shape.points z loop shot.legal (piece_wound shape.points pieces i z in_shape at_z)),
        ring_moved by (corners_of z) move.even_x move.even_y (shot_ring z shot),
      )))))

  here_shown : (n : ℕ) → IsReachable (cells_of scene) scene.tree.now.top n
      → AllByRecursion (IsShown scene n) (marked_own (cells_of scene) scene.parts.now scene.pair n)
  here_shown n reach = (
    tt,
    each_map (λ q. IsSpanned (IsVertex (cells_of scene) n scene.pair) q × IsRing q) (IsShown scene n) Some
        (own_pieces (cells_of scene) scene.parts.now scene.pair n) (λ q h. h)
        (pieces_each (λ q. IsSpanned (IsVertex (cells_of scene) n scene.pair) q × IsRing q) scene.pair
        (shapes_at (cells_of scene) n) (lists_at scene.parts.now n) (own_shown n reach)),
  )

  step_shown : (n k m j : ℕ) (placement : Placement) (by : Point) (item : Option Corners)
      → IsReachable (cells_of scene) scene.tree.now.top n
      → slice_get (placements_at (cells_of scene) n) k ≡ Some placement
      → cell_number (cells_of scene) placement.target ≡ Some m → slice_get placement.offsets j ≡ Some by
      → IsShown scene m item → IsShown scene n (marked_image placement.orient (moved by placement.at) item)
  step_shown n k m j placement by None reach placed target at_by shown = tt
  step_shown n k m j placement by (Some q) reach placed target at_by shown =
      let grid = slot_all IsPlacementOnGrid (placements_at (cells_of scene) n) k placement (on_grid (cells_of scene) sc.grid.cells n) placed in
      let move = slot_all IsMove placement.offsets j by grid.offsets.moves at_by in
      let short = short_below (cells_of scene) scene.tree.now.top n sc.tree.shallow reach in
      let even_x = even_sum placement.at.x by.x grid.at.even_x move.even_x in
      let even_y = even_sum placement.at.y by.y grid.at.even_y move.even_y in (
        spanned_image placement.orient (moved by placement.at) (IsVertex (cells_of scene) m scene.pair) (IsVertex (cells_of scene) n scene.pair) q
            (λ v vertex. placed_vertex (cells_of scene) n scene.pair
            (image_of placement.orient (moved by placement.at) v) (length (placements_at (cells_of scene) n)) short
            (record {
              number = k;
              early = slice_get_within (placements_at (cells_of scene) n) k placement placed;
              placement = placement;
              placed = placed;
              target = m;
              targeted = target;
              place = j;
              by = by;
              offset = at_by;
              v = v;
              vertex = vertex;
              is = refl;
            })) shown.0,
        ring_image placement.orient (moved by placement.at) q grid.orient.enlarges even_x even_y shown.1,
      )

  pub all_shown : (n : ℕ) → IsReachable (cells_of scene) scene.tree.now.top n → AllByRecursion (IsShown scene n) (marked_of scene n)
  unfolding marked
  all_shown n reach = all_things (marked_own (cells_of scene) scene.parts.now scene.pair) marked_image
      (cells_of scene) scene.tree.now.top (IsShown scene) here_shown step_shown 64 n reach

only_spanned : (P R : Corners → Type 0) (items : List (Option Corners))
    → AllByRecursion (λ item. IfSome item (λ q. P q × R q)) items → AllByRecursion (λ item. IfSome item P) items
only_spanned P R [] all = tt
only_spanned P R (None ∷ items) all = (tt, only_spanned P R items all.1)
only_spanned P R (Some q ∷ items) all = (all.0.0, only_spanned P R items all.1)

pub marked_spanned : (scene : Scene) (n : ℕ) → IsScene scene → IsReachable (cells_of scene) scene.tree.now.top n
    → All (λ item. IfSome item (IsSpanned (IsVertex (cells_of scene) n scene.pair))) (marked_of scene n)
marked_spanned scene n sc reach = All-from_recursion (λ item. IfSome item (IsSpanned (IsVertex (cells_of scene) n scene.pair))) (marked_of scene n)
    (only_spanned (IsSpanned (IsVertex (cells_of scene) n scene.pair)) IsRing (marked_of scene n) (all_shown scene sc n reach))
