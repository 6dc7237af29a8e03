-- The quadrilaterals of a walk and the area of a pair: a tile of the window's rows is in one of them exactly where it is in
-- the area.
use Rattle.std.proofs.Common.{◌≡◌, ◌≢◌, ◌⊎◌, inl, inr, ℕ, ℤ, zero, suc, pos, neg_ℤ, ◌≤ℤ◌, ◌<ℤ◌, Bool, true, false, cond}
use Rattle.std.proofs.Common.{List, [], ◌∷◌, Option, Some, None, map, slice_get, int_lt, nat_eq, ◌&&◌, refl, sym, ap}
use Rattle.std.proofs.Common.{subst, ◌∙◌, arith}
use Rattle.std.specs.Int.{int_min, int_max}
use Rattle.std.specs.List.{filter, flat_map, AllByRecursion}
use Rattle.std.specs.Option.{option_map_or}
use Rattle.std.proofs.lemmas.Int.{ints, clamps, by_lt_z}
use Rattle.std.proofs.lemmas.Option.{none-some, same_Some}
use Rattle.std.proofs.lemmas.Bool.Decides.{nat_tests}
use Rattle.half_grid.specs.Quads.{Corners, ring_of, corners_of}
use Rattle.half_grid.specs.Trapezoids.{Trapezoid, IsShot, CoversExactly, count_in, trapezoid_has}
use Rattle.half_grid.specs.Winding.{winding, IsInPolygon, count_one}
use Rattle.half_grid.specs.Windows.{RowRange}
use Rattle.half_grid.specs.declared.plane.Tile.{Tile}
use Rattle.half_grid.specs.declared.plane.Point.{Point}
use Rattle.half_grid.proofs.ForCallers.{has_in, ring_inside, ring_outside, count_by-cons, closed_under, closed_over}
use Rattle.layout_model.specs.Images.{moved}
use Rattle.layout_model.specs.Layouts.{IsMove, IsShapeOnGrid, IsPlacementOnGrid}
use Rattle.layout_model.specs.declared.pair.Pair.{Pair}
use Rattle.layout_model.specs.declared.shapes.Shape.{Shape}
use Rattle.layout_model.specs.declared.cells.Placement.{Placement}
use Rattle.cell_tree.specs.Cells.{shapes_at, placements_at, cell_number}
use Rattle.cell_tree.specs.Chains.{IsReachable}
use Rattle.cell_tree.specs.Flattening.{placed_things, things_within, Flat, flats_of_shape, own_flats, flat_image, flattened}
use Rattle.cell_tree.proofs.ForCallers.{top_reachable, reach_more, shapes_on_grid, on_grid, Has, has_any, any_has}
use Rattle.cell_tree.proofs.ForCallers.{has_left, has_right, has_split, has_slot, slot_has, has_flat, flat_has, has_map}
use Rattle.cell_tree.proofs.ForCallers.{map_has}
use Rattle.flat_walk.specs.Quads.{quad_image, moved_quad, lowest_of, highest_of, has_row_in}
use Rattle.flat_walk.specs.Tables.{lists_at, IsKept}
use Rattle.flat_walk.specs.Walks.{is_on, pieces_of_shape, pieces_of_shapes, own_pieces, placed_pieces, pieces_in, CoversLayer}
use Rattle.flat_walk.specs.Ways.{IsScene, cells_of}
use Rattle.flat_walk.specs.declared.scenes.Scene.{Scene}
use Rattle.flat_walk.proofs.AllThings.{each_flat, all_things}
use Rattle.flat_walk.proofs.Motions.{IsLoop, signed, before_move, before_image, move_loop, move_winding, image_loop, image_winding, even_sum}
use Rattle.flat_walk.proofs.RestLemmas.{slot_all}
use Rattle.flat_walk.proofs.RingImages.{IsRing, ring_image, quad_winding, shot_ring}
use Rattle.flat_walk.proofs.SpanLemmas.{pieces_each, each_map_at, pair_is, piece_wound, own_shown, shape_closed, kept_at}

abbrev Wound : Tile → Corners → Type 0
Wound t q = IsInPolygon (ring_of q) t

abbrev On : Pair → Tile → Flat → Type 0
On pair t flat = (flat.pair ≡ pair) × IsInPolygon flat.points t

has_on : {X : Type 0} (L P Q : X → Type 0) (xs : List X) → AllByRecursion L xs → ((x : X) → L x → P x → Q x) → Has P xs → Has Q xs
has_on L P Q [] all step h = absurd h
has_on L P Q (x ∷ xs) all step h = elim h [ inl p ↦ inl (step x all.0 p) | inr r ↦ inr (has_on L P Q xs all.1 step r) ]

-- ---- the pieces of shapes, by number

record HasPiece (Q : Corners → Type 0) (pair : Pair) (shapes : List Shape) (lists : List (List Trapezoid)) : Type 0 where
  pub number : ℕ
  pub shape : Shape
  pub pieces : List Trapezoid
  pub here : slice_get shapes number ≡ Some shape
  pub kept : slice_get lists number ≡ Some pieces
  pub on : is_on pair shape ≡ true
  pub has : Has Q (pieces_of_shape shape pieces)

if_has : (b : Bool) (Q : Corners → Type 0) (xs : List Corners) → Has Q (cond b xs []) → (b ≡ true) × Has Q xs
if_has true Q xs h = (refl, h)
if_has false Q xs h = absurd h

has_if : (b : Bool) (Q : Corners → Type 0) (xs : List Corners) → b ≡ true → Has Q xs → Has Q (cond b xs [])
has_if true Q xs on h = h
has_if false Q xs on h = absurd (let clash : ⊥ = cc in clash)

piece_of : (Q : Corners → Type 0) (pair : Pair) (shapes : List Shape) (lists : List (List Trapezoid))
    → Has Q (pieces_of_shapes pair shapes lists) → HasPiece Q pair shapes lists
piece_of Q pair [] lists h = absurd h
piece_of Q pair (shape ∷ shapes) [] h = absurd h
piece_of Q pair (shape ∷ shapes) (pieces ∷ lists) h = elim
    (has_split Q (cond (is_on pair shape) (pieces_of_shape shape pieces) []) (pieces_of_shapes pair shapes lists) h) [
      | inl a ↦ (let i = if_has (is_on pair shape) Q (pieces_of_shape shape pieces) a in
          record { number = 0; shape = shape; pieces = pieces; here = refl; kept = refl; on = i.0; has = i.1 })
      | inr b ↦ (let r = piece_of Q pair shapes lists b in
          record {
            number = suc r.number;
            shape = r.shape;
            pieces = r.pieces;
            here = r.here;
            kept = r.kept;
            on =
                r.on;
            has = r.has;
          })
    ]

of_piece : (Q : Corners → Type 0) (pair : Pair) (shapes : List Shape) (lists : List (List Trapezoid)) (k : ℕ)
    (shape : Shape) (pieces : List Trapezoid) → slice_get shapes k ≡ Some shape → slice_get lists k ≡ Some pieces
    → is_on pair shape ≡ true → Has Q (pieces_of_shape shape pieces) → Has Q (pieces_of_shapes pair shapes lists)
of_piece Q pair [] lists k shape pieces at kept on has = absurd (none-some shape at)
of_piece Q pair (s ∷ shapes) [] k shape pieces at kept on has = absurd (none-some pieces kept)
of_piece Q pair (s ∷ shapes) (p ∷ lists) zero shape pieces at kept on has =
    let es = same_Some s shape at in let ep = same_Some p pieces kept in
    has_left Q (cond (is_on pair s) (pieces_of_shape s p) []) (pieces_of_shapes pair shapes lists)
    (has_if (is_on pair s) Q (pieces_of_shape s p) (ap (is_on pair) es ∙ on)
    (subst (λ x. Has Q (pieces_of_shape x p)) (sym es) (subst (λ x. Has Q (pieces_of_shape shape x)) (sym ep) has)))
of_piece Q pair (s ∷ shapes) (p ∷ lists) (suc k) shape pieces at kept on has =
    has_right Q (cond (is_on pair s) (pieces_of_shape s p) []) (pieces_of_shapes pair shapes lists) (of_piece Q pair shapes lists k shape pieces at kept on has)

-- a tile that the pieces count is in one of them
found_by : (t : Tile) (z : Trapezoid) (pieces : List Trapezoid) (b : Bool) → trapezoid_has t z ≡ b
    → count_in (z ∷ pieces) t ≡ 1 → (count_in pieces t ≡ 1 → Has (λ y. trapezoid_has t y ≡ true) pieces)
    → Has (λ y. trapezoid_has t y ≡ true) (z ∷ pieces)
found_by t z pieces true h e later = inl h
found_by t z pieces false h e later = inr (later (let n = count_by-cons (trapezoid_has t) z pieces in let k = ap count_one h in omega (arith, n, k, e)))

found_piece : (t : Tile) (pieces : List Trapezoid) → count_in pieces t ≡ 1 → Has (λ z. trapezoid_has t z ≡ true) pieces
found_piece t [] e = absurd (omega (arith, e))
found_piece t (z ∷ pieces) e = found_by t z pieces _ refl e (λ f. found_piece t pieces f)

same_on : (pair : Pair) (shape : Shape) → shape.pair ≡ pair → is_on pair shape ≡ true
same_on pair shape e = both_true _ _ (eq_yes _ _ (ap (λ p. p.layer) e)) (eq_yes _ _ (ap (λ p. p.datatype) e))
  where
    eq_yes : (m n : ℕ) → m ≡ n → nat_eq m n ≡ true
    eq_yes m n h = grind (arith, nat_tests)

    both_true : (a b : Bool) → a ≡ true → b ≡ true → (a && b) ≡ true
    both_true a b p q = rw (p, q) refl

module _ (scene : Scene) (sc : IsScene scene) where
  shape_shown : (n k : ℕ) (shape : Shape) (pieces : List Trapezoid) → IsReachable (cells_of scene) scene.tree.now.top n
      → slice_get (shapes_at (cells_of scene) n) k ≡ Some shape → slice_get (lists_at scene.parts.now n) k ≡ Some pieces
      → is_on scene.pair shape ≡ true → (pieces ≡ []) ⊎ CoversExactly pieces (IsInPolygon shape.points)
  shape_shown n k shape pieces reach here kept on =
      let once = sc.cut n k shape reach here (pair_is scene.pair shape on) in
      subst (λ l. (l ≡ []) ⊎ CoversExactly l (IsInPolygon shape.points)) (same_Some once.pieces pieces (sym once.kept ∙ kept)) once.inside

  -- ---- own

  own_to : (n : ℕ) (t : Tile) → IsReachable (cells_of scene) scene.tree.now.top n
      → Has (Wound t) (own_pieces (cells_of scene) scene.parts.now scene.pair n)
      → Has (On scene.pair t) (own_flats (cells_of scene) n)
  own_to n t reach h =
      let p = piece_of (Wound t) scene.pair (shapes_at (cells_of scene) n) (lists_at scene.parts.now n) h in
      let shape : Shape = p.shape in
      let grid = slot_all IsShapeOnGrid (shapes_at (cells_of scene) n) p.number shape (shapes_on_grid (cells_of scene) sc.grid.cells n) p.here in
      let o = has_slot (λ by. Has (Wound t) (map (λ piece. moved_quad by (corners_of piece)) p.pieces)) shape.offsets
      (has_flat (Wound t) (λ by. map (λ piece. moved_quad by (corners_of piece)) p.pieces) shape.offsets p.has)
      in
      let by : Point = o.1 in
      let move = slot_all IsMove shape.offsets o.0 by grid.offsets.moves o.2 in
      let z = has_slot (λ piece. Wound t (moved_quad by (corners_of piece))) p.pieces
      (has_map (Wound t) (λ piece. moved_quad by (corners_of piece)) p.pieces o.3) in
      let trap : Trapezoid = z.1 in
      let kept = slot_all IsKept (lists_at scene.parts.now n) p.number p.pieces (kept_at scene.parts.now n sc.kept) p.kept in
      let shot = slot_all IsShot p.pieces z.0 trap kept.shots z.2 in
      let before = before_move by t in
      let e = move_winding by t (ring_of (corners_of trap)) move.even_x move.even_y (shot_ring trap shot).loop in
      let loop = shape_closed shape grid in
      let wound : winding shape.points before ≢ pos 0 = λ none. z.3
      (e ∙ ring_outside trap before shot.legal
      (λ inside. piece_wound shape.points p.pieces z.0 trap
      (shape_shown n p.number shape p.pieces reach p.here p.kept p.on) z.2 before inside none)) in
      let f = move_winding by t shape.points move.even_x move.even_y loop in
      flat_has (On scene.pair t) flats_of_shape (shapes_at (cells_of scene) n)
      (slot_has (λ s. Has (On scene.pair t) (flats_of_shape s)) (shapes_at (cells_of scene) n) p.number shape p.here
      (map_has (On scene.pair t) (λ b. (let fl : Flat = record { pair = shape.pair; points = map (moved b) shape.points } in fl)) shape.offsets
      (slot_has (λ b. On scene.pair t (record { pair = shape.pair; points = map (moved b) shape.points }))
      shape.offsets o.0 by o.2 (pair_is scene.pair shape p.on, λ none. wound (sym f ∙ none)))))

  own_from : (n : ℕ) (t : Tile) → IsReachable (cells_of scene) scene.tree.now.top n
      → Has (On scene.pair t) (own_flats (cells_of scene) n)
      → Has (Wound t) (own_pieces (cells_of scene) scene.parts.now scene.pair n)
  own_from n t reach h =
      let s = has_slot (λ shape. Has (On scene.pair t) (flats_of_shape shape)) (shapes_at (cells_of scene) n)
      (has_flat (On scene.pair t) flats_of_shape (shapes_at (cells_of scene) n) h) in
      let shape : Shape = s.1 in
      let grid = slot_all IsShapeOnGrid (shapes_at (cells_of scene) n) s.0 shape (shapes_on_grid (cells_of scene) sc.grid.cells n) s.2 in
      let o = has_slot (λ b. On scene.pair t (record { pair = shape.pair; points = map (moved b) shape.points })) shape.offsets
      (has_map (On scene.pair t) (λ b. (let fl : Flat = record { pair = shape.pair; points = map (moved b) shape.points } in fl)) shape.offsets s.3) in
      let by : Point = o.1 in
      let move = slot_all IsMove shape.offsets o.0 by grid.offsets.moves o.2 in
      let shown = sc.cut n s.0 shape reach s.2 o.3.0 in
      let cut = shown.cut in
      let before = before_move by t in
      let f = move_winding by t shape.points move.even_x move.even_y (shape_closed shape grid) in
      let once = cut.covers.once before (λ none. o.3.1 (f ∙ none)) in
      let z = has_slot (λ piece. trapezoid_has before piece ≡ true) cut.pieces (found_piece before cut.pieces once) in
      let trap : Trapezoid = z.1 in
      let kept = slot_all IsKept (lists_at scene.parts.now n) shown.twin cut.pieces (kept_at scene.parts.now n sc.kept) cut.kept in
      let shot = slot_all IsShot cut.pieces z.0 trap kept.shots z.2 in
      let inside = ring_inside trap before shot.legal (has_in before trap z.3) in
      let e = move_winding by t (ring_of (corners_of trap)) move.even_x move.even_y (shot_ring trap shot).loop in
      of_piece (Wound t) scene.pair (shapes_at (cells_of scene) n)
      (lists_at scene.parts.now n) shown.twin shape cut.pieces shown.same cut.kept (same_on scene.pair shape o.3.0)
      (flat_has (Wound t) (λ b. map (λ piece. moved_quad b (corners_of piece)) cut.pieces) shape.offsets
      (slot_has (λ b. Has (Wound t) (map (λ piece. moved_quad b (corners_of piece)) cut.pieces)) shape.offsets o.0 by o.2
      (map_has (Wound t) (λ piece. moved_quad by (corners_of piece)) cut.pieces
      (slot_has (λ piece. Wound t (moved_quad by (corners_of piece))) cut.pieces z.0 trap z.2
      (λ none. absurd (let g = sym inside ∙ (sym e ∙ none) in omega (arith, ints, g)))))))

  -- ---- loops

  rings : (depth n : ℕ) → IsReachable (cells_of scene) scene.tree.now.top n
      → AllByRecursion IsRing
      (things_within (own_pieces (cells_of scene) scene.parts.now scene.pair) quad_image (cells_of scene) depth n)
  rings depth n reach = all_things (own_pieces (cells_of scene) scene.parts.now scene.pair) quad_image (cells_of scene) scene.tree.now.top (λ m q. IsRing q)
      (λ m r. pieces_each IsRing scene.pair (shapes_at (cells_of scene) m) (lists_at scene.parts.now m)
      (λ k shape pieces a b on. all_rings _ (pieces_of_shape shape pieces)
      (own_shown scene sc m r k shape pieces a b on)))
      (λ a k m j placement by q r placed target at ring.
      (let grid = slot_all IsPlacementOnGrid (placements_at (cells_of scene) a) k placement
      (on_grid (cells_of scene) sc.grid.cells a) placed in
      let move = slot_all IsMove placement.offsets j by grid.offsets.moves at in
      ring_image placement.orient (moved by placement.at) q grid.orient.enlarges
      (even_sum placement.at.x by.x grid.at.even_x move.even_x)
      (even_sum placement.at.y by.y grid.at.even_y move.even_y) ring))
      depth n reach
    where
      all_rings : (P : Corners → Type 0) (qs : List Corners) → AllByRecursion (λ q. P q × IsRing q) qs → AllByRecursion IsRing qs
      all_rings P [] all = tt
      all_rings P (q ∷ qs) all = (all.0.1, all_rings P qs all.1)

  loops : (depth n : ℕ) → IsReachable (cells_of scene) scene.tree.now.top n
      → AllByRecursion (λ flat. IsLoop flat.points)
      (things_within (own_flats (cells_of scene)) flat_image (cells_of scene) depth n)
  loops depth n reach = all_things (own_flats (cells_of scene)) flat_image (cells_of scene) scene.tree.now.top (λ m flat. IsLoop flat.points)
      (λ m r. each_flat (λ flat. IsLoop flat.points) flats_of_shape (shapes_at (cells_of scene) m)
      (λ k shape at. (let grid = slot_all IsShapeOnGrid (shapes_at (cells_of scene) m) k shape
      (shapes_on_grid (cells_of scene) sc.grid.cells m) at in
      each_map_at (λ flat. IsLoop flat.points) (λ b. (let fl : Flat = record { pair = shape.pair; points = map (moved b) shape.points } in fl)) shape.offsets
      (λ j by at_by. (let move = slot_all IsMove shape.offsets j by grid.offsets.moves at_by in
      move_loop by shape.points move.even_x move.even_y (shape_closed shape grid))))))
      (λ a k m j placement by flat r placed target at loop.
      (let grid = slot_all IsPlacementOnGrid (placements_at (cells_of scene) a) k placement
      (on_grid (cells_of scene) sc.grid.cells a) placed in
      let move = slot_all IsMove placement.offsets j by grid.offsets.moves at in
      image_loop placement.orient (moved by placement.at) flat.points
      (even_sum placement.at.x by.x grid.at.even_x move.even_x)
      (even_sum placement.at.y by.y grid.at.even_y move.even_y) loop))
      depth n reach

  -- ---- placed

  signed_none : (flip : Bool) (w : ℤ) → w ≡ pos 0 → signed flip w ≡ pos 0
  signed_none true w e = ap neg_ℤ e
  signed_none false w e = e

  none_signed : (flip : Bool) (w : ℤ) → signed flip w ≡ pos 0 → w ≡ pos 0
  none_signed true w e = omega (arith, ints, e)
  none_signed false w e = e

  module _ (f : ℕ → List Corners) (g : ℕ → List Flat)
      (f_rings : (m : ℕ) → IsReachable (cells_of scene) scene.tree.now.top m → AllByRecursion IsRing (f m))
      (g_loops : (m : ℕ) → IsReachable (cells_of scene) scene.tree.now.top m → AllByRecursion (λ flat. IsLoop flat.points) (g m))
      (to : (m : ℕ) (t : Tile) → IsReachable (cells_of scene) scene.tree.now.top m → Has (Wound t) (f m) → Has (On scene.pair t) (g m))
      (from : (m : ℕ) (t : Tile) → IsReachable (cells_of scene) scene.tree.now.top m → Has (On scene.pair t) (g m) → Has (Wound t) (f m)) where
    placed_to : (n k : ℕ) (t : Tile) (placement : Placement) (o : Option ℕ)
        → cell_number (cells_of scene) placement.target ≡ o → IsReachable (cells_of scene) scene.tree.now.top n
        → slice_get (placements_at (cells_of scene) n) k ≡ Some placement
        → Has (Wound t) (placed_things quad_image placement (option_map_or f o []))
        → Has (On scene.pair t) (placed_things flat_image placement (option_map_or g o []))
    placed_to n k t placement None e reach placed h =
        let o = has_slot (λ by. Has (Wound t) (map (quad_image placement.orient (moved by placement.at)) []))
        placement.offsets (has_flat (Wound t)
        (λ by. map (quad_image placement.orient (moved by placement.at)) []) placement.offsets h) in
        absurd o.3
    placed_to n k t placement (Some m) e reach placed h =
        let o = has_slot (λ by. Has (Wound t) (map (quad_image placement.orient (moved by placement.at)) (f m)))
        placement.offsets (has_flat (Wound t)
        (λ by. map (quad_image placement.orient (moved by placement.at)) (f m)) placement.offsets h) in
        let by : Point = o.1 in
        let at : Point = moved by placement.at in
        let grid = slot_all IsPlacementOnGrid (placements_at (cells_of scene) n) k placement (on_grid (cells_of scene) sc.grid.cells n) placed in
        let move = slot_all IsMove placement.offsets o.0 by grid.offsets.moves o.2 in
        let x = even_sum placement.at.x by.x grid.at.even_x move.even_x in
        let y = even_sum placement.at.y by.y grid.at.even_y move.even_y in
        let r = reach_more (cells_of scene) scene.tree.now.top n m reach (placement, record { number = k; placed = placed; target = e }) in
        let before = before_image placement.orient at t in
        let inner : Has (Wound before) (f m) = has_on IsRing (λ q. Wound t (quad_image placement.orient at q)) (Wound before) (f m) (f_rings m r)
        (λ q ring wound none. wound (quad_winding placement.orient at q t grid.orient.enlarges x y ring.loop ∙ none))
        (has_map (Wound t) (quad_image placement.orient at) (f m) o.3) in
        let outer : Has (λ flat. On scene.pair t (flat_image placement.orient at flat)) (g m) = has_on
        (λ flat. IsLoop flat.points) (On scene.pair before)
        (λ flat. On scene.pair t (flat_image placement.orient at flat)) (g m) (g_loops m r)
        (λ flat loop on. (
          on.0,
          λ none. on.1
              (none_signed placement.orient.flip (winding flat.points before)
              (sym (image_winding placement.orient at t flat.points grid.orient.enlarges x y loop) ∙ none)),
        ))
        (to m before r inner) in
        flat_has (On scene.pair t) (λ b. map (flat_image placement.orient (moved b placement.at)) (g m)) placement.offsets
        (slot_has (λ b. Has (On scene.pair t) (map (flat_image placement.orient (moved b placement.at)) (g m)))
        placement.offsets o.0 by o.2 (map_has (On scene.pair t) (flat_image placement.orient at) (g m) outer))

    placed_from : (n k : ℕ) (t : Tile) (placement : Placement) (o : Option ℕ)
        → cell_number (cells_of scene) placement.target ≡ o → IsReachable (cells_of scene) scene.tree.now.top n
        → slice_get (placements_at (cells_of scene) n) k ≡ Some placement
        → Has (On scene.pair t) (placed_things flat_image placement (option_map_or g o []))
        → Has (Wound t) (placed_things quad_image placement (option_map_or f o []))
    placed_from n k t placement None e reach placed h =
        let o = has_slot (λ by. Has (On scene.pair t) (map (flat_image placement.orient (moved by placement.at)) []))
        placement.offsets (has_flat (On scene.pair t)
        (λ by. map (flat_image placement.orient (moved by placement.at)) []) placement.offsets h) in
        absurd o.3
    placed_from n k t placement (Some m) e reach placed h =
        let o = has_slot (λ by. Has (On scene.pair t)
        (map (flat_image placement.orient (moved by placement.at)) (g m))) placement.offsets
        (has_flat (On scene.pair t)
        (λ by. map (flat_image placement.orient (moved by placement.at)) (g m)) placement.offsets h) in
        let by : Point = o.1 in
        let at : Point = moved by placement.at in
        let grid = slot_all IsPlacementOnGrid (placements_at (cells_of scene) n) k placement (on_grid (cells_of scene) sc.grid.cells n) placed in
        let move = slot_all IsMove placement.offsets o.0 by grid.offsets.moves o.2 in
        let x = even_sum placement.at.x by.x grid.at.even_x move.even_x in
        let y = even_sum placement.at.y by.y grid.at.even_y move.even_y in
        let r = reach_more (cells_of scene) scene.tree.now.top n m reach (placement, record { number = k; placed = placed; target = e }) in
        let before = before_image placement.orient at t in
        let inner : Has (On scene.pair before) (g m) = has_on (λ flat. IsLoop flat.points)
        (λ flat. On scene.pair t (flat_image placement.orient at flat)) (On scene.pair before) (g m)
        (g_loops m r)
        (λ flat loop on. (
          on.0,
          λ none. on.1
              (image_winding placement.orient at t flat.points grid.orient.enlarges x y loop
              ∙ signed_none placement.orient.flip (winding flat.points before) none),
        ))
        (has_map (On scene.pair t) (flat_image placement.orient at) (g m) o.3) in
        let outer : Has (λ q. Wound t (quad_image placement.orient at q)) (f m) = has_on IsRing (Wound before)
        (λ q. Wound t (quad_image placement.orient at q)) (f m) (f_rings m r)
        (λ q ring wound none. wound (sym (quad_winding placement.orient at q t grid.orient.enlarges x y ring.loop) ∙ none)) (from m before r inner) in
        flat_has (Wound t) (λ b. map (quad_image placement.orient (moved b placement.at)) (f m)) placement.offsets
        (slot_has (λ b. Has (Wound t) (map (quad_image placement.orient (moved b placement.at)) (f m)))
        placement.offsets o.0 by o.2 (map_has (Wound t) (quad_image placement.orient at) (f m) outer))

  abbrev shown : ℕ → ℕ → List Corners
  shown depth n = things_within (own_pieces (cells_of scene) scene.parts.now scene.pair) quad_image (cells_of scene) depth n

  abbrev flats : ℕ → ℕ → List Flat
  flats depth n = things_within (own_flats (cells_of scene)) flat_image (cells_of scene) depth n

  abbrev Both : ℕ → Type 0
  Both depth = (n : ℕ) (t : Tile) → IsReachable (cells_of scene) scene.tree.now.top n
      → (Has (Wound t) (shown depth n) → Has (On scene.pair t) (flats depth n))
      × (Has (On scene.pair t) (flats depth n) → Has (Wound t) (shown depth n))

  deeper : (depth : ℕ) → Both depth → Both (suc depth)
  deeper depth both n t reach =
      let rest = λ (placement : Placement). placed_things quad_image placement
      (option_map_or (shown depth) (cell_number (cells_of scene) placement.target) []) in
      let areas = λ (placement : Placement). placed_things flat_image placement
      (option_map_or (flats depth) (cell_number (cells_of scene) placement.target) []) in
      let here = placements_at (cells_of scene) n in (
        λ h. elim (has_split (Wound t) (own_pieces (cells_of scene) scene.parts.now scene.pair n) (flat_map rest here) h) [
          | inl a ↦ has_left (On scene.pair t) (own_flats (cells_of scene) n) (flat_map areas here) (own_to n t reach a)
          | inr b ↦ (let p = has_slot (λ placement. Has (Wound t) (rest placement)) here (has_flat (Wound t) rest here b) in
              has_right (On scene.pair t) (own_flats (cells_of scene) n) (flat_map areas here)
              (flat_has (On scene.pair t) areas here
              (slot_has (λ placement. Has (On scene.pair t) (areas placement)) here p.0 p.1 p.2
              (placed_to (shown depth) (flats depth) (rings depth) (loops depth) (λ m u r. (both m u r).0)
              (λ m u r. (both m u r).1) n p.0 t p.1 (cell_number (cells_of scene) p.1.target) refl reach p.2 p.3))))
        ],
        λ h. elim (has_split (On scene.pair t) (own_flats (cells_of scene) n) (flat_map areas here) h) [
          | inl a ↦ has_left (Wound t) (own_pieces (cells_of scene) scene.parts.now scene.pair n) (flat_map rest here) (own_from n t reach a)
          | inr b ↦ (let p = has_slot (λ placement. Has (On scene.pair t) (areas placement)) here (has_flat (On scene.pair t) areas here b) in
              has_right (Wound t) (own_pieces (cells_of scene) scene.parts.now scene.pair n) (flat_map rest here)
              (flat_has (Wound t) rest here (slot_has (λ placement. Has (Wound t) (rest placement)) here p.0 p.1 p.2
              (placed_from (shown depth) (flats depth) (rings depth) (loops depth) (λ m u r. (both m u r).0)
              (λ m u r. (both m u r).1) n p.0 t p.1 (cell_number (cells_of scene) p.1.target) refl reach p.2 p.3))))
        ],
      )

  both_ways : (depth : ℕ) → Both depth
  both_ways zero n t reach = (λ h. h, λ h. h)
  both_ways (suc depth) n t reach = deeper depth (λ m u r. both_ways depth m u r) n t reach

  top_both : (t : Tile)
      → (Has (Wound t) (placed_pieces (cells_of scene) scene.parts.now scene.pair scene.tree.now.top)
      → Has (On scene.pair t) (flattened (cells_of scene) scene.tree.now.top))
      × (Has (On scene.pair t) (flattened (cells_of scene) scene.tree.now.top)
      → Has (Wound t) (placed_pieces (cells_of scene) scene.parts.now scene.pair scene.tree.now.top))
  unfolding placed_pieces flattened
  top_both t = both_ways 64 scene.tree.now.top t (top_reachable (cells_of scene) scene.tree.now.top)

  top_rings : AllByRecursion IsRing (placed_pieces (cells_of scene) scene.parts.now scene.pair scene.tree.now.top)
  unfolding placed_pieces
  top_rings = rings 64 scene.tree.now.top (top_reachable (cells_of scene) scene.tree.now.top)

-- ---- the window

if_kept : {X : Type 0} (b : Bool) (P : X → Type 0) (x : X) (xs : List X) → Has P (cond b (x ∷ xs) xs) → Has P (x ∷ xs)
if_kept true P x xs h = h
if_kept false P x xs h = inr h

filter_has : {X : Type 0} (p : X → Bool) (P : X → Type 0) (xs : List X) → Has P (filter p xs) → Has P xs
filter_has p P [] h = h
filter_has p P (x ∷ xs) h = elim (if_kept (p x) P x (filter p xs) h) [ inl a ↦ inl a | inr b ↦ inr (filter_has p P xs b) ]

kept_if : {X : Type 0} (b : Bool) (P : X → Type 0) (x : X) (xs : List X) → Has P xs → Has P (cond b (x ∷ xs) xs)
kept_if true P x xs h = inr h
kept_if false P x xs h = h

has_filter : {X : Type 0} (p : X → Bool) (P : X → Type 0) (xs : List X) → Has (λ x. P x × (p x ≡ true)) xs → Has P (filter p xs)
has_filter p P [] h = h
has_filter p P (x ∷ xs) h = elim h [ inl a ↦ rw a.1 (inl a.0) | inr b ↦ kept_if (p x) P x (filter p xs) (has_filter p P xs b) ]

lt_yes : (x y : ℤ) → x <ℤ y → int_lt x y ≡ true
lt_yes x y h = grind (arith, ints)

all_low : (q : Corners) → AllByRecursion (λ p. lowest_of q ≤ℤ p.y) (ring_of q)
all_low q = (
  omega (arith, ints, clamps),
  (
    omega (arith, ints, clamps),
    (omega (arith, ints, clamps), (omega (arith, ints, clamps), (omega (arith, ints, clamps), tt))),
  ),
)

all_high : (q : Corners) → AllByRecursion (λ p. p.y ≤ℤ highest_of q) (ring_of q)
all_high q = (
  omega (arith, ints, clamps),
  (
    omega (arith, ints, clamps),
    (omega (arith, ints, clamps), (omega (arith, ints, clamps), (omega (arith, ints, clamps), tt))),
  ),
)

-- a quadrilateral with a tile of the window's rows has a row in it
row_shared : (w : RowRange) (q : Corners) (t : Tile) → IsRing q → Wound t q → w.y0 ≤ℤ t.j → t.j <ℤ w.y1 → has_row_in w q ≡ true
unfolding has_row_in
row_shared w q t ring wound from below =
    by_lt_z t.j (lowest_of q)
    (λ lt. absurd (wound (closed_under (ring_of q) t (lowest_of q) ring.loop.closed (all_low q) lt)))
    (λ low. by_lt_z t.j (highest_of q)
    (λ high. lt_yes (int_max w.y0 (lowest_of q)) (int_min w.y1 (highest_of q)) (omega (arith, ints, clamps, from, below, low, high)))
    (λ over. absurd (wound (closed_over (ring_of q) t (highest_of q) ring.loop.closed (all_high q) over))))

pub list_area : (scene : Scene) → IsScene scene
    → CoversLayer (cells_of scene) scene.tree.now.top scene.pair scene.window
    (pieces_in (cells_of scene) scene.tree.now.top scene.parts.now scene.pair scene.window)
unfolding pieces_in
list_area scene sc t from below =
    let all = placed_pieces (cells_of scene) scene.parts.now scene.pair scene.tree.now.top in
    let both = top_both scene sc t in (
      λ a. has_any (On scene.pair t) (flattened (cells_of scene) scene.tree.now.top)
          (both.0 (filter_has (has_row_in scene.window) (Wound t) all
          (any_has (Wound t) (filter (has_row_in scene.window) all) a))),
      λ a. has_any (Wound t) (filter (has_row_in scene.window) all) (has_filter (has_row_in scene.window) (Wound t) all
          (has_on IsRing (Wound t) (λ q. Wound t q × (has_row_in scene.window q ≡ true)) all (top_rings scene sc)
          (λ q ring wound. (wound, row_shared scene.window q t ring wound from below))
          (both.1 (any_has (On scene.pair t) (flattened (cells_of scene) scene.tree.now.top) a)))),
    )
