-- The boxes of shapes and of placements.
use Rattle.std.proofs.Common.{◌≡◌, ◌⊎◌, ℕ, ℤ, ◌+ℤ◌, ◌+◌, ◌^◌, ◌<◌, ◌≤◌, List, [], Option, Some, None, IfSome, All}
use Rattle.std.proofs.Common.{length, get_or, slice_get, refl, sym, ap, subst, ◌∙◌, inl, inr, arith, true≢false}
use Rattle.std.specs.Option.{option_map}
use Rattle.std.proofs.lemmas.Int.{ints}
use Rattle.std.proofs.lemmas.Option.{none-some, same_Some, slice_get-get_or, get_or_from_slice_get}
use Rattle.std.proofs.lemmas.List.{length-map}
use Rattle.cell_tree.specs.Chains.{IsShort}
use Rattle.cell_tree.proofs.FlatLemmas.{vertex_cases, own_vertex, placed_vertex}
use Rattle.half_grid.specs.declared.plane.Point.{Point}
use Rattle.half_grid.specs.declared.extent.Frame.{Frame}
use Rattle.layout_model.specs.Hulls.{IsInBox, IsLeastBoxOf}
use Rattle.layout_model.specs.Images.{moved}
use Rattle.layout_model.specs.Layouts.{IsWithin, IsMove, AreOffsets, IsShapeOnGrid, IsPlacementOnGrid}
use Rattle.layout_model.specs.declared.pair.Pair.{Pair}
use Rattle.layout_model.specs.declared.shapes.Shape.{Shape}
use Rattle.layout_model.specs.declared.cells.Placement.{Placement}
use Rattle.layout_model.specs.declared.cells.Cell.{Cell}
use Rattle.cell_tree.specs.Cells.{PlacesAt, placements_at, shapes_at, targets_at, cell_number}
use Rattle.cell_tree.specs.Linking.{AreTargetsBelow}
use Rattle.cell_tree.specs.Flattening.{IsVertex}
use Rattle.cell_tree.specs.Boxes.{IsLeastBox, IsOneOf, IsHull, IsUpTo, IsBoxUpTo, summed_box, moved_box, oriented_box}
use Rattle.layout_model.specs.Pairs.{same_pair}
use Rattle.cell_tree.specs.HullTables.{ShapeVertex, IsMoveOf, OwnVertex, PlacedVertex, placed_hull, hull_in, hulls_at}
use Rattle.cell_tree.specs.HullTables.{widest, widened_list, AreInOrder, AreCellHulls, HasNearVertices}
use Rattle.cell_tree.specs.declared.hulls.PairHull.{PairHull}
use Rattle.cell_tree.proofs.SlotLemmas.{All-slot, All-from_slots, one_slot, slot_map}
use Rattle.std.proofs.lemmas.List.Elements.{All-nil}
use Rattle.cell_tree.proofs.SearchLemmas.{apart}
use Rattle.cell_tree.proofs.BoxLemmas.{same_hull, least_of, summed_least, least_up_to, Image, oriented_point, oriented_least}
use Rattle.cell_tree.proofs.HullLemmas.{pairs, pair_same, widened_here, widened_elsewhere, widened_in_order, widest_hull, entry_hull}

pub up_to_more : (a b : ℕ) (z : ℤ) → a ≤ b → IsUpTo a z → IsUpTo b z
up_to_more a b z less near = let l = near.low in let h = near.high in record { low = omega (arith, ints); high = omega (arith, ints) }

pub box_more : (a b : ℕ) (box : Frame) → a ≤ b → IsBoxUpTo a box → IsBoxUpTo b box
box_more a b box less near =
    record {
      x0 = up_to_more a b box.x0 less near.x0;
      y0 = up_to_more a b box.y0 less near.y0;
      x1 =
          up_to_more a b box.x1 less near.x1;
      y1 = up_to_more a b box.y1 less near.y1;
    }

-- ---- shapes

pub points_up_to : (shape : Shape) (box : Frame) → IsShapeOnGrid shape → IsLeastBox (IsOneOf shape.points) box → IsBoxUpTo (2 ^ 60) box
points_up_to shape box on least = box_more (2 ^ 42) (2 ^ 60) box (omega arith)
    (least_up_to (IsOneOf shape.points) box (2 ^ 42) least
    (λ p one. All-slot shape.points (IsWithin (2 ^ 42)) on.near one.0 p one.1))

pub offsets_up_to : (offsets : List Point) (box : Frame) → AreOffsets offsets → IsLeastBoxOf offsets box → IsBoxUpTo (2 ^ 41) box
offsets_up_to offsets box are least = least_up_to (IsOneOf offsets) box (2 ^ 41) (least_of offsets box least)
    (λ p one. (All-slot offsets IsMove are.moves one.0 p one.1).near)

pub shape_least : (shape : Shape) (a b box : Frame) → IsLeastBox (IsOneOf shape.points) a
    → IsLeastBoxOf shape.offsets b → box ≡ summed_box a b → IsLeastBox (ShapeVertex shape) box
shape_least shape a b box points offsets is = subst (IsLeastBox (ShapeVertex shape)) (sym is)
    (summed_least (IsOneOf shape.points) (IsOneOf shape.offsets) (ShapeVertex shape) a b
    (λ p q one two. record { place = two.0; by = q; offset = two.1; corner = one.0; v = p; point = one.1; is = refl })
    (λ r vertex. (vertex.v, vertex.by, (vertex.corner, vertex.point), (vertex.place, vertex.offset), vertex.is)) points (least_of shape.offsets b offsets))

-- one more shape
pub own_more : (shapes : List Shape) (k : ℕ) (shape : Shape) (box : Frame) (old new : List PairHull)
    → slice_get shapes k ≡ Some shape → IsLeastBox (ShapeVertex shape) box → new ≡ widened_list old shape.pair box
    → AreInOrder old × ((pair : Pair) → IsHull (OwnVertex shapes k pair) (hull_in old pair)) → AreInOrder new
    × ((pair : Pair) → IsHull (OwnVertex shapes (k + 1) pair) (hull_in new pair))
own_more shapes k shape box old new here least is so = (
  subst AreInOrder (sym is) (widened_in_order old shape.pair box so.0),
  λ pair. subst (λ l. IsHull (OwnVertex shapes (k + 1) pair) (hull_in l pair)) (sym is) (elim (pairs shape.pair pair) [
    | inl same ↦ subst (λ q. IsHull (OwnVertex shapes (k + 1) q) (hull_in (widened_list old shape.pair box) q)) same
        (subst (IsHull (OwnVertex shapes (k + 1) shape.pair)) (sym (widened_here old shape.pair box so.0))
        (widest_hull (OwnVertex shapes k shape.pair) (ShapeVertex shape) (OwnVertex shapes (k + 1) shape.pair) (hull_in old shape.pair) (Some box)
        (λ p own. record {
          number = own.number;
          early = omega (arith, own.early);
          shape = own.shape;
          here =
              own.here;
          on_pair = own.on_pair;
          vertex = own.vertex;
        })
        (λ p vertex. record { number = k; early = omega arith; shape = shape; here = here; on_pair = refl; vertex = vertex })
        (λ p own. elim (apart own.number k) [
          | inl e ↦ inr (subst (λ s. ShapeVertex s p)
              (one_slot shapes k own.shape shape (subst (λ i. slice_get shapes i ≡ Some own.shape) e own.here) here)
              own.vertex)
          | inr differs ↦ inl (record {
            number = own.number;
            early = omega (arith, own.early);
            shape =
                own.shape;
            here = own.here;
            on_pair = own.on_pair;
            vertex = own.vertex;
          })
        ])
        (so.1 shape.pair) least))
    | inr other ↦ subst (IsHull (OwnVertex shapes (k + 1) pair)) (sym (widened_elsewhere old shape.pair pair box other))
        (same_hull (OwnVertex shapes k pair) (OwnVertex shapes (k + 1) pair) (hull_in old pair)
        (λ p own. record {
          number = own.number;
          early = omega (arith, own.early);
          shape = own.shape;
          here =
              own.here;
          on_pair = own.on_pair;
          vertex = own.vertex;
        })
        (λ p own. elim (apart own.number k) [
          | inl e ↦ absurd (let s = one_slot shapes k own.shape shape (subst (λ i. slice_get shapes i ≡ Some own.shape) e own.here) here in
              let yes = pair_same pair in let q : shape.pair ≡ pair = sym (ap (λ s. s.pair) s) ∙ own.on_pair in
              true≢false (sym yes ∙ ap (λ c. same_pair c pair) (sym q) ∙ other))
          | inr differs ↦ record {
            number = own.number;
            early = omega (arith, own.early);
            shape = own.shape;
            here =
                own.here;
            on_pair = own.on_pair;
            vertex = own.vertex;
          }
        ])
        (so.1 pair))
  ]),
)

-- ---- placements

moved_least : (placement : Placement) (a : Frame) → IsLeastBox (IsOneOf placement.offsets) a → IsLeastBox (IsMoveOf placement) (moved_box placement.at a)
moved_least placement a least = record {
  around = λ m mv. subst (IsInBox (moved_box placement.at a)) mv.is
      (let i = least.around mv.by (mv.place, mv.offset) in let l = i.left in let b = i.bottom in let r = i.right in
      let t = i.top in
      record { left = omega (arith, ints); bottom = omega (arith, ints); right = omega (arith, ints); top = omega (arith, ints) });
  left = (
    moved least.left.0 placement.at,
    record {
      place = least.left.1.0;
      by = least.left.0;
      offset =
          least.left.1.1;
      is = refl;
    },
    commuted placement.at.x least.left.0.x a.x0 least.left.2,
  );
  bottom = (
    moved least.bottom.0 placement.at,
    record {
      place = least.bottom.1.0;
      by = least.bottom.0;
      offset =
          least.bottom.1.1;
      is = refl;
    },
    commuted placement.at.y least.bottom.0.y a.y0 least.bottom.2,
  );
  right = (
    moved least.right.0 placement.at,
    record {
      place = least.right.1.0;
      by = least.right.0;
      offset =
          least.right.1.1;
      is = refl;
    },
    commuted placement.at.x least.right.0.x a.x1 least.right.2,
  );
  top = (
    moved least.top.0 placement.at,
    record {
      place = least.top.1.0;
      by = least.top.0;
      offset = least.top.1.1;
      is =
          refl;
    },
    commuted placement.at.y least.top.0.y a.y1 least.top.2,
  );
}
  where
    commuted : (z by side : ℤ) → by ≡ side → (z +ℤ by) ≡ (side +ℤ z)
    commuted z by side e = omega (arith, ints)

pub moves_least : (placement : Placement) (a box : Frame) → IsLeastBoxOf placement.offsets a
    → box ≡ moved_box placement.at a → IsLeastBox (IsMoveOf placement) box
moves_least placement a box offsets is = subst (IsLeastBox (IsMoveOf placement)) (sym is) (moved_least placement a (least_of placement.offsets a offsets))

pub moves_up_to : (placement : Placement) (a : Frame) → IsPlacementOnGrid placement → IsLeastBoxOf placement.offsets a
    → IsBoxUpTo (2 ^ 43) (moved_box placement.at a)
moves_up_to placement a on offsets =
    let b = offsets_up_to placement.offsets a on.offsets offsets in let at = on.at.near in
    let x0 = b.x0 in let y0 = b.y0 in let x1 = b.x1 in let y1 = b.y1 in
    record {
      x0 = (let l = x0.low in let h = x0.high in let m = at.x_low in let n = at.x_high in record { low = omega (arith, ints); high = omega (arith, ints) });
      y0 = (let l = y0.low in let h = y0.high in let m = at.y_low in let n = at.y_high in record { low = omega (arith, ints); high = omega (arith, ints) });
      x1 = (let l = x1.low in let h = x1.high in let m = at.x_low in let n = at.x_high in record { low = omega (arith, ints); high = omega (arith, ints) });
      y1 = (let l = y1.low in let h = y1.high in let m = at.y_low in let n = at.y_high in record { low = omega (arith, ints); high = omega (arith, ints) });
    }

-- the vertices of a placed cell, where the placement shows them
pub placed_least : (cells : List Cell) (placement : Placement) (m : ℕ) (pair : Pair) (hull moves : Frame)
    → IsLeastBox (IsVertex cells m pair) hull → IsLeastBox (IsMoveOf placement) moves
    → IsLeastBox (λ p. (v : Point) × (mv : Point) × IsVertex cells m pair v × IsMoveOf placement mv
    × (moved mv (oriented_point placement.orient v) ≡ p)) (placed_hull placement.orient moves hull)
placed_least cells placement m pair hull moves vertices are =
    summed_least (Image (oriented_point placement.orient) (IsVertex cells m pair)) (IsMoveOf placement)
    (λ p. (v : Point) × (mv : Point) × IsVertex cells m pair v × IsMoveOf placement mv
    × (moved mv (oriented_point placement.orient v) ≡ p)) (oriented_box placement.orient hull) moves
    (λ p q image mv. (image.0, q, image.1, mv, ap (moved q) image.2))
    (λ r h. (oriented_point placement.orient h.0, h.1, (h.0, h.2, refl), h.3, h.4)) (oriented_least placement.orient (IsVertex cells m pair) hull vertices) are

-- the box of a placed cell
abbrev Shown : List Cell → Placement → ℕ → Pair → Point → Type 0
Shown cells placement m pair p = (v : Point) × (mv : Point) × IsVertex cells m pair v × IsMoveOf placement mv
    × (moved mv (oriented_point placement.orient v) ≡ p)

shown_hull : (cells : List Cell) (placement : Placement) (m : ℕ) (pair : Pair) (hull : Option Frame) (moves : Frame)
    → IsHull (IsVertex cells m pair) hull → IsLeastBox (IsMoveOf placement) moves
    → IsHull (Shown cells placement m pair) (option_map (placed_hull placement.orient moves) hull)
shown_hull cells placement m pair None moves none are = λ p h. none h.0 h.2
shown_hull cells placement m pair (Some hull) moves least are = placed_least cells placement m pair hull moves least are

module _ (cells : List Cell) (n k : ℕ) (placement : Placement) (slot : slice_get (placements_at cells n) k ≡ Some placement) (pair : Pair) where
  more_early : (p : Point) → PlacedVertex cells n k pair p → PlacedVertex cells n (k + 1) pair p
  more_early p v = record {
    number = v.number;
    early = omega (arith, v.early);
    placement = v.placement;
    placed =
        v.placed;
    target = v.target;
    targeted = v.targeted;
    place = v.place;
    by = v.by;
    offset = v.offset;
    v =
        v.v;
    vertex = v.vertex;
    is = v.is;
  }

  less_early : (p : Point) (v : PlacedVertex cells n (k + 1) pair p) → (v.number ≡ k → ⊥) → PlacedVertex cells n k pair p
  less_early p v differs =
      record {
        number = v.number;
        early = omega (arith, v.early);
        placement = v.placement;
        placed = v.placed;
        target =
            v.target;
        targeted = v.targeted;
        place = v.place;
        by = v.by;
        offset = v.offset;
        v = v.v;
        vertex = v.vertex;
        is =
            v.is;
      }

  same_placement : (p : Point) (v : PlacedVertex cells n (k + 1) pair p) → v.number ≡ k → v.placement ≡ placement
  same_placement p v e = one_slot (placements_at cells n) k v.placement placement
      (subst (λ i. slice_get (placements_at cells n) i ≡ Some v.placement) e v.placed) slot

  at_target : (p : Point) (m : ℕ) → cell_number cells placement.target ≡ Some m → Shown cells placement m pair p → PlacedVertex cells n (k + 1) pair p
  at_target p m target h = record {
    number = k;
    early = omega arith;
    placement = placement;
    placed = slot;
    target = m;
    targeted = target;
    place = h.3.place;
    by = h.3.by;
    offset = h.3.offset;
    v = h.0;
    vertex = h.2;
    is = ap (λ a. moved a (oriented_point placement.orient h.0)) h.3.is ∙ h.4;
  }

  from_target : (p : Point) (m : ℕ) (v : PlacedVertex cells n (k + 1) pair p)
      → cell_number cells placement.target ≡ Some m → v.number ≡ k → Shown cells placement m pair p
  from_target p m v target e =
      let same = same_placement p v e in
      let t : v.target ≡ m = same_Some v.target m (sym v.targeted ∙ ap (λ q. cell_number cells q.target) same ∙ target) in (
        v.v,
        moved v.by placement.at,
        subst (λ c. IsVertex cells c pair v.v) t v.vertex,
        record { place = v.place; by = v.by; offset = subst (λ q. slice_get q.offsets v.place ≡ Some v.by) same v.offset; is = refl },
        ap (λ q. moved (moved v.by q.at) (oriented_point q.orient v.v)) (sym same) ∙ v.is,
      )

  pub placed_more : (P : Point → Type 0) (old new : Option Frame) (moves : Frame) (o : Option ℕ)
      (hulls : List (List PairHull)) → cell_number cells placement.target ≡ o
      → ((m : ℕ) → o ≡ Some m → IsHull (IsVertex cells m pair) (hull_in (get_or hulls m []) pair)) → IsLeastBox (IsMoveOf placement) moves
      → new ≡ widest old (option_map (placed_hull placement.orient moves) (hull_in (hulls_at hulls o) pair))
      → IsHull (λ p. P p ⊎ PlacedVertex cells n k pair p) old → IsHull (λ p. P p ⊎ PlacedVertex cells n (k + 1) pair p) new
  placed_more P old new moves None hulls target known are is so = subst (IsHull (λ p. P p ⊎ PlacedVertex cells n (k + 1) pair p)) (sym is)
      (same_hull (λ p. P p ⊎ PlacedVertex cells n k pair p) (λ p. P p ⊎ PlacedVertex cells n (k + 1) pair p) old
      (λ p h. elim h [ inl own ↦ inl own | inr v ↦ inr (more_early p v) ])
      (λ p h. elim h [
        | inl own ↦ inl own
        | inr v ↦ elim (apart v.number k) [
          | inl e ↦ absurd (none-some v.target (sym target ∙ sym (ap (λ q. cell_number cells q.target) (same_placement p v e)) ∙ v.targeted))
          | inr differs ↦ inr (less_early p v differs)
        ]
      ]) so)
  placed_more P old new moves (Some m) hulls target known are is so = subst (IsHull (λ p. P p ⊎ PlacedVertex cells n (k + 1) pair p)) (sym is)
      (widest_hull (λ p. P p ⊎ PlacedVertex cells n k pair p) (Shown cells placement m pair)
      (λ p. P p ⊎ PlacedVertex cells n (k + 1) pair p) old
      (option_map (placed_hull placement.orient moves) (hull_in (get_or hulls m []) pair))
      (λ p h. elim h [ inl own ↦ inl own | inr v ↦ inr (more_early p v) ])
      (λ p h. inr (at_target p m target h))
      (λ p h. elim h [
        | inl own ↦ inl (inl own)
        | inr v ↦ elim
            (apart v.number k) [
              | inl e ↦ inr (from_target p m v target e)
              | inr differs ↦ inl
                  (inr (less_early p v differs))
            ]
      ])
      so (shown_hull cells placement m pair (hull_in (get_or hulls m []) pair) moves (known m refl) are))

-- ---- the entries of a cell's list

pub entries_up_to : (cells : List Cell) (m : ℕ) (hulls : List PairHull) → AreCellHulls cells m hulls
    → HasNearVertices cells m → All (λ here. IsBoxUpTo (2 ^ 53) here.hull) hulls
entries_up_to cells m hulls are near = All-from_slots hulls (λ here. IsBoxUpTo (2 ^ 53) here.hull) (λ k here at.
    least_up_to (IsVertex cells m here.pair) here.hull (2 ^ 53)
    (subst (IsHull (IsVertex cells m here.pair)) (entry_hull hulls k here are.0 at) (are.1 here.pair))
    (near here.pair))

-- of the cell that a placement places, if there is one
pub target_hulls : (cells : List Cell) (hulls : List (List PairHull)) (o : Option ℕ)
    → ((m : ℕ) → o ≡ Some m → AreCellHulls cells m (get_or hulls m []))
    → ((m : ℕ) → o ≡ Some m → HasNearVertices cells m)
    → AreInOrder (hulls_at hulls o) × All (λ here. IsBoxUpTo (2 ^ 53) here.hull) (hulls_at hulls o)
target_hulls cells hulls None are near = (tt, All-nil (λ here. IsBoxUpTo (2 ^ 53) here.hull))
target_hulls cells hulls (Some m) are near = ((are m refl).0, entries_up_to cells m (get_or hulls m []) (are m refl) (near m refl))

-- ---- a cell

-- the placement that is looked at, and its target
pub shown_slot : (cells : List Cell) (n k : ℕ) (placements : List Placement) (targets : List (Option ℕ))
    (placement : Placement) → placements ≡ placements_at cells n → targets ≡ targets_at cells n → k < length targets
    → placement ≡ get_or placements k placement → slice_get (placements_at cells n) k ≡ Some placement
shown_slot cells n k placements targets placement p t inside is =
    let long : k < length (placements_at cells n) = omega (arith, ap length t, length-map (placements_at cells n) (λ p. cell_number cells p.target)) in
    slice_get-get_or (placements_at cells n) k placement long ∙ ap Some (ap (λ l. get_or l k placement) (sym p) ∙ sym is)

pub shown_target : (cells : List Cell) (n k : ℕ) (targets : List (Option ℕ)) (placement : Placement)
    → targets ≡ targets_at cells n → slice_get (placements_at cells n) k ≡ Some placement
    → cell_number cells placement.target ≡ get_or targets k None
shown_target cells n k targets placement t slot =
    sym (ap (λ l. get_or l k None) t ∙ get_or_from_slice_get (targets_at cells n) k
    (cell_number cells placement.target) None
    (slot_map (λ p. cell_number cells p.target) (placements_at cells n) k placement slot))

pub shown_places : (cells : List Cell) (n k m : ℕ) (targets : List (Option ℕ)) (placement : Placement)
    → targets ≡ targets_at cells n → slice_get (placements_at cells n) k ≡ Some placement
    → get_or targets k None ≡ Some m → PlacesAt cells n k m
shown_places cells n k m targets placement t slot some =
    slot_map (λ p. cell_number cells p.target) (placements_at cells n) k placement slot ∙ ap Some (shown_target cells n k targets placement t slot ∙ some)

pub step_hulls : (cells : List Cell) (n k : ℕ) (targets : List (Option ℕ)) (placement : Placement)
    (table : List (List PairHull)) (old new placed : List PairHull) (moves : Frame) (P : Pair → Point → Type 0)
    → targets ≡ targets_at cells n → slice_get (placements_at cells n) k ≡ Some placement
    → ((k m : ℕ) → PlacesAt cells n k m → AreCellHulls cells m (get_or table m []))
    → IsLeastBox (IsMoveOf placement) moves → placed ≡ hulls_at table (get_or targets k None)
    → ((pair : Pair) → hull_in new pair ≡ widest (hull_in old pair) (option_map (placed_hull placement.orient moves) (hull_in placed pair)))
    → ((pair : Pair) → IsHull (λ p. P pair p ⊎ PlacedVertex cells n k pair p) (hull_in old pair)) → (pair : Pair)
    → IsHull (λ p. P pair p ⊎ PlacedVertex cells n (k + 1) pair p) (hull_in new pair)
step_hulls cells n k targets placement table old new placed moves P t slot known are shown is so pair =
    placed_more cells n k placement slot pair (P pair) (hull_in old pair) (hull_in new pair) moves
    (get_or targets k None) table (shown_target cells n k targets placement t slot)
    (λ m e. (known k m (shown_places cells n k m targets placement t slot e)).1 pair) are
    (is pair ∙ ap (λ l. widest (hull_in old pair) (option_map (placed_hull placement.orient moves) (hull_in l pair))) shown) (so pair)

pub step_target : (cells : List Cell) (n k : ℕ) (targets : List (Option ℕ)) (placement : Placement)
    (table : List (List PairHull)) (placed : List PairHull) → targets ≡ targets_at cells n
    → slice_get (placements_at cells n) k ≡ Some placement
    → ((k m : ℕ) → PlacesAt cells n k m → AreCellHulls cells m (get_or table m []))
    → ((k m : ℕ) → PlacesAt cells n k m → HasNearVertices cells m) → placed ≡ hulls_at table (get_or targets k None)
    → AreInOrder placed × All (λ here. IsBoxUpTo (2 ^ 53) here.hull) placed
step_target cells n k targets placement table placed t slot known near shown =
    let both = target_hulls cells table (get_or targets k None)
    (λ m e. known k m (shown_places cells n k m targets placement t slot e))
    (λ m e. near k m (shown_places cells n k m targets placement t slot e)) in
    (subst AreInOrder (sym shown) both.0, subst (All (λ here. IsBoxUpTo (2 ^ 53) here.hull)) (sym shown) both.1)

pub cell_hulls : (cells : List Cell) (n k : ℕ) (targets : List (Option ℕ)) (hulls : List PairHull)
    → targets ≡ targets_at cells n → length targets ≤ k → IsShort cells 64 n → AreInOrder hulls
    → ((pair : Pair) → IsHull (λ p. OwnVertex (shapes_at cells n) (length (shapes_at cells n)) pair p
    ⊎ PlacedVertex cells n k pair p) (hull_in hulls pair)) → AreCellHulls cells n hulls
cell_hulls cells n k targets hulls t past short apart so =
    let long : length (placements_at cells n) ≤ k = omega (arith, ap length t, length-map (placements_at cells n) (λ p. cell_number cells p.target)) in (
      apart,
      λ pair. same_hull (λ p. OwnVertex (shapes_at cells n) (length (shapes_at cells n)) pair p
          ⊎ PlacedVertex cells n k pair p) (IsVertex cells n pair) (hull_in hulls pair)
          (λ p h. elim h [ inl own ↦ own_vertex cells n pair p (length (shapes_at cells n)) short own | inr v ↦ placed_vertex cells n pair p k short v ])
          (λ p vertex. elim (vertex_cases cells n pair p short vertex) [
            | inl own ↦ inl own
            | inr v ↦ inr (record {
              number = v.number;
              early = omega (arith, v.early);
              placement =
                  v.placement;
              placed = v.placed;
              target = v.target;
              targeted = v.targeted;
              place = v.place;
              by =
                  v.by;
              offset = v.offset;
              v = v.v;
              vertex = v.vertex;
              is = v.is;
            })
          ])
          (so pair),
    )

-- the first boxes are those of the shapes
pub own_only : (cells : List Cell) (n : ℕ) (hulls : List PairHull) (shapes : List Shape) → shapes ≡ shapes_at cells n
    → AreInOrder hulls × ((pair : Pair) → IsHull (OwnVertex shapes (length shapes) pair) (hull_in hulls pair))
    → AreInOrder hulls × ((pair : Pair)
    → IsHull (λ p. OwnVertex (shapes_at cells n) (length (shapes_at cells n)) pair p
    ⊎ PlacedVertex cells n 0 pair p) (hull_in hulls pair))
own_only cells n hulls shapes e own = (
  own.0,
  λ pair. same_hull (OwnVertex (shapes_at cells n) (length (shapes_at cells n)) pair)
      (λ p. OwnVertex (shapes_at cells n) (length (shapes_at cells n)) pair p ⊎ PlacedVertex cells n 0 pair p) (hull_in hulls pair)
      (λ p o. inl o) (λ p h. elim h [ inl o ↦ o | inr v ↦ absurd (let none = v.early in omega arith) ])
      (subst (λ l. IsHull (OwnVertex l (length l) pair) (hull_in hulls pair)) e (own.1 pair)),
)

pub target_below : (cells : List Cell) (k : ℕ) (targets : List (Option ℕ)) (bound : ℕ)
    → AreTargetsBelow (length cells) targets → k < length targets → length cells ≡ bound
    → IfSome (get_or targets k None) (λ m. m < bound)
target_below cells k targets bound below inside e = by (get_or targets k None) (slice_get-get_or targets k None inside)
  where
    by : (o : Option ℕ) → slice_get targets k ≡ Some o → IfSome o (λ m. m < bound)
    by None at = tt
    by (Some m) at = subst (λ b. m < b) e (below k m at)
