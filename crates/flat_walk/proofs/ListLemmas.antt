-- The list of a walk: its marks, that it is of quadrilaterals, and how long it is.
use Rattle.std.proofs.Common.{◌≡◌, ℕ, ℤ, zero, suc, pos, ◌*◌, ◌^◌, ◌≤◌, ◌+ℤ◌, ◌*ℤ◌, Bool, true}
use Rattle.std.proofs.Common.{false, cond, List, [], ◌∷◌, ◌++◌, Option, Some, None, All, IfSome, map, length, refl}
use Rattle.std.proofs.Common.{ap, subst, ◌∙◌, arith, length-append}
use Rattle.std.specs.List.{filter, flat_map, AllByRecursion}
use Rattle.std.specs.Option.{option_map_or}
use Rattle.std.proofs.Math.IntN.{zero-*ℤ, suc_ℤ-*ℤ}
use Rattle.std.proofs.lemmas.Int.{ints}
use Rattle.std.proofs.lemmas.List.{length-map}
use Rattle.std.proofs.lemmas.List.Elements.{All-from_recursion, recursion_from_All}
use Rattle.half_grid.specs.Quads.{Corners, corners, IsQuad, corners_of}
use Rattle.half_grid.specs.Reach.{IsPointWithinReach}
use Rattle.half_grid.specs.Trapezoids.{Trapezoid}
use Rattle.half_grid.specs.Windows.{RowRange}
use Rattle.half_grid.specs.declared.plane.Point.{Point}
use Rattle.layout_model.specs.Images.{image_of, moved}
use Rattle.layout_model.specs.Layouts.{IsWithin}
use Rattle.layout_model.specs.declared.pair.Pair.{Pair}
use Rattle.layout_model.specs.declared.orient.Orient.{Orient}
use Rattle.layout_model.specs.declared.shapes.Shape.{Shape}
use Rattle.layout_model.specs.declared.cells.Placement.{Placement}
use Rattle.layout_model.specs.declared.cells.Cell.{Cell}
use Rattle.cell_tree.specs.Cells.{shapes_at, placements_at, cell_number}
use Rattle.cell_tree.specs.Flattening.{placed_things, things_within, Flat, flats_of_shape, own_flats, flat_image, flattened, IsVertex}
use Rattle.cell_tree.proofs.ForCallers.{top_reachable}
use Rattle.flat_walk.specs.Quads.{quad_image, moved_quad, has_row_in}
use Rattle.flat_walk.specs.Tables.{lists_at, IsKept}
use Rattle.flat_walk.specs.Walks.{is_on, pieces_of_shape, pieces_of_shapes, own_pieces, placed_pieces, pieces_in}
use Rattle.flat_walk.specs.Rests.{marked_image, marked_own, marked, shows_in, IsMarkedQuad}
use Rattle.flat_walk.specs.Ways.{IsScene, cells_of, marked_of}
use Rattle.flat_walk.specs.declared.scenes.Scene.{Scene}
use Rattle.flat_walk.proofs.Amid.{IsAmid, IsSpanned}
use Rattle.flat_walk.proofs.PointLemmas.{same_point}
use Rattle.flat_walk.proofs.RingImages.{IsRing}
use Rattle.flat_walk.proofs.SpanLemmas.{all_shown}

-- ---- a cell that is neither turned nor moved

abbrev pub still : Orient
still = record { flip = false; turns = 0; mag = 1 }

abbrev pub zero_point : Point
zero_point = record { x = pos 0; y = pos 0 }

once_z : (z : ℤ) → (pos 1 *ℤ z) +ℤ pos 0 ≡ z
once_z z = rw (suc_ℤ-*ℤ (pos 0) z, zero-*ℤ z) (omega (arith, ints))

still_point : (p : Point) → image_of still zero_point p ≡ p
still_point p = same_point _ _ (once_z p.x) (once_z p.y)

still_quad : (q : Corners) → quad_image still zero_point q ≡ q
still_quad q = λ i. corners (still_point q.a i) (still_point q.b i) (still_point q.c i) (still_point q.d i)

pub still_list : (items : List (Option Corners)) → map (marked_image still zero_point) items ≡ items
still_list [] = refl
still_list (None ∷ items) = ap (λ l. None ∷ l) (still_list items)
still_list (Some q ∷ items) = ap (λ p. Some p ∷ map (marked_image still zero_point) items) (still_quad q) ∙ ap (λ l. Some q ∷ l) (still_list items)

-- ---- marks

abbrev pub somes : List (Option Corners) → List Corners
somes [] = []
somes (None ∷ items) = somes items
somes (Some q ∷ items) = q ∷ somes items

somes_both : (xs ys : List (Option Corners)) → somes (xs ++ ys) ≡ somes xs ++ somes ys
somes_both [] ys = refl
somes_both (None ∷ xs) ys = somes_both xs ys
somes_both (Some q ∷ xs) ys = ap (λ l. q ∷ l) (somes_both xs ys)

somes_image : (orient : Orient) (at : Point) (xs : List (Option Corners)) → somes (map (marked_image orient at) xs) ≡ map (quad_image orient at) (somes xs)
somes_image orient at [] = refl
somes_image orient at (None ∷ xs) = somes_image orient at xs
somes_image orient at (Some q ∷ xs) = ap (λ l. quad_image orient at q ∷ l) (somes_image orient at xs)

somes_all : (qs : List Corners) → somes (map Some qs) ≡ qs
somes_all [] = refl
somes_all (q ∷ qs) = ap (λ l. q ∷ l) (somes_all qs)

somes_flat : {X : Type 0} (f : X → List (Option Corners)) (g : X → List Corners) (xs : List X)
    → ((x : X) → somes (f x) ≡ g x) → somes (flat_map f xs) ≡ flat_map g xs
somes_flat f g [] same = refl
somes_flat f g (x ∷ xs) same = somes_both (f x) (flat_map f xs) ∙ (ap (λ l. l ++ somes (flat_map f xs)) (same x) ∙ ap (λ l. g x ++ l) (somes_flat f g xs same))

module _ (cells : List Cell) (table : List (List (List Trapezoid))) (pair : Pair) where
  somes_placed : (f : ℕ → List (Option Corners)) (g : ℕ → List Corners) (placement : Placement) (o : Option ℕ) → ((m : ℕ) → somes (f m) ≡ g m)
      → somes (placed_things marked_image placement (option_map_or f o [])) ≡ placed_things quad_image placement (option_map_or g o [])
  somes_placed f g placement None same = somes_flat
      (λ by. map (marked_image placement.orient (moved by placement.at)) [])
      (λ by. map (quad_image placement.orient (moved by placement.at)) []) placement.offsets (λ by. refl)
  somes_placed f g placement (Some m) same =
      somes_flat (λ by. map (marked_image placement.orient (moved by placement.at)) (f m))
      (λ by. map (quad_image placement.orient (moved by placement.at)) (g m)) placement.offsets
      (λ by. somes_image placement.orient (moved by placement.at) (f m) ∙ ap (map (quad_image placement.orient (moved by placement.at))) (same m))

  somes_within : (depth n : ℕ) → somes (things_within (marked_own cells table pair) marked_image cells depth n)
      ≡ things_within (own_pieces cells table pair) quad_image cells depth n
  somes_within zero n = refl
  somes_within (suc depth) n =
      somes_both (map Some (own_pieces cells table pair n))
      (flat_map (λ placement. placed_things marked_image placement
      (option_map_or (things_within (marked_own cells table pair) marked_image cells depth)
      (cell_number cells placement.target) [])) (placements_at cells n))
      ∙ (ap (λ l. l ++ somes
      (flat_map (λ placement. placed_things marked_image placement
      (option_map_or (things_within (marked_own cells table pair) marked_image cells depth)
      (cell_number cells placement.target) [])) (placements_at cells n)))
      (somes_all (own_pieces cells table pair n))
      ∙ ap (λ l. own_pieces cells table pair n ++ l) (somes_flat
      (λ placement. placed_things marked_image placement
      (option_map_or (things_within (marked_own cells table pair) marked_image cells depth)
      (cell_number cells placement.target) []))
      (λ placement. placed_things quad_image placement
      (option_map_or (things_within (own_pieces cells table pair) quad_image cells depth)
      (cell_number cells placement.target) [])) (placements_at cells n)
      (λ placement. somes_placed (things_within (marked_own cells table pair) marked_image cells depth)
      (things_within (own_pieces cells table pair) quad_image cells depth) placement
      (cell_number cells placement.target) (λ m. somes_within depth m))))

  pub somes_are : (n : ℕ) → somes (marked cells table pair n) ≡ placed_pieces cells table pair n
  unfolding marked placed_pieces
  somes_are n = somes_within 64 n

shows_step : (b : Bool) (q : Corners) (xs : List (Option Corners)) (ys : List Corners) → xs ≡ map Some ys
    → cond b (Some q ∷ xs) xs ≡ map Some (cond b (q ∷ ys) ys)
shows_step true q xs ys e = ap (λ l. Some q ∷ l) e
shows_step false q xs ys e = e

shows_somes : (w : RowRange) (items : List (Option Corners)) → filter (shows_in w) items ≡ map Some (filter (has_row_in w) (somes items))
shows_somes w [] = refl
shows_somes w (None ∷ items) = shows_somes w items
shows_somes w (Some q ∷ items) = shows_step (has_row_in w q) q (filter (shows_in w) items) (filter (has_row_in w) (somes items)) (shows_somes w items)

-- what shows of the marked list of the top cell is the list of the walk
pub top_shows : (cells : List Cell) (top : ℕ) (table : List (List (List Trapezoid))) (pair : Pair) (w : RowRange)
    → filter (shows_in w) (marked cells table pair top) ≡ map Some (pieces_in cells top table pair w)
unfolding pieces_in
top_shows cells top table pair w = shows_somes w (marked cells table pair top) ∙ ap (λ l. map Some (filter (has_row_in w) l)) (somes_are cells table pair top)

-- ---- quadrilaterals

near_reach : (P : Point → Type 0) (p : Point) → ((v : Point) → P v → IsWithin (2 ^ 30) v) → IsAmid P p → IsPointWithinReach p
near_reach P p near amid =
    let l = (near amid.left.0 amid.left.1).x_low in let le = amid.left.2 in
    let r = (near amid.right.0 amid.right.1).x_high in let re = amid.right.2 in
    let b = (near amid.bottom.0 amid.bottom.1).y_low in let be = amid.bottom.2 in
    let t = (near amid.top.0 amid.top.1).y_high in let te = amid.top.2 in
    record {
      x = record { low = omega (arith, ints, l, le); high = omega (arith, ints, r, re) };
      y =
          record { low = omega (arith, ints, b, be); high = omega (arith, ints, t, te) };
    }

quad_is : (P : Point → Type 0) (q : Corners) → ((v : Point) → P v → IsWithin (2 ^ 30) v) → IsSpanned P q → IsRing q → IsQuad q
quad_is P q near s ring =
    record {
      a = near_reach P q.a near s.a;
      b = near_reach P q.b near s.b;
      c = near_reach P q.c near s.c;
      d =
          near_reach P q.d near s.d;
      once = ring.once;
    }

marked_quads : (P : Point → Type 0) (items : List (Option Corners)) → ((v : Point) → P v → IsWithin (2 ^ 30) v)
    → AllByRecursion (λ item. IfSome item (λ q. IsSpanned P q × IsRing q)) items → AllByRecursion IsMarkedQuad items
marked_quads P [] near all = tt
marked_quads P (None ∷ items) near all = (tt, marked_quads P items near all.1)
marked_quads P (Some q ∷ items) near all = (quad_is P q near all.0.0 all.0.1, marked_quads P items near all.1)

-- what the top cell shows are quadrilaterals
pub top_quads : (scene : Scene) → IsScene scene → All IsMarkedQuad (marked_of scene scene.tree.now.top)
top_quads scene sc = All-from_recursion IsMarkedQuad (marked_of scene scene.tree.now.top)
    (marked_quads (IsVertex (cells_of scene) scene.tree.now.top scene.pair) (marked_of scene scene.tree.now.top) (λ v vertex. sc.tree.near scene.pair v vertex)
    (all_shown scene sc scene.tree.now.top (top_reachable (cells_of scene) scene.tree.now.top)))

quads_of : (items : List (Option Corners)) → AllByRecursion IsMarkedQuad items → AllByRecursion IsQuad (somes items)
quads_of [] all = tt
quads_of (None ∷ items) all = quads_of items all.1
quads_of (Some q ∷ items) all = (all.0, quads_of items all.1)

pub each_filter : {X : Type 0} (P : X → Type 0) (p : X → Bool) (xs : List X) → AllByRecursion P xs → AllByRecursion P (filter p xs)
each_filter {X} P p [] all = tt
each_filter {X} P p (x ∷ xs) all = by_test (p x) (filter p xs) all.0 (each_filter P p xs all.1)
  where
    by_test : (b : Bool) (ys : List X) → P x → AllByRecursion P ys → AllByRecursion P (cond b (x ∷ ys) ys)
    by_test true ys here all = (here, all)
    by_test false ys here all = all

pub list_quads : (scene : Scene) → IsScene scene → All IsQuad (pieces_in (cells_of scene) scene.tree.now.top scene.parts.now scene.pair scene.window)
unfolding pieces_in
list_quads scene sc = All-from_recursion IsQuad _
    (each_filter IsQuad (has_row_in scene.window)
    (placed_pieces (cells_of scene) scene.parts.now scene.pair scene.tree.now.top)
    (subst (AllByRecursion IsQuad) (somes_are (cells_of scene) scene.parts.now scene.pair scene.tree.now.top)
    (quads_of (marked_of scene scene.tree.now.top)
    (recursion_from_All IsMarkedQuad (marked_of scene scene.tree.now.top) (top_quads scene sc)))))

-- ---- how many there are

-- at most 2^64 of the one to each of the other
abbrev IsShorter : {X Y : Type 0} → List X → List Y → Type 0
IsShorter xs ys = length xs ≤ 2 ^ 64 * length ys

shorter_both : {X Y : Type 0} (xs xs' : List X) (ys ys' : List Y) → IsShorter xs ys → IsShorter xs' ys' → IsShorter (xs ++ xs') (ys ++ ys')
shorter_both xs xs' ys ys' p q = omega (arith, p, q, length-append xs xs', length-append ys ys')

shorter_map : {X Y X' Y' : Type 0} (f : X → X') (g : Y → Y') (xs : List X) (ys : List Y) → IsShorter xs ys → IsShorter (map f xs) (map g ys)
shorter_map f g xs ys p = omega (arith, p, length-map xs f, length-map ys g)

shorter_flat : {Z X Y : Type 0} (f : Z → List X) (g : Z → List Y) (zs : List Z) → ((z : Z) → IsShorter (f z) (g z)) → IsShorter (flat_map f zs) (flat_map g zs)
shorter_flat f g [] each = omega arith
shorter_flat f g (z ∷ zs) each = shorter_both (f z) (flat_map f zs) (g z) (flat_map g zs) (each z) (shorter_flat f g zs each)

shorter_shape : (shape : Shape) (pieces : List Trapezoid) (offsets : List Point) → length pieces ≤ 2 ^ 64
    → IsShorter (flat_map (λ by. map (λ piece. moved_quad by (corners_of piece)) pieces) offsets)
    (map (λ by. (let f : Flat = record { pair = shape.pair; points = map (moved by) shape.points } in f)) offsets)
shorter_shape shape pieces [] few = omega arith
shorter_shape shape pieces (by ∷ offsets) few =
    let rest = shorter_shape shape pieces offsets few in
    omega (
      arith,
      rest,
      few,
      length-append (map (λ piece. moved_quad by (corners_of piece)) pieces)
          (flat_map (λ by. map (λ piece. moved_quad by (corners_of piece)) pieces) offsets),
      length-map pieces
          (λ piece. moved_quad by (corners_of piece)),
    )

shorter_if : {Y : Type 0} (b : Bool) (xs : List Corners) (ys : List Y) → IsShorter xs ys → IsShorter (cond b xs []) ys
shorter_if true xs ys p = p
shorter_if false xs ys p = omega arith

shorter_shapes : (pair : Pair) (shapes : List Shape) (lists : List (List Trapezoid)) → AllByRecursion IsKept lists
    → IsShorter (pieces_of_shapes pair shapes lists) (flat_map flats_of_shape shapes)
shorter_shapes pair [] lists kept = omega arith
shorter_shapes pair (shape ∷ shapes) [] kept = omega arith
shorter_shapes pair (shape ∷ shapes) (pieces ∷ lists) kept =
    shorter_both (cond (is_on pair shape) (pieces_of_shape shape pieces) []) (pieces_of_shapes pair shapes lists)
    (flats_of_shape shape) (flat_map flats_of_shape shapes)
    (shorter_if (is_on pair shape) (pieces_of_shape shape pieces) (flats_of_shape shape)
    (shorter_shape shape pieces shape.offsets (let f = kept.0.few in omega (arith, f))))
    (shorter_shapes pair shapes lists kept.1)

kept_lists : (table : List (List (List Trapezoid))) (n : ℕ) → AllByRecursion (All IsKept) table → AllByRecursion IsKept (lists_at table n)
kept_lists [] n all = tt
kept_lists (lists ∷ table) zero all = recursion_from_All IsKept lists all.0
kept_lists (lists ∷ table) (suc n) all = kept_lists table n all.1

module _ (cells : List Cell) (table : List (List (List Trapezoid))) (pair : Pair) (kept : AllByRecursion (All IsKept) table) where
  shorter_placed : (f : ℕ → List Corners) (g : ℕ → List Flat) (placement : Placement) (o : Option ℕ) → ((m : ℕ) → IsShorter (f m) (g m))
      → IsShorter (placed_things quad_image placement (option_map_or f o [])) (placed_things flat_image placement (option_map_or g o []))
  shorter_placed f g placement None each = shorter_flat
      (λ by. map (quad_image placement.orient (moved by placement.at)) [])
      (λ by. map (flat_image placement.orient (moved by placement.at)) []) placement.offsets (λ by. omega arith)
  shorter_placed f g placement (Some m) each =
      shorter_flat (λ by. map (quad_image placement.orient (moved by placement.at)) (f m))
      (λ by. map (flat_image placement.orient (moved by placement.at)) (g m)) placement.offsets
      (λ by. shorter_map (quad_image placement.orient (moved by placement.at)) (flat_image placement.orient (moved by placement.at)) (f m) (g m) (each m))

  shorter_within : (depth n : ℕ) → IsShorter (things_within (own_pieces cells table pair) quad_image cells depth n)
      (things_within (own_flats cells) flat_image cells depth n)
  shorter_within zero n = omega arith
  shorter_within (suc depth) n = shorter_both (own_pieces cells table pair n) _ (own_flats cells n) _
      (shorter_shapes pair (shapes_at cells n) (lists_at table n) (kept_lists table n kept))
      (shorter_flat (λ placement. placed_things quad_image placement
      (option_map_or (things_within (own_pieces cells table pair) quad_image cells depth)
      (cell_number cells placement.target) []))
      (λ placement. placed_things flat_image placement
      (option_map_or (things_within (own_flats cells) flat_image cells depth)
      (cell_number cells placement.target) [])) (placements_at cells n)
      (λ placement. shorter_placed (things_within (own_pieces cells table pair) quad_image cells depth)
      (things_within (own_flats cells) flat_image cells depth) placement (cell_number cells placement.target)
      (λ m. shorter_within depth m)))

  placed_few : (n : ℕ) → IsShorter (placed_pieces cells table pair n) (flattened cells n)
  unfolding placed_pieces flattened
  placed_few n = shorter_within 64 n

filter_few : {X : Type 0} (p : X → Bool) (xs : List X) → length (filter p xs) ≤ length xs
filter_few {X} p [] = omega arith
filter_few {X} p (x ∷ xs) = by_test (p x) (filter p xs) (filter_few p xs)
  where
    by_test : (b : Bool) (ys : List X) → length ys ≤ length xs → length (cond b (x ∷ ys) ys) ≤ length (x ∷ xs)
    by_test true ys h = omega (arith, h)
    by_test false ys h = omega (arith, h)

pub list_few : (scene : Scene) → IsScene scene → length (pieces_in (cells_of scene) scene.tree.now.top scene.parts.now scene.pair scene.window) ≤ 2 ^ 105
unfolding pieces_in
list_few scene sc =
    let f = filter_few (has_row_in scene.window) (placed_pieces (cells_of scene) scene.parts.now scene.pair scene.tree.now.top) in
    let g = placed_few (cells_of scene) scene.parts.now scene.pair (recursion_from_All (All IsKept) scene.parts.now sc.kept) scene.tree.now.top in
    let h = sc.tree.counted in
    omega (arith, f, g, h)
