-- The flattened shapes of a layout on the grid are closed outlines on the half grid.
use Rattle.std.proofs.Common.{◌≡◌, inl, inr, ℕ, zero, suc, ℤ, pos, negsuc, Bool, false, ◌+ℤ◌, List, []}
use Rattle.std.proofs.Common.{Option, Some, None, All, map, slice_get, true}
use Rattle.std.proofs.Common.{refl, subst, arith}
use Rattle.std.proofs.lemmas.Int.{ints}
use Rattle.std.proofs.lemmas.Bool.Decides.{nat_tests}
use Rattle.std.proofs.lemmas.List.Elements.{recursion_from_All, All-from_recursion}
use Rattle.std.proofs.lemmas.Option.{slice_get_within, get_or_from_slice_get}
use Rattle.std.specs.List.{flat_map}
use Rattle.std.specs.Option.{option_map_or}
use Rattle.half_grid.specs.Halves.{is_even, half, twice}
use Rattle.half_grid.specs.Outlines.{IsOnGrid}
use Rattle.half_grid.specs.Winding.{edges_of}
use Rattle.half_grid.specs.declared.plane.Point.{Point}
use Rattle.trap_join.proofs.ForCallers.{all_members}
use Rattle.square_size.proofs.ForCallers.{half_twice}
use Rattle.layout_model.specs.Images.{moved}
use Rattle.layout_model.specs.Layouts.{IsMove, IsShapeOnGrid, IsPlacementOnGrid, IsCellOnGrid}
use Rattle.layout_model.specs.declared.shapes.Shape.{Shape}
use Rattle.layout_model.specs.declared.cells.Placement.{Placement}
use Rattle.layout_model.specs.declared.cells.Cell.{Cell}
use Rattle.cell_tree.specs.Cells.{shapes_at, placements_at, cell_number}
use Rattle.cell_tree.specs.Flattening.{Flat, flats_of_shape, own_flats, flat_image, placed_things, things_within, flattened}
use Rattle.cell_tree.proofs.ForCallers.{Has, any_has, has_split, has_flat, has_map, has_slot, shapes_on_grid, on_grid}
use Rattle.flat_walk.proofs.ForCallers.{IsLoop, move_loop, image_loop}
use Rattle.deck_plan.proofs.LayerBounds.{IsOutline}

slot_all : {X : Type 0} (P : X → Type 0) (xs : List X) (k : ℕ) (x : X) → All P xs → slice_get xs k ≡ Some x → P x
slot_all P xs k x all here = subst P (get_or_from_slice_get xs k x x here) (all k x (slice_get_within xs k x here))

odd_is : (z : ℤ) → is_even z ≡ false → z ≡ twice (half z) +ℤ pos 1
odd_is (pos n) e = grind (arith, ints, nat_tests)
odd_is (negsuc n) e = grind (arith, ints, nat_tests)

twice_even : (z h : ℤ) (b : Bool) → is_even z ≡ b → z ≡ twice h → is_even z ≡ true
twice_even z h true e is = e
twice_even z h false e is = let odd = odd_is z e in absurd (omega (arith, ints, odd, is))

even_sum : (a b : ℤ) → is_even a ≡ true → is_even b ≡ true → is_even (a +ℤ b) ≡ true
even_sum a b e f =
    let h = half_twice a e in
    let k = half_twice b f in
    twice_even (a +ℤ b) (half a +ℤ half b) (is_even (a +ℤ b)) refl (omega (arith, ints, h, k))

any_in : (flats : List Flat) (k : ℕ) (f : Flat) → slice_get flats k ≡ Some f → Has (λ x. x ≡ f) flats
any_in flats k f here = any_has (λ x. x ≡ f) flats (k, f, slice_get_within flats k f here, get_or_from_slice_get flats k f f here, refl)

shape_loop : (shape : Shape) → IsShapeOnGrid shape → IsLoop shape.points
shape_loop shape s = record { closed = s.closed; grid = recursion_from_All IsOnGrid (edges_of shape.points) s.edges }

module _ (cells : List Cell) (grid : All IsCellOnGrid cells) where
  own_loop : (n : ℕ) (f : Flat) → Has (λ x. x ≡ f) (own_flats cells n) → IsLoop f.points
  own_loop n f h =
      let s = has_slot (λ shape. Has (λ x. x ≡ f) (flats_of_shape shape)) (shapes_at cells n) (has_flat (λ x. x ≡ f) flats_of_shape (shapes_at cells n) h) in
      let shape : Shape = s.1 in
      let o = has_slot (λ by. (let r : Flat = record { pair = shape.pair; points = map (moved by) shape.points } in r ≡ f)) shape.offsets
      (has_map (λ x. x ≡ f) (λ by. record { pair = shape.pair; points = map (moved by) shape.points }) shape.offsets s.3) in
      let by : Point = o.1 in
      let g = slot_all IsShapeOnGrid (shapes_at cells n) s.0 shape (shapes_on_grid cells grid n) s.2 in
      let m = slot_all IsMove shape.offsets o.0 by g.offsets.moves o.2 in
      subst (λ (x : Flat). IsLoop x.points) o.3 (move_loop by shape.points m.even_x m.even_y (shape_loop shape g))

  below_loop : (things : ℕ → List Flat) (placement : Placement) (f : Flat) → IsPlacementOnGrid placement
      → ((m : ℕ) (g : Flat) → Has (λ x. x ≡ g) (things m) → IsLoop g.points) → (found : Option ℕ)
      → Has (λ x. x ≡ f) (placed_things flat_image placement (option_map_or things found [])) → IsLoop f.points
  below_loop things placement f g loops None h =
      let o = has_slot (λ by. Has (λ x. x ≡ f) (map (flat_image placement.orient (moved by placement.at)) []))
      placement.offsets (has_flat (λ x. x ≡ f)
      (λ by. map (flat_image placement.orient (moved by placement.at)) []) placement.offsets h) in
      absurd o.3
  below_loop things placement f g loops (Some m) h =
      let o = has_slot (λ by. Has (λ x. x ≡ f) (map (flat_image placement.orient (moved by placement.at)) (things m))) placement.offsets
      (has_flat (λ x. x ≡ f) (λ by. map (flat_image placement.orient (moved by placement.at)) (things m)) placement.offsets h) in
      let by : Point = o.1 in
      let i = has_slot (λ x. flat_image placement.orient (moved by placement.at) x ≡ f) (things m)
      (has_map (λ x. x ≡ f) (flat_image placement.orient (moved by placement.at)) (things m) o.3) in
      let inner : Flat = i.1 in
      let loop = loops m inner (any_in (things m) i.0 inner i.2) in
      let move = slot_all IsMove placement.offsets o.0 by g.offsets.moves o.2 in
      subst (λ (x : Flat). IsLoop x.points) i.3
      (image_loop placement.orient (moved by placement.at) inner.points
      (even_sum placement.at.x by.x g.at.even_x move.even_x)
      (even_sum placement.at.y by.y g.at.even_y move.even_y) loop)

  loop_in : (depth n : ℕ) (f : Flat) → Has (λ x. x ≡ f) (things_within (own_flats cells) flat_image cells depth n) → IsLoop f.points
  loop_in zero n f h = absurd h
  loop_in (suc depth) n f h =
      elim (has_split (λ x. x ≡ f) (own_flats cells n)
      (flat_map (λ placement. placed_things flat_image placement
      (option_map_or (things_within (own_flats cells) flat_image cells depth)
      (cell_number cells placement.target) [])) (placements_at cells n)) h) [
        | inl a ↦ own_loop n f a
        | inr b ↦ (let s = has_slot
            (λ placement. Has (λ x. x ≡ f)
            (placed_things flat_image placement
            (option_map_or (things_within (own_flats cells) flat_image cells depth)
            (cell_number cells placement.target) []))) (placements_at cells n)
            (has_flat (λ x. x ≡ f)
            (λ placement. placed_things flat_image placement
            (option_map_or (things_within (own_flats cells) flat_image cells depth)
            (cell_number cells placement.target) [])) (placements_at cells n) b) in
            below_loop (things_within (own_flats cells) flat_image cells depth) s.1 f
            (slot_all IsPlacementOnGrid (placements_at cells n) s.0 s.1 (on_grid cells grid n) s.2) (loop_in depth)
            (cell_number cells s.1.target) s.3)
      ]

  pub outlines : (top : ℕ) → All (λ flat. IsOutline flat.points) (flattened cells top)
  unfolding flattened
  outlines top =
      all_members (λ flat. IsOutline flat.points) (things_within (own_flats cells) flat_image cells 64 top)
      (λ f c. (let loop = loop_in 64 top f (any_has (λ x. x ≡ f) (things_within (own_flats cells) flat_image cells 64 top) (c.0, f, c.1, c.2, refl)) in
      record { closed = loop.closed; grid = All-from_recursion IsOnGrid (edges_of f.points) loop.grid }))
