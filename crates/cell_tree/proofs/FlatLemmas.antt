-- The flattened shapes of a cell, by its own and those of the cells that it places.
use Rattle.std.proofs.Common.{◌≡◌, ◌⊎◌, ℕ, zero, suc, ◌+◌, ◌*◌, ◌<◌, List, [], ◌∷◌, ◌++◌, Option, Some, None, Any}
use Rattle.std.proofs.Common.{Contains, length, get_or, slice_get, map, refl, sym, ap, subst, ◌∙◌, inl, inr, arith}
use Rattle.std.specs.List.{flat_map, sum_by}
use Rattle.std.specs.Option.{option_map_or}
use Rattle.std.proofs.lemmas.List.{length-map, length-append}
use Rattle.std.proofs.lemmas.List.Concat.{length-flat_map}
use Rattle.std.proofs.lemmas.List.Sums.{sum_by-cons}
use Rattle.std.proofs.lemmas.Option.{none-some, same_Some, slice_get_within, get_or_from_slice_get, slice_get-get_or}
use Rattle.half_grid.specs.declared.plane.Point.{Point}
use Rattle.layout_model.specs.Images.{image_of, moved}
use Rattle.layout_model.specs.declared.pair.Pair.{Pair}
use Rattle.layout_model.specs.declared.orient.Orient.{Orient}
use Rattle.layout_model.specs.declared.shapes.Shape.{Shape}
use Rattle.layout_model.specs.declared.cells.Placement.{Placement}
use Rattle.layout_model.specs.declared.cells.Cell.{Cell}
use Rattle.cell_tree.specs.Cells.{shapes_at, placements_at, cell_number}
use Rattle.cell_tree.specs.Chains.{IsChain, IsReachable, IsShort}
use Rattle.cell_tree.specs.Trees.{IsShallow}
use Rattle.cell_tree.specs.Flattening.{placed_things, things_within, Flat, flats_of_shape, own_flats, flat_image, flattened, IsVertex, shape_count}
use Rattle.cell_tree.specs.Counting.{placed_count}
use Rattle.cell_tree.specs.HullTables.{OwnVertex, PlacedVertex}
use Rattle.cell_tree.proofs.SlotLemmas.{map_slot, slot_map}
use Rattle.cell_tree.proofs.ChainLemmas.{chain_joined}

-- ---- some element

abbrev pub Has : {X : Type 0} → (X → Type 0) → List X → Type 0
Has P [] = ⊥
Has P (x ∷ xs) = P x ⊎ Has P xs

pub has_any : {X : Type 0} (P : X → Type 0) (xs : List X) → Has P xs → Any P xs
has_any P [] h = absurd h
has_any P (x ∷ xs) h = elim h [ inl p ↦ (0, x, omega arith, refl, p) | inr h' ↦ (let a = has_any P xs h' in (suc a.0, a.1, omega (arith, a.2), a.3, a.4)) ]

pub any_has : {X : Type 0} (P : X → Type 0) (xs : List X) → Any P xs → Has P xs
any_has P xs a = go P xs a.0 a.1 a.2 a.3 a.4
  where
    go : {X : Type 0} (P : X → Type 0) (xs : List X) (k : ℕ) (x : X) → k < length xs → get_or xs k x ≡ x → P x → Has P xs
    go P [] k x inside is p = absurd (omega arith)
    go P (y ∷ ys) zero x inside is p = inl (subst P (sym is) p)
    go P (y ∷ ys) (suc k) x inside is p = inr (go P ys k x (omega arith) is p)

pub has_left : {X : Type 0} (P : X → Type 0) (xs ys : List X) → Has P xs → Has P (xs ++ ys)
has_left P [] ys h = absurd h
has_left P (x ∷ xs) ys h = elim h [ inl p ↦ inl p | inr h' ↦ inr (has_left P xs ys h') ]

pub has_right : {X : Type 0} (P : X → Type 0) (xs ys : List X) → Has P ys → Has P (xs ++ ys)
has_right P [] ys h = h
has_right P (x ∷ xs) ys h = inr (has_right P xs ys h)

pub has_split : {X : Type 0} (P : X → Type 0) (xs ys : List X) → Has P (xs ++ ys) → Has P xs ⊎ Has P ys
has_split P [] ys h = inr h
has_split P (x ∷ xs) ys h = elim h [ inl p ↦ inl (inl p) | inr h' ↦ elim (has_split P xs ys h') [ inl a ↦ inl (inr a) | inr b ↦ inr b ] ]

pub has_slot : {X : Type 0} (P : X → Type 0) (xs : List X) → Has P xs → (k : ℕ) × (x : X) × (slice_get xs k ≡ Some x) × P x
has_slot P [] h = absurd h
has_slot P (x ∷ xs) h = elim h [ inl p ↦ (0, x, refl, p) | inr h' ↦ (let s = has_slot P xs h' in (suc s.0, s.1, s.2, s.3)) ]

pub slot_has : {X : Type 0} (P : X → Type 0) (xs : List X) (k : ℕ) (x : X) → slice_get xs k ≡ Some x → P x → Has P xs
slot_has P [] k x at p = absurd (none-some x at)
slot_has P (y ∷ ys) zero x at p = inl (subst P (sym (same_Some y x at)) p)
slot_has P (y ∷ ys) (suc k) x at p = inr (slot_has P ys k x at p)

pub has_flat : {X Y : Type 0} (P : Y → Type 0) (f : X → List Y) (xs : List X) → Has P (flat_map f xs) → Has (λ x. Has P (f x)) xs
has_flat P f [] h = absurd h
has_flat P f (x ∷ xs) h = elim (has_split P (f x) (flat_map f xs) h) [ inl a ↦ inl a | inr b ↦ inr (has_flat P f xs b) ]

pub flat_has : {X Y : Type 0} (P : Y → Type 0) (f : X → List Y) (xs : List X) → Has (λ x. Has P (f x)) xs → Has P (flat_map f xs)
flat_has P f [] h = absurd h
flat_has P f (x ∷ xs) h = elim h [ inl a ↦ has_left P (f x) (flat_map f xs) a | inr b ↦ has_right P (f x) (flat_map f xs) (flat_has P f xs b) ]

pub has_map : {X Y : Type 0} (P : Y → Type 0) (f : X → Y) (xs : List X) → Has P (map f xs) → Has (λ x. P (f x)) xs
has_map P f [] h = absurd h
has_map P f (x ∷ xs) h = elim h [ inl a ↦ inl a | inr b ↦ inr (has_map P f xs b) ]

pub map_has : {X Y : Type 0} (P : Y → Type 0) (f : X → Y) (xs : List X) → Has (λ x. P (f x)) xs → Has P (map f xs)
map_has P f [] h = absurd h
map_has P f (x ∷ xs) h = elim h [ inl a ↦ inl a | inr b ↦ inr (map_has P f xs b) ]

pub contains_slot : {X : Type 0} (xs : List X) (x : X) → Contains xs x → (k : ℕ) × (slice_get xs k ≡ Some x)
contains_slot xs x c = (c.0, slice_get-get_or xs c.0 x c.1 ∙ ap Some c.2)

pub slot_contains : {X : Type 0} (xs : List X) (k : ℕ) (x : X) → slice_get xs k ≡ Some x → Contains xs x
slot_contains xs k x at = (k, slice_get_within xs k x at, get_or_from_slice_get xs k x x at)

-- ---- the depth of what is said

pub short_placed : (cells : List Cell) (depth n k : ℕ) (placement : Placement) (m : ℕ) → IsShort cells (suc depth) n
    → slice_get (placements_at cells n) k ≡ Some placement → cell_number cells placement.target ≡ Some m
    → IsShort cells depth m
short_placed cells depth n k placement m short placed target links chain =
    let long = short (record { placement = placement; cell = m } ∷ links) (record { number = k; placed = placed; target = target }, chain) in omega arith

pub short_below : (cells : List Cell) (top n : ℕ) → IsShallow cells top → IsReachable cells top n → IsShort cells 64 n
short_below cells top n shallow reach links chain =
    let low = shallow (reach.links ++ links)
    (chain_joined cells top reach.links links reach.chain
    (subst (λ m. IsChain cells m links) (sym reach.end) chain)) in
    omega (arith, length-append reach.links links, length-map (reach.links ++ links) (λ link. link.cell))

flat_map_same : {X Y : Type 0} (f g : X → List Y) (xs : List X) → ((k : ℕ) (x : X) → slice_get xs k ≡ Some x → f x ≡ g x) → flat_map f xs ≡ flat_map g xs
flat_map_same f g [] same = refl
flat_map_same f g (x ∷ xs) same = ap (λ l. l ++ flat_map f xs) (same 0 x refl) ∙ ap (λ l. g x ++ l) (flat_map_same f g xs (λ k y at. same (suc k) y at))

map_or_same : {Y : Type 0} (f g : ℕ → List Y) (o : Option ℕ) → ((m : ℕ) → o ≡ Some m → f m ≡ g m) → option_map_or f o [] ≡ option_map_or g o []
map_or_same f g None same = refl
map_or_same f g (Some m) same = same m refl

module _ {X : Type 0} (own : ℕ → List X) (carry : Orient → Point → X → X) (cells : List Cell) where
  -- the things of the placed cells
  abbrev pub below : (ℕ → List X) → ℕ → List X
  below things n = flat_map (λ placement. placed_things carry placement (option_map_or things (cell_number cells placement.target) [])) (placements_at cells n)

  pub below_same : (f g : ℕ → List X) (n : ℕ)
      → ((k : ℕ) (placement : Placement) (m : ℕ) → slice_get (placements_at cells n) k ≡ Some placement
      → cell_number cells placement.target ≡ Some m → f m ≡ g m)
      → below f n ≡ below g n
  below_same f g n same = flat_map_same (λ placement. placed_things carry placement (option_map_or f (cell_number cells placement.target) []))
      (λ placement. placed_things carry placement (option_map_or g (cell_number cells placement.target) [])) (placements_at cells n)
      (λ k placement at. ap (placed_things carry placement) (map_or_same f g (cell_number cells placement.target) (λ m e. same k placement m at e)))

  -- where no chain is so long, a greater depth shows no more
  pub deep_enough : (depth n : ℕ) → IsShort cells depth n → things_within own carry cells (suc depth) n ≡ things_within own carry cells depth n
  deep_enough zero n short = absurd (let none = short [] tt in omega arith)
  deep_enough (suc depth) n short = ap (λ l. own n ++ l) (below_same (things_within own carry cells (suc depth)) (things_within own carry cells depth) n
      (λ k placement m placed target. deep_enough depth m (short_placed cells depth n k placement m short placed target)))

  -- what a cell shows, by its own and by what the placed cells show
  pub things_are : (depth n : ℕ) → IsShort cells (suc depth) n
      → things_within own carry cells (suc depth) n ≡ own n ++ below (things_within own carry cells (suc depth)) n
  things_are depth n short = ap (λ l. own n ++ l) (below_same (things_within own carry cells depth) (things_within own carry cells (suc depth)) n
      (λ k placement m placed target. sym (deep_enough depth m (short_placed cells depth n k placement m short placed target))))

pub flattened_is : (cells : List Cell) (n : ℕ) → IsShort cells 64 n
    → flattened cells n ≡ own_flats cells n ++ below (own_flats cells) flat_image cells (flattened cells) n
unfolding flattened
flattened_is cells n short = things_are (own_flats cells) flat_image cells 63 n short

-- ---- vertices

abbrev On : Pair → Point → Flat → Type 0
On pair p flat = (flat.pair ≡ pair) × Contains flat.points p

own_has : (shapes : List Shape) (pair : Pair) (p : Point) → Has (On pair p) (flat_map flats_of_shape shapes) → OwnVertex shapes (length shapes) pair p
own_has shapes pair p h =
    let s = has_slot (λ shape. Has (On pair p) (flats_of_shape shape)) shapes (has_flat (On pair p) flats_of_shape shapes h) in
    let shape : Shape = s.1 in
    let o = has_slot (λ by. On pair p (record { pair = shape.pair; points = map (moved by) shape.points })) shape.offsets
    (has_map (On pair p) (λ by. record { pair = shape.pair; points = map (moved by) shape.points }) shape.offsets s.3) in
    let by : Point = o.1 in
    let c = contains_slot (map (moved by) shape.points) p o.3.1 in
    let v = map_slot (moved by) shape.points c.0 p c.1 in
    record {
      number = s.0;
      early = slice_get_within shapes s.0 shape s.2;
      shape = shape;
      here = s.2;
      on_pair =
          o.3.0;
      vertex = record { place = o.0; by = by; offset = o.2; corner = c.0; v = v.0; point = v.1; is = v.2 };
    }

has_own : (shapes : List Shape) (bound : ℕ) (pair : Pair) (p : Point) → OwnVertex shapes bound pair p → Has (On pair p) (flat_map flats_of_shape shapes)
has_own shapes bound pair p own =
    let flat_at : Point → Flat = λ by. record { pair = own.shape.pair; points = map (moved by) own.shape.points } in
    let c : Contains (map (moved own.vertex.by) own.shape.points) p = slot_contains
    (map (moved own.vertex.by) own.shape.points) own.vertex.corner p
    (slot_map (moved own.vertex.by) own.shape.points own.vertex.corner own.vertex.v own.vertex.point
    ∙ ap Some own.vertex.is) in
    flat_has (On pair p) flats_of_shape shapes (slot_has (λ shape. Has (On pair p) (flats_of_shape shape)) shapes own.number own.shape own.here
    (map_has (On pair p) (λ by. record { pair = own.shape.pair; points = map (moved by) own.shape.points }) own.shape.offsets
    (slot_has (λ by. On pair p (record { pair = own.shape.pair; points = map (moved by) own.shape.points }))
    own.shape.offsets own.vertex.place own.vertex.by own.vertex.offset (own.on_pair, c))))

module _ (cells : List Cell) (n : ℕ) (pair : Pair) (p : Point) where
  below_vertex : (k : ℕ) (placement : Placement) (o : Option ℕ) → cell_number cells placement.target ≡ o → slice_get (placements_at cells n) k ≡ Some placement
      → Has (On pair p) (placed_things flat_image placement (option_map_or (flattened cells) o []))
      → PlacedVertex cells n (length (placements_at cells n)) pair p
  below_vertex k placement None e placed h =
      let o = has_slot (λ by. Has (On pair p) (map (flat_image placement.orient (moved by placement.at)) []))
      placement.offsets (has_flat (On pair p)
      (λ by. map (flat_image placement.orient (moved by placement.at)) []) placement.offsets h) in
      absurd o.3
  below_vertex k placement (Some m) e placed h =
      let o = has_slot (λ by. Has (On pair p) (map (flat_image placement.orient (moved by placement.at)) (flattened cells m))) placement.offsets
      (has_flat (On pair p) (λ by. map (flat_image placement.orient (moved by placement.at)) (flattened cells m)) placement.offsets h) in
      let by : Point = o.1 in
      let f = has_slot (λ flat. On pair p (flat_image placement.orient (moved by placement.at) flat))
      (flattened cells m) (has_map (On pair p) (flat_image placement.orient (moved by placement.at))
      (flattened cells m) o.3) in
      let flat : Flat = f.1 in
      let c = contains_slot (map (image_of placement.orient (moved by placement.at)) flat.points) p f.3.1 in
      let v = map_slot (image_of placement.orient (moved by placement.at)) flat.points c.0 p c.1 in
      record {
        number = k;
        early = slice_get_within (placements_at cells n) k placement placed;
        placement = placement;
        placed = placed;
        target = m;
        targeted = e;
        place = o.0;
        by = by;
        offset = o.2;
        v = v.0;
        vertex = has_any (On pair v.0) (flattened cells m)
            (slot_has (On pair v.0) (flattened cells m) f.0 flat f.2 (f.3.0, slot_contains flat.points c.0 v.0 v.1));
        is = v.2;
      }

  vertex_below : (bound : ℕ) (pv : PlacedVertex cells n bound pair p) → Has (On pair p) (placed_things flat_image pv.placement (flattened cells pv.target))
  vertex_below bound pv =
      let at = moved pv.by pv.placement.at in
      let f = has_slot (On pair pv.v) (flattened cells pv.target) (any_has (On pair pv.v) (flattened cells pv.target) pv.vertex) in
      let flat : Flat = f.1 in
      let c = contains_slot flat.points pv.v f.3.1 in
      flat_has (On pair p) (λ by. map (flat_image pv.placement.orient (moved by pv.placement.at)) (flattened cells pv.target)) pv.placement.offsets
      (slot_has (λ by. Has (On pair p)
      (map (flat_image pv.placement.orient (moved by pv.placement.at)) (flattened cells pv.target)))
      pv.placement.offsets pv.place pv.by pv.offset
      (map_has (On pair p) (flat_image pv.placement.orient (moved pv.by pv.placement.at)) (flattened cells pv.target)
      (slot_has (λ flat. On pair p (flat_image pv.placement.orient (moved pv.by pv.placement.at) flat)) (flattened cells pv.target) f.0 flat f.2 (
        f.3.0,
        slot_contains (map (image_of pv.placement.orient (moved pv.by pv.placement.at)) flat.points) c.0 p
            (slot_map (image_of pv.placement.orient (moved pv.by pv.placement.at)) flat.points c.0 pv.v c.1 ∙ ap Some pv.is),
      ))))

  pub vertex_cases : IsShort cells 64 n → IsVertex cells n pair p
      → OwnVertex (shapes_at cells n) (length (shapes_at cells n)) pair p
      ⊎ PlacedVertex cells n (length (placements_at cells n)) pair p
  vertex_cases short vertex =
      let h = subst (Has (On pair p)) (flattened_is cells n short) (any_has (On pair p) (flattened cells n) vertex) in
      elim (has_split (On pair p) (own_flats cells n) (below (own_flats cells) flat_image cells (flattened cells) n) h) [
        | inl own ↦ inl (own_has (shapes_at cells n) pair p own)
        | inr placed ↦ inr (let s = has_slot
            (λ placement. Has (On pair p)
            (placed_things flat_image placement
            (option_map_or (flattened cells) (cell_number cells placement.target) []))) (placements_at cells n)
            (has_flat (On pair p)
            (λ placement. placed_things flat_image placement
            (option_map_or (flattened cells) (cell_number cells placement.target) []))
            (placements_at cells n) placed) in
            below_vertex s.0 s.1 (cell_number cells s.1.target) refl s.2 s.3)
      ]

  pub own_vertex : (bound : ℕ) → IsShort cells 64 n → OwnVertex (shapes_at cells n) bound pair p → IsVertex cells n pair p
  own_vertex bound short own = has_any (On pair p) (flattened cells n) (subst (Has (On pair p)) (sym (flattened_is cells n short))
      (has_left (On pair p) (own_flats cells n) (below (own_flats cells) flat_image cells (flattened cells) n) (has_own (shapes_at cells n) bound pair p own)))

  pub placed_vertex : (bound : ℕ) → IsShort cells 64 n → PlacedVertex cells n bound pair p → IsVertex cells n pair p
  placed_vertex bound short pv = has_any (On pair p) (flattened cells n) (subst (Has (On pair p)) (sym (flattened_is cells n short))
      (has_right (On pair p) (own_flats cells n) (below (own_flats cells) flat_image cells (flattened cells) n)
      (flat_has (On pair p)
      (λ placement. placed_things flat_image placement
      (option_map_or (flattened cells) (cell_number cells placement.target) [])) (placements_at cells n)
      (slot_has (λ placement. Has (On pair p)
      (placed_things flat_image placement
      (option_map_or (flattened cells) (cell_number cells placement.target) [])))
      (placements_at cells n) pv.number pv.placement pv.placed
      (subst (λ o. Has (On pair p) (placed_things flat_image pv.placement (option_map_or (flattened cells) o [])))
      (sym pv.targeted) (vertex_below bound pv))))))

-- ---- numbers

length_copies : {X Y : Type 0} (f : X → Y → Y) (offsets : List X) (things : List Y)
    → length (flat_map (λ by. map (f by) things) offsets) ≡ length offsets * length things
length_copies f [] things = omega arith
length_copies f (by ∷ offsets) things =
    let h = length_copies f offsets things in
    length-append (map (f by) things) (flat_map (λ b. map (f b) things) offsets) ∙ omega (arith, length-map things (f by))

placed_count_is : (cells : List Cell) (placement : Placement) (o : Option ℕ)
    → length (placed_things flat_image placement (option_map_or (flattened cells) o []))
    ≡ length placement.offsets * option_map_or (shape_count cells) o 0
placed_count_is cells placement None = length_copies (λ by. flat_image placement.orient (moved by placement.at)) placement.offsets []
placed_count_is cells placement (Some m) = length_copies (λ by. flat_image placement.orient (moved by placement.at)) placement.offsets (flattened cells m)

sum_same : {X : Type 0} (f g : X → ℕ) (xs : List X) → ((x : X) → f x ≡ g x) → sum_by f xs ≡ sum_by g xs
sum_same f g [] same = refl
sum_same f g (x ∷ xs) same = sum_by-cons f x xs ∙ (let h = sum_same f g xs same in let e = same x in omega arith) ∙ sym (sum_by-cons g x xs)

pub count_is : (cells : List Cell) (n : ℕ) → IsShort cells 64 n
    → shape_count cells n ≡ sum_by (λ shape. length shape.offsets) (shapes_at cells n) + sum_by (placed_count cells)
    (placements_at cells n)
count_is cells n short =
    let f = λ (placement : Placement). placed_things flat_image placement (option_map_or (flattened cells) (cell_number cells placement.target) []) in
    let own = length-flat_map flats_of_shape (shapes_at cells n) ∙ sum_same (λ shape. length (flats_of_shape shape))
    (λ shape. length shape.offsets) (shapes_at cells n)
    (λ shape. length-map shape.offsets (λ by. record { pair = shape.pair; points = map (moved by) shape.points })) in
    let placed = length-flat_map f (placements_at cells n) ∙ sum_same
    (λ placement. length
    (placed_things flat_image placement
    (option_map_or (flattened cells) (cell_number cells placement.target) []))) (placed_count cells)
    (placements_at cells n)
    (λ placement. placed_count_is cells placement (cell_number cells placement.target)) in
    ap length (flattened_is cells n short) ∙ length-append (own_flats cells n)
    (below (own_flats cells) flat_image cells (flattened cells) n) ∙ (omega (arith, own, placed))
