-- What the passes say of a tree.
use Rattle.std.proofs.Common.{◌≡◌, ◌≢◌, ◌⊎◌, ℕ, ℤ, zero, suc, pos, ◌+◌, ◌-◌, ◌*◌, ◌^◌, ◌<◌, ◌≤◌, List, [], ◌∷◌, Option}
use Rattle.std.proofs.Common.{Some, None, Bool, true, false, ◌||◌, int_lt, ◌≤ℤ◌, neg_ℤ, if◌then◌else◌, cond, find}
use Rattle.std.proofs.Common.{true≢false, Result, Ok, Err, OnOk, IsOk, IsErrAnd, All, map, length, get_or}
use Rattle.std.proofs.Common.{slice_get, refl, sym, ap, subst, ◌∙◌, inl, inr, arith}
use Rattle.std.proofs.lemmas.Option.{none-some, same_Some, slice_get_within, slice_get-get_or, get_or_from_slice_get}
use Rattle.std.proofs.lemmas.List.{length-map, get_or_read, get_or-map}
use Rattle.std.proofs.lemmas.List.Elements.{All-head}
use Rattle.geo_stream.specs.Refusals.{IsForFault, IfFault}
use Rattle.geo_stream.specs.declared.refusal.Refusal.{Refusal}
use Rattle.geo_stream.specs.declared.refusal.Refusal.TheVariants as refusals
use Rattle.half_grid.specs.Outlines.{IsClosed}
use Rattle.layout_model.specs.Images.{moved}
use Rattle.layout_model.specs.declared.cells.Placement.{Placement}
use Rattle.layout_model.specs.declared.cells.Cell.{Cell}
use Rattle.cell_tree.specs.Cells.{PlacesCell, PlacesAt, PlacesUnknown, HasFixed, shapes_at, placements_at, targets_at, name_at, cell_number}
use Rattle.cell_tree.specs.Chains.{Link, IsChain, chain_cells, chain_factor, IsReachable, IsCycle, IsShort}
use Rattle.cell_tree.specs.Orders.{IsAmong, IsBefore, IsOrder}
use Rattle.cell_tree.specs.Searches.{IsFound}
use Rattle.cell_tree.specs.Trees.{IsKnown, IsAcyclic, IsShallow, IsMild, KeepsFixed, AreVerticesNear, IsTree}
use Rattle.cell_tree.specs.Faults.{IsFirstTreeFault, IsUnknown, IsEnlarged, IsExtent, IsCrowded, is_beyond, first_beyond, order_of}
use Rattle.cell_tree.specs.declared.faults.TreeBad.{TreeBad}
use Rattle.cell_tree.specs.declared.faults.TreeBad.TheVariants.{NoTop, Unknown, Cycle, Deep, Scale, Fixed, Extent, Count}
use Rattle.std.specs.List.{sum_by, AllByRecursion}
use Rattle.std.specs.Option.{option_map_or, option_and_then}
use Rattle.std.proofs.lemmas.List.Sums.{sum_by-cons}
use Rattle.std.proofs.lemmas.Int.{ints}
use Rattle.std.proofs.Math.Nat.{mul-le-mul_right}
use Rattle.half_grid.specs.declared.plane.Point.{Point}
use Rattle.half_grid.specs.declared.extent.Frame.{Frame}
use Rattle.layout_model.specs.Layouts.{IsWithin, IsCellOnGrid, IsPlacementOnGrid, IsShapeOnGrid}
use Rattle.layout_model.specs.declared.shapes.Shape.{Shape}
use Rattle.layout_model.specs.declared.pair.Pair.{Pair}
use Rattle.cell_tree.specs.Flattening.{IsVertex, shape_count}
use Rattle.cell_tree.specs.Boxes.{IsHull, IsUpTo, IsBoxUpTo}
use Rattle.cell_tree.specs.Counting.{placed_count, IsCrowd}
use Rattle.cell_tree.specs.Factors.{IsFarthest, AreFarthest, AreFarthestBelow}
use Rattle.cell_tree.specs.Heights.{IsHeight, AreHeights, AreHeightsBelow}
use Rattle.cell_tree.specs.declared.factors.Far.{Far}
use Rattle.cell_tree.proofs.NameLemmas.{targets_below}
use Rattle.layout_model.specs.Pairs.{same_pair}
use Rattle.cell_tree.specs.HullTables.{OwnVertex, hull_in, AreCellHulls, AreHulls, AreHullsBelow, AreOnlyAmong, AreOnlyBelow}
use Rattle.cell_tree.specs.HullTables.{HasNearVertices, whole_from, extent_in}
use Rattle.cell_tree.proofs.ReachLemmas.{near_below, shapes_on_grid}
use Rattle.cell_tree.specs.declared.hulls.PairHull.{PairHull}
use Rattle.cell_tree.proofs.SlotLemmas.{map_slot, slot_map, All-slot, All-from_slots}
use Rattle.cell_tree.proofs.ChainLemmas.{places_at, name_read, along, reach_more, top_reachable, reachable_within, placed_within, end_within}
use Rattle.cell_tree.proofs.SearchLemmas.{apart}
use Rattle.cell_tree.proofs.FactorLemmas.{on_grid}
use Rattle.cell_tree.proofs.FlatLemmas.{count_is, short_below, own_vertex}
use Rattle.cell_tree.proofs.BoxLemmas.{least_up_to}
use Rattle.cell_tree.proofs.HullLemmas.{pair_true, entry_hull, whole_hull}

-- ---- no cycle

module _ (cells : List Cell) (top : ℕ) (order : List ℕ) (upward : (j n k m : ℕ) → slice_get order j ≡ Some n
    → PlacesAt cells n k m → IsBefore order j m) (numbers : List ℕ) (ring : IsCycle cells top numbers) where
  -- the next cell of the cycle
  next : (k n : ℕ) → slice_get numbers k ≡ Some n → (j : ℕ) × (m : ℕ) × (slice_get numbers j ≡ Some m) × PlacesCell cells n m
  next k n at = by (slice_get numbers (k + 1)) refl
    where
      by : (o : Option ℕ) → slice_get numbers (k + 1) ≡ o → (j : ℕ) × (m : ℕ) × (slice_get numbers j ≡ Some m) × PlacesCell cells n m
      by (Some m) e = (k + 1, m, e, ring.onward k n m at e)
      by None e =
          let within = slice_get_within numbers k n at in
          let last : length numbers ≤ k + 1 = not_within numbers (k + 1) e in
          let some = ring.nonempty in
          let e' : k ≡ length numbers - 1 = omega arith in
          let first = slice_get-get_or numbers 0 0 (omega arith) in
          (0, get_or numbers 0 0, first, ring.back n (get_or numbers 0 0) (subst (λ i. slice_get numbers i ≡ Some n) e' at) first)
        where
          not_within : (xs : List ℕ) (i : ℕ) → slice_get xs i ≡ None → length xs ≤ i
          not_within [] i e = omega arith
          not_within (x ∷ xs) zero e = absurd (none-some x (sym e))
          not_within (x ∷ xs) (suc i) e = let h = not_within xs i e in omega arith

  none_before : (j k n : ℕ) → slice_get numbers k ≡ Some n → IsBefore order j n → ⊥
  none_before zero k n at before = omega (arith, before.1)
  none_before (suc j) k n at before =
      let step = next k n at in
      let there = upward before.0 n step.3.1.number step.1 before.2 (places_at cells n step.3.0 step.1 step.3.1) in
      none_before j step.0 step.1 step.2 (there.0, omega (arith, before.1, there.1), there.2)

  pub no_ring : ((n : ℕ) → IsReachable cells top n → IsAmong order n) → ⊥
  no_ring all =
      let first = slice_get-get_or numbers 0 0 (let some = ring.nonempty in omega arith) in
      let among = all (get_or numbers 0 0) (ring.reachable 0 (get_or numbers 0 0) first) in
      none_before (length order) 0 (get_or numbers 0 0) first (among.0, slice_get_within order among.0 (get_or numbers 0 0) among.1, among.1)

pub acyclic : (cells : List Cell) (top : ℕ) (order cycle : List ℕ) → IsFound cells top order cycle → cycle ≡ [] → IsAcyclic cells top
acyclic cells top order cycle found none numbers ring = no_ring cells top order (found.upward none) numbers ring found.all

pub in_order : (cells : List Cell) (top : ℕ) (order cycle : List ℕ) → IsFound cells top order cycle → cycle ≡ [] → IsOrder cells top order
in_order cells top order cycle found none = record {
  is_upward = record { within = found.within; upward = found.upward none };
  reachable = found.reachable;
  all = found.all;
}

pub known : (cells : List Cell) (top : ℕ) (order : List ℕ) → ((n : ℕ) → IsReachable cells top n → IsAmong order n)
    → ((n k : ℕ) → IsAmong order n → slice_get (targets_at cells n) k ≡ Some None → ⊥) → IsKnown cells top
known cells top order all none n placement reach unknown =
    none n unknown.number (all n reach)
    (slot_map (λ p. cell_number cells p.target) (placements_at cells n) unknown.number placement unknown.placed
    ∙ ap Some unknown.unknown)

pub unknown_at : (cells : List Cell) (n k : ℕ) → slice_get (targets_at cells n) k ≡ Some None → (placement : Placement)
    × (slice_get (placements_at cells n) k ≡ Some placement) × PlacesUnknown cells n placement
unknown_at cells n k at =
    let p = map_slot (λ p. cell_number cells p.target) (placements_at cells n) k None at in
    (p.0, p.1, record { number = k; placed = p.1; unknown = p.2 })

-- ---- numbers

sum_term : {X : Type 0} (f : X → ℕ) (xs : List X) (k : ℕ) (x : X) → slice_get xs k ≡ Some x → f x ≤ sum_by f xs
sum_term f [] k x at = absurd (none-some x at)
sum_term f (y ∷ ys) zero x at = let e = sum_by-cons f y ys in let s = ap f (same_Some y x at) in omega arith
sum_term f (y ∷ ys) (suc k) x at = let e = sum_by-cons f y ys in let h = sum_term f ys k x at in omega arith

some_length : {X : Type 0} (xs : List X) → xs ≢ [] → 1 ≤ length xs
some_length [] some = absurd (some refl)
some_length (x ∷ xs) some = omega arith

module _ (cells : List Cell) (grid : All IsCellOnGrid cells) (top : ℕ) (shallow : IsShallow cells top) where
  placed_fewer : (n m : ℕ) → IsReachable cells top n → PlacesCell cells n m → shape_count cells m ≤ shape_count cells n
  placed_fewer n m reach places =
      let placement = places.0 in
      let on = All-slot (placements_at cells n) IsPlacementOnGrid (on_grid cells grid n) places.1.number places.0 places.1.placed in
      let is = count_is cells n (short_below cells top n shallow reach) in
      let term = sum_term (placed_count cells) (placements_at cells n) places.1.number places.0 places.1.placed in
      let some = some_length places.0.offsets on.offsets.nonempty in
      let more = mul-le-mul_right (shape_count cells m) some in
      let e = ap (λ o. length places.0.offsets * option_map_or (shape_count cells) o 0) places.1.target in
      omega arith

  pub fewer_below : (n : ℕ) → IsReachable cells top n → shape_count cells n ≤ shape_count cells top
  fewer_below n reach = subst (λ m. shape_count cells m ≤ shape_count cells top) reach.end
      (along (λ m. IsReachable cells top m × (shape_count cells m ≤ shape_count cells top)) cells top reach.links
      (λ a b here places. (
        reach_more cells top a b here.0 places,
        (let h = placed_fewer a b here.0 places in omega (arith, here.1)),
      ))
      (top_reachable cells top, omega arith) reach.chain).1

-- ---- extents

beyond_not : (z : ℤ) → IsUpTo (2 ^ 30) z → is_beyond z ≡ false
beyond_not z near = let l = near.low in let h = near.high in
    ap (λ b. b || int_lt (pos (2 ^ 30)) z) (not_less z (neg_ℤ (pos (2 ^ 30))) l) ∙ not_less (pos (2 ^ 30)) z h
  where
    not_less : (a b : ℤ) → b ≤ℤ a → int_lt a b ≡ false
    not_less a b h = grind (arith, ints)

beyond_up_to : (z : ℤ) → is_beyond z ≡ false → IsUpTo (2 ^ 30) z
beyond_up_to z e = record {
  low = by_lt_z (neg_ℤ (pos (2 ^ 30))) z
      (or_left (int_lt z (neg_ℤ (pos (2 ^ 30)))) (int_lt (pos (2 ^ 30)) z) e);
  high = by_lt_z z (pos (2 ^ 30))
      (or_right (int_lt z (neg_ℤ (pos (2 ^ 30)))) (int_lt (pos (2 ^ 30)) z) e);
}
  where
    or_left : (a b : Bool) → (a || b) ≡ false → a ≡ false
    or_left true b e = absurd (true≢false e)
    or_left false b e = refl

    or_right : (a b : Bool) → (a || b) ≡ false → b ≡ false
    or_right true b e = absurd (true≢false e)
    or_right false b e = e

    by_lt_z : (a b : ℤ) → int_lt b a ≡ false → a ≤ℤ b
    by_lt_z a b e = grind (arith, ints)

find_none : (z : ℤ) (zs : List ℤ) → is_beyond z ≡ false → find is_beyond (z ∷ zs) ≡ find is_beyond zs
find_none z zs e = ap (λ b. if b then Some z else find is_beyond zs) e

none_beyond : (box : Frame) → IsBoxUpTo (2 ^ 30) box → first_beyond box ≡ None
none_beyond box near = find_none box.x0 (box.y0 ∷ box.x1 ∷ box.y1 ∷ []) (beyond_not box.x0 near.x0) ∙ find_none box.y0
    (box.x1 ∷ box.y1 ∷ []) (beyond_not box.y0 near.y0)
    ∙ find_none box.x1 (box.y1 ∷ []) (beyond_not box.x1 near.x1) ∙ find_none box.y1 [] (beyond_not box.y1 near.y1)

find_passed : (z : ℤ) (zs : List ℤ) → find is_beyond (z ∷ zs) ≡ None → (is_beyond z ≡ false) × (find is_beyond zs ≡ None)
find_passed z zs e = by (is_beyond z) refl e
  where
    by : (b : Bool) → is_beyond z ≡ b → (if b then Some z else find is_beyond zs) ≡ None → (is_beyond z ≡ false) × (find is_beyond zs ≡ None)
    by true f e = absurd (none-some z (sym e))
    by false f e = (f, e)

box_near : (box : Frame) → first_beyond box ≡ None → IsBoxUpTo (2 ^ 30) box
box_near box e =
    let a = find_passed box.x0 (box.y0 ∷ box.x1 ∷ box.y1 ∷ []) e in let b = find_passed box.y0 (box.x1 ∷ box.y1 ∷ []) a.1 in
    let c = find_passed box.x1 (box.y1 ∷ []) b.1 in let d = find_passed box.y1 [] c.1 in
    record { x0 = beyond_up_to box.x0 a.0; y0 = beyond_up_to box.y0 b.0; x1 = beyond_up_to box.x1 c.0; y1 = beyond_up_to box.y1 d.0 }

-- the vertices of all pairs
abbrev pub Every : List Cell → ℕ → Point → Type 0
Every cells n p = (pair : Pair) × IsVertex cells n pair p

pub whole_of : (cells : List Cell) (n : ℕ) (hulls : List PairHull) → AreCellHulls cells n hulls → IsHull (Every cells n) (whole_from None hulls)
whole_of cells n hulls are = whole_hull (IsVertex cells n) (λ p. ⊥) (Every cells n) None hulls are.0 (λ p h. h)
    (λ k here at. subst (IsHull (IsVertex cells n here.pair)) (entry_hull hulls k here are.0 at) (are.1 here.pair))
    (λ p h. absurd h) (λ k here p at v. (here.pair, v))
    (λ p every. inr (entry_of hulls every.0 p (hull_in hulls every.0) refl (are.1 every.0) every.1))
  where
    found_by : (first : PairHull) (hulls : List PairHull) (pair : Pair) (box : Frame) (b : Bool)
        → same_pair first.pair pair ≡ b → (if b then Some first.hull else hull_in hulls pair) ≡ Some box
        → (hull_in hulls pair ≡ Some box → (k : ℕ) × (here : PairHull) × (slice_get hulls k ≡ Some here) × (here.pair ≡ pair))
        → (k : ℕ) × (here : PairHull) × (slice_get (first ∷ hulls) k ≡ Some here) × (here.pair ≡ pair)
    found_by first hulls pair box true f e rest = (0, first, refl, pair_true first.pair pair f)
    found_by first hulls pair box false f e rest = let r = rest e in (suc r.0, r.1, r.2, r.3)

    find_entry : (hulls : List PairHull) (pair : Pair) (box : Frame) → hull_in hulls pair ≡ Some box → (k : ℕ)
        × (here : PairHull) × (slice_get hulls k ≡ Some here) × (here.pair ≡ pair)
    find_entry [] pair box e = absurd (none-some box e)
    find_entry (first ∷ hulls) pair box e = found_by first hulls pair box (same_pair first.pair pair) refl e (find_entry hulls pair box)

    entry_of : (hulls : List PairHull) (pair : Pair) (p : Point) (o : Option Frame) → hull_in hulls pair ≡ o
        → IsHull (IsVertex cells n pair) (hull_in hulls pair) → IsVertex cells n pair p
        → (k : ℕ) × (here : PairHull) × (slice_get hulls k ≡ Some here) × IsVertex cells n here.pair p
    entry_of hulls pair p None e is v = absurd (subst (IsHull (IsVertex cells n pair)) e is p v)
    entry_of hulls pair p (Some box) e is v = let f = find_entry hulls pair box e in (f.0, f.1, f.2, subst (λ q. IsVertex cells n q p) (sym f.3) v)

pub near_of : (cells : List Cell) (top : ℕ) (hulls : List PairHull) → AreCellHulls cells top hulls → extent_in hulls ≡ None → AreVerticesNear cells top
near_of cells top hulls are none pair p vertex = by (whole_from None hulls) (whole_of cells top hulls are) none
  where
    by : (o : Option Frame) → IsHull (Every cells top) o → option_and_then first_beyond o ≡ None → IsWithin (2 ^ 30) p
    by None is e = absurd (is p (pair, vertex))
    by (Some box) is e = let b = box_near box e in let i = is.around p (pair, vertex) in
        let il = i.left in let ib = i.bottom in let ir = i.right in let it = i.top in let bl = b.x0.low in let bb =
        b.y0.low in let br = b.x1.high in let bt = b.y1.high in
        record { x_low = omega (arith, ints); x_high = omega (arith, ints); y_low = omega (arith, ints); y_high = omega (arith, ints) }

pub extent_is : (cells : List Cell) (top : ℕ) (hulls : List PairHull) (value : ℤ) → AreCellHulls cells top hulls
    → extent_in hulls ≡ Some value → IsExtent cells top value
extent_is cells top hulls value are some = by (whole_from None hulls) (whole_of cells top hulls are) some
  where
    by : (o : Option Frame) → IsHull (Every cells top) o → option_and_then first_beyond o ≡ Some value → IsExtent cells top value
    by None is e = absurd (none-some value e)
    by (Some box) is e = record { box = box; least = is; first = e }

-- the first that passes meets what all meet
found_meets : (P : ℤ → Type 0) (p : ℤ → Bool) (xs : List ℤ) (v : ℤ) → AllByRecursion P xs → find p xs ≡ Some v → P v
found_meets P p [] v all e = absurd (none-some v e)
found_meets P p (x ∷ xs) v all e = by (p x) e (λ later. found_meets P p xs v all.1 later)
  where
    by : (b : Bool) → cond b (Some x) (find p xs) ≡ Some v → (find p xs ≡ Some v → P v) → P v
    by true e rest = subst P (same_Some x v e) all.0
    by false e rest = rest e

-- what is kept of an extent is that number
pub extent_same : (cells : List Cell) (top : ℕ) (value shown : ℤ) → HasNearVertices cells top
    → IsExtent cells top value → (IsUpTo (2 ^ 53) value → shown ≡ value) → IsExtent cells top shown
extent_same cells top value shown near extent same =
    let box = extent.box in let least = extent.least in
    let left = near least.left.1.0 least.left.0 least.left.1.1 in
    let bottom = near least.bottom.1.0 least.bottom.0 least.bottom.1.1 in
    let right = near least.right.1.0 least.right.0 least.right.1.1 in
    let upper = near least.top.1.0 least.top.0 least.top.1.1 in
    let x0 : IsUpTo (2 ^ 53) box.x0 = subst (IsUpTo (2 ^ 53)) least.left.2 (record { low = left.x_low; high = left.x_high }) in
    let y0 : IsUpTo (2 ^ 53) box.y0 = subst (IsUpTo (2 ^ 53)) least.bottom.2 (record { low = bottom.y_low; high = bottom.y_high }) in
    let x1 : IsUpTo (2 ^ 53) box.x1 = subst (IsUpTo (2 ^ 53)) least.right.2 (record { low = right.x_low; high = right.x_high }) in
    let y1 : IsUpTo (2 ^ 53) box.y1 = subst (IsUpTo (2 ^ 53)) least.top.2 (record { low = upper.y_low; high = upper.y_high }) in
    let small = found_meets (IsUpTo (2 ^ 53)) is_beyond (box.x0 ∷ box.y0 ∷ box.x1 ∷ box.y1 ∷ []) value (x0, (y0, (x1, (y1, tt)))) extent.first in
    subst (IsExtent cells top) (sym (same small)) extent

-- ---- a tree has no fault

pub no_fault : (cells : List Cell) (top : ℕ) (bad : TreeBad) → All IsCellOnGrid cells → IsTree cells top → IsFirstTreeFault cells top bad → ⊥
no_fault cells top NoTop grid tree fault = fault
no_fault cells top (Unknown cell name) grid tree fault = tree.known fault.number fault.placement fault.reachable fault.unknown
no_fault cells top (Cycle names) grid tree fault = tree.acyclic fault.1.numbers fault.1.cycle
no_fault cells top (Deep names) grid tree fault = let low = tree.shallow fault.2.links fault.2.chain in let many = fault.2.many in omega arith
no_fault cells top (Scale value names) grid tree fault = let low = tree.mild fault.3.links fault.3.chain in let high = fault.3.above in omega arith
no_fault cells top (Fixed value cell) grid tree fault =
    let low = tree.fixed fault.4.links fault.4.chain fault.4.fixed in let high = fault.4.above in omega arith
no_fault cells top (Extent value) grid tree fault = none-some value (sym (none_beyond fault.5.box
    (least_up_to (Every cells top) fault.5.box (2 ^ 30) fault.5.least (λ p every. tree.near every.0 p every.1))) ∙ fault.5.first)
no_fault cells top (Count cell value) grid tree fault =
    let low = fewer_below cells grid top tree.shallow fault.6.number fault.6.reachable in let high = fault.6.many in
    let all = tree.counted in omega arith

-- ---- names

pub name_of : (cells now : List Cell) (n : ℕ) (d : Cell) (name : List ℕ) → now ≡ cells → n < length cells
    → name ≡ (get_or now n d).name → name ≡ name_at cells n
name_of cells now n d name shown inside is = is ∙ ap (λ l. (get_or l n d).name) shown ∙ sym (name_read cells n d inside)

pub unknown_is : (cells : List Cell) (top n k : ℕ) (cell name : List ℕ) (placements : List Placement)
    (placement : Placement) → IsReachable cells top n → slice_get (targets_at cells n) k ≡ Some None
    → cell ≡ name_at cells n → placements ≡ placements_at cells n → placement ≡ get_or placements k placement
    → name ≡ placement.target → IsUnknown cells top cell name
unknown_is cells top n k cell name placements placement reach none named shown is target =
    let u = unknown_at cells n k none in
    let there : slice_get placements k ≡ Some u.0 = ap (λ l. slice_get l k) shown ∙ u.1 in
    let e : placement ≡ u.0 = is ∙ get_or_from_slice_get placements k u.0 placement there in
    record { number = n; placement = u.0; reachable = reach; unknown = u.2; named = named; named_target = target ∙ ap (λ p. p.target) e }

pub among_shown : (order shown : List ℕ) (n : ℕ) → shown ≡ order → IsAmong shown n → IsAmong order n
among_shown order shown n e among = (among.0, sym (ap (λ l. slice_get l among.0) e) ∙ among.1)

pub shown_among : (order shown : List ℕ) (n : ℕ) → shown ≡ order → IsAmong order n → IsAmong shown n
shown_among order shown n e among = (among.0, ap (λ l. slice_get l among.0) e ∙ among.1)

-- ---- numbers that are those of cells

pub all_shown : (bound : ℕ) (numbers shown : List ℕ) (cells now : List Cell) → shown ≡ numbers → now ≡ cells
    → All (λ n. n < length cells) numbers → All (λ n. n < length now) shown
all_shown bound numbers shown cells now e f all = subst (λ l. All (λ n. n < length now) l) (sym e) (subst (λ c. All (λ n. n < length c) numbers) (sym f) all)

pub ring_within : (cells : List Cell) (top : ℕ) (numbers : List ℕ) → top < length cells → (numbers ≡ [])
    ⊎ IsCycle cells top numbers → All (λ n. n < length cells) numbers
ring_within cells top numbers inside ring = All-from_slots numbers (λ n. n < length cells) (λ k n at. elim ring [
  | inl none ↦ absurd (none-some n (sym (ap (λ l. slice_get l k) none) ∙ at))
  | inr r ↦ reachable_within cells top n inside (r.reachable k n at)
])

chain_slots : (cells : List Cell) (n : ℕ) (links : List Link) → n < length cells → IsChain cells n links → (k m : ℕ)
    → slice_get (chain_cells n links) k ≡ Some m → m < length cells
chain_slots cells n links inside chain zero m at = subst (λ c. c < length cells) (same_Some n m at) inside
chain_slots cells n [] inside chain (suc k) m at = absurd (none-some m at)
chain_slots cells n (link ∷ links) inside chain (suc k) m at = chain_slots cells link.cell links
    (placed_within cells n link.placement link.cell chain.0) chain.1 k m at

pub chain_within : (cells : List Cell) (top : ℕ) (links : List Link) (numbers : List ℕ) → top < length cells
    → IsChain cells top links → numbers ≡ chain_cells top links → All (λ n. n < length cells) numbers
chain_within cells top links numbers inside chain are = subst (All (λ n. n < length cells)) (sym are)
    (All-from_slots (chain_cells top links) (λ n. n < length cells) (chain_slots cells top links inside chain))

pub names_shown : (cells now : List Cell) (numbers shown : List ℕ) (names : List (List ℕ)) → now ≡ cells
    → shown ≡ numbers → names ≡ map (name_at now) shown → names ≡ map (name_at cells) numbers
names_shown cells now numbers shown names e f is = is ∙ ap (λ l. map (name_at l) shown) e ∙ ap (map (name_at cells)) f

-- ---- targets

pub target_known : (cells : List Cell) (top n k : ℕ) (shown : List (Option ℕ)) → IsTree cells top
    → IsReachable cells top n → shown ≡ targets_at cells n → k < length (placements_at cells n)
    → get_or shown k None ≡ None → ⊥
target_known cells top n k shown tree reach is inside none =
    let long = length-map (placements_at cells n) (λ p. cell_number cells p.target) in
    let slot : slice_get (targets_at cells n) k ≡ Some None = slice_get-get_or (targets_at cells n) k None
    (omega arith) ∙ ap Some (ap (λ l. get_or l k None) (sym is) ∙ none) in
    let u = unknown_at cells n k slot in
    tree.known n u.0 reach u.2

pub target_value : (cells : List Cell) (n k m : ℕ) (shown : List (Option ℕ)) (placed : Placement)
    → shown ≡ targets_at cells n → get_or shown k None ≡ Some m → slice_get (placements_at cells n) k ≡ Some placed
    → cell_number cells placed.target ≡ Some m
target_value cells n k m shown placed is some at =
    sym (get_or_from_slice_get (targets_at cells n) k (cell_number cells placed.target) None
    (slot_map (λ p. cell_number cells p.target) (placements_at cells n) k placed at)) ∙ ap (λ l. get_or l k None)
    (sym is) ∙ some

pub target_inside : (cells : List Cell) (n k m : ℕ) (shown : List (Option ℕ)) → shown ≡ targets_at cells n
    → k < length (placements_at cells n) → get_or shown k None ≡ Some m → m < length cells
target_inside cells n k m shown is inside some =
    let long = length-map (placements_at cells n) (λ p. cell_number cells p.target) in
    targets_below cells n k m (slice_get-get_or (targets_at cells n) k None (omega arith) ∙ ap Some (ap (λ l. get_or l k None) (sym is) ∙ some))

-- ---- the greatest factor at the top

pub farthest_top : (cells : List Cell) (only_fixed : Bool) (top : ℕ) (order shown : List ℕ)
    (farthest : List (Option Far)) (far : Option Far) → shown ≡ order → IsOrder cells top order
    → AreFarthest cells only_fixed shown farthest
    → top < length farthest → far ≡ get_or farthest top far → IsFarthest cells only_fixed top far
farthest_top cells only_fixed top order shown farthest far e in_order are inside is =
    subst (IsFarthest cells only_fixed top) (sym (get_or_read farthest top far inside is None))
    (are top (shown_among order shown top e (in_order.all top (top_reachable cells top))))

pub farthest_below : (cells : List Cell) (only_fixed : Bool) (top : ℕ) (order shown : List ℕ)
    (farthest farthest' : List (Option Far)) → shown ≡ order → farthest' ≡ farthest → IsOrder cells top order
    → AreFarthest cells only_fixed shown farthest
    → AreFarthestBelow cells only_fixed top farthest'
farthest_below cells only_fixed top order shown farthest farthest' e f in_order are n reach =
    subst (λ l. IsFarthest cells only_fixed n (get_or l n None)) (sym f) (are n (shown_among order shown n e (in_order.all n reach)))

pub heights_below : (cells : List Cell) (top : ℕ) (order shown heights heights' : List ℕ) → shown ≡ order
    → heights' ≡ heights → IsOrder cells top order → AreHeights cells shown heights → AreHeightsBelow cells top heights'
heights_below cells top order shown heights heights' e f in_order are n reach =
    subst (λ l. IsHeight cells n (get_or l n 0)) (sym f) (are n (shown_among order shown n e (in_order.all n reach)))

pub height_top : (cells : List Cell) (top : ℕ) (order shown heights : List ℕ) (h : ℕ) → shown ≡ order
    → IsOrder cells top order → AreHeights cells shown heights → top < length heights → h ≡ get_or heights top h
    → IsHeight cells top h
height_top cells top order shown heights h e in_order are inside is =
    subst (IsHeight cells top) (sym (get_or_read heights top h inside is 0))
    (are top (shown_among order shown top e (in_order.all top (top_reachable cells top))))

-- a cell with a fixed shape that is enlarged
pub enlarged_is : (cells : List Cell) (top : ℕ) (far : Far) (value : ℤ) (name : List ℕ) → IsMild cells top
    → IsFarthest cells true top (Some far) → 1 < far.factor → value ≡ pos far.factor → name ≡ name_at cells far.cell
    → IsEnlarged cells top value name
enlarged_is cells top far value name mild is more shown named =
    let c = is.chain in
    let low = mild c.links c.chain in
    let e : far.factor ≡ chain_factor c.links = omega (arith, c.factor) in
    record {
      links = c.links;
      chain = c.chain;
      fixed = subst (HasFixed cells) (sym c.end) (c.ends refl);
      factor = shown ∙ ap pos e;
      above = omega arith;
      named = named ∙ ap (name_at cells) (sym c.end);
    }

pub far_within : (cells : List Cell) (only_fixed : Bool) (top : ℕ) (far : Far) → top < length cells
    → IsFarthest cells only_fixed top (Some far) → far.cell < length cells
far_within cells only_fixed top far inside is = subst (λ n. n < length cells) is.chain.end (end_within cells top is.chain.links inside is.chain.chain)

pub crowd_is : (cells : List Cell) (top n count : ℕ) (order shown : List ℕ) (name : List ℕ) → shown ≡ order
    → IsOrder cells top order → IsCrowd cells shown n count → name ≡ name_at cells n → IsCrowded cells top name count
crowd_is cells top n count order shown name e in_order crowd named =
    let among = among_shown order shown n e crowd.among in
    record { number = n; reachable = in_order.reachable among.0 n among.1; many = crowd.many; lowest = crowd.lowest; named = named; count = crowd.number }

pub order_short : (cells : List Cell) (top : ℕ) (order shown : List ℕ) → shown ≡ order → IsOrder cells top order
    → IsShallow cells top → (n : ℕ) → IsAmong shown n → IsShort cells 64 n
order_short cells top order shown e in_order shallow n among = let a = among_shown order shown n e among in
    short_below cells top n shallow (in_order.reachable a.0 n a.1)

-- ---- the answer

pub accepted : {T : Type 0} (cells : List Cell) (top : ℕ) (r : Result T (Refusal TreeBad)) → All IsCellOnGrid cells
    → IfFault r (IsFirstTreeFault cells top) → IsTree cells top → IsOk r ⊎ (r ≡ Err refusals.NoMemory)
accepted cells top (Ok tree) grid fault is = inl refl
accepted cells top (Err (refusals.Fault bad)) grid fault is = absurd (no_fault cells top bad grid is fault)
accepted cells top (Err refusals.NoMemory) grid fault is = inr refl

pub order_near : (cells : List Cell) (top : ℕ) (order shown : List ℕ) → All IsCellOnGrid cells → shown ≡ order
    → IsOrder cells top order → IsShallow cells top → IsMild cells top → (n : ℕ) → IsAmong shown n
    → HasNearVertices cells n
order_near cells top order shown grid e in_order shallow mild n among = let a = among_shown order shown n e among in
    near_below cells grid top n shallow mild (in_order.reachable a.0 n a.1)

pub hulls_below : (cells : List Cell) (top : ℕ) (order shown : List ℕ) (hulls : List (List PairHull)) → shown ≡ order
    → IsOrder cells top order → AreHulls cells shown hulls → AreHullsBelow cells top hulls
hulls_below cells top order shown hulls e in_order are n reach = are n (shown_among order shown n e (in_order.all n reach))

pub only_below : (cells : List Cell) (top : ℕ) (order shown : List ℕ) (hulls : List (List PairHull)) → shown ≡ order
    → IsOrder cells top order → AreOnlyAmong shown hulls → AreOnlyBelow cells top hulls
only_below cells top order shown hulls e in_order are n = elim (are n) [
  | inl none ↦ inl none
  | inr among ↦ (let a = among_shown order shown n e among in inr (in_order.reachable a.0 n a.1))
]

-- a cell that has boxes is reachable
pub only_read : {A : Type 0} (view : A → List PairHull) (cells : List Cell) (top n : ℕ) (hulls : List A) (list : A)
    → n < length hulls → list ≡ get_or hulls n list → AreOnlyBelow cells top (map view hulls) → 0 < length (view list)
    → IsReachable cells top n
only_read view cells top n hulls list inside is are some = elim (are n) [
  | inl none ↦ (let empty : view list ≡ [] = ap view is ∙ sym (get_or-map view hulls n list [] inside) ∙ none in
      absurd (omega (arith, ap length empty)))
  | inr reach ↦ reach
]

-- the list that an index gives
pub hulls_read : {A : Type 0} (view : A → List PairHull) (cells : List Cell) (top n : ℕ) (hulls : List A) (list : A)
    → n < length hulls → list ≡ get_or hulls n list → AreHullsBelow cells top (map view hulls) → IsReachable cells top n
    → AreCellHulls cells n (view list)
hulls_read view cells top n hulls list inside is are reach =
    subst (AreCellHulls cells n) (get_or-map view hulls n list [] inside ∙ ap view (sym is)) (are n reach)

pub top_hulls : {A : Type 0} (view : A → List PairHull) (cells : List Cell) (top : ℕ) (order shown : List ℕ)
    (hulls : List A) (list : A) → shown ≡ order → IsOrder cells top order → AreHulls cells shown (map view hulls)
    → top < length hulls → list ≡ get_or hulls top list → AreCellHulls cells top (view list)
top_hulls view cells top order shown hulls list e in_order are inside is =
    hulls_read view cells top top hulls list inside is (hulls_below cells top order shown (map view hulls) e in_order are) (top_reachable cells top)

-- ---- cells that show nothing

first_vertex : (shapes rest : List Shape) (shape : Shape) → shapes ≡ shape ∷ rest → IsShapeOnGrid shape
    → (p : Point) × OwnVertex shapes (length shapes) shape.pair p
first_vertex shapes rest shape e grid = by shape.points refl shape.offsets refl
  where
    by : (points : List Point) → shape.points ≡ points → (offsets : List Point) → shape.offsets ≡ offsets
        → (p : Point) × OwnVertex shapes (length shapes) shape.pair p
    by [] none offsets are = absurd (subst IsClosed none grid.closed)
    by (v ∷ points) is [] none = absurd (grid.offsets.nonempty none)
    by (v ∷ points) is (b ∷ offsets) are = (
      moved b v,
      record {
        number = 0;
        early = subst (λ (l : List Shape). 0 < length l) (sym e) (omega arith);
        shape = shape;
        here = ap (λ (l : List Shape). slice_get l 0) e;
        on_pair = refl;
        vertex =
            record {
              place = 0;
              by = b;
              offset = ap (λ (l : List Point). slice_get l 0) are;
              corner = 0;
              v = v;
              point = ap (λ (l : List Point). slice_get l 0) is;
              is = refl;
            };
      },
    )

-- a reachable cell that has no box has no shapes
pub bare : (cells : List Cell) (top n : ℕ) (hulls : List PairHull) → All IsCellOnGrid cells → IsShallow cells top
    → IsReachable cells top n → AreCellHulls cells n hulls → hulls ≡ [] → shapes_at cells n ≡ []
bare cells top n hulls grid shallow reach are none = by (shapes_at cells n) refl
  where
    no_vertex : (pair : Pair) (p : Point) → IsVertex cells n pair p → ⊥
    no_vertex pair p vertex = subst (λ (l : List PairHull). IsHull (IsVertex cells n pair) (hull_in l pair)) none (are.1 pair) p vertex

    by : (shapes : List Shape) → shapes_at cells n ≡ shapes → shapes_at cells n ≡ []
    by [] e = e
    by (shape ∷ rest) e =
        let on = All-head IsShapeOnGrid shape rest (subst (All IsShapeOnGrid) e (shapes_on_grid cells grid n)) in
        let v = first_vertex (shapes_at cells n) rest shape e on in
        absurd (no_vertex shape.pair v.0 (own_vertex cells n shape.pair v.0 (length (shapes_at cells n)) (short_below cells top n shallow reach) v.1))

-- ---- the first fault

-- what is asked, in order
abbrev Asked : List Cell → ℕ → ℕ → Type 0
Asked cells top zero = Unit {0}
Asked cells top (suc zero) = IsKnown cells top
Asked cells top (suc (suc zero)) = IsAcyclic cells top
Asked cells top (suc (suc (suc zero))) = IsShallow cells top
Asked cells top (suc (suc (suc (suc zero)))) = IsMild cells top
Asked cells top (suc (suc (suc (suc (suc zero))))) = KeepsFixed cells top
Asked cells top (suc (suc (suc (suc (suc (suc zero)))))) = AreVerticesNear cells top
Asked cells top (suc (suc (suc (suc (suc (suc (suc k))))))) = Unit {0}

asked_before : (cells : List Cell) (top : ℕ) (bad : TreeBad) → IsFirstTreeFault cells top bad → (k : ℕ) → k < order_of bad → Asked cells top k
asked_before cells top bad fault zero less = tt
asked_before cells top bad fault (suc (suc (suc (suc (suc (suc (suc k))))))) less = tt
asked_before cells top NoTop fault (suc k) less = absurd fault
asked_before cells top (Unknown cell name) fault (suc k) less = absurd (omega arith)
asked_before cells top (Cycle names) fault (suc zero) less = fault.0
asked_before cells top (Cycle names) fault (suc (suc k)) less = absurd (omega arith)
asked_before cells top (Deep names) fault (suc zero) less = fault.0
asked_before cells top (Deep names) fault (suc (suc zero)) less = fault.1
asked_before cells top (Deep names) fault (suc (suc (suc k))) less = absurd (omega arith)
asked_before cells top (Scale value names) fault (suc zero) less = fault.0
asked_before cells top (Scale value names) fault (suc (suc zero)) less = fault.1
asked_before cells top (Scale value names) fault (suc (suc (suc zero))) less = fault.2
asked_before cells top (Scale value names) fault (suc (suc (suc (suc k)))) less = absurd (omega arith)
asked_before cells top (Fixed value cell) fault (suc zero) less = fault.0
asked_before cells top (Fixed value cell) fault (suc (suc zero)) less = fault.1
asked_before cells top (Fixed value cell) fault (suc (suc (suc zero))) less = fault.2
asked_before cells top (Fixed value cell) fault (suc (suc (suc (suc zero)))) less = fault.3
asked_before cells top (Fixed value cell) fault (suc (suc (suc (suc (suc k))))) less = absurd (omega arith)
asked_before cells top (Extent value) fault (suc zero) less = fault.0
asked_before cells top (Extent value) fault (suc (suc zero)) less = fault.1
asked_before cells top (Extent value) fault (suc (suc (suc zero))) less = fault.2
asked_before cells top (Extent value) fault (suc (suc (suc (suc zero)))) less = fault.3
asked_before cells top (Extent value) fault (suc (suc (suc (suc (suc zero))))) less = fault.4
asked_before cells top (Extent value) fault (suc (suc (suc (suc (suc (suc k)))))) less = absurd (omega arith)
asked_before cells top (Count cell value) fault (suc zero) less = fault.0
asked_before cells top (Count cell value) fault (suc (suc zero)) less = fault.1
asked_before cells top (Count cell value) fault (suc (suc (suc zero))) less = fault.2
asked_before cells top (Count cell value) fault (suc (suc (suc (suc zero)))) less = fault.3
asked_before cells top (Count cell value) fault (suc (suc (suc (suc (suc zero))))) less = fault.4
asked_before cells top (Count cell value) fault (suc (suc (suc (suc (suc (suc zero)))))) less = fault.5

-- a fault that isn't the last breaks what is asked at its place
breaks : (cells : List Cell) (top : ℕ) (bad : TreeBad) → IsFirstTreeFault cells top bad → order_of bad < 7 → Asked cells top (order_of bad) → ⊥
breaks cells top NoTop fault less asked = fault
breaks cells top (Unknown cell name) fault less asked = asked fault.number fault.placement fault.reachable fault.unknown
breaks cells top (Cycle names) fault less asked = asked fault.1.numbers fault.1.cycle
breaks cells top (Deep names) fault less asked = let low = asked fault.2.links fault.2.chain in let many = fault.2.many in omega arith
breaks cells top (Scale value names) fault less asked = let low = asked fault.3.links fault.3.chain in let high = fault.3.above in omega arith
breaks cells top (Fixed value cell) fault less asked = let low = asked fault.4.links fault.4.chain fault.4.fixed in let high = fault.4.above in omega arith
breaks cells top (Extent value) fault less asked = none-some value (sym (none_beyond fault.5.box
    (least_up_to (Every cells top) fault.5.box (2 ^ 30) fault.5.least (λ p every. asked every.0 p every.1))) ∙ fault.5.first)
breaks cells top (Count cell value) fault less asked = omega arith

top_order : (bad : TreeBad) → order_of bad ≤ 7
top_order NoTop = omega arith
top_order (Unknown cell name) = omega arith
top_order (Cycle names) = omega arith
top_order (Deep names) = omega arith
top_order (Scale value names) = omega arith
top_order (Fixed value cell) = omega arith
top_order (Extent value) = omega arith
top_order (Count cell value) = omega arith

no_less : (cells : List Cell) (top : ℕ) (a b : TreeBad) → IsFirstTreeFault cells top a → IsFirstTreeFault cells top b → order_of a < order_of b → ⊥
no_less cells top a b first second less = let most = top_order b in breaks cells top a first (omega arith)
    (asked_before cells top b second (order_of a) less)

same_order : (cells : List Cell) (top : ℕ) (a b : TreeBad) → IsFirstTreeFault cells top a → IsFirstTreeFault cells top b → order_of a ≡ order_of b
same_order cells top a b first second =
    elim (apart (order_of a) (order_of b)) [
      | inl e ↦ e
      | inr differs ↦ absurd (less_or (order_of a) (order_of b) differs (no_less cells top a b first second) (no_less cells top b a second first))
    ]
  where
    less_or : (m n : ℕ) → (m ≡ n → ⊥) → (m < n → ⊥) → (n < m → ⊥) → ⊥
    less_or zero zero d a b = d refl
    less_or zero (suc n) d a b = a (omega arith)
    less_or (suc m) zero d a b = b (omega arith)
    less_or (suc m) (suc n) d a b = less_or m n (λ e. d (ap suc e)) (λ h. a (omega arith)) (λ h. b (omega arith))

pub answered : {T : Type 0} (cells : List Cell) (top : ℕ) (r : Result T (Refusal TreeBad)) (bad : TreeBad)
    → All IsCellOnGrid cells → OnOk r (IsTree cells top) → IfFault r (IsFirstTreeFault cells top)
    → IsFirstTreeFault cells top bad → IsErrAnd r (IsForFault (λ answer. order_of answer ≡ order_of bad))
answered cells top (Ok tree) bad grid is fault first = absurd (no_fault cells top bad grid is first)
answered cells top (Err (refusals.Fault answer)) bad grid is fault first = same_order cells top answer bad fault first
answered cells top (Err refusals.NoMemory) bad grid is fault first = tt
