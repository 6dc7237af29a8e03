-- A layout of three cells, one of which is a triangle, and the piece that covers it.
use Rattle.std.proofs.Common.{◌≡◌, ◌≢◌, ◌<◌, ◌≤◌, ◌*◌, ◌/◌, ◌%◌, ◌+ℤ◌, ◌*ℤ◌, ℕ, zero, suc, pos, Bool, true, false, List}
use Rattle.std.proofs.Common.{[], ◌∷◌, ◌++◌, All, Some, map, length, slice_get, get_or, refl, sym, ap, subst, ◌∙◌}
use Rattle.std.proofs.Common.{arith}
use Rattle.std.proofs.lemmas.Int.{ints}
use Rattle.std.proofs.lemmas.List.{length-map}
use Rattle.std.proofs.lemmas.Option.{none-some, same_Some}
use Rattle.std.proofs.lemmas.List.Elements.{All-cons, All-nil}
use Rattle.half_grid.specs.Quads.{ring_of, corners_of}
use Rattle.half_grid.specs.Trapezoids.{Trapezoid, IsShot, CoversExactly, count_in, trapezoid_has}
use Rattle.half_grid.specs.Winding.{IsInPolygon, count_one}
use Rattle.half_grid.specs.declared.plane.Tile.{Tile}
use Rattle.half_grid.specs.declared.plane.Point.{Point}
use Rattle.half_grid.proofs.ForCallers.{ring_inside, ring_outside, has_in, in_has, count_by-cons}
use Rattle.std.proofs.Math.IntN.{pos-*ℤ-pos}
use Rattle.std.proofs.Math.Nat.{mod-lt, div-lt_iff_lt-mul, mul-le-mul}
use Rattle.std.proofs.lemmas.List.FromFn.{get_or-map-range_with_len, length-map-range_with_len}
use Rattle.half_grid.specs.Halves.{is_even}
use Rattle.layout_model.specs.Grids.{IsGrid, grid_place, grid_places, nth_place}
use Rattle.layout_model.specs.Layouts.{IsMove, AreOffsets, AreDistinct, IsCellOnGrid, IsLayoutOnGrid}
use Rattle.layout_model.specs.declared.pair.Pair.{Pair}
use Rattle.layout_model.specs.declared.shapes.Shape.{Shape}
use Rattle.layout_model.specs.declared.cells.Cell.{Cell}
use Rattle.layout_model.specs.declared.cells.Counts.{Counts}
use Rattle.cell_tree.specs.Cells.{shapes_at}
use Rattle.flat_walk.specs.Tables.{lists_at, IsShownOnce, AreCut, HaveNoLists, with_lists}
use Rattle.flat_walk.proofs.TableLemmas.{lists_pushed, pushed_length, once_here}

-- ---- a piece covers its ring

count_no : (b : Bool) → b ≡ false → count_one b ≡ 0
count_no true e = absurd (let clash : ⊥ = cc in clash)
count_no false e = refl

pub ring_covered : (z : Trapezoid) → IsShot z → CoversExactly (z ∷ []) (IsInPolygon (ring_of (corners_of z)))
ring_covered z shot = record {
  once = λ t wound. at_once t (trapezoid_has t z) refl wound;
  never = λ t out. at_never t (trapezoid_has t z) refl out;
}
  where
    at_once : (t : Tile) (b : Bool) → trapezoid_has t z ≡ b → IsInPolygon (ring_of (corners_of z)) t → count_in (z ∷ []) t ≡ 1
    at_once t true e wound = let c = count_by-cons (trapezoid_has t) z [] in let one = ap count_one e in omega (arith, c, one)
    at_once t false e wound = absurd (wound (ring_outside z t shot.legal (λ inside. (let h = in_has t z inside in cc))))

    at_never : (t : Tile) (b : Bool) → trapezoid_has t z ≡ b → (IsInPolygon (ring_of (corners_of z)) t → ⊥) → count_in (z ∷ []) t ≡ 0
    at_never t true e out = absurd (out (λ none. (let one = sym (ring_inside z t shot.legal (has_in t z e)) ∙ none in omega (arith, ints, one))))
    at_never t false e out = let c = count_by-cons (trapezoid_has t) z [] in let no = count_no (trapezoid_has t z) e in omega (arith, c, no)

-- ---- three cells

three_long : (cells : List Cell) (shapes : List Shape) → map (λ cell. cell.shapes) cells ≡ shapes ∷ [] ∷ [] ∷ [] → length cells ≡ 3
three_long cells shapes e = sym (length-map cells (λ cell. cell.shapes)) ∙ ap length e

-- only the first cell has shapes
only_first : (cells : List Cell) (shapes : List Shape) (other : Shape) (n k : ℕ)
    → map (λ cell. cell.shapes) cells ≡ shapes ∷ [] ∷ [] ∷ [] → slice_get (shapes_at cells n) k ≡ Some other
    → (n ≡ 0) × (slice_get shapes k ≡ Some other)
only_first [] shapes other n k e there = absurd (let clash : ⊥ = cc in clash)
only_first (c ∷ cells) shapes other zero k e there = (refl, ap (λ l. slice_get (get_or l 0 []) k) (sym e) ∙ there)
only_first (c ∷ cells) shapes other (suc n) k e there = absurd (later cells n (ap tail_of e) there)
  where
    tail_of : List (List Shape) → List (List Shape)
    tail_of [] = []
    tail_of (x ∷ xs) = xs

    none_in : (shapes : List Shape) → shapes ≡ [] → slice_get shapes k ≡ Some other → ⊥
    none_in shapes is at = none-some other (sym (ap (λ l. slice_get l k) is) ∙ at)

    later : (cells : List Cell) (n : ℕ) → map (λ cell. cell.shapes) cells ≡ [] ∷ [] ∷ [] → slice_get (shapes_at cells n) k ≡ Some other → ⊥
    later [] n e at = let clash : ⊥ = cc in clash
    later (b ∷ cells) zero e at = none_in b.shapes (ap (λ l. get_or l 0 []) e) at
    later (b ∷ []) (suc n) e at = none-some other at
    later (b ∷ a ∷ cells) (suc zero) e at = none_in a.shapes (ap (λ l. get_or l 1 []) e) at
    later (b ∷ a ∷ []) (suc (suc n)) e at = none-some other at
    later (b ∷ a ∷ z ∷ cells) (suc (suc n)) e at = let clash : ⊥ = cc in clash

covers_points : (piece : Trapezoid) (shape other : Shape) → IsShot piece → shape ≡ other → shape.points ≡ ring_of (corners_of piece)
    → CoversExactly (piece ∷ []) (IsInPolygon other.points)
covers_points piece shape other shot same points =
    subst (λ ps. CoversExactly (piece ∷ []) (IsInPolygon ps)) (sym (ap (λ s. s.points) (sym same) ∙ points)) (ring_covered piece shot)

pub has_cell : (cells : List Cell) (table : List (List (List Trapezoid))) (shapes : List Shape) → HaveNoLists cells table
    → map (λ cell. cell.shapes) cells ≡ shapes ∷ [] ∷ [] ∷ [] → 0 < length table
has_cell cells table shapes none only = let c = three_long cells shapes only in let l = none.long in omega (arith, c, l)

module _ (cells : List Cell) (top : ℕ) (table : List (List (List Trapezoid))) (piece : Trapezoid) (shot : IsShot piece) (none : HaveNoLists cells table) where
  -- the piece that was pushed covers the only shape
  pub all_cut : (shape : Shape) → map (λ cell. cell.shapes) cells ≡ (shape ∷ []) ∷ [] ∷ [] ∷ []
      → shape.points ≡ ring_of (corners_of piece) → (pair : Pair) → AreCut cells top (with_lists table 0 ((piece ∷ []) ∷ [])) pair
  all_cut shape only points pair = λ n k other reach there on.
      let e = only_first cells (shape ∷ []) other n k only there in
      subst (λ i. IsShownOnce cells (with_lists table 0 ((piece ∷ []) ∷ [])) i k other) (sym e.0)
      (by other k e.1 (subst (λ i. slice_get (shapes_at cells i) k ≡ Some other) e.0 there))
    where
      by : (other : Shape) (k : ℕ) → slice_get (shape ∷ []) k ≡ Some other → slice_get (shapes_at cells 0) k ≡ Some other
          → IsShownOnce cells (with_lists table 0 ((piece ∷ []) ∷ [])) 0 k other
      by other zero at there = once_here cells table 0 0 other (piece ∷ []) (has_cell cells table (shape ∷ []) none only) (sym (ap length (none.none 0))) there
          (covers_points piece shape other shot (same_Some shape other at) points)
      by other (suc k) at there = absurd (none-some other at)

  -- the piece that was pushed last covers the only shape on the pair
  pub third_cut : (a b shape : Shape) → map (λ cell. cell.shapes) cells ≡ (a ∷ b ∷ shape ∷ []) ∷ [] ∷ [] ∷ []
      → a.pair.layer ≡ 2 → b.pair.layer ≡ 2 → shape.points ≡ ring_of (corners_of piece)
      → (pair : Pair) → pair.layer ≡ 1 → AreCut cells top (with_lists (with_lists table 0 ([] ∷ [] ∷ [])) 0 ((piece ∷ []) ∷ [])) pair
  third_cut a b shape only on_a on_b points pair one = λ n k other reach there on.
      let e = only_first cells (a ∷ b ∷ shape ∷ []) other n k only there in
      subst (λ i. IsShownOnce cells (with_lists two 0 ((piece ∷ []) ∷ [])) i k other) (sym e.0)
      (by other k (ap (λ p. p.layer) on ∙ one) e.1 (subst (λ i. slice_get (shapes_at cells i) k ≡ Some other) e.0 there))
    where
      two : List (List (List Trapezoid))
      two = with_lists table 0 ([] ∷ [] ∷ [])

      off : (s other : Shape) → s.pair.layer ≡ 2 → other.pair.layer ≡ 1 → Some s ≡ Some other → ⊥
      off s other h g at = let f = ap (λ s. s.pair.layer) (same_Some s other at) in omega (arith, h, g, f)

      some : 0 < length table
      some = has_cell cells table (a ∷ b ∷ shape ∷ []) none only

      third : 2 ≡ length (lists_at two 0)
      third = sym (ap length (lists_pushed table 0 ([] ∷ [] ∷ []) some ∙ ap (λ l. l ++ [] ∷ [] ∷ []) (none.none 0)))

      still : 0 < length two
      still = let e = pushed_length table 0 ([] ∷ [] ∷ []) in omega (arith, e, some)

      by : (other : Shape) (k : ℕ) → other.pair.layer ≡ 1 → slice_get (a ∷ b ∷ shape ∷ []) k ≡ Some other → slice_get (shapes_at cells 0) k ≡ Some other
          → IsShownOnce cells (with_lists two 0 ((piece ∷ []) ∷ [])) 0 k other
      by other zero on at there = absurd (off a other on_a on at)
      by other (suc zero) on at there = absurd (off b other on_b on at)
      by other (suc (suc zero)) on at there = once_here cells two 0 2 other (piece ∷ []) still third there
          (covers_points piece shape other shot (same_Some shape other at) points)
      by other (suc (suc (suc k))) on at there = absurd (none-some other at)

-- ---- three cells with different names

clash_of : (x y : ℕ) → x < y → (y ∷ []) ≡ (x ∷ []) → ⊥
clash_of x y less h = let n : y ≡ x = ap (λ l. get_or l 0 0) h in omega arith

pub three_cells : {a b c : Cell} {cells : List Cell} {counts : Counts} → cells ≡ c ∷ b ∷ a ∷ [] → IsCellOnGrid a → IsCellOnGrid b → IsCellOnGrid c
    → a.name ≡ 65 ∷ [] → b.name ≡ 66 ∷ [] → c.name ≡ 67 ∷ [] → IsLayoutOnGrid (record { cells = cells; counts = counts })
three_cells {a} {b} {c} {cells} {counts} e ga gb gc na nb nc =
    let cb : c.name ≢ b.name = λ h. clash_of 66 67 (omega arith) (sym nc ∙ h ∙ nb) in
    let ca : c.name ≢ a.name = λ h. clash_of 65 67 (omega arith) (sym nc ∙ h ∙ na) in
    let ba : b.name ≢ a.name = λ h. clash_of 65 66 (omega arith) (sym nb ∙ h ∙ na) in
    let grid : All IsCellOnGrid (c ∷ b ∷ a ∷ []) = All-cons IsCellOnGrid c (b ∷ a ∷ []) gc
    (All-cons IsCellOnGrid b (a ∷ []) gb (All-cons IsCellOnGrid a [] ga (All-nil IsCellOnGrid))) in
    let names : AreDistinct (c.name ∷ b.name ∷ a.name ∷ []) = (
      All-cons (λ other. c.name ≢ other) b.name (a.name ∷ []) cb (All-cons (λ other. c.name ≢ other) a.name [] ca (All-nil (λ other. c.name ≢ other))),
      (All-cons (λ other. b.name ≢ other) a.name [] ba (All-nil (λ other. b.name ≢ other)), (All-nil (λ other. a.name ≢ other), tt)),
    ) in
    record {
      cells = subst (All IsCellOnGrid) (sym e) grid;
      names = subst (λ (cs : List Cell). AreDistinct (map (λ (x : Cell). x.name) cs)) (sym e) names;
    }

-- ---- an array of moves

even_twice : (m : ℕ) → is_even (pos (2 * m)) ≡ true
even_twice m = let e : (2 * m) % 2 ≡ 0 = omega arith in rw e refl

right_up : (a b : ℕ) → a < 1000 → b < 1000 → IsMove (grid_place (record { x = pos 20; y = pos 0 }) (record { x = pos 0; y = pos 40 }) a b)
right_up a b ha hb =
    let x : (pos a *ℤ pos 20) +ℤ (pos b *ℤ pos 0) ≡ pos (2 * (10 * a)) = (let p = pos-*ℤ-pos a 20 in let q = pos-*ℤ-pos b 0 in omega (arith, ints, p, q)) in
    let y : (pos a *ℤ pos 0) +ℤ (pos b *ℤ pos 40) ≡ pos (2 * (20 * b)) = (let p = pos-*ℤ-pos a 0 in let q = pos-*ℤ-pos b 40 in omega (arith, ints, p, q)) in
    record {
      even_x = ap is_even x ∙ even_twice (10 * a);
      even_y = ap is_even y ∙ even_twice (20 * b);
      near = record { x_low = omega (arith, ints, x); x_high = omega (arith, ints, x); y_low = omega (arith, ints, y); y_high = omega (arith, ints, y) };
    }

pub grid_moves : (nu nv : ℕ) → 1 ≤ nu → nu ≤ 1000 → 1 ≤ nv → nv ≤ 1000
    → AreOffsets (grid_places nu nv (record { x = pos 20; y = pos 0 }) (record { x = pos 0; y = pos 40 }))
grid_moves nu nv some few some_rows few_rows = record {
  nonempty = λ none. (let n = ap length none in let long = grid_length nu nv in let many : 1 * 1 ≤ nu * nv =
      mul-le-mul some some_rows in omega (arith, n, long, many));
  moves = λ k d inside.
      (let long = grid_length nu nv in
      let here : k < nu * nv = omega (arith, long, inside) in
      subst IsMove (sym (get_or-map-range_with_len (nth_place nu right up) 0 (nu * nv) k k d here (omega arith)))
      (right_up (k % nu) (k / nu) (let m = mod-lt k {m = nu} (omega arith) in omega (arith, m))
      (let m = (div-lt_iff_lt-mul {k = nu} {x = k} {y = nv} (omega arith)).1 (omega (arith, here)) in omega
      (arith, m))));
}
  where
    right : Point
    right = record { x = pos 20; y = pos 0 }

    up : Point
    up = record { x = pos 0; y = pos 40 }

    grid_length : (nu nv : ℕ) → length (grid_places nu nv right up) ≡ nu * nv
    grid_length nu nv = length-map-range_with_len (nth_place nu right up) 0 (nu * nv)

pub right_up_grid : (nu nv : ℕ) → 1 ≤ nu → nu ≤ 1000 → 1 ≤ nv → nv ≤ 1000 → IsGrid nu nv (record { x = pos 20; y = pos 0 }) (record { x = pos 0; y = pos 40 })
right_up_grid nu nv some few some_rows few_rows = record {
  some_columns = some;
  few_columns = omega arith;
  some_rows = some_rows;
  few_rows = omega arith;
  reach = λ a b ha hb.
      (let m = right_up a b (omega arith) (omega arith) in let n = m.near in let xl = n.x_low in let xh = n.x_high in
      let yl = n.y_low in let yh = n.y_high in record {
        x = record { low = omega (arith, ints, xl); high = omega (arith, ints, xh) };
        y = record { low = omega (arith, ints, yl); high = omega (arith, ints, yh) };
      });
}
