-- The rows of a list of points, point by point, and tiles outside of them.
use Rattle.std.proofs.Common.{◌≡◌, ℤ, pos, ◌≤ℤ◌, ◌<ℤ◌, List, [], ◌∷◌, ◌++◌, Any, ◌⊎◌, inl, inr, ◌∙◌, sym, ap, subst, refl, cond, true, false, int_lt, arith}
use Rattle.std.proofs.lemmas.Int.{ints, clamps, by_lt_z}
use Rattle.std.proofs.lemmas.Grind.{common_steps}
use Rattle.std.proofs.lemmas.List.Elements.{All-push, All-weaker, All-contains, recursion_from_All}
use Rattle.std.proofs.lemmas.List.Quantifiers.{Any-push}
use Rattle.std.specs.Int.{int_min, int_max}
use Rattle.half_grid.specs.Outlines.{IsClosed}
use Rattle.half_grid.specs.Winding.{winding, IsInPolygon}
use Rattle.half_grid.specs.Edges.{EdgeParts, edges_winding}
use Rattle.half_grid.specs.Trapezoids.{Trapezoid}
use Rattle.half_grid.specs.declared.border.Operand.TheVariants.{A}
use Rattle.half_grid.specs.Windows.{RowRange, row_range}
use Rattle.half_grid.specs.declared.plane.Point.{Point}
use Rattle.half_grid.specs.declared.plane.Tile.{Tile}
use Rattle.half_grid.proofs.ForCallers.{closed_under, closed_over}
use Rattle.scan_line.specs.OutlineEdges.{edges_along}
use Rattle.scan_line.proofs.ForCallers.{winds_as_outline}
use Rattle.bool_ops.specs.Operations.{AreRowsOf, IsJoinedOf, IsWoundIn, ArePieces}

min_is_one : (a b : ℤ) → (int_min a b ≡ a) ⊎ (int_min a b ≡ b)
min_is_one a b = elim (int_lt b a) as (λ t. (cond t b a ≡ a) ⊎ (cond t b a ≡ b)) [ true ↦ inr refl | false ↦ inl refl ]

max_is_one : (a b : ℤ) → (int_max a b ≡ a) ⊎ (int_max a b ≡ b)
max_is_one a b = by_lt_z a b (λ lt. inr (omega (arith, ints, clamps, lt))) (λ ge. inl (omega (arith, ints, clamps, ge)))

any_before : {X : Type 0} (P : X → Type 0) (xs : List X) (y : X) → Any P xs → Any P (xs ++ y ∷ [])
any_before P xs y (k, x, inside, at, p) = (k, x, grind (arith, common_steps), grind (arith, common_steps), p)

-- the Y of some point of the list, or of the new one
reached : (xs : List Point) (p : Point) (old new : ℤ) → Any (λ q. q.y ≡ old) xs → (new ≡ old) ⊎ (new ≡ p.y) → Any (λ q. q.y ≡ new) (xs ++ p ∷ [])
reached xs p old new some (inl e) = any_before (λ q. q.y ≡ new) xs p (rw e some)
reached xs p old new some (inr e) = Any-push (λ q. q.y ≡ new) xs p (sym e)

one_of : {a b c m : ℤ} → m ≡ c → (c ≡ a) ⊎ (c ≡ b) → (m ≡ a) ⊎ (m ≡ b)
one_of e (inl h) = inl (e ∙ h)
one_of e (inr h) = inr (e ∙ h)

same_range : (v w : RowRange) → v.y0 ≡ w.y0 → v.y1 ≡ w.y1 → v ≡ w
same_range v w low high = ap (λ y. row_range y v.y1) low ∙ ap (λ y. row_range w.y0 y) high

pub rows_grow : (xs : List Point) (p : Point) (least greatest low high : ℤ) → AreRowsOf xs (row_range least greatest)
    → low ≡ int_min least p.y → high ≡ int_max greatest p.y → AreRowsOf (xs ++ p ∷ []) (row_range low high)
rows_grow xs p least greatest low high rows l h = record {
  above = All-push (λ q. low ≤ℤ q.y) xs p
      (All-weaker (λ q. least ≤ℤ q.y) (λ q. low ≤ℤ q.y) (λ q a. omega (arith, ints, clamps, a, l)) xs rows.above)
      (omega (arith, ints, clamps, l));
  below = All-push (λ q. q.y ≤ℤ high) xs p
      (All-weaker (λ q. q.y ≤ℤ greatest) (λ q. q.y ≤ℤ high) (λ q a. omega (arith, ints, clamps, a, h)) xs rows.below)
      (omega (arith, ints, clamps, h));
  least = reached xs p least low rows.least (one_of l (min_is_one least p.y));
  greatest = reached xs p greatest high rows.greatest (one_of h (max_is_one greatest p.y));
}

-- the rows of a list are one window
pub one_window : (xs : List Point) (v w : RowRange) → AreRowsOf xs v → AreRowsOf xs w → v ≡ w
one_window xs v w a b =
    let (i, p, hi, ei, pi) = a.least in
    let (j, q, hj, ej, qj) = b.least in
    let (k, r, hk, ek, rk) = a.greatest in
    let (m, s, hm, em, sm) = b.greatest in
    let above_p = All-contains (λ x. w.y0 ≤ℤ x.y) xs p b.above (i, hi, ei) in
    let above_q = All-contains (λ x. v.y0 ≤ℤ x.y) xs q a.above (j, hj, ej) in
    let below_r = All-contains (λ x. x.y ≤ℤ w.y1) xs r b.below (k, hk, ek) in
    let below_s = All-contains (λ x. x.y ≤ℤ v.y1) xs s a.below (m, hm, em) in
    let low : v.y0 ≡ w.y0 = omega (arith, ints, above_p, above_q, pi, qj) in
    let high : v.y1 ≡ w.y1 = omega (arith, ints, below_r, below_s, rk, sm) in
    same_range v w low high

-- outside of the rows nothing is wound round
pub none_under : (xs : List Point) (w : RowRange) (t : Tile) → IsClosed xs → AreRowsOf xs w → t.j <ℤ w.y0 → winding xs t ≡ pos 0
none_under xs w t closed rows h = closed_under xs t w.y0 closed (recursion_from_All (λ p. w.y0 ≤ℤ p.y) xs rows.above) h

pub none_over : (xs : List Point) (w : RowRange) (t : Tile) → IsClosed xs → AreRowsOf xs w → w.y1 ≤ℤ t.j → winding xs t ≡ pos 0
none_over xs w t closed rows h = closed_over xs t w.y1 closed (recursion_from_All (λ p. p.y ≤ℤ w.y1) xs rows.below) h

-- what is united of an outline's edges are its pieces
pub pieces_are : (points : List Point) (edges : List EdgeParts) (window : RowRange) → edges ≡ edges_along A points → IsClosed points → AreRowsOf points window
    → (traps : List Trapezoid) → IsJoinedOf window (IsWoundIn edges window) traps → ArePieces points traps
pieces_are points edges window is closed rows traps united = λ other theirs.
    let same : window ≡ other = one_window points window other rows theirs in
    let wound : (t : Tile) → edges_winding A edges t ≡ winding points t = λ t. rw is (winds_as_outline A points t) in
    let to : (t : Tile) → IsWoundIn edges window t → IsInPolygon points t = λ t h e. h.wound (wound t ∙ e) in
    let back : (t : Tile) → IsInPolygon points t → IsWoundIn edges window t = λ t h. record {
      rows = record {
        from = by_lt_z t.j window.y0 (λ lt. absurd (h (none_under points window t closed rows lt))) (λ ge. ge);
        below = by_lt_z t.j window.y1 (λ lt. lt) (λ ge. absurd (h (none_over points window t closed rows ge)));
      };
      wound = λ e. h (sym (wound t) ∙ e);
    } in
    subst (λ w. IsJoinedOf w (IsInPolygon points) traps) same (record {
      joined = united.joined;
      covers = record { once = λ t h. united.covers.once t (back t h); never = λ t h. united.covers.never t (λ w. h (to t w)) };
    })
