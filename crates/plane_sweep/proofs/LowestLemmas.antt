-- The lowest tile of a list of trapezoids, and the winding of edges at a tile.
use Rattle.std.proofs.Common.{ℤ, pos, negsuc, ◌≡◌, ◌+ℤ◌, ◌-ℤ◌, ◌≤ℤ◌, ◌<ℤ◌, ◌⊎◌, inl, inr, Bool, true, false, ◌&&◌, not, cond}
use Rattle.std.proofs.Common.{List, [], ◌∷◌, ◌++◌, Option, Some, None, IfSome, All, length, arith, refl, ap, sym, subst, ◌∙◌}
use Rattle.std.specs.List.{Contains}
use Rattle.std.proofs.lemmas.Int.{ints, by_lt_z}
use Rattle.std.proofs.lemmas.List.Elements.{All-nil, All-cons, All-push, All-weaker, Contains-append_left, Contains-append_right}
use Rattle.half_grid.specs.Edges.{EdgeParts, IsEdge, spans, has_on_right, is_of, edges_winding}
use Rattle.half_grid.specs.Lines.{x_on, first_strip, strip_along}
use Rattle.half_grid.specs.Reach.{IsWithinReach}
use Rattle.half_grid.specs.Rows.{number_in_row, place}
use Rattle.half_grid.specs.Trapezoids.{Trapezoid, IsShot}
use Rattle.half_grid.specs.Windows.{RowRange}
use Rattle.half_grid.specs.Winding.{count_one}
use Rattle.half_grid.specs.declared.border.Operand.{Operand}
use Rattle.half_grid.specs.declared.border.Operand.TheVariants.{A, B}
use Rattle.half_grid.specs.declared.plane.Line.{Line}
use Rattle.half_grid.specs.declared.plane.Line.TheVariants.{Upright, Rising, Falling}
use Rattle.half_grid.specs.declared.plane.Tile.{Tile}
use Rattle.half_grid.proofs.ForCallers.{right_by_place, left_by_place, le_yes, le_no}
use Rattle.scan_line.proofs.ForCallers.{winding_nil, winding_cons, x_within}
use Rattle.trap_join.specs.Joins.{IsTakenIn}
use Rattle.trap_join.proofs.ForCallers.{is_first}
use Rattle.plane_sweep.specs.Lowest.{IsLowest, IsSpotOf, IsNoLater, IsFirstOf, IsFirstOfAll, IsFirstIn, first_spot}
use Rattle.plane_sweep.specs.declared.lowest_tile.Spot.{Spot}

-- ---- within reach between two Y

line_reach_between : (l : Line) (y0 y1 y : ℤ) → IsWithinReach (x_on l y0) → IsWithinReach (x_on l y1) → y0 ≤ℤ y → y ≤ℤ y1 → IsWithinReach (x_on l y)
line_reach_between (Upright c) y0 y1 y a b l h = a
line_reach_between (Rising c) y0 y1 y a b l h = record { low = omega (arith, ints, a.low, l); high = omega (arith, ints, b.high, h) }
line_reach_between (Falling c) y0 y1 y a b l h = record { low = omega (arith, ints, b.low, h); high = omega (arith, ints, a.high, l) }

-- the Y above the lowest row of a shot, and its left line there
pub next_row_reach : (z : Trapezoid) → IsShot z → IsWithinReach (z.y0 +ℤ pos 1)
next_row_reach z s =
    let rows = s.legal.has_rows in
    let low = s.reach.y0.low in
    let high = s.reach.y1.high in
    record { low = omega (arith, ints, low); high = omega (arith, ints, rows, high) }

pub left_reach : (z : Trapezoid) → IsShot z → IsWithinReach (x_on z.left (z.y0 +ℤ pos 1))
left_reach z s =
    let rows = s.legal.has_rows in
    line_reach_between z.left z.y0 z.y1 (z.y0 +ℤ pos 1) s.reach.bottom_left s.reach.top_left (omega (arith, ints)) (omega (arith, ints, rows))

-- the line of an edge at a row that it spans, and above that row
pub edge_reach : (e : EdgeParts) (row : ℤ) → IsEdge e → e.y0 ≤ℤ row → row <ℤ e.y1 → IsWithinReach (x_on e.line row)
edge_reach e row is from below = x_within e row is from (omega (arith, ints, below))

pub next_edge_reach : (e : EdgeParts) (row : ℤ) → IsEdge e → e.y0 ≤ℤ row → row <ℤ e.y1 → IsWithinReach (x_on e.line (row +ℤ pos 1))
next_edge_reach e row is from below = x_within e (row +ℤ pos 1) is (omega (arith, ints, from)) (omega (arith, ints, below))

-- ---- one more trapezoid

no_later_by : (r f s : Spot) → IsNoLater r f → IsNoLater f s → IsNoLater r s
no_later_by r f s (inl a) (inl b) = inl (omega (arith, ints, a, b))
no_later_by r f s (inl a) (inr b) = (let e = b.0 in inl (omega (arith, ints, a, e)))
no_later_by r f s (inr a) (inl b) = (let e = a.0 in inl (omega (arith, ints, e, b)))
no_later_by r f s (inr a) (inr b) = (let le = a.1 in let more = b.1 in inr (a.0 ∙ b.0, omega (arith, ints, le, more)))

put_after : (given : List Trapezoid) (z : Trapezoid) → Contains (given ++ z ∷ []) z
put_after given z = Contains-append_right given (z ∷ []) z (is_first z [])

pub further : (given : List Trapezoid) (z : Trapezoid) (found : Option Spot) (r : Spot) → (r ≡ first_spot z) ⊎ (found ≡ Some r) → IsNoLater r (first_spot z)
    → IfSome found (IsNoLater r) → IsFirstOfAll given found → IsFirstOf (given ++ z ∷ []) r
further given z None r (inl e) new old are = record {
  z = z;
  has = put_after given z;
  is = e;
  first = subst (λ (zs : List Trapezoid). All (λ y. IsNoLater r (first_spot y)) (zs ++ z ∷ [])) (sym are)
      (All-cons (λ y. IsNoLater r (first_spot y)) z [] new (All-nil (λ y. IsNoLater r (first_spot y))));
}
further given z None r (inr e) new old are = absurd (let clash : ⊥ = cc in clash)
further given z (Some f) r (inl e) new old are = record {
  z = z;
  has = put_after given z;
  is = e;
  first = All-push (λ y. IsNoLater r (first_spot y)) given z
      (All-weaker (λ y. IsNoLater f (first_spot y)) (λ y. IsNoLater r (first_spot y)) (λ y h. no_later_by r f (first_spot y) old h) given are.first) new;
}
further given z (Some f) r (inr e) new old are = record {
  z = are.z;
  has = Contains-append_left given (z ∷ []) are.z are.has;
  is = (let same : f ≡ r = cc in sym same ∙ are.is);
  first = All-push (λ y. IsNoLater r (first_spot y)) given z
      (All-weaker (λ y. IsNoLater f (first_spot y)) (λ y. IsNoLater r (first_spot y)) (λ y h. no_later_by r f (first_spot y) old h) given are.first) new;
}

pub later_by : (s : Spot) (z : Trapezoid) (t : Tile) → IsNoLater s (first_spot z) → z.y0 ≤ℤ t.j → place z.left t.j ≤ℤ number_in_row t
    → (s.row <ℤ t.j) ⊎ ((s.row ≡ t.j) × (s.number ≤ℤ number_in_row t))
later_by s z t (inl lt) above left = inl (omega (arith, ints, lt, above))
later_by s z t (inr k) above left =
    let row = k.0 in
    by_lt_z z.y0 t.j (λ lt. inl (omega (arith, ints, row, lt)))
    (λ le. (let same : z.y0 ≡ t.j = omega (arith, ints, above, le) in
    let number : s.number ≤ℤ place z.left t.j = subst (λ (j : ℤ). s.number ≤ℤ place z.left j) same k.1 in
    inr (row ∙ same, omega (arith, ints, number, left))))

-- ---- the tile there

pub lowest_is : (post : ℤ → ℤ → Bool → Type 0) (edges : List EdgeParts) (window : RowRange) (s : Spot) (t : Tile) (a b : ℤ)
    → IsFirstIn (IsTakenIn post edges window) s → IsSpotOf s t → a ≡ edges_winding A edges t → b ≡ edges_winding B edges t
    → IsLowest post edges window (record { tile = t; a = a; b = b })
lowest_is post edges window s t a b first is ea eb = record {
  taken = first.has t is;
  a = ea;
  b = eb;
  first = λ u taken. from_spot u (first.first u taken);
}
  where
    from_spot : (u : Tile) → (s.row <ℤ u.j) ⊎ ((s.row ≡ u.j) × (s.number ≤ℤ number_in_row u))
        → (t.j <ℤ u.j) ⊎ ((t.j ≡ u.j) × (number_in_row t ≤ℤ number_in_row u))
    from_spot u (inl lt) = (let row = is.row in inl (omega (arith, ints, lt, row)))
    from_spot u (inr k) = (let number = is.number in let le = k.1 in inr (is.row ∙ k.0, omega (arith, ints, number, le)))

-- ---- the winding, edge by edge

spans_there : (e : EdgeParts) (j : ℤ) → e.y0 ≤ℤ j → j <ℤ e.y1 → spans e j ≡ true
spans_there e j from below = grind (arith, ints)

and_false : (b : Bool) → (b && false) ≡ false
and_false true = refl
and_false false = refl

pub spot_right : (e : EdgeParts) (s : Spot) (t : Tile) → IsSpotOf s t → e.y0 ≤ℤ s.row → s.row <ℤ e.y1 → place e.line s.row ≤ℤ s.number
    → true ≡ has_on_right e t
spot_right e s t is from below left =
    let row = is.row in
    let number = is.number in
    let here = spans_there e t.j (omega (arith, ints, from, row)) (omega (arith, ints, below, row)) in
    let before : place e.line t.j ≤ℤ s.number = subst (λ (j : ℤ). place e.line j ≤ℤ s.number) (sym row) left in
    let right = le_yes (first_strip e.line) (strip_along e.line t) (right_by_place t e.line (omega (arith, ints, before, number))) in
    rw (here, right) refl

pub spot_left : (e : EdgeParts) (s : Spot) (t : Tile) → IsSpotOf s t → s.number <ℤ place e.line s.row → false ≡ has_on_right e t
spot_left e s t is right =
    let row = is.row in
    let number = is.number in
    let after : s.number <ℤ place e.line t.j = subst (λ (j : ℤ). s.number <ℤ place e.line j) (sym row) right in
    let left = le_no (first_strip e.line) (strip_along e.line t) (left_by_place t e.line (omega (arith, ints, after, number))) in
    rw left (sym (and_false (spans e t.j)))

pub one_more_edge : (o : Operand) (t : Tile) (e : EdgeParts) (rest : List EdgeParts)
    → edges_winding o (e ∷ rest) t ≡ edges_winding o (e ∷ []) t +ℤ edges_winding o rest t
one_more_edge o t e rest =
    let first = winding_cons o e rest t in
    let alone = winding_cons o e [] t in
    let none = winding_nil o t in
    omega (arith, ints, first, alone, none)

pub edge_passed : (o : Operand) (t : Tile) (e : EdgeParts) (left rest : List EdgeParts) (sum one whole : ℤ) → left ≡ e ∷ rest
    → sum +ℤ edges_winding o left t ≡ whole → one ≡ edges_winding o (e ∷ []) t → (sum +ℤ one) +ℤ edges_winding o rest t ≡ whole
edge_passed o t e left rest sum one whole first before is =
    let split = ap (λ (es : List EdgeParts). edges_winding o es t) first ∙ one_more_edge o t e rest in
    omega (arith, ints, split, before, is)

pub none_left : (o : Operand) (t : Tile) (left : List EdgeParts) (sum whole : ℤ) → length left ≡ 0 → sum +ℤ edges_winding o left t ≡ whole → sum ≡ whole
none_left o t [] sum whole none h = let empty = winding_nil o t in omega (arith, ints, empty, h)
none_left o t (e ∷ left) sum whole none h = absurd (omega (arith, none))

amount_of : (own right up : Bool) → ℤ
amount_of own right up = cond own (cond right (cond up (pos 1) (negsuc 0)) (pos 0)) (pos 0)

adds_up : (own right up : Bool) → (pos (count_one (own && (up && right))) -ℤ pos (count_one (own && (not up && right)))) +ℤ pos 0 ≡ amount_of own right up
unfolding amount_of
adds_up true true true = refl
adds_up true true false = refl
adds_up true false true = refl
adds_up true false false = refl
adds_up false right up = refl

pub adds_by : (o : Operand) (t : Tile) (e : EdgeParts) (own right up : Bool) → is_of o e.operand ≡ own → has_on_right e t ≡ right → e.up ≡ up
    → edges_winding o (e ∷ []) t ≡ cond own (cond right (cond up (pos 1) (negsuc 0)) (pos 0)) (pos 0)
unfolding amount_of
adds_by o t e own right up a b c =
    let first = winding_cons o e [] t in
    let none = winding_nil o t in
    first ∙ (rw (none, a, b, c) (adds_up own right up))
