-- The lowest tile of all columns up to a line, from that of the columns before and that of one more.
use Rattle.std.proofs.Common.{◌≡◌, ◌^◌, ◌+◌, ℤ, pos, ◌≤ℤ◌, ◌<ℤ◌, Bool, true, false, ◌&&◌, not, arith, refl, sym, ◌∙◌}
use Rattle.std.proofs.Common.{List, [], ◌∷◌, ◌++◌, filter, All, Option, Some, None, IsPermutation}
use Rattle.std.proofs.lemmas.Int.{ints, by_lt_z}
use Rattle.std.proofs.lemmas.List.Elements.{All-weaker}
use Rattle.std.specs.Prelude.{int_lt, int_le, IfSome, IfNone}
use mathlib.Core.Logic.{inl, inr}
use Rattle.half_grid.specs.Edges.{EdgeParts, IsEdge, edges_winding, is_of}
use Rattle.half_grid.specs.Rows.{number_in_row}
use Rattle.half_grid.specs.Windows.{RowRange}
use Rattle.half_grid.specs.declared.plane.Tile.{Tile}
use Rattle.half_grid.specs.declared.plane.Line.{Line}
use Rattle.half_grid.specs.declared.border.Operand.{Operand}
use Rattle.half_grid.specs.declared.border.Operand.TheVariants.{A, B}
use Rattle.half_grid.proofs.ForCallers.{windings_add, i_low, i_high}
use Rattle.scan_line.specs.Rules.{IsRule}
use Rattle.scan_line.specs.Runs.{IsBalanced}
use Rattle.trap_join.specs.Joins.{IsTakenIn}
use Rattle.plane_sweep.specs.Lowest.{ComesNoLater, IsLowest, TakesNone}
use Rattle.column_sweep.specs.Looking.{rows_below, begins_below, first_of, AddUpIn, AreLeftIn, IsLowestLeftOf, IsFoundLeftOf, IsLookedTo, IsFirstTaken}
use Rattle.column_sweep.specs.RowSums.{any_line, sum_among}
use Rattle.column_sweep.specs.Parts.{LiesLeft, LiesRight, AreParts}
use Rattle.column_sweep.specs.Sewing.{AreLeft}
use Rattle.plane_sweep.specs.declared.lowest_tile.LowestTile.{LowestTile}
use Rattle.column_sweep.proofs.Adding.{winding_is_sum, has_right, sum_cons, sum_one, sum_append, balanced_by_sum, sum_by_balance}
use Rattle.column_sweep.proofs.Closing.{left_of_right, right_of_left}
use Rattle.column_sweep.proofs.LowestTiles.{none_of_given, lowest_of_given}
use Rattle.column_sweep.proofs.PartWindings.{WindInColumn, column_of, own_to_area, area_to_own, edge_left, none_behind}

-- ---- without the edges that begin above some rows

spans_not : (y1 j : ℤ) (e : EdgeParts) → j <ℤ y1 → int_lt e.y0 y1 ≡ false → int_le e.y0 j ≡ false
spans_not y1 j e lt h = grind (arith, ints, lt, h)

not_here : (p q r s : Bool) → (p && (q && ((false && r) && s))) ≡ false
not_here true true r s = refl
not_here true false r s = refl
not_here false q r s = refl

above_adds_none : (o : Operand) (y1 j : ℤ) (lines : Line → Bool) (e : EdgeParts) → j <ℤ y1 → int_lt e.y0 y1 ≡ false → sum_among o j lines (e ∷ []) ≡ pos 0
above_adds_none o y1 j lines e lt h =
    let no = spans_not y1 j e lt h in
    sum_one o j lines e ∙ (rw (
      no,
      not_here (is_of o e.operand) e.up (int_lt j e.y1) (lines e.line),
      not_here (is_of o e.operand) (not e.up)
          (int_lt j e.y1) (lines e.line),
    ) refl)

add_up_by : (b : Bool) (o : Operand) (rows : RowRange) (j : ℤ) (lines : Line → Bool) (e : EdgeParts)
    (edges : List EdgeParts) → j <ℤ rows.y1 → begins_below rows e ≡ b
    → sum_among o j lines (filter (begins_below rows) edges) ≡ sum_among o j lines edges
    → sum_among o j lines (filter (begins_below rows) (e ∷ edges)) ≡ sum_among o j lines (e ∷ edges)
add_up_by true o rows j lines e edges lt is later =
    rw is (sum_cons o j lines e (filter (begins_below rows) edges) ∙ (rw later (sym (sum_cons o j lines e edges))))
add_up_by false o rows j lines e edges lt is later =
    let none = above_adds_none o rows.y1 j lines e lt is in
    rw is (later ∙ sym (sum_cons o j lines e edges ∙ (rw none (omega (arith, ints)))))

add_up_below : (o : Operand) (rows : RowRange) (j : ℤ) (lines : Line → Bool) (edges : List EdgeParts) → j <ℤ rows.y1
    → sum_among o j lines (filter (begins_below rows) edges) ≡ sum_among o j lines edges
add_up_below o rows j lines [] lt = refl
add_up_below o rows j lines (e ∷ edges) lt = add_up_by _ o rows j lines e edges lt refl (add_up_below o rows j lines edges lt)

pub filtered_add_up : (rows : RowRange) (some edges : List EdgeParts) → some ≡ filter (begins_below rows) edges → AddUpIn rows some edges
filtered_add_up rows some edges is = λ o j lines lt. rw is (add_up_below o rows j lines edges lt)

winding_alike : (rows : RowRange) (some edges : List EdgeParts) (o : Operand) (t : Tile) → AddUpIn rows some edges
    → t.j <ℤ rows.y1 → edges_winding o some t ≡ edges_winding o edges t
winding_alike rows some edges o t h lt = winding_is_sum o some t ∙ (h o t.j (has_right t) lt ∙ sym (winding_is_sum o edges t))

pub lower_left : (rows : RowRange) (x : ℤ) (edges some rest later : List EdgeParts) → AddUpIn rows some rest
    → AreLeftIn rows x edges (rest ++ later) → AreLeftIn rows x edges (some ++ later)
lower_left rows x edges some rest later h left =
    let alike : (o : Operand) (t : Tile) → t.j <ℤ rows.y1 → edges_winding o (some ++ later) t ≡ edges_winding o (rest ++ later) t =
    λ o t lt. (let same = winding_alike rows some rest o t h lt in windings_add o some later t ∙ (rw same (sym (windings_add o rest later t)))) in
    record {
      same = λ o t a b ge. alike o t b ∙ left.same o t a b ge;
      nothing = λ o t a b lt. alike o t b ∙ left.nothing o t a b lt;
      even = λ o j a b.
          (let same = h o j any_line b in
          let before = left.even o j a b in
          sum_append o j any_line some later ∙ (rw same (sym (sum_append o j any_line rest later) ∙ before)));
    }

pub lower_all : (rows : RowRange) (x : ℤ) (edges some rest : List EdgeParts) → AddUpIn rows some rest
    → AreLeftIn rows x edges rest → AreLeftIn rows x edges some
lower_all rows x edges some rest h left = record {
  same = λ o t a b ge. winding_alike rows some rest o t h b ∙ left.same o t a b ge;
  nothing = λ o t a b lt. winding_alike rows some rest o t h b ∙ left.nothing o t a b lt;
  even = λ o j a b. h o j any_line b ∙ left.even o j a b;
}

pub lower_balanced : (rows : RowRange) (some rest : List EdgeParts) → AddUpIn rows some rest → IsBalanced rest rows → IsBalanced some rows
lower_balanced rows some rest h balanced = λ o j a b. balanced_by_sum o j some (h o j any_line b ∙ sum_by_balance o j rest (balanced o j a b))

-- ---- the first rows of all, and fewer rows

pub left_in_all : (window : RowRange) (x : ℤ) (edges rest : List EdgeParts) → IsBalanced edges window → AreLeft x edges rest → AreLeftIn window x edges rest
left_in_all window x edges rest balanced left = record {
  same = λ o t _ _ ge. left.same o t ge;
  nothing = λ o t _ _ lt. left.nothing o t lt;
  even = λ o j a b. left.sums o j ∙ sum_by_balance o j edges (balanced o j a b);
}

pub left_in_balanced : (rows : RowRange) (x : ℤ) (edges rest : List EdgeParts) → AreLeftIn rows x edges rest → IsBalanced rest rows
left_in_balanced rows x edges rest left = λ o j a b. balanced_by_sum o j rest (left.even o j a b)

left_in_fewer : (rows fewer : RowRange) (x : ℤ) (edges rest : List EdgeParts) → rows.y0 ≤ℤ fewer.y0
    → fewer.y1 ≤ℤ rows.y1 → AreLeftIn rows x edges rest → AreLeftIn fewer x edges rest
left_in_fewer rows fewer x edges rest low high left =
    let from : (j : ℤ) → fewer.y0 ≤ℤ j → rows.y0 ≤ℤ j = λ j a. omega (arith, ints, a, low) in
    let below : (j : ℤ) → j <ℤ fewer.y1 → j <ℤ rows.y1 = λ j b. omega (arith, ints, b, high) in
    record {
      same = λ o t a b ge. left.same o t (from t.j a) (below t.j b) ge;
      nothing = λ o t a b lt. left.nothing o t (from t.j a) (below t.j b) lt;
      even = λ o j a b. left.even o j (from j a) (below j b);
    }

-- ---- the windings of a column between two cuts, and of the last one

module _ (rows : RowRange) (edges rest later own beyond : List EdgeParts) (from x : ℤ) (from_x : from <ℤ x)
    (right : All (LiesRight x) later) (left : AreLeftIn rows from edges (rest ++ later))
    (parts : AreParts x rest own beyond) where
  own_left : (o : Operand) (t : Tile) → t.i <ℤ x → edges_winding o own t ≡ edges_winding o (rest ++ later) t
  own_left o t lt =
      let none = left_of_right o x t later right lt in
      let same = parts.left o t lt in
      rw (windings_add o rest later t) (omega (arith, ints, none, same))

  own_winds : WindInColumn rows from x edges own
  own_winds = record {
    same = λ o t a b c. own_left o t c.below_right ∙ left.same o t a b c.from_left;
    left = λ o t a b lt. own_left o t (omega (arith, ints, lt, from_x)) ∙ left.nothing o t a b lt;
    right = λ o t a b ge. parts.left_only o t ge;
  }

  left_further : AreLeftIn rows x edges (beyond ++ later)
  left_further = record {
    same = λ o t a b ge.
        (let now = parts.right o t ge in
        let before = left.same o t a b (omega (arith, ints, ge, from_x)) in
        let added = windings_add o rest later t in
        rw (windings_add o beyond later t) (omega (arith, ints, now, before, added)));
    nothing = λ o t a b lt.
        (let now = parts.right_only o t lt in
        let none = left_of_right o x t later right lt in
        rw (windings_add o beyond later t) (omega (arith, ints, now, none)));
    even = λ o j a b.
        (let now = parts.sums o j in
        let before = left.even o j a b in
        let added = sum_append o j any_line rest later in
        rw (sum_append o j any_line beyond later) (omega (arith, ints, now, before, added)));
  }

last_winds_in : (rows window : RowRange) (from : ℤ) (edges rest : List EdgeParts) → from <ℤ pos (2 ^ 44 + 1)
    → All IsEdge edges → IsBalanced edges window → window.y0 ≤ℤ rows.y0 → rows.y1 ≤ℤ window.y1
    → AreLeftIn rows from edges rest → WindInColumn rows from (pos (2 ^ 44 + 1)) edges rest
last_winds_in rows window from edges rest from_x known balanced low high left = record {
  same = λ o t a b c. left.same o t a b c.from_left;
  left = λ o t a b lt. left.nothing o t a b lt;
  right = λ o t a b ge. left.same o t a b (omega (arith, ints, ge, from_x))
      ∙ right_of_left o (pos (2 ^ 44 + 1)) t edges (All-weaker IsEdge (LiesLeft (pos (2 ^ 44 + 1))) edge_left edges known) ge
      ∙ sum_by_balance o t.j edges (balanced o t.j (omega (arith, ints, a, low)) (omega (arith, ints, b, high)));
}

-- ---- the lowest tile of one more column

-- a tile further left has a lower number
number_before : (t u : Tile) (x : ℤ) → t.i <ℤ x → x ≤ℤ u.i → number_in_row t ≤ℤ number_in_row u
number_before t u x h k = let a = i_high t in let b = i_low u in omega (arith, ints, h, k, a, b)

row_after : (t u : Tile) → ComesNoLater t u → t.j ≤ℤ u.j
row_after t u (inl lt) = omega (arith, ints, lt)
row_after t u (inr same) = let e = same.0 in omega (arith, ints, e)

rows_start : (window : RowRange) (found : Option LowestTile) → (rows_below window found).y0 ≡ window.y0
rows_start window None = refl
rows_start window (Some found) = refl

module _ (post : ℤ → ℤ → Bool → Type 0) (window : RowRange) (from : ℤ) (edges : List EdgeParts) where
  rows_end : (found : Option LowestTile) → IsFoundLeftOf post edges window from found → (rows_below window found).y1 ≤ℤ window.y1
  rows_end None known = omega (arith, ints)
  rows_end (Some found) known = let below = known.taken.below in omega (arith, ints, below)

  pub found_from : (found : Option LowestTile) → IsFoundLeftOf post edges window from found → IfSome found (λ lowest. window.y0 ≤ℤ lowest.tile.j)
  found_from None known = tt
  found_from (Some found) known = known.taken.from

  above_rows : (found : Option LowestTile) → IsFoundLeftOf post edges window from found → (t : Tile) → t.i <ℤ from
      → IsTakenIn post edges window t → (rows_below window found).y1 ≤ℤ t.j
  above_rows None known t lt taken = absurd (known t lt taken)
  above_rows (Some found) known t lt taken = row_after found.tile t (known.first t lt taken)

  module _ (pre : ℤ → ℤ → Type 0) (rule : IsRule pre post) (x : ℤ) (from_x : from <ℤ x) (own : List EdgeParts)
      (before : Option LowestTile) (winds : WindInColumn (rows_below window before) from x edges own)
      (known : IsFoundLeftOf post edges window from before) where
    in_window : (t : Tile) → IsTakenIn post edges (rows_below window before) t → IsTakenIn post edges window t
    in_window t h =
        let start = rows_start window before in
        let end = rows_end before known in
        let low = h.from in
        let high = h.below in
        record { from = omega (arith, ints, low, start); below = omega (arith, ints, high, end); taken = h.taken }

    in_own : (t : Tile) → t.i <ℤ x → from ≤ℤ t.i → t.j <ℤ (rows_below window before).y1 → IsTakenIn post edges window t
        → IsTakenIn post own (rows_below window before) t
    in_own t lt ge below taken =
        let start = rows_start window before in
        let low = taken.from in
        area_to_own pre post rule (rows_below window before) from x edges own winds t
        (record { from_left = ge; below_right = lt })
        (record { from = omega (arith, ints, low, start); below = below; taken = taken.taken })

    comes_first : (found : LowestTile) → IsLowest post own (rows_below window before) found → (t : Tile) → t.i <ℤ x
        → IsTakenIn post edges window t → ComesNoLater found.tile t
    comes_first found lowest t lt taken =
        let below = lowest.taken.below in
        by_lt_z t.j (rows_below window before).y1
        (λ under. by_lt_z t.i from
        (λ left. (let above = above_rows before known t left taken in absurd (omega (arith, ints, above, under))))
        (λ ge. lowest.first t (in_own t lt ge under taken)))
        (λ over. inl (omega (arith, ints, below, over)))

    lower_found : (found : LowestTile) → IsLowest post own (rows_below window before) found → IsLowestLeftOf post edges window x found
    lower_found found lowest =
        let column = column_of pre post rule (rows_below window before) from x edges own winds found.tile lowest.taken in
        let here = own_to_area pre post rule (rows_below window before) from x edges own winds found.tile lowest.taken in
        record {
          taken = in_window found.tile here;
          left = column.below_right;
          a = lowest.a ∙ winds.same A found.tile lowest.taken.from lowest.taken.below column;
          b = lowest.b ∙ winds.same B found.tile lowest.taken.from lowest.taken.below column;
          first = comes_first found lowest;
        }

  module _ (pre : ℤ → ℤ → Type 0) (rule : IsRule pre post) (x : ℤ) (from_x : from <ℤ x) (own : List EdgeParts) where
    none_lower : (before : Option LowestTile) → WindInColumn (rows_below window before) from x edges own → IsFoundLeftOf post edges window from before
        → TakesNone post own (rows_below window before) → IsFoundLeftOf post edges window x before
    none_lower None winds known none = λ t lt taken.
        by_lt_z t.i from (λ left. known t left taken) (λ ge. none t (in_own pre rule x from_x own None winds known t lt ge taken.below taken))
    none_lower (Some found) winds known none =
        let left = known.left in
        record {
          taken = known.taken;
          left = omega (arith, ints, left, from_x);
          a = known.a;
          b = known.b;
          first = λ t lt taken.
              by_lt_z t.i from (λ left. known.first t left taken)
              (λ ge. by_lt_z t.j found.tile.j
              (λ under. absurd (none t (in_own pre rule x from_x own (Some found) winds known t lt ge under taken)))
              (λ over. by_lt_z found.tile.j t.j (λ lower. inl lower) (λ le. inr (omega (arith, ints, over, le), number_before found.tile t from left ge))));
        }

    pub found_further : (before lower : Option LowestTile) → WindInColumn (rows_below window before) from x edges own
        → IsFoundLeftOf post edges window from before
        → IsFirstTaken post own (rows_below window before) lower → IsFoundLeftOf post edges window x (first_of lower before)
    found_further before None winds known first = none_lower before winds known first
    found_further before (Some lower) winds known first = lower_found pre rule x from_x own before winds known lower first

    rows_fall : (before lower : Option LowestTile) → IsFirstTaken post own (rows_below window before) lower
        → (rows_below window (first_of lower before)).y1 ≤ℤ (rows_below window before).y1
    rows_fall before None first = omega (arith, ints)
    rows_fall before (Some lower) first = let below = first.taken.below in omega (arith, ints, below)

    pub looked_further : (before lower : Option LowestTile) (rest later beyond : List EdgeParts)
        → All (LiesRight x) later → AreParts x rest own beyond → AreLeftIn (rows_below window before) from edges
        (rest ++ later)
        → IsFoundLeftOf post edges window from before → IsFirstTaken post own (rows_below window before) lower
        → IsLookedTo post edges window x (beyond ++ later) (first_of lower before)
    looked_further before lower rest later beyond right parts left known first =
        let start = rows_start window before in
        let next = rows_start window (first_of lower before) in
        let falls = rows_fall before lower first in
        record {
          left = left_in_fewer (rows_below window before) (rows_below window (first_of lower before)) x edges
              (beyond ++ later) (omega (arith, ints, start, next)) falls
              (left_further (rows_below window before) edges rest later own beyond from x from_x right left parts);
          known = found_further before lower (own_winds (rows_below window before) edges rest later own beyond from x from_x right left parts) known first;
        }

  pub looked_last : (pre : ℤ → ℤ → Type 0) → IsRule pre post → from <ℤ pos (2 ^ 44 + 1) → All IsEdge edges
      → IsBalanced edges window → (rest : List EdgeParts) (before lower : Option LowestTile)
      → AreLeftIn (rows_below window before) from edges rest → IsFoundLeftOf post edges window from before
      → IsFirstTaken post rest (rows_below window before) lower
      → IsFoundLeftOf post edges window (pos (2 ^ 44 + 1)) (first_of lower before)
  looked_last pre rule from_x edges_known balanced rest before lower left known first =
      let start = rows_start window before in
      found_further pre rule (pos (2 ^ 44 + 1)) from_x rest before lower
      (last_winds_in (rows_below window before) window from edges rest from_x edges_known balanced
      (omega (arith, ints, start)) (rows_end before known) left) known first

-- ---- before the first column, and after the last

pub looked_none : (post : ℤ → ℤ → Bool → Type 0) (edges : List EdgeParts) (window : RowRange) (x : ℤ)
    (rest : List EdgeParts) → ((t : Tile) → t.i <ℤ x → IsTakenIn post edges window t → ⊥)
    → IsBalanced edges window → AreLeft x edges rest → (found : Option LowestTile) → found ≡ None → IsLookedTo post edges window x rest found
looked_none post edges window x rest none balanced left found is = rw is (record { left = left_in_all window x edges rest balanced left; known = none })

pub found_at_all : (pre : ℤ → ℤ → Type 0) (post : ℤ → ℤ → Bool → Type 0) → IsRule pre post
    → (edges : List EdgeParts) (window : RowRange) → All IsEdge edges → IsBalanced edges window
    → (found : Option LowestTile) → IsFoundLeftOf post edges window (pos (2 ^ 44 + 1)) found → IsFirstTaken post edges window found
found_at_all pre post rule edges window known balanced None none = λ t taken. none t (none_behind pre post rule window edges known balanced t taken) taken
found_at_all pre post rule edges window known balanced (Some found) lowest = record {
  taken = lowest.taken;
  a = lowest.a;
  b = lowest.b;
  first = λ t taken. lowest.first t (none_behind pre post rule window edges known balanced t taken) taken;
}

-- ---- the answer of a call

pub first_by_cases : (post : ℤ → ℤ → Bool → Type 0) (edges : List EdgeParts) (window : RowRange) (answer : Option LowestTile)
    → IfSome answer (IsLowest post edges window) → IfNone answer (TakesNone post edges window) → IsFirstTaken post edges window answer
first_by_cases post edges window None some none = none
first_by_cases post edges window (Some found) some none = some

pub first_some : (post : ℤ → ℤ → Bool → Type 0) (edges : List EdgeParts) (window : RowRange)
    (answer : Option LowestTile) → IsFirstTaken post edges window answer → IfSome answer (IsLowest post edges window)
first_some post edges window None h = tt
first_some post edges window (Some found) h = h

pub first_none : (post : ℤ → ℤ → Bool → Type 0) (edges : List EdgeParts) (window : RowRange)
    (answer : Option LowestTile) → IsFirstTaken post edges window answer → IfNone answer (TakesNone post edges window)
first_none post edges window None h = h
first_none post edges window (Some found) h = tt

-- ---- at an equal rule, at permuted edges

module _ {F : Type 0} (post : F → ℤ → ℤ → Bool → Type 0) where
  pub first_of_given : (rule own : F) (edges others : List EdgeParts) (window range : RowRange) → own ≡ rule → IsPermutation edges others → range ≡ window
      → (answer : Option LowestTile) → IsFirstTaken (post own) edges range answer → IsFirstTaken (post rule) others window answer
  first_of_given rule own edges others window range r same w None none = none_of_given post rule own edges others window range r same w none
  first_of_given rule own edges others window range r same w (Some found) lowest = lowest_of_given post rule own edges others window range r same w found lowest
