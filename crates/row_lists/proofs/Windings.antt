-- A row list gives the windings of its row, and stays until the next stop.
use Rattle.std.proofs.Common.{ℕ, ℤ, zero, suc, pos, negsuc, ◌≡◌, ◌+ℤ◌, ◌-ℤ◌, ◌≤ℤ◌, ◌<ℤ◌, Bool, true, false, List, []}
use Rattle.std.proofs.Common.{◌∷◌, All, arith, refl, ap, sym, subst, ◌∙◌, ◌⊎◌, inl, inr}
use Rattle.std.specs.Ordering.{int_eq}
use Rattle.std.specs.Int.{int_min}
use Rattle.std.proofs.lemmas.Int.{ints, clamps, by_lt_z}
use Rattle.std.proofs.lemmas.List.Elements.{All-nil, All-cons, All-head, All-weaker}
use Rattle.half_grid.specs.Edges.{EdgeParts, edges_winding}
use Rattle.half_grid.specs.Rows.{number_in_row, place}
use Rattle.half_grid.specs.declared.plane.Tile.{Tile}
use Rattle.half_grid.specs.declared.plane.Line.{Line}
use Rattle.half_grid.specs.declared.border.Operand.{Operand}
use Rattle.half_grid.specs.declared.border.Operand.TheVariants.{A, B}
use Rattle.half_grid.proofs.ForCallers.{tile_with, tile_with_number, order_changes, one_line, int_eq_true}
use Rattle.active_lines.specs.declared.item.ActiveLine.{ActiveLine}
use Rattle.active_lines.specs.declared.item.Windings.{Windings}
use Rattle.active_lines.specs.Leaning.{MeetAbove}
use Rattle.active_lines.proofs.ForCallers.{leans_where_it_meets}
use Rattle.scan_line.proofs.ForCallers.{winding_left}
use Rattle.row_lists.specs.Weights.{weight, NoEnds, NoneSpans}
use Rattle.row_lists.specs.RowLists.{IsRowList, AscendIn, NoMeetings, no_windings, winding_of, change_at, windings_at}
use Rattle.row_lists.proofs.Steps.{weight_nil, weight_cons, winding_step, same_place, other_share, same_weight, no_weight}
use Rattle.row_lists.proofs.Alike.{StandRight, left_of_all, change_step}

-- ---- far enough to the left

-- a number that is left of all edges and of all lines
abbrev edge_bound : ℤ → List EdgeParts → ℤ
edge_bound j [] = pos 0
edge_bound j (e ∷ edges) = int_min (place e.line j) (edge_bound j edges)

abbrev line_bound : ℤ → List ActiveLine → ℤ
line_bound j [] = pos 0
line_bound j (l ∷ lines) = int_min (place l.line j) (line_bound j lines)

edges_right : (j n : ℤ) (edges : List EdgeParts) → n <ℤ edge_bound j edges → All (λ e. n <ℤ place e.line j) edges
edges_right j n [] h = All-nil (λ e. n <ℤ place e.line j)
edges_right j n (e ∷ edges) h =
    All-cons (λ f. n <ℤ place f.line j) e edges (omega (arith, ints, clamps, h)) (edges_right j n edges (omega (arith, ints, clamps, h)))

lines_right : (j n : ℤ) (lines : List ActiveLine) → n <ℤ line_bound j lines → StandRight j n lines
lines_right j n [] h = All-nil (λ m. n <ℤ place m.line j)
lines_right j n (l ∷ lines) h =
    All-cons (λ m. n <ℤ place m.line j) l lines (omega (arith, ints, clamps, h)) (lines_right j n lines (omega (arith, ints, clamps, h)))

none_is_zero : (o : Operand) → winding_of o no_windings ≡ pos 0
none_is_zero A = refl
none_is_zero B = refl

-- left of all of them both windings are 0
far_left : (o : Operand) (edges : List EdgeParts) (lines : List ActiveLine) (t : Tile) → number_in_row t <ℤ edge_bound t.j edges
    → number_in_row t <ℤ line_bound t.j lines
    → winding_of o (windings_at t.j (number_in_row t) no_windings lines) ≡ edges_winding o edges t
far_left o edges lines t h k =
    ap (winding_of o) (left_of_all t.j (number_in_row t) no_windings lines (lines_right t.j (number_in_row t) lines k))
    ∙ (none_is_zero o ∙ sym (winding_left o edges t (edges_right t.j (number_in_row t) edges h)))

-- how many steps it is from one number to another
steps_by : (d a b : ℤ) → d ≡ b -ℤ a → a ≤ℤ b → (k : ℕ) × (b ≡ a +ℤ pos k)
steps_by (pos k) a b e h = (k, omega (arith, ints, e))
steps_by (negsuc k) a b e h = absurd (omega (arith, ints, e, h))

sum_of : (f g x y c w : ℤ) → f ≡ g +ℤ c → x ≡ y +ℤ w → g ≡ y → c ≡ w → f ≡ x
sum_of f g x y c w a b h k = omega (arith, ints, a, b, h, k)

module _ (edges : List EdgeParts) (j : ℤ) (lines : List ActiveLine) (list : IsRowList edges j lines) where
  -- left of this number both windings are 0
  bound : ℤ
  bound = int_min (edge_bound j edges) (line_bound j lines) -ℤ pos 1

  at_left : (o : Operand) (t : Tile) → t.j ≡ j → number_in_row t ≤ℤ bound
      → winding_of o (windings_at j (number_in_row t) no_windings lines) ≡ edges_winding o edges t
  unfolding bound
  at_left o t e h = rw (sym e) (far_left o edges lines t (rw e (omega (arith, ints, clamps, h))) (rw e (omega (arith, ints, clamps, h))))

  from_left : (k : ℕ) (o : Operand) (t : Tile) → t.j ≡ j → number_in_row t ≡ bound +ℤ pos k
      → winding_of o (windings_at j (number_in_row t) no_windings lines) ≡ edges_winding o edges t
  from_left zero o t e h = at_left o t e (omega (arith, ints, h))
  from_left (suc k) o t e h =
      let u : Tile = tile_with (number_in_row t -ℤ pos 1) j in
      let nu : number_in_row u ≡ number_in_row t -ℤ pos 1 = tile_with_number (number_in_row t -ℤ pos 1) j in
      let before = from_left k o u refl (omega (arith, ints, nu, h)) in
      sum_of _ _ _ _ _ _ (change_step o j (number_in_row t) no_windings lines list.ascend)
      (winding_step o edges t u (sym e) (omega (arith, ints, nu)))
      (ap (λ (n : ℤ). winding_of o (windings_at j n no_windings lines)) (sym nu) ∙ before)
      (list.weights o (number_in_row t) ∙ ap (λ (i : ℤ). weight o edges i (number_in_row t)) (sym e))

  pub gives_windings : (o : Operand) (t : Tile) → t.j ≡ j → winding_of o (windings_at j (number_in_row t) no_windings lines) ≡ edges_winding o edges t
  gives_windings o t e =
      by_lt_z (number_in_row t) bound
      (λ lt. at_left o t e (omega (arith, ints, lt)))
      (λ le. (let n = steps_by _ bound (number_in_row t) refl le in from_left n.0 o t e n.1))

-- ---- until the next stop

pub still_apart : (l m : Line) (j k : ℤ) → j ≤ℤ k → place l j <ℤ place m j → ((y : ℤ) → j <ℤ y → y ≤ℤ k → MeetAbove l m y → ⊥) → place l k <ℤ place m k
still_apart l m j k up less none =
    by_lt_z (place l k) (place m k) (λ lt. lt)
    (λ le. by_lt_z (place m k) (place l k)
    (λ lt. (let r = order_changes l m j k up less lt in
    absurd (none r.y r.above r.up_to (record { closing = leans_where_it_meets l m j r.y less r.meet r.above; here = r.meet }))))
    (λ ge. (let same = ap (λ (x : Line). place x j) (one_line l m k (omega (arith, ints, le, ge))) in absurd (omega (arith, ints, same, less)))))

pub still_ascend : (j k : ℤ) (lines : List ActiveLine) → j ≤ℤ k → AscendIn j lines → NoMeetings lines j k → AscendIn k lines
still_ascend j k [] up h none = tt
still_ascend j k (l ∷ []) up h none = (All-nil (λ x. place l.line k <ℤ place x.line k), tt)
still_ascend j k (l ∷ m ∷ lines) up h none =
    let rest = still_ascend j k (m ∷ lines) up h.1 (λ y a b s. none y a b (inr s)) in
    let lt = still_apart l.line m.line j k up (All-head (λ x. place l.line j <ℤ place x.line j) m lines h.0) (λ y a b s. none y a b (inl s)) in (
      All-cons (λ x. place l.line k <ℤ place x.line k) m lines lt
          (All-weaker (λ x. place m.line k <ℤ place x.line k) (λ x. place l.line k <ℤ place x.line k) (λ x q. omega (arith, ints, lt, q)) lines rest.0),
      rest,
    )

pub same_change : (o : Operand) (line : Line) (j k : ℤ) (w : Windings) (lines : List ActiveLine)
    → change_at o j (place line j) w lines ≡ change_at o k (place line k) w lines
same_change o line j k w [] = refl
same_change o line j k w (l ∷ lines) =
    let p = same_place l.line line j k in
    let later = same_change o line j k l.windings lines in
    rw (p, later) refl

-- a place without a line
pub record HasLineAt (k n : ℤ) : Type 0 where
  pub line : Line
  pub at : place line k ≡ n

weight_by : (b : Bool) (o : Operand) (e : EdgeParts) (edges : List EdgeParts) (k n : ℤ) → int_eq (place e.line k) n ≡ b
    → (weight o edges k n ≡ pos 0) ⊎ HasLineAt k n → (weight o (e ∷ edges) k n ≡ pos 0) ⊎ HasLineAt k n
weight_by true o e edges k n h later = inr (record { line = e.line; at = int_eq_true _ _ h })
weight_by false o e edges k n h (inl nothing) = inl (weight_cons o e edges k n ∙ (let none = other_share o e k n h in rw (none, nothing) refl))
weight_by false o e edges k n h (inr line) = inr line

pub weight_or_line : (o : Operand) (edges : List EdgeParts) (k n : ℤ) → (weight o edges k n ≡ pos 0) ⊎ HasLineAt k n
weight_or_line o [] k n = inl (weight_nil o k n)
weight_or_line o (e ∷ edges) k n = weight_by _ o e edges k n refl (weight_or_line o edges k n)

change_by : (b : Bool) (o : Operand) (l : ActiveLine) (lines : List ActiveLine) (w : Windings) (k n : ℤ) → int_eq (place l.line k) n ≡ b
    → (change_at o k n l.windings lines ≡ pos 0) ⊎ HasLineAt k n → (change_at o k n w (l ∷ lines) ≡ pos 0) ⊎ HasLineAt k n
change_by true o l lines w k n h later = inr (record { line = l.line; at = int_eq_true _ _ h })
change_by false o l lines w k n h (inl nothing) = inl (rw h nothing)
change_by false o l lines w k n h (inr line) = inr line

pub change_or_line : (o : Operand) (lines : List ActiveLine) (w : Windings) (k n : ℤ) → (change_at o k n w lines ≡ pos 0) ⊎ HasLineAt k n
change_or_line o [] w k n = inl refl
change_or_line o (l ∷ lines) w k n = change_by _ o l lines w k n refl (change_or_line o lines l.windings k n)

module _ (edges : List EdgeParts) (j k : ℤ) (lines : List ActiveLine) (list : IsRowList edges j lines) (up : j ≤ℤ k) (none : NoEnds edges j k) where
  at_line : (o : Operand) (line : Line) → change_at o k (place line k) no_windings lines ≡ weight o edges k (place line k)
  at_line o line = sym (same_change o line j k no_windings lines) ∙ (list.weights o (place line j) ∙ same_weight o edges line j k up none)

  by_line : (o : Operand) (n : ℤ) → HasLineAt k n → change_at o k n no_windings lines ≡ weight o edges k n
  by_line o n h = subst (λ (m : ℤ). change_at o k m no_windings lines ≡ weight o edges k m) h.at (at_line o h.line)

  weights_by : (o : Operand) (n : ℤ) → (change_at o k n no_windings lines ≡ pos 0) ⊎ HasLineAt k n → (weight o edges k n ≡ pos 0) ⊎ HasLineAt k n
      → change_at o k n no_windings lines ≡ weight o edges k n
  weights_by o n (inr h) w = by_line o n h
  weights_by o n (inl c) (inr h) = by_line o n h
  weights_by o n (inl c) (inl w) = c ∙ sym w

  pub stays_until_stop : NoMeetings lines j k → IsRowList edges k lines
  stays_until_stop apart = record {
    ascend = still_ascend j k lines up list.ascend apart;
    change = list.change;
    weights = λ o n. weights_by o n (change_or_line o lines no_windings k n) (weight_or_line o edges k n);
  }

-- ---- a row that no edge spans

pub none_in_empty_row : (edges : List EdgeParts) (j : ℤ) → NoneSpans edges j → IsRowList edges j []
none_in_empty_row edges j none = record { ascend = tt; change = tt; weights = λ o n. sym (no_weight o edges j n none) }
