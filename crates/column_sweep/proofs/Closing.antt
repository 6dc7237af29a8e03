-- From edges split at an upright line to edges for each of its sides.
use Rattle.std.proofs.Common.{◌≡◌, Bool, true, false, ◌&&◌, not, ℤ, pos, ◌+ℤ◌, ◌-ℤ◌, ◌≤ℤ◌, ◌<ℤ◌, arith, refl, List, [], ◌∷◌, ◌++◌, map}
use Rattle.std.proofs.lemmas.Int.{ints}
use Rattle.std.proofs.lemmas.List.Elements.{All-weaker, All-head, All-tail, All-cons, All-nil, All-append}
use Rattle.std.specs.List.{All}
use Rattle.half_grid.specs.Rows.{place, number_in_row}
use Rattle.half_grid.specs.Winding.{count_one}
use Rattle.half_grid.specs.Edges.{EdgeParts, edges_winding, spans, is_of}
use Rattle.half_grid.specs.declared.plane.Tile.{Tile}
use Rattle.half_grid.specs.declared.plane.Line.{Line}
use Rattle.half_grid.specs.declared.plane.Line.TheVariants.{Upright}
use Rattle.half_grid.specs.declared.border.Operand.{Operand}
use Rattle.half_grid.proofs.ForCallers.{i_low, i_high, windings_add}
use Rattle.scan_line.specs.Actives.{SpansRow}
use Rattle.column_sweep.specs.RowSums.{sum_among, any_line, row_sum}
use Rattle.column_sweep.specs.Parts.{LiesLeft, LiesRight, turned, AddUp, AreSplit, AreParts, AreSums}
use Rattle.column_sweep.proofs.Adding.{has_right, winding_is_sum, sum_nil, sum_append, sum_cons, sum_one, right_of_all, left_of_all}

turned_one : (a b c : Bool) → (pos (count_one (a && (not b && c))) -ℤ pos (count_one (a && (not (not b) && c))))
    +ℤ (pos (count_one (a && (b && c))) -ℤ pos (count_one (a && (not b && c)))) ≡ pos 0
turned_one true true true = refl
turned_one true true false = refl
turned_one true false true = refl
turned_one true false false = refl
turned_one false b c = refl

four : (a b c d : ℤ) → (a +ℤ c) ≡ pos 0 → (b +ℤ d) ≡ pos 0 → ((a +ℤ b) +ℤ (c +ℤ d)) ≡ pos 0
four a b c d h k = omega (arith, ints, h, k)

-- edges the other way add up to the opposite
pub sum_turned : (o : Operand) (j : ℤ) (some : Line → Bool) (edges : List EdgeParts)
    → (sum_among o j some (map turned edges) +ℤ sum_among o j some edges) ≡ pos 0
sum_turned o j some [] = rw (sum_nil o j some) refl
sum_turned o j some (e ∷ edges) =
    let first : (sum_among o j some (turned e ∷ []) +ℤ sum_among o j some (e ∷ [])) ≡ pos 0 = rw
    (sum_one o j some (turned e), sum_one o j some e)
    (turned_one (is_of o e.operand) e.up (spans e j && some e.line)) in
    let later = sum_turned o j some edges in
    rw (sum_cons o j some (turned e) (map turned edges), sum_cons o j some e edges)
    (four (sum_among o j some (turned e ∷ [])) (sum_among o j some (map turned edges))
    (sum_among o j some (e ∷ [])) (sum_among o j some edges) first later)

-- tiles against a column's side, by their numbers
number_right : (x : ℤ) (t : Tile) → x ≤ℤ t.i → (x +ℤ x) ≤ℤ number_in_row t
number_right x t h = let a = i_low t in omega (arith, ints, h, a)

number_left : (x : ℤ) (t : Tile) → t.i <ℤ x → number_in_row t <ℤ (x +ℤ x)
number_left x t h = let a = i_high t in omega (arith, ints, h, a)

pub right_of_left : (o : Operand) (x : ℤ) (t : Tile) (edges : List EdgeParts) → All (LiesLeft x) edges → x ≤ℤ t.i
    → edges_winding o edges t ≡ row_sum o t.j edges
right_of_left o x t edges h at =
    let n = number_right x t at in
    right_of_all o t edges
    (All-weaker (LiesLeft x) (λ e. SpansRow t.j e → place e.line t.j ≤ℤ number_in_row t)
    (λ e k s. (let p = k t.j s in omega (arith, ints, p, n))) edges h)

pub left_of_right : (o : Operand) (x : ℤ) (t : Tile) (edges : List EdgeParts) → All (LiesRight x) edges → t.i <ℤ x → edges_winding o edges t ≡ pos 0
left_of_right o x t edges h at =
    let n = number_left x t at in
    left_of_all o t edges
    (All-weaker (LiesRight x) (λ e. SpansRow t.j e → number_in_row t <ℤ place e.line t.j)
    (λ e k s. (let p = k t.j s in omega (arith, ints, p, n))) edges h)

on_right : (x : ℤ) (e : EdgeParts) → e.line ≡ Upright x → LiesRight x e
on_right x e h = λ j s. rw h (omega (arith, ints))

right_of_line : (o : Operand) (x : ℤ) (t : Tile) (edges : List EdgeParts) → All (λ e. e.line ≡ Upright x) edges
    → x ≤ℤ t.i → edges_winding o edges t ≡ row_sum o t.j edges
right_of_line o x t edges h at =
    let n = number_right x t at in
    right_of_all o t edges (All-weaker (λ e. e.line ≡ Upright x) (λ e. SpansRow t.j e → place e.line t.j ≤ℤ number_in_row t) (λ e k s. rw k n) edges h)

left_of_line : (o : Operand) (x : ℤ) (t : Tile) (edges : List EdgeParts) → All (λ e. e.line ≡ Upright x) edges → t.i <ℤ x → edges_winding o edges t ≡ pos 0
left_of_line o x t edges h at = left_of_right o x t edges (All-weaker (λ e. e.line ≡ Upright x) (LiesRight x) (on_right x) edges h) at

all_turned : (x : ℤ) (edges : List EdgeParts) → All (λ e. e.line ≡ Upright x) edges → All (λ e. e.line ≡ Upright x) (map turned edges)
all_turned x [] h = h
all_turned x (e ∷ edges) h =
    let P : EdgeParts → Type 0 = λ f. f.line ≡ Upright x in
    All-cons P (turned e) (map turned edges) (All-head P e edges h) (all_turned x edges (All-tail P e edges h))

-- split edges with their sums on the line, the other way in the left part
pub parts_closed : (x : ℤ) (edges own beyond sums : List EdgeParts) → AreSplit x edges own beyond → AreSums x own sums
    → AreParts x edges (own ++ map turned sums) (beyond ++ sums)
parts_closed x edges own beyond sums split are = record {
  left = λ o t at.
      (let all = winding_added o t in
      let none = left_of_right o x t beyond split.right at in
      let closing = left_of_line o x t (map turned sums) turned_on at in
      rw (windings_add o own (map turned sums) t, closing) (omega (arith, ints, all, none)));
  left_only = λ o t at.
      (let first = right_of_left o x t own split.left at in
      let closing = right_of_line o x t (map turned sums) turned_on at in
      let opposite = sum_turned o t.j any_line sums in
      let same = are.same o t.j in
      rw (windings_add o own (map turned sums) t, first, closing) (omega (arith, ints, opposite, same)));
  right = λ o t at.
      (let all = winding_added o t in
      let first = right_of_left o x t own split.left at in
      let opened = right_of_line o x t sums are.on_line at in
      let same = are.same o t.j in
      rw (windings_add o beyond sums t, opened) (omega (arith, ints, all, first, same)));
  right_only = λ o t at.
      (let none = left_of_right o x t beyond split.right at in
      let opened = left_of_line o x t sums are.on_line at in
      rw (windings_add o beyond sums t) (omega (arith, ints, none, opened)));
  even = λ o j.
      (let opposite = sum_turned o j any_line sums in
      let same = are.same o j in
      rw (sum_append o j any_line own (map turned sums)) (omega (arith, ints, opposite, same)));
  sums = λ o j.
      (let all = split.add_up o j any_line in
      let same = are.same o j in
      rw (sum_append o j any_line beyond sums) (omega (arith, ints, all, same)));
}
  where
    turned_on : All (λ e. e.line ≡ Upright x) (map turned sums)
    turned_on = all_turned x sums are.on_line

    winding_added : (o : Operand) (t : Tile) → (edges_winding o own t +ℤ edges_winding o beyond t) ≡ edges_winding o edges t
    winding_added o t =
        let all = split.add_up o t.j (has_right t) in
        rw (winding_is_sum o own t, winding_is_sum o beyond t, winding_is_sum o edges t) all

-- one edge further
pub split_more : (x : ℤ) (edges own beyond : List EdgeParts) (e : EdgeParts) (l r : List EdgeParts) → AreSplit x edges own beyond
    → AddUp l r (e ∷ []) → All (LiesLeft x) l → All (LiesRight x) r → AreSplit x (edges ++ e ∷ []) (own ++ l) (beyond ++ r)
split_more x edges own beyond e l r split add left right = record {
  add_up = λ o j some.
      (let before = split.add_up o j some in
      let here = add o j some in
      rw (sum_append o j some own l, sum_append o j some beyond r, sum_append o j some edges (e ∷ [])) (omega (arith, ints, before, here)));
  left = All-append (LiesLeft x) own l split.left left;
  right = All-append (LiesRight x) beyond r split.right right;
}

pub split_none : (x : ℤ) → AreSplit x [] [] []
split_none x = record {
  add_up = λ o j some. rw (sum_nil o j some) refl;
  left = All-nil (LiesLeft x);
  right = All-nil (LiesRight x);
}
