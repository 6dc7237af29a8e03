-- From the edges of a slab to all edges: the same windings in its rows, and so the same runs.
use Rattle.std.proofs.Common.{ℤ, pos, ◌≡◌, ◌+◌, ◌≤◌, ◌+ℤ◌, ◌-ℤ◌, ◌≤ℤ◌, ◌<ℤ◌, Bool, true, false, ◌&&◌, not, List, []}
use Rattle.std.proofs.Common.{◌∷◌, ◌++◌, All, count_by, length, arith, refl, inl, inr, ap, subst, sym, ◌∙◌}
use Rattle.std.specs.Prelude.{IsPermutation, int_le, ◌↔◌}
use Rattle.std.proofs.lemmas.Int.{ints, by_lt_z}
use Rattle.std.proofs.lemmas.List.{length-append}
use Rattle.std.proofs.lemmas.List.Sums.{sum_by-append}
use Rattle.std.proofs.lemmas.List.Elements.{All-contains, All-weaker, All-head, All-tail, All-cons, All-nil}
use Rattle.std.proofs.lemmas.List.Sorted.{sum_by-IsPermutation, length_permutation, All-permutation, IsPermutation-sym}
use Rattle.half_grid.specs.Edges.{EdgeParts, IsEdge, spans, is_of, winds_up, winds_down, edges_winding}
use Rattle.half_grid.specs.Lines.{x_on, strip_along, first_strip}
use Rattle.half_grid.specs.Rows.{place}
use Rattle.half_grid.specs.Reach.{IsWithinReach}
use Rattle.half_grid.specs.Trapezoids.{trapezoid, IsShot}
use Rattle.half_grid.specs.Windows.{RowRange}
use Rattle.half_grid.specs.declared.plane.Tile.{Tile}
use Rattle.half_grid.specs.declared.plane.Line.{Line}
use Rattle.half_grid.specs.declared.plane.Line.TheVariants.{Upright, Rising, Falling}
use Rattle.half_grid.specs.declared.border.Operand.{Operand}
use Rattle.half_grid.specs.declared.border.Operand.TheVariants.{A, B}
use Rattle.half_grid.proofs.ForCallers.{count_by-cons, line_names}
use Rattle.scan_line.specs.Actives.{SpansRow, AreInOrder, AreActive, IsApart}
use Rattle.scan_line.specs.Runs.{IsBalancedAt, IsBalanced, IsTaken, StandApart, HoldsWindings, AreRuns, AreRunsOfSlab}
use Rattle.scan_line.specs.Stops.{IsSlab, IsWithin}
use Rattle.scan_line.specs.Windings.{IsEven, IsLineOf, HasLinesOf}
use Rattle.scan_line.specs.declared.runs.Run.{Run}
use Rattle.scan_line.proofs.Reaches.{x_within, y_within}

-- windings and balance don't depend on the order of edges
pub winding_permuted : (o : Operand) (edges others : List EdgeParts) (t : Tile) → IsPermutation edges others
    → edges_winding o others t ≡ edges_winding o edges t
unfolding edges_winding
winding_permuted o edges others t h = rw (sum_by-IsPermutation _ edges others h, sum_by-IsPermutation _ edges others h) refl

pub balanced_permuted : (edges others : List EdgeParts) (window : RowRange) → IsPermutation edges others → IsBalanced edges window → IsBalanced others window
balanced_permuted edges others window h b = λ o j low high. sum_by-IsPermutation _ edges others h
    ∙ (b o j low high ∙ sym (sum_by-IsPermutation _ edges others h))

spans_not : (e : EdgeParts) (slab : RowRange) (j : ℤ) → slab.y0 ≤ℤ j → j <ℤ slab.y1 → IsApart slab e → spans e j ≡ false
spans_not e slab j a b (inl h) = grind (arith, ints)
spans_not e slab j a b (inr h) = grind (arith, ints)

spans_too : (e : EdgeParts) (j : ℤ) → SpansRow j e → spans e j ≡ true
spans_too e j h = let from = h.from in let below = h.below in grind (arith, ints)

count_none : (p : EdgeParts → Bool) (edges : List EdgeParts) → All (λ e. p e ≡ false) edges → count_by p edges ≡ 0
count_none p [] h = refl
count_none p (e ∷ edges) h =
    let first = All-head (λ f. p f ≡ false) e edges h in
    let later = count_none p edges (All-tail (λ f. p f ≡ false) e edges h) in
    count_by-cons p e edges ∙ (rw (first, later) refl)

count_same : (p q : EdgeParts → Bool) (edges : List EdgeParts) → All (λ e. p e ≡ q e) edges → count_by p edges ≡ count_by q edges
count_same p q [] h = refl
count_same p q (e ∷ edges) h =
    let first = All-head (λ f. p f ≡ q f) e edges h in
    let later = count_same p q edges (All-tail (λ f. p f ≡ q f) e edges h) in
    count_by-cons p e edges ∙ (rw (first, later) (sym (count_by-cons q e edges)))

-- a test that only edges of the row pass counts as many among the slab's edges as among all
pub count_alike : (edges active : List EdgeParts) (slab : RowRange) (j : ℤ) (p : EdgeParts → Bool)
    → AreActive edges slab active → slab.y0 ≤ℤ j → j <ℤ slab.y1 → ((e : EdgeParts) → spans e j ≡ false → p e ≡ false)
    → count_by p active ≡ count_by p edges
count_alike edges active slab j p h a b none =
    let zero = count_none p h.others (All-weaker (IsApart slab) (λ e. p e ≡ false) (λ e k. none e (spans_not e slab j a b k)) h.others h.apart) in
    let all : count_by p edges ≡ count_by p (h.others ++ active) = sum_by-IsPermutation _ _ _ h.whole in
    let parts : count_by p (h.others ++ active) ≡ count_by p h.others + count_by p active = sum_by-append _ h.others active in
    omega (arith, zero, all, parts)

and_no : (p q r : Bool) → (p && (q && (false && r))) ≡ false
and_no true true r = refl
and_no true false r = refl
and_no false q r = refl

and_none : (p q : Bool) → (p && (q && false)) ≡ false
and_none true true = refl
and_none true false = refl
and_none false q = refl

up_none : (o : Operand) (t : Tile) (e : EdgeParts) → spans e t.j ≡ false → winds_up o t e ≡ false
up_none o t e h = rw h (and_no (is_of o e.operand) e.up (int_le (first_strip e.line) (strip_along e.line t)))

down_none : (o : Operand) (t : Tile) (e : EdgeParts) → spans e t.j ≡ false → winds_down o t e ≡ false
down_none o t e h = rw h (and_no (is_of o e.operand) (not e.up) (int_le (first_strip e.line) (strip_along e.line t)))

-- in the rows of the slab its edges have the windings of all
pub winding_alike : (edges active : List EdgeParts) (slab : RowRange) (o : Operand) (t : Tile)
    → AreActive edges slab active → slab.y0 ≤ℤ t.j → t.j <ℤ slab.y1 → edges_winding o active t ≡ edges_winding o edges t
unfolding edges_winding
winding_alike edges active slab o t h a b =
    let up = count_alike edges active slab t.j (winds_up o t) h a b (up_none o t) in
    let down = count_alike edges active slab t.j (winds_down o t) h a b (down_none o t) in
    rw (up, down) refl

and_yes : (p q : Bool) → (p && q) ≡ (p && (q && true))
and_yes true true = refl
and_yes true false = refl
and_yes false q = refl

-- and are even, as all are balanced in each row
pub even_alike : (edges active : List EdgeParts) (slab : RowRange) (j : ℤ) (o : Operand) → AreActive edges slab active
    → slab.y0 ≤ℤ j → j <ℤ slab.y1 → IsBalancedAt edges o j → IsEven active o
even_alike edges active slab j o h a b balanced =
    let spanning = (h.in_order j a b).spanning in
    let up = count_same (λ e. is_of o e.operand && e.up) (λ e. is_of o e.operand && (e.up && spans e j)) active
    (All-weaker (SpansRow j) (λ e. (is_of o e.operand && e.up) ≡ (is_of o e.operand && (e.up && spans e j)))
    (λ e k. (let s = spans_too e j k in (rw s (and_yes (is_of o e.operand) e.up)))) active spanning) in
    let down = count_same (λ e. is_of o e.operand && not e.up)
    (λ e. is_of o e.operand && (not e.up && spans e j)) active
    (All-weaker (SpansRow j)
    (λ e. (is_of o e.operand && not e.up) ≡ (is_of o e.operand && (not e.up && spans e j)))
    (λ e k. (let s = spans_too e j k in (rw s (and_yes (is_of o e.operand) (not e.up))))) active spanning) in
    let ups = count_alike edges active slab j (λ e. is_of o e.operand && (e.up && spans e j)) h a b (λ e k. (rw k (and_none (is_of o e.operand) e.up))) in
    let downs = count_alike edges active slab j (λ e. is_of o e.operand && (not e.up && spans e j)) h a b
    (λ e k. (rw k (and_none (is_of o e.operand) (not e.up)))) in
    up ∙ (ups ∙ (balanced ∙ (sym downs ∙ sym down)))

-- the runs among the slab's edges are those among all
runs_alike : (post : ℤ → ℤ → Bool → Type 0) (edges active : List EdgeParts) (slab : RowRange) (j : ℤ) (runs : List Run)
    → AreActive edges slab active → slab.y0 ≤ℤ j → j <ℤ slab.y1 → AreRuns post active j runs → AreRuns post edges j runs
runs_alike post edges active slab j runs h a b r = record {
  apart = r.apart;
  taken = λ t same. (λ k. (r.taken t same).0 (to_active t same k), λ k. to_edges t same ((r.taken t same).1 k));
  windings = All-weaker (HoldsWindings active j) (HoldsWindings edges j) (λ run k t same number. (held run t same (k t same number))) runs r.windings;
}
  where
    alike : (t : Tile) (o : Operand) → t.j ≡ j → edges_winding o active t ≡ edges_winding o edges t
    alike t o same = winding_alike edges active slab o t h (rw same a) (rw same b)

    to_active : (t : Tile) → t.j ≡ j → IsTaken post edges t → IsTaken post active t
    to_active t same k = let x = alike t A same in let y = alike t B same in rw (x, y) k

    to_edges : (t : Tile) → t.j ≡ j → IsTaken post active t → IsTaken post edges t
    to_edges t same k = let x = alike t A same in let y = alike t B same in rw (x, y) at k

    held : (run : Run) (t : Tile) → t.j ≡ j → (run.a ≡ edges_winding A active t) × (run.b ≡ edges_winding B active t)
        → (run.a ≡ edges_winding A edges t) × (run.b ≡ edges_winding B edges t)
    held run t same k = (k.0 ∙ alike t A same, k.1 ∙ alike t B same)

All-appended : {X : Type 0} (P : X → Type 0) (xs ys : List X) → All P (xs ++ ys) → All P ys
All-appended P [] ys h = h
All-appended P (x ∷ xs) ys h = All-appended P xs ys (All-tail P x (xs ++ ys) h)

legal_in_row : (j : ℤ) (runs : List Run) → StandApart j runs → All (λ r. place r.left j <ℤ place r.right j) runs
legal_in_row j [] h = All-nil (λ r. place r.left j <ℤ place r.right j)
legal_in_row j (run ∷ runs) h = All-cons (λ r. place r.left j <ℤ place r.right j) run runs h.0 (legal_in_row j runs h.2)

bottom_order : (l r : Line) (j : ℤ) → place l j <ℤ place r j → x_on l j ≤ℤ x_on r j
bottom_order (Upright c) (Upright d) j h = omega (arith, ints)
bottom_order (Upright c) (Rising d) j h = omega (arith, ints)
bottom_order (Upright c) (Falling d) j h = omega (arith, ints)
bottom_order (Rising c) (Upright d) j h = omega (arith, ints)
bottom_order (Rising c) (Rising d) j h = omega (arith, ints)
bottom_order (Rising c) (Falling d) j h = omega (arith, ints)
bottom_order (Falling c) (Upright d) j h = omega (arith, ints)
bottom_order (Falling c) (Rising d) j h = omega (arith, ints)
bottom_order (Falling c) (Falling d) j h = omega (arith, ints)

top_order : (l r : Line) (y : ℤ) → place l (y -ℤ pos 1) <ℤ place r (y -ℤ pos 1) → x_on l y ≤ℤ x_on r y
top_order (Upright c) (Upright d) y h = omega (arith, ints)
top_order (Upright c) (Rising d) y h = omega (arith, ints)
top_order (Upright c) (Falling d) y h = omega (arith, ints)
top_order (Rising c) (Upright d) y h = omega (arith, ints)
top_order (Rising c) (Rising d) y h = omega (arith, ints)
top_order (Rising c) (Falling d) y h = omega (arith, ints)
top_order (Falling c) (Upright d) y h = omega (arith, ints)
top_order (Falling c) (Rising d) y h = omega (arith, ints)
top_order (Falling c) (Falling d) y h = omega (arith, ints)

not_flat : (l r : Line) (low high : ℤ) → low <ℤ high → place l low <ℤ place r low → x_on l low ≤ℤ x_on r low
    → x_on l high ≤ℤ x_on r high → pos 0 <ℤ ((x_on r low -ℤ x_on l low) +ℤ (x_on r high -ℤ x_on l high))
not_flat l r low high rows lt bottom top =
    by_lt_z (pos 0) ((x_on r low -ℤ x_on l low) +ℤ (x_on r high -ℤ x_on l high)) (λ k. k)
    (λ flat. (let same = line_names l r low high rows (omega (arith, ints, flat, bottom, top)) (omega (arith, ints, flat, bottom, top)) in
    let at = ap (λ (x : Line). place x low) same in absurd (omega (arith, ints, lt, at))))

-- a line within reach at both ends of the slab
record FitsSlab (slab : RowRange) (line : Line) : Type 0 where
  low : IsWithinReach (x_on line slab.y0)
  high : IsWithinReach (x_on line slab.y1)
  bottom : IsWithinReach slab.y0
  top : IsWithinReach slab.y1

line_fits : (edges active : List EdgeParts) (slab : RowRange) (line : Line) → slab.y0 <ℤ slab.y1 → All IsEdge active
    → AreActive edges slab active → IsLineOf active line → FitsSlab slab line
line_fits edges active slab line rows known h of =
    let is : IsEdge of.edge = All-contains IsEdge active of.edge known of.has in
    let first : SpansRow slab.y0 of.edge = All-contains (SpansRow slab.y0) active of.edge (h.in_order slab.y0 (omega (arith, ints)) rows).spanning of.has in
    let under : slab.y0 ≤ℤ (slab.y1 -ℤ pos 1) = omega (arith, ints, rows) in
    let last : SpansRow (slab.y1 -ℤ pos 1) of.edge = All-contains (SpansRow (slab.y1 -ℤ pos 1)) active of.edge
    (h.in_order (slab.y1 -ℤ pos 1) under (omega (arith, ints))).spanning of.has in
    let from = first.from in
    let below = last.below in
    let up : of.edge.y0 ≤ℤ slab.y1 = omega (arith, ints, from, rows) in
    let down : slab.y0 ≤ℤ of.edge.y1 = omega (arith, ints, below, rows) in
    let end : slab.y1 ≤ℤ of.edge.y1 = omega (arith, ints, below) in
    subst (FitsSlab slab) of.is (record {
      low = x_within of.edge slab.y0 is from down;
      high = x_within of.edge slab.y1 is up end;
      bottom = y_within of.edge slab.y0 is from down;
      top = y_within of.edge slab.y1 is up end;
    })

shot_of : (slab : RowRange) (l r : Line) → slab.y0 <ℤ slab.y1 → FitsSlab slab l → FitsSlab slab r
    → place l slab.y0 <ℤ place r slab.y0 → place l (slab.y1 -ℤ pos 1) <ℤ place r (slab.y1 -ℤ pos 1)
    → IsShot (trapezoid slab.y0 slab.y1 l r)
shot_of slab l r rows left right first last =
    let bottom = bottom_order l r slab.y0 first in
    let top = top_order l r slab.y1 last in
    record {
      legal = record {
        has_rows = rows;
        bottom = omega (arith, ints, bottom);
        top = omega
            (arith, ints, top);
        not_flat = not_flat l r slab.y0 slab.y1 rows first bottom top;
      };
      reach = record { y0 = left.bottom; y1 = left.top; bottom_left = left.low; bottom_right = right.low; top_left = left.high; top_right = right.high };
    }

active_known : (edges active : List EdgeParts) (slab : RowRange) → All IsEdge edges → AreActive edges slab active → All IsEdge active
active_known edges active slab known h = All-appended IsEdge h.others active (All-permutation IsEdge _ _ (IsPermutation-sym _ _ h.whole) known)

-- there are no more edges in a slab than in all
pub active_few : (edges active : List EdgeParts) (slab : RowRange) → AreActive edges slab active → length active ≤ length edges
active_few edges active slab h =
    let all = length_permutation _ _ h.whole in
    let parts = length-append h.others active in
    omega (arith, all, parts)

-- the runs of a slab among its own edges are the slab's runs among all
pub runs_of_slab : (post : ℤ → ℤ → Bool → Type 0) (edges active : List EdgeParts) (slab : RowRange) (runs : List Run)
    → slab.y0 <ℤ slab.y1 → All IsEdge edges → AreActive edges slab active
    → ((j : ℤ) → AreInOrder j active → AreRuns post active j runs) → All (HasLinesOf active) runs → AreRunsOfSlab post edges slab runs
runs_of_slab post edges active slab runs has_rows known h each lines =
    let under : slab.y0 ≤ℤ (slab.y1 -ℤ pos 1) = omega (arith, ints, has_rows) in
    let first = legal_in_row slab.y0 runs (each slab.y0 (h.in_order slab.y0 (omega (arith, ints)) has_rows)).apart in
    let last = legal_in_row (slab.y1 -ℤ pos 1) runs (each (slab.y1 -ℤ pos 1) (h.in_order (slab.y1 -ℤ pos 1) under (omega (arith, ints)))).apart in
    let own : All IsEdge active = active_known edges active slab known h in
    record {
      rows = λ j a b. runs_alike post edges active slab j runs h a b (each j (h.in_order j a b));
      shots = λ k d lt. shot_of slab _ _ has_rows (line_fits edges active slab _ has_rows own h (lines k d lt).left)
          (line_fits edges active slab _ has_rows own h (lines k d lt).right) (first k d lt) (last k d lt);
    }

pub even_in_slab : (edges active : List EdgeParts) (window slab : RowRange) → IsSlab edges window slab
    → IsWithin window slab → AreActive edges slab active → IsBalanced edges window → (o : Operand) → IsEven active o
even_in_slab edges active window slab is within h balanced o =
    let rows = is.has_rows in
    let top = within.top in
    even_alike edges active slab slab.y0 o h (omega (arith, ints)) rows (balanced o slab.y0 within.bottom (omega (arith, ints, rows, top)))

pub taken_permuted : (post : ℤ → ℤ → Bool → Type 0) (edges others : List EdgeParts) (t : Tile)
    → IsPermutation edges others → IsTaken post edges t ↔ IsTaken post others t
taken_permuted post edges others t h =
    let a = winding_permuted A edges others t h in
    let b = winding_permuted B edges others t h in
    (λ k. (rw (a, b) k), λ k. (rw (a, b) at k))
