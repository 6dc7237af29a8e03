-- The edges of trapezoids that have rows of a window: they are in balance, and wind by count.
use Rattle.std.proofs.Common.{◌≡◌, ℤ, ◌≤ℤ◌, ◌<ℤ◌, ◌+◌, Bool, true, false, ◌&&◌, not, refl, sym, ap, subst, ◌∙◌}
use Rattle.std.proofs.Common.{append_assoc, append-nil, add_comm, List, [], ◌∷◌, ◌++◌, All, count_by, filter, arith}
use Rattle.std.specs.Prelude.{int_lt}
use Rattle.std.specs.List.{flat_map}
use Rattle.std.proofs.lemmas.Int.{ints}
use Rattle.std.proofs.lemmas.List.Sums.{sum_by-append}
use Rattle.std.proofs.lemmas.List.Elements.{All-head, All-tail, All-cons, All-nil}
use Rattle.half_grid.specs.Winding.{count_one}
use Rattle.half_grid.specs.Trapezoids.{Trapezoid, IsLegal, IsShot, count_in, trapezoid_has}
use Rattle.half_grid.specs.Edges.{EdgeParts, edges_of_trapezoid, spans, is_of, left_edge, right_edge}
use Rattle.half_grid.specs.Windows.{RowRange}
use Rattle.half_grid.specs.declared.plane.Tile.{Tile}
use Rattle.half_grid.specs.declared.border.Operand.{Operand}
use Rattle.half_grid.specs.declared.border.Operand.TheVariants.{A, B}
use Rattle.half_grid.proofs.ForCallers.{count_by-cons, windings_add, winding_is_count, operands_apart, has_in}
use Rattle.scan_line.specs.Runs.{IsBalanced, IsBalancedAt}
use Rattle.column_sweep.specs.Operands.{meets, edges_meeting, WindsByCount}
use Rattle.column_sweep.specs.RowSums.{AddUpAlike}
use Rattle.column_sweep.proofs.Adding.{winding_alike, balanced_alike, alike_refl, alike_trans, alike_append}

-- ---- balance

two_counts : (p : EdgeParts → Bool) (e f : EdgeParts) → count_by p (e ∷ f ∷ []) ≡ count_one (p e) + count_one (p f)
two_counts p e f = count_by-cons p e (f ∷ []) ∙ (rw (count_by-cons p f []) (omega arith))

pair_balanced : (o p : Operand) (z : Trapezoid) (j : ℤ) → IsBalancedAt (edges_of_trapezoid p z) o j
pair_balanced o p z j =
    two_counts (λ e. is_of o e.operand && (e.up && spans e j)) (left_edge z p) (right_edge z p)
    ∙ add_comm (count_one (is_of o p && (true && spans (left_edge z p) j))) (count_one (is_of o p && (false && spans (left_edge z p) j)))
    ∙ sym (two_counts (λ e. is_of o e.operand && (not e.up && spans e j)) (left_edge z p) (right_edge z p))

-- two lists in balance are in balance together
both_balanced : (es fs : List EdgeParts) (o : Operand) (j : ℤ) → IsBalancedAt es o j → IsBalancedAt fs o j → IsBalancedAt (es ++ fs) o j
both_balanced es fs o j h k = sum_by-append _ es fs ∙ (rw (h, k) (sym (sum_by-append _ es fs)))

list_balanced : (o p : Operand) (traps : List Trapezoid) (j : ℤ) → IsBalancedAt (flat_map (edges_of_trapezoid p) traps) o j
list_balanced o p [] j = refl
list_balanced o p (z ∷ traps) j =
    both_balanced (edges_of_trapezoid p z) (flat_map (edges_of_trapezoid p) traps) o j (pair_balanced o p z j) (list_balanced o p traps j)

pub operands_balanced : (a b : List Trapezoid) (window rows : RowRange) (edges : List EdgeParts)
    → AddUpAlike edges (edges_meeting A window a ++ edges_meeting B window b) → IsBalanced edges rows
operands_balanced a b window rows edges alike = λ o j low high.
    balanced_alike o j edges (edges_meeting A window a ++ edges_meeting B window b) alike
    (both_balanced (edges_meeting A window a) (edges_meeting B window b) o j
    (list_balanced o A (filter (meets window) a) j) (list_balanced o B (filter (meets window) b) j))

-- ---- windings

missed_by : (window : RowRange) (z : Trapezoid) (t : Tile) (b : Bool) → window.y0 ≤ℤ t.j → t.j <ℤ window.y1
    → meets window z ≡ false → trapezoid_has t z ≡ b → b ≡ false
missed_by window z t true low high e has =
    let inside = has_in t z has in
    let from = inside.above_bottom in
    let below = inside.below_top in
    let under : int_lt z.y0 window.y1 ≡ true = grind (arith, ints, from, high) in
    let over : int_lt window.y0 z.y1 ≡ true = grind (arith, ints, low, below) in
    cc
missed_by window z t false low high e has = refl

-- a trapezoid with no row of the window has none of its tiles
missed : (window : RowRange) (z : Trapezoid) (t : Tile) → window.y0 ≤ℤ t.j → t.j <ℤ window.y1 → meets window z ≡ false → trapezoid_has t z ≡ false
missed window z t low high e = missed_by window z t _ low high e refl

-- so those that have one have each tile of the window as often as all
count_meeting_by : (b : Bool) (window : RowRange) (z : Trapezoid) (traps : List Trapezoid) (t : Tile) → window.y0 ≤ℤ t.j → t.j <ℤ window.y1 → meets window z ≡ b
    → count_in (filter (meets window) traps) t ≡ count_in traps t → count_in (filter (meets window) (z ∷ traps)) t ≡ count_in (z ∷ traps) t
count_meeting_by true window z traps t low high e later =
    rw e (count_by-cons (trapezoid_has t) z (filter (meets window) traps) ∙ (rw later (sym (count_by-cons (trapezoid_has t) z traps))))
count_meeting_by false window z traps t low high e later =
    rw e (later ∙ sym (count_by-cons (trapezoid_has t) z traps ∙ (rw (missed window z t low high e) (omega arith))))

count_meeting : (window : RowRange) (traps : List Trapezoid) (t : Tile) → window.y0 ≤ℤ t.j → t.j <ℤ window.y1
    → count_in (filter (meets window) traps) t ≡ count_in traps t
count_meeting window [] t low high = refl
count_meeting window (z ∷ traps) t low high = count_meeting_by _ window z traps t low high refl (count_meeting window traps t low high)

legal_by : (b : Bool) (window : RowRange) (z : Trapezoid) (traps : List Trapezoid) → meets window z ≡ b → IsLegal z
    → All IsLegal (filter (meets window) traps) → All IsLegal (filter (meets window) (z ∷ traps))
legal_by true window z traps e legal later = rw e (All-cons IsLegal z (filter (meets window) traps) legal later)
legal_by false window z traps e legal later = rw e later

legal_meeting : (window : RowRange) (traps : List Trapezoid) → All IsShot traps → All IsLegal (filter (meets window) traps)
legal_meeting window [] h = All-nil IsLegal
legal_meeting window (z ∷ traps) h = legal_by _ window z traps refl (All-head IsShot z traps h).legal (legal_meeting window traps (All-tail IsShot z traps h))

different : A ≡ B → ⊥
different e = grind (arith, ap (is_of A) e)

pub winds_by_first : (a b : List Trapezoid) (window : RowRange) (edges : List EdgeParts) → All IsShot a
    → AddUpAlike edges (edges_meeting A window a ++ edges_meeting B window b) → WindsByCount A edges a window
winds_by_first a b window edges h alike = λ t low high.
    winding_alike A t edges (edges_meeting A window a ++ edges_meeting B window b) alike
    ∙ (windings_add A (edges_meeting A window a) (edges_meeting B window b) t
    ∙ (rw (
      winding_is_count A (filter (meets window) a) t (legal_meeting window a h),
      operands_apart A B
          (filter (meets window) b) t different,
      count_meeting window a t low high,
    ) (omega (arith, ints))))

pub winds_by_second : (a b : List Trapezoid) (window : RowRange) (edges : List EdgeParts) → All IsShot b
    → AddUpAlike edges (edges_meeting A window a ++ edges_meeting B window b) → WindsByCount B edges b window
winds_by_second a b window edges h alike = λ t low high.
    winding_alike B t edges (edges_meeting A window a ++ edges_meeting B window b) alike
    ∙ (windings_add B (edges_meeting A window a) (edges_meeting B window b) t
    ∙ (rw (
      winding_is_count B (filter (meets window) b) t (legal_meeting window b h),
      operands_apart B A
          (filter (meets window) a) t (λ e. different (sym e)),
      count_meeting window b t low high,
    ) (omega (arith, ints))))

-- ---- put one after another

with_edges : (o : Operand) (window : RowRange) (z : Trapezoid) (traps : List Trapezoid) → meets window z ≡ true
    → edges_meeting o window (z ∷ traps) ≡ left_edge z o ∷ right_edge z o ∷ edges_meeting o window traps
with_edges o window z traps e = rw e refl

without_edges : (o : Operand) (window : RowRange) (z : Trapezoid) (traps : List Trapezoid) → meets window z ≡ false
    → edges_meeting o window (z ∷ traps) ≡ edges_meeting o window traps
without_edges o window z traps e = rw e refl

one_by_one : (xs ys : List EdgeParts) (e f : EdgeParts) → ((xs ++ e ∷ []) ++ f ∷ []) ++ ys ≡ xs ++ e ∷ f ∷ ys
one_by_one xs ys e f = append_assoc (xs ++ e ∷ []) (f ∷ []) ys ∙ append_assoc xs (e ∷ []) (f ∷ ys)

module _ (o : Operand) (window : RowRange) (left rest : List Trapezoid) (z : Trapezoid) (first : left ≡ z ∷ rest)
    (edges all : List EdgeParts) (before : AddUpAlike (edges ++ edges_meeting o window left) all) where
  pub put_more : (more final : List EdgeParts) → meets window z ≡ true → AddUpAlike more (edges ++ left_edge z o ∷ [])
      → final ≡ more ++ right_edge z o ∷ [] → AddUpAlike (final ++ edges_meeting o window rest) all
  put_more more final e alike is =
      let both = alike_append final ((edges ++ left_edge z o ∷ []) ++ right_edge z o ∷ []) (edges_meeting o window rest) (edges_meeting o window rest)
      (subst (λ (xs : List EdgeParts). AddUpAlike xs ((edges ++ left_edge z o ∷ []) ++ right_edge z o ∷ [])) (sym is)
      (alike_append more (edges ++ left_edge z o ∷ []) (right_edge z o ∷ []) (right_edge z o ∷ []) alike
      (alike_refl (right_edge z o ∷ []))))
      (alike_refl (edges_meeting o window rest)) in
      let same : ((edges ++ left_edge z o ∷ []) ++ right_edge z o ∷ []) ++ edges_meeting o window rest ≡ edges ++ edges_meeting o window left =
      one_by_one edges (edges_meeting o window rest) (left_edge z o) (right_edge z o) ∙ ap
      (λ (xs : List EdgeParts). edges ++ xs)
      (sym (ap (edges_meeting o window) first ∙ with_edges o window z rest e)) in
      alike_trans _ _ _ both (subst (λ (xs : List EdgeParts). AddUpAlike xs all) (sym same) before)

  pub put_skipped : meets window z ≡ false → AddUpAlike (edges ++ edges_meeting o window rest) all
  put_skipped e = subst (λ (xs : List EdgeParts). AddUpAlike (edges ++ xs) all) (ap (edges_meeting o window) first ∙ without_edges o window z rest e) before

pub put_all : (o : Operand) (window : RowRange) (left : List Trapezoid) (edges all : List EdgeParts) → left ≡ []
    → AddUpAlike (edges ++ edges_meeting o window left) all → AddUpAlike edges all
put_all o window left edges all none h = subst (λ (xs : List EdgeParts). AddUpAlike xs all)
    (ap (λ (traps : List Trapezoid). edges ++ edges_meeting o window traps) none ∙ append-nil edges) h
