-- The table of pieces, before and after lists are pushed.
use Rattle.std.proofs.Common.{◌≡◌, ◌≢◌, ◌⊎◌, inl, inr, ℕ, zero, suc, ◌+◌, ◌<◌, List, [], ◌∷◌, ◌++◌, Some, length, get_or, set, replicate}
use Rattle.std.proofs.Common.{slice_get, All, refl, ap, sym, subst, ◌∙◌, arith, take, append-nil, Result, Ok, Err, OnOk, OnErr}
use Rattle.std.specs.List.{AllByRecursion, sum_by}
use Rattle.std.proofs.lemmas.Option.{none-some}
use Rattle.std.proofs.lemmas.List.{length-replicate}
use Rattle.std.proofs.lemmas.List.Elements.{recursion_from_All, All-from_recursion}
use Rattle.std.proofs.lemmas.List.Sums.{sum_by_more}
use Rattle.half_grid.specs.Trapezoids.{Trapezoid, CoversExactly}
use Rattle.half_grid.specs.Winding.{IsInPolygon}
use Rattle.layout_model.specs.declared.shapes.Shape.{Shape}
use Rattle.layout_model.specs.declared.cells.Cell.{Cell}
use Rattle.cell_tree.specs.Cells.{shapes_at}
use Rattle.flat_walk.specs.Tables.{lists_at, HaveNoLists, with_lists, IsKept, AreKept, IsCut, IsShownOnce, count_within}
use Rattle.flat_walk.proofs.AllThings.{each_both}

set_length : {X : Type 0} (xs : List X) (n : ℕ) (x : X) → length (set xs n x) ≡ length xs
set_length [] n x = refl
set_length (y ∷ xs) zero x = refl
set_length (y ∷ xs) (suc n) x = ap suc (set_length xs n x)

set_here : {X : Type 0} (xs : List X) (n : ℕ) (x d : X) → n < length xs → get_or (set xs n x) n d ≡ x
set_here [] n x d inside = absurd (omega arith)
set_here (y ∷ xs) zero x d inside = refl
set_here (y ∷ xs) (suc n) x d inside = set_here xs n x d (omega arith)

set_apart : {X : Type 0} (xs : List X) (n m : ℕ) (x d : X) → n ≢ m → get_or (set xs n x) m d ≡ get_or xs m d
set_apart [] n m x d apart = refl
set_apart (y ∷ xs) zero zero x d apart = absurd (apart refl)
set_apart (y ∷ xs) zero (suc m) x d apart = refl
set_apart (y ∷ xs) (suc n) zero x d apart = refl
set_apart (y ∷ xs) (suc n) (suc m) x d apart = set_apart xs n m x d (λ e. apart (ap suc e))

same_or_apart : (n m : ℕ) → (n ≡ m) ⊎ (n ≢ m)
same_or_apart zero zero = inl refl
same_or_apart zero (suc m) = inr (λ e. absurd (omega (arith, e)))
same_or_apart (suc n) zero = inr (λ e. absurd (omega (arith, e)))
same_or_apart (suc n) (suc m) = elim (same_or_apart n m) [ inl e ↦ inl (ap suc e) | inr apart ↦ inr (λ e. apart (omega (arith, e))) ]

-- the lists of a cell, after more are pushed
pub lists_pushed : (table : List (List (List Trapezoid))) (n : ℕ) (lists : List (List Trapezoid)) → n < length table
    → lists_at (with_lists table n lists) n ≡ lists_at table n ++ lists
unfolding with_lists
lists_pushed table n lists inside = set_here table n (lists_at table n ++ lists) [] inside

pub lists_apart : (table : List (List (List Trapezoid))) (n m : ℕ) (lists : List (List Trapezoid)) → n ≢ m
    → lists_at (with_lists table n lists) m ≡ lists_at table m
unfolding with_lists
lists_apart table n m lists apart = set_apart table n m (lists_at table n ++ lists) [] apart

pub pushed_length : (table : List (List (List Trapezoid))) (n : ℕ) (lists : List (List Trapezoid)) → length (with_lists table n lists) ≡ length table
unfolding with_lists
pushed_length table n lists = set_length table n (lists_at table n ++ lists)

slot_stays : {X : Type 0} (xs ys : List X) (k : ℕ) (x : X) → slice_get xs k ≡ Some x → slice_get (xs ++ ys) k ≡ Some x
slot_stays [] ys k x there = absurd (none-some x there)
slot_stays (y ∷ xs) ys zero x there = there
slot_stays (y ∷ xs) ys (suc k) x there = slot_stays xs ys k x there

slot_after : {X : Type 0} (xs ys : List X) (k : ℕ) (x : X) → slice_get ys k ≡ Some x → slice_get (xs ++ ys) (length xs + k) ≡ Some x
slot_after [] ys k x there = subst (λ i. slice_get ys i ≡ Some x) (let e : k ≡ 0 + k = omega arith in e) there
slot_after (y ∷ xs) ys k x there =
    subst (λ i. slice_get (y ∷ (xs ++ ys)) i ≡ Some x) (let e : suc (length xs + k) ≡ suc (length xs) + k = omega arith in e)
    (slot_after xs ys k x there)

slot_same : {X : Type 0} (count k : ℕ) (x : X) → k < count → slice_get (replicate count x) k ≡ Some x
slot_same zero k x inside = absurd (omega arith)
slot_same (suc count) zero x inside = refl
slot_same (suc count) (suc k) x inside = slot_same count k x (omega arith)

module _ (table : List (List (List Trapezoid))) (n : ℕ) (lists : List (List Trapezoid)) (inside : n < length table) where
  -- each list stays in its place
  list_stays : (m j : ℕ) (pieces : List Trapezoid) → slice_get (lists_at table m) j ≡ Some pieces
      → slice_get (lists_at (with_lists table n lists) m) j ≡ Some pieces
  list_stays m j pieces there = elim (same_or_apart n m) [
    | inl e ↦ subst (λ i. slice_get (lists_at (with_lists table n lists) i) j ≡ Some pieces) e
        (ap (λ l. slice_get l j) (lists_pushed table n lists inside)
        ∙ slot_stays (lists_at table n) lists j pieces (subst (λ i. slice_get (lists_at table i) j ≡ Some pieces) (sym e) there))
    | inr apart ↦ ap (λ l. slice_get l j) (lists_apart table n m lists apart) ∙ there
  ]

  -- a list that is pushed comes after those that were there
  pub list_new : (k : ℕ) (pieces : List Trapezoid) → slice_get lists k ≡ Some pieces
      → slice_get (lists_at (with_lists table n lists) n) (length (lists_at table n) + k) ≡ Some pieces
  list_new k pieces there = ap (λ l. slice_get l (length (lists_at table n) + k)) (lists_pushed table n lists inside)
      ∙ slot_after (lists_at table n) lists k pieces there

  -- a shape that is cut stays so
  pub cut_stays : (m j : ℕ) (shape : Shape) → IsCut table m j shape → IsCut (with_lists table n lists) m j shape
  cut_stays m j shape cut = record { pieces = cut.pieces; kept = list_stays m j cut.pieces cut.kept; covers = cut.covers }

  -- a shape that is shown once stays so
  pub once_stays : (cells : List Cell) (m j : ℕ) (shape : Shape) → IsShownOnce cells table m j shape
      → IsShownOnce cells (with_lists table n lists) m j shape
  once_stays cells m j shape once = record {
    pieces = once.pieces;
    kept = list_stays m j once.pieces once.kept;
    inside = once.inside;
    twin = once.twin;
    early = once.early;
    same = once.same;
    cut = cut_stays m once.twin shape once.cut;
  }

  -- a shape that stands earlier in the cell is shown once where it is given no pieces
  pub once_again : (cells : List Cell) (j k : ℕ) (shape : Shape) → slice_get lists k ≡ Some [] → j < length (lists_at table n) + k
      → IsShownOnce cells table n j shape → IsShownOnce cells (with_lists table n lists) n (length (lists_at table n) + k) shape
  once_again cells j k shape there before once = let early = once.early in record {
    pieces = [];
    kept = list_new k [] there;
    inside = inl refl;
    twin = once.twin;
    early = omega (arith, before, early);
    same = once.same;
    cut = cut_stays n once.twin shape once.cut;
  }

-- a shape whose pieces are pushed is shown once
pub once_here : (cells : List Cell) (table : List (List (List Trapezoid))) (n k : ℕ) (shape : Shape) (pieces : List Trapezoid)
    → n < length table → k ≡ length (lists_at table n) → slice_get (shapes_at cells n) k ≡ Some shape
    → CoversExactly pieces (IsInPolygon shape.points) → IsShownOnce cells (with_lists table n (pieces ∷ [])) n k shape
once_here cells table n k shape pieces inside last here covers =
    let kept = subst (λ i. slice_get (lists_at (with_lists table n (pieces ∷ [])) n) i ≡ Some pieces)
    (let e : length (lists_at table n) + 0 ≡ k = omega (arith, last) in e) (list_new table n (pieces ∷ []) inside 0 pieces refl) in
    record {
      pieces = pieces;
      kept = kept;
      inside = inr covers;
      twin = k;
      early = omega arith;
      same = here;
      cut = record { pieces = pieces; kept = kept; covers = covers };
    }

-- of many shapes without pieces each is one
pub none_there : (count k : ℕ) → k < count → slice_get (replicate {A = List Trapezoid} count []) k ≡ Some []
none_there count k inside = slot_same count k [] inside

none_at : (count n : ℕ) → lists_at (replicate count []) n ≡ []
none_at zero n = refl
none_at (suc count) zero = refl
none_at (suc count) (suc n) = none_at count n

-- a table without lists
pub no_lists_yet : (cells : List Cell) (count : ℕ) → count ≡ length cells → HaveNoLists cells (replicate count [])
no_lists_yet cells count long = record { long = length-replicate count [] ∙ long; none = none_at count }

-- ---- what is kept

all_set : {X : Type 0} (P : X → Type 0) (xs : List X) (n : ℕ) (x : X) → AllByRecursion P xs → P x → AllByRecursion P (set xs n x)
all_set P [] n x all p = tt
all_set P (y ∷ xs) zero x all p = (p, all.1)
all_set P (y ∷ xs) (suc n) x all p = (all.0, all_set P xs n x all.1 p)

all_get : {X : Type 0} (P : X → Type 0) (xs : List X) (n : ℕ) (d : X) → P d → AllByRecursion P xs → P (get_or xs n d)
all_get P [] n d p all = p
all_get P (x ∷ xs) zero d p all = all.0
all_get P (x ∷ xs) (suc n) d p all = all_get P xs n d p all.1

none_all : (P : List Trapezoid → Type 0) → All P []
none_all P = λ k d inside. absurd (omega arith)

-- what is kept stays so
kept_pushed : (table : List (List (List Trapezoid))) (n : ℕ) (lists : List (List Trapezoid)) → AreKept table
    → AllByRecursion IsKept lists → AreKept (with_lists table n lists)
unfolding with_lists
kept_pushed table n lists all kept = All-from_recursion (All IsKept) _
    (all_set (All IsKept) table n (lists_at table n ++ lists) (recursion_from_All (All IsKept) table all)
    (All-from_recursion IsKept _
    (each_both IsKept (lists_at table n) lists
    (recursion_from_All IsKept (lists_at table n)
    (all_get (All IsKept) table n [] (none_all IsKept) (recursion_from_All (All IsKept) table all))) kept)))

nothing_kept : IsKept []
nothing_kept = record { shots = λ k d inside. absurd (omega arith); few = omega arith }

pub none_kept : (count : ℕ) → AllByRecursion IsKept (replicate count [])
none_kept zero = tt
none_kept (suc count) = (nothing_kept, none_kept count)

no_table : (count : ℕ) → AllByRecursion (All IsKept) (replicate count [])
no_table zero = tt
no_table (suc count) = (none_all IsKept, no_table count)

pub no_table_kept : (count : ℕ) → AreKept (replicate count [])
no_table_kept count = All-from_recursion (All IsKept) (replicate count []) (no_table count)

-- ---- the table as it lies in memory

old_there : (table : List (List (List Trapezoid))) (n : ℕ) (old : List (List Trapezoid)) → n < length table → get_or table n old ≡ lists_at table n
old_there [] n old inside = absurd (omega arith)
old_there (l ∷ table) zero old inside = refl
old_there (l ∷ table) (suc n) old inside = old_there table n old (omega arith)

pushed_view : (table : List (List (List Trapezoid))) (n : ℕ) (old lists : List (List Trapezoid)) → n < length table
    → old ≡ get_or table n old → set table n (old ++ lists) ≡ with_lists table n lists
unfolding with_lists
pushed_view table n old lists inside at = ap (λ l. set table n (l ++ lists)) (at ∙ old_there table n old inside)

same_view : {X : Type 0} (xs : List X) (n : ℕ) (old : X) → old ≡ get_or xs n old → set xs n old ≡ xs
same_view [] n old at = refl
same_view (x ∷ xs) zero old at = ap (λ y. y ∷ xs) at
same_view (x ∷ xs) (suc n) old at = ap (λ l. x ∷ l) (same_view xs n old at)

-- after more lists were pushed, or none were
module _ {T E : Type 0} (result : Result T E) (table : List (List (List Trapezoid))) (n : ℕ) (old new lists : List (List Trapezoid))
    (inside : n < length table) (at : old ≡ get_or table n old) where
  pub view_after : OnOk result (new ≡ old ++ lists) → OnOk result (set table n new ≡ with_lists table n lists)
  view_after = by result
    where
      by : (result : Result T E) → OnOk result (new ≡ old ++ lists) → OnOk result (set table n new ≡ with_lists table n lists)
      by (Ok x) is = ap (set table n) is ∙ pushed_view table n old lists inside at
      by (Err x) is = tt

  pub kept_after : AreKept table → AllByRecursion IsKept lists → OnOk result (new ≡ old ++ lists) → OnErr result (new ≡ old) → AreKept (set table n new)
  kept_after all kept = by result
    where
      by : (result : Result T E) → OnOk result (new ≡ old ++ lists) → OnErr result (new ≡ old) → AreKept (set table n new)
      by (Ok x) is same = subst AreKept (sym (ap (set table n) is ∙ pushed_view table n old lists inside at)) (kept_pushed table n lists all kept)
      by (Err x) is same = subst AreKept (sym (ap (set table n) same ∙ same_view table n old at)) all

-- the table with no more lists
pub with_none : (table : List (List (List Trapezoid))) (n : ℕ) → n < length table → with_lists table n [] ≡ table
unfolding with_lists
with_none table n inside = ap (set table n) (append-nil (lists_at table n))
    ∙ same_view table n (lists_at table n) (sym (old_there table n (lists_at table n) inside))

-- ---- how many there are

-- one more item is counted
pub counted_more : {X : Type 0} (f : X → ℕ) (xs : List X) (k count more : ℕ) (x : X) → k < length xs → get_or xs k x ≡ x
    → count ≡ count_within (sum_by f (take k xs)) → more ≡ count_within (f x)
    → count_within (count + more) ≡ count_within (sum_by f (take (k + 1) xs))
counted_more f xs k count more x inside is so here =
    let s = sum_by_more f xs k x inside in let e = ap f is in omega arith
