-- The pieces of shapes, shape by shape.
use Rattle.std.proofs.Common.{◌≡◌, ◌⊎◌, inl, inr, ℕ, zero, suc, ◌+◌, ◌<◌, ◌≤◌, ◌≤ℤ◌, List, [], ◌∷◌, Some, All, Any}
use Rattle.std.proofs.Common.{◌-◌, ◌*◌, ◌%◌, length, replicate, slice_get, get_or, refl, sym, ap, subst, ◌∙◌, arith, length-append}
use Rattle.std.proofs.lemmas.Nat.{mod_below}
use Rattle.std.proofs.lemmas.List.{length-replicate}
use Rattle.std.proofs.lemmas.Int.{ints, clamps, by_lt_z}
use Rattle.std.proofs.lemmas.Option.{slice_get_within, get_or_from_slice_get, same_Some, none-some}
use Rattle.std.specs.Int.{int_min, int_max}
use Rattle.half_grid.specs.Outlines.{IsClosed}
use Rattle.half_grid.specs.Trapezoids.{Trapezoid, CoversExactly}
use Rattle.half_grid.specs.Windows.{RowRange, row_range}
use Rattle.half_grid.specs.Winding.{IsInPolygon}
use Rattle.half_grid.specs.declared.plane.Point.{Point}
use Rattle.layout_model.specs.Layouts.{IsShapeOnGrid}
use Rattle.layout_model.specs.Repeats.{AreCopies}
use Rattle.layout_model.specs.declared.shapes.Shape.{Shape}
use Rattle.layout_model.specs.declared.cells.Cell.{Cell}
use Rattle.layout_model.proofs.ForCallers.{copied}
use Rattle.cell_tree.specs.Cells.{shapes_at}
use Rattle.cell_tree.specs.Chains.{IsReachable}
use Rattle.flat_walk.specs.Tables.{HaveNoLists, IsShownOnce, lists_at, with_lists}
use Rattle.flat_walk.proofs.ForCallers.{lists_pushed, lists_apart, pushed_length, once_here, once_again, once_stays, none_there}
use Rattle.bool_ops.specs.Operations.{AreRowsOf, ArePieces}
use Rattle.deck_plan.specs.Plans.{AreAllCut, AreCutUpTo, IsGivenAgain, IsPushedAmong}

all_cons : {X : Type 0} (P : X → Type 0) (x : X) (xs : List X) → P x → All P xs → All P (x ∷ xs)
all_cons P x xs p all zero d inside = p
all_cons P x xs p all (suc k) d inside = all k d (omega (arith, inside))

all_more : {X : Type 0} (P Q : X → Type 0) (xs : List X) → ((x : X) → P x → Q x) → All P xs → All Q xs
all_more P Q xs f all = λ k d inside. f (get_or xs k d) (all k d inside)

any_cons : {X : Type 0} (P Q : X → Type 0) (x : X) (xs : List X) → ((y : X) → P y → Q y) → Any P xs → Any Q (x ∷ xs)
any_cons P Q x xs f (k, y, inside, is, p) = (suc k, y, omega (arith, inside), is, f y p)

any_first : {X : Type 0} (P : X → Type 0) (x : X) (xs : List X) → P x → Any P (x ∷ xs)
any_first P x xs p = (0, x, omega arith, refl, p)

-- a list of points has rows
rows_of : (a : Point) (points : List Point) → (w : RowRange) × AreRowsOf (a ∷ points) w
rows_of a [] = (
  row_range a.y a.y,
  record {
    above = all_cons (λ p. a.y ≤ℤ p.y) a [] (omega (arith, ints)) (λ k d inside. absurd (omega (arith, inside)));
    below = all_cons (λ p. p.y ≤ℤ a.y) a [] (omega (arith, ints)) (λ k d inside. absurd (omega (arith, inside)));
    least = any_first (λ p. p.y ≡ a.y) a [] refl;
    greatest = any_first (λ p. p.y ≡ a.y) a [] refl;
  },
)
rows_of a (b ∷ points) =
    let rest = rows_of b points in
    let w : RowRange = rest.0 in
    let r = rest.1 in (
      row_range (int_min a.y w.y0) (int_max a.y w.y1),
      record {
        above = all_cons (λ p. int_min a.y w.y0 ≤ℤ p.y) a (b ∷ points) (omega (arith, ints, clamps))
            (all_more (λ p. w.y0 ≤ℤ p.y) (λ p. int_min a.y w.y0 ≤ℤ p.y) (b ∷ points)
            (λ p h. omega (arith, ints, clamps, h)) r.above);
        below = all_cons (λ p. p.y ≤ℤ int_max a.y w.y1) a (b ∷ points) (omega (arith, ints, clamps))
            (all_more (λ p. p.y ≤ℤ w.y1) (λ p. p.y ≤ℤ int_max a.y w.y1) (b ∷ points)
            (λ p h. omega (arith, ints, clamps, h)) r.below);
        least = by_lt_z a.y w.y0
            (λ lt. any_first (λ p. p.y ≡ int_min a.y w.y0) a (b ∷ points) (omega (arith, ints, clamps, lt)))
            (λ ge. any_cons (λ p. p.y ≡ w.y0) (λ p. p.y ≡ int_min a.y w.y0) a (b ∷ points) (λ p h. omega (arith, ints, clamps, ge, h)) r.least);
        greatest = by_lt_z w.y1 a.y
            (λ lt. any_first (λ p. p.y ≡ int_max a.y w.y1) a (b ∷ points) (omega (arith, ints, clamps, lt)))
            (λ ge. any_cons (λ p. p.y ≡ w.y1) (λ p. p.y ≡ int_max a.y w.y1) a (b ∷ points) (λ p h. omega (arith, ints, clamps, ge, h)) r.greatest);
      },
    )

pub pieces_cover : (points : List Point) (traps : List Trapezoid) → IsClosed points → ArePieces points traps → CoversExactly traps (IsInPolygon points)
pieces_cover [] traps closed pieces = absurd closed
pieces_cover (a ∷ points) traps closed pieces = let r = rows_of a points in (pieces r.0 r.1).covers

-- ---- shape by shape

pub shape_on_grid : (shapes : List Shape) → All IsShapeOnGrid shapes → (k : ℕ) (shape : Shape) → slice_get shapes k ≡ Some shape → IsShapeOnGrid shape
shape_on_grid shapes all k shape here =
    subst IsShapeOnGrid (get_or_from_slice_get shapes k shape shape here) (all k shape (slice_get_within shapes k shape here))

apart_or_same : (a b : ℕ) → (a ≡ b) ⊎ (a ≡ b → ⊥)
apart_or_same zero zero = inl refl
apart_or_same zero (suc b) = inr (λ e. omega (arith, e))
apart_or_same (suc a) zero = inr (λ e. omega (arith, e))
apart_or_same (suc a) (suc b) = elim (apart_or_same a b) [ inl e ↦ inl (ap suc e) | inr d ↦ inr (λ e. d (omega (arith, e))) ]

before_or_at : (k n : ℕ) → k < n + 1 → (k ≡ n → ⊥) → k < n
before_or_at zero zero early apart = absurd (apart refl)
before_or_at zero (suc n) early apart = omega arith
before_or_at (suc k) zero early apart = absurd (omega (arith, early))
before_or_at (suc k) (suc n) early apart = let h = before_or_at k n (omega (arith, early)) (λ e. apart (ap suc e)) in omega (arith, h)

-- ---- shapes that are given again and again

-- a shape of a block stands among the first ones of the block
copy_of : (shapes : List Shape) (first period times k : ℕ) (shape : Shape) → AreCopies shapes first period times → k < times * period
    → slice_get shapes (first + k) ≡ Some shape → (i : ℕ) × (i < period) × (slice_get shapes (first + i) ≡ Some shape)
copy_of shapes first period times k shape copies inside there =
    (k % period, mod_below k period copies.some, sym (copied shapes first period times k copies inside) ∙ there)

-- how many shapes of a block come after the first ones
pub others_are : (period times : ℕ) → 0 < times → period + (times - 1) * period ≡ times * period
others_are period zero some = absurd (omega (arith, some))
others_are period (suc times) some =
    let e : suc times - 1 ≡ times = omega arith in
    let f : period + times * period ≡ suc times * period = omega arith in
    ap (λ t. period + t * period) e ∙ f

pub some_copies : (period times : ℕ) → 0 < period → 0 < times → 0 < times * period
some_copies period zero some once = absurd (omega (arith, once))
some_copies period (suc times) some once = omega (arith, some)

-- ---- lists that are pushed

below_or : (k n : ℕ) → (k < n) ⊎ (n ≤ k)
below_or k zero = inr (omega arith)
below_or zero (suc n) = inl (omega arith)
below_or (suc k) (suc n) = elim (below_or k n) [ inl h ↦ inl (omega (arith, h)) | inr h ↦ inr (omega (arith, h)) ]

module _ (cells : List Cell) (top : ℕ) (table : List (List (List Trapezoid))) (cell number : ℕ)
    (inside : cell < length cells) (before : AreCutUpTo cells top table cell number) where
  pub in_table : cell < length table
  in_table = let long = before.long in omega (arith, long, inside)

  lists_more : (lists : List (List Trapezoid)) (next : ℕ) → next ≡ number + length lists
      → ((j : ℕ) (shape : Shape) → j < length lists → slice_get (shapes_at cells cell) (number + j) ≡ Some shape
      → IsShownOnce cells (with_lists table cell lists) cell (number + j) shape)
      → AreCutUpTo cells top (with_lists table cell lists) cell next
  lists_more lists next is each = record {
    long = pushed_length table cell lists ∙ before.long;
    own = (let e = ap length (lists_pushed table cell lists in_table) in let f = length-append (lists_at table cell) lists in
        let own = before.own in omega (arith, e, f, own, is));
    later = λ n after. lists_apart table cell n lists (λ e. omega (arith, after, e)) ∙ before.later n after;
    cut = λ n k shape reach early there. elim early [
      | inl earlier ↦ once_stays table cell lists in_table cells n k shape (before.cut n k shape reach (inl earlier) there)
      | inr own ↦ elim (below_or k number) [
        | inl low ↦ once_stays table cell lists in_table cells n k shape (before.cut n k shape reach (inr (own.0, low)) there)
        | inr high ↦ (let j : ℕ = k - number in
            let e : number + j ≡ k = omega (arith, high) in
            let here = subst (λ i. slice_get (shapes_at cells cell) i ≡ Some shape) (sym e)
            (subst (λ m. slice_get (shapes_at cells m) k ≡ Some shape) own.0 there) in
            subst (λ m. IsShownOnce cells (with_lists table cell lists) m k shape) (sym own.0)
            (subst (λ i. IsShownOnce cells (with_lists table cell lists) cell i shape) e
            (each j shape (omega (arith, own.1, is, high)) here)))
      ]
    ];
  }

  -- the shape whose list is pushed
  shape_new : (shape : Shape) (pieces : List Trapezoid) → IsReachable cells top cell → slice_get (shapes_at cells cell) number ≡ Some shape
      → CoversExactly pieces (IsInPolygon shape.points) ⊎ ((pieces ≡ []) × IsGivenAgain (shapes_at cells cell) number shape)
      → IsShownOnce cells (with_lists table cell (pieces ∷ [])) cell number shape
  shape_new shape pieces reached here puts = elim puts [
    | inl covers ↦ once_here cells table cell number shape pieces in_table (sym before.own) here covers
    | inr again ↦ (let own = before.own in
        let e : length (lists_at table cell) + 0 ≡ number = omega (arith, own) in
        let early = again.1.before in
        subst (λ (list : List Trapezoid). IsShownOnce cells (with_lists table cell (list ∷ [])) cell number shape) (sym again.0)
        (subst (λ k. IsShownOnce cells (with_lists table cell ([] ∷ [])) cell k shape) e
        (once_again table cell ([] ∷ []) in_table cells again.1.earlier 0 shape refl (omega (arith, early, own))
        (before.cut cell again.1.earlier shape reached (inr (refl, early)) again.1.same))))
  ]

  -- one shape more
  pub shape_more : (shape : Shape) (pieces : List Trapezoid) → IsReachable cells top cell → slice_get (shapes_at cells cell) number ≡ Some shape
      → CoversExactly pieces (IsInPolygon shape.points) ⊎ ((pieces ≡ []) × IsGivenAgain (shapes_at cells cell) number shape)
      → AreCutUpTo cells top (with_lists table cell (pieces ∷ [])) cell (number + 1)
  shape_more shape pieces reached here puts = lists_more (pieces ∷ []) (number + 1) refl (λ j other early there.
      (let e : number ≡ number + j = omega (arith, early) in
      let same : shape ≡ other = same_Some shape other (sym here ∙ (ap (slice_get (shapes_at cells cell)) e ∙ there)) in
      subst (λ (s : Shape). IsShownOnce cells (with_lists table cell (pieces ∷ [])) cell (number + j) s) same
      (subst (λ k. IsShownOnce cells (with_lists table cell (pieces ∷ [])) cell k shape) e (shape_new shape pieces reached here puts))))

  -- shapes of a block after the first ones, which are cut
  pub copies_more : (first period times count next : ℕ) → IsReachable cells top cell → AreCopies (shapes_at cells cell) first period times
      → first + period ≤ number → next ≡ number + count → next ≤ first + times * period
      → AreCutUpTo cells top (with_lists table cell (replicate count [])) cell next
  copies_more first period times count next reached copies after is few =
      let long = length-replicate {A = List Trapezoid} count [] in
      let own = before.own in
      lists_more (replicate count []) next (omega (arith, long, is)) (λ j shape early there.
      (let k : ℕ = (number - first) + j in
      let e : number + j ≡ first + k = omega (arith, after) in
      let twin = copy_of (shapes_at cells cell) first period times k shape copies (omega (arith, early, long, is, few, after))
      (ap (slice_get (shapes_at cells cell)) (sym e) ∙ there) in
      let low = twin.1 in
      let f : length (lists_at table cell) + j ≡ number + j = omega (arith, own) in
      subst (λ i. IsShownOnce cells (with_lists table cell (replicate count [])) cell i shape) f
      (once_again table cell (replicate count []) in_table cells (first + twin.0) j shape (none_there count j (omega (arith, early, long)))
      (omega (arith, low, after, own))
      (before.cut cell (first + twin.0) shape reached (inr (refl, omega (arith, low, after))) twin.2))))

pub pushed_in : (shapes others : List Shape) (before : List (List (List Trapezoid))) (n k : ℕ) (after : List (List (List Trapezoid)))
    → shapes ≡ others → IsPushedAmong shapes before n k after → IsPushedAmong others before n k after
pushed_in shapes others before n k after e pushed = subst (λ (list : List Shape). IsPushedAmong list before n k after) e pushed

-- no cell is cut yet
pub none_cut : (cells : List Cell) (top : ℕ) (table : List (List (List Trapezoid))) → HaveNoLists cells table → AreCutUpTo cells top table 0 0
none_cut cells top table none = record {
  long = none.long;
  own = ap length (none.none 0);
  later = λ n after. none.none n;
  cut = λ n k shape reach early there. elim early [ inl before ↦ absurd (omega (arith, before)) | inr own ↦ absurd (omega (arith, own.1)) ];
}

-- the cell is cut
pub cell_cut : (cells : List Cell) (top : ℕ) (table : List (List (List Trapezoid))) (cell number : ℕ)
    → length (shapes_at cells cell) ≤ number → AreCutUpTo cells top table cell number → AreCutUpTo cells top table (cell + 1) 0
cell_cut cells top table cell number all are = record {
  long = are.long;
  own = ap length (are.later (cell + 1) (omega arith));
  later = λ n after. are.later n (omega (arith, after));
  cut = λ n k shape reach early there. elim early [
    | inl before ↦ elim (apart_or_same n cell) [
      | inl e ↦ (let inside = slice_get_within (shapes_at cells n) k shape there in are.cut n k shape reach
          (inr (e, omega (arith, inside, all, ap (λ m. length (shapes_at cells m)) e))) there)
      | inr d ↦ are.cut n k shape reach (inl (before_or_at n cell before d)) there
    ]
    | inr own ↦ absurd (omega (arith, own.1))
  ];
}

-- nothing is to be cut in the cell
pub cell_bare : (cells : List Cell) (top : ℕ) (table : List (List (List Trapezoid))) (cell : ℕ)
    → (IsReachable cells top cell → shapes_at cells cell ≡ []) → AreCutUpTo cells top table cell 0 → AreCutUpTo cells top table (cell + 1) 0
cell_bare cells top table cell none are = record {
  long = are.long;
  own = ap length (are.later (cell + 1) (omega arith));
  later = λ n after. are.later n (omega (arith, after));
  cut = λ n k shape reach early there. elim early [
    | inl before ↦ elim (apart_or_same n cell) [
      | inl e ↦ absurd (none-some shape (sym (ap (λ (l : List Shape). slice_get l k)
          (ap (λ m. shapes_at cells m) e ∙ none (subst (IsReachable cells top) e reach))) ∙ there))
      | inr d ↦ are.cut n k shape reach (inl (before_or_at n cell before d)) there
    ]
    | inr own ↦ absurd (omega (arith, own.1))
  ];
}

cell_of : (cells : List Cell) (n k : ℕ) (shape : Shape) → slice_get (shapes_at cells n) k ≡ Some shape → n < length cells
cell_of [] n k shape there = absurd (none-some shape there)
cell_of (cell ∷ cells) zero k shape there = omega arith
cell_of (cell ∷ cells) (suc n) k shape there = let h = cell_of cells n k shape there in omega (arith, h)

-- all cells are cut
pub all_cut : (cells : List Cell) (top : ℕ) (table : List (List (List Trapezoid))) (cell : ℕ) → length cells ≤ cell
    → AreCutUpTo cells top table cell 0 → AreAllCut cells top table
all_cut cells top table cell all are = λ n k shape reach there. are.cut n k shape reach (inl (omega (arith, all, cell_of cells n k shape there))) there
