-- What is listed for a window, by the entries of a row of windows and of those below it.
use Rattle.std.proofs.Common.{zero, suc, ◌+◌, ◌<◌, ◌≡◌, inl, inr, ℤ, pos, ◌+ℤ◌, ◌≤ℤ◌, ◌<ℤ◌, List, [], ◌∷◌, ◌++◌, slice_index_or, arith, refl, sym}
use Rattle.std.proofs.lemmas.Int.{ints}
use Rattle.std.proofs.lemmas.List.Elements.{All-head, All-tail, All-append, All-map}
use Rattle.std.proofs.lemmas.List.Sums.{sum_by-cons, sum_by-append}
use Rattle.std.specs.List.{All}
use Rattle.half_grid.proofs.ForCallers.{int_eq_same, int_eq_other}
use Rattle.density_map.specs.declared.counts.Counted.{Counted}
use Rattle.density_map.specs.Counts.{AreCounts, count_at, tiles_at}
use Rattle.density_report.specs.declared.entries.Entry.{Entry}
use Rattle.density_report.specs.Tables.{IsBefore, AreAscending, tiles_for, listed}
use Rattle.density_report.specs.Rows.{entry_of, entries_of, triangles_of, sum_of}

-- ---- what is listed

pub listed_both : (i j : ℤ) (xs ys : List Entry) → listed i j (xs ++ ys) ≡ listed i j xs + listed i j ys
listed_both i j xs ys = sum_by-append (tiles_for i j) xs ys

pub for_own : (e : Entry) → tiles_for e.column e.row e ≡ e.tiles
for_own e = rw (int_eq_same e.row e.row refl, int_eq_same e.column e.column refl) refl

pub for_other_row : (i j : ℤ) (e : Entry) → (e.row ≡ j → ⊥) → tiles_for i j e ≡ 0
for_other_row i j e apart = rw (int_eq_other e.row j apart) refl

for_other_column : (i j : ℤ) (e : Entry) → e.row ≡ j → (e.column ≡ i → ⊥) → tiles_for i j e ≡ 0
for_other_column i j e same apart = rw (int_eq_same e.row j same, int_eq_other e.column i apart) refl

-- of two of which the first is before the second neither is listed for the other's window
none_after : (a b : Entry) → IsBefore a b → tiles_for a.column a.row b ≡ 0
none_after a b (inl less) = for_other_row a.column a.row b (λ e. omega (arith, ints, e, less))
none_after a b (inr (same, less)) = for_other_column a.column a.row b (sym same) (λ e. omega (arith, ints, e, less))

none_before : (a b : Entry) → IsBefore a b → tiles_for b.column b.row a ≡ 0
none_before a b (inl less) = for_other_row b.column b.row a (λ e. omega (arith, ints, e, less))
none_before a b (inr (same, less)) = for_other_column b.column b.row a same (λ e. omega (arith, ints, e, less))

pub none_later : (a : Entry) (es : List Entry) → All (IsBefore a) es → listed a.column a.row es ≡ 0
none_later a [] before = refl
none_later a (e ∷ es) before =
    let one = sum_by-cons (tiles_for a.column a.row) e es in
    let here = none_after a e (All-head (IsBefore a) e es before) in
    let rest = none_later a es (All-tail (IsBefore a) e es before) in
    omega (arith, one, here, rest)

-- for the window of an entry what is listed is its number
pub listed_own : (es : List Entry) → AreAscending es → All (λ (e : Entry). listed e.column e.row es ≡ e.tiles) es
listed_own [] ascending k d less = absurd (omega (arith, less))
listed_own (x ∷ es) ascending zero d less =
    let one = sum_by-cons (tiles_for x.column x.row) x es in
    let here = for_own x in
    let rest = none_later x es ascending.0 in
    omega (arith, one, here, rest)
listed_own (x ∷ es) ascending (suc k) d less =
    let e = slice_index_or es k d in
    let one = sum_by-cons (tiles_for e.column e.row) x es in
    let here = none_before x e (ascending.0 k d (omega (arith, less))) in
    let rest = listed_own es ascending.1 k d (omega (arith, less)) in
    omega (arith, one, here, rest)

-- ---- the entries below a row of windows

-- each is in a row below this one
abbrev pub AreBelow : ℤ → List Entry → Type 0
AreBelow row entries = All (λ (e : Entry). e.row <ℤ row) entries

pub listed_above : (i j row : ℤ) (es : List Entry) → AreBelow row es → row ≤ℤ j → listed i j es ≡ 0
listed_above i j row [] below up = refl
listed_above i j row (e ∷ es) below up =
    let one = sum_by-cons (tiles_for i j) e es in
    let less = All-head (λ (x : Entry). x.row <ℤ row) e es below in
    let here = for_other_row i j e (λ same. omega (arith, ints, same, less, up)) in
    let rest = listed_above i j row es (All-tail (λ (x : Entry). x.row <ℤ row) e es below) up in
    omega (arith, one, here, rest)

-- ---- the entries of one row of windows

for_counted : (i row : ℤ) (c : Counted) → tiles_for i row (entry_of row c) ≡ tiles_at i c
for_counted i row c = rw (int_eq_same row row refl) refl

pub listed_here : (i row : ℤ) (counts : List Counted) → listed i row (entries_of row counts) ≡ count_at i counts
listed_here i row [] = refl
listed_here i row (c ∷ cs) =
    let one = sum_by-cons (tiles_for i row) (entry_of row c) (entries_of row cs) in
    let two = sum_by-cons (tiles_at i) c cs in
    let here = for_counted i row c in
    let rest = listed_here i row cs in
    omega (arith, one, two, here, rest)

pub listed_else : (i j row : ℤ) (counts : List Counted) → (row ≡ j → ⊥) → listed i j (entries_of row counts) ≡ 0
listed_else i j row [] apart = refl
listed_else i j row (c ∷ cs) apart =
    let one = sum_by-cons (tiles_for i j) (entry_of row c) (entries_of row cs) in
    let here = for_other_row i j (entry_of row c) apart in
    let rest = listed_else i j row cs apart in
    omega (arith, one, here, rest)

-- their triangles
pub sum_here : (row : ℤ) (counts : List Counted) → sum_of (entries_of row counts) ≡ triangles_of counts
sum_here row [] = refl
sum_here row (c ∷ cs) =
    let one = sum_by-cons (λ (e : Entry). e.tiles) (entry_of row c) (entries_of row cs) in
    let two = sum_by-cons (λ (x : Counted). x.tiles) c cs in
    let rest = sum_here row cs in
    omega (arith, one, two, rest)

counts_tail : (c : Counted) (cs : List Counted) → AreCounts (c ∷ cs) → AreCounts cs
counts_tail c cs are = record {
  ascending = λ j k d less inside. are.ascending (suc j) (suc k) d (omega (arith, less)) (omega (arith, inside));
  above_zero = All-tail (λ (x : Counted). 0 < x.tiles) c cs are.above_zero;
}

pub ascending_here : (row : ℤ) (counts : List Counted) → AreCounts counts → AreAscending (entries_of row counts)
ascending_here row [] are = tt
ascending_here row (c ∷ cs) are = (
  All-map (IsBefore (entry_of row c)) (entry_of row) cs (λ k d inside. inr (refl, are.ascending 0 (suc k) d (omega arith) (omega (arith, inside)))),
  ascending_here row cs (counts_tail c cs are),
)

pub above_zero_here : (row : ℤ) (counts : List Counted) → AreCounts counts → All (λ (e : Entry). 0 < e.tiles) (entries_of row counts)
above_zero_here row counts are = All-map (λ (e : Entry). 0 < e.tiles) (entry_of row) counts are.above_zero

pub row_here : (row : ℤ) (counts : List Counted) → All (λ (e : Entry). e.row ≡ row) (entries_of row counts)
row_here row counts = All-map (λ (e : Entry). e.row ≡ row) (entry_of row) counts (λ k d inside. refl)

pub below_next : (row : ℤ) (es : List Entry) (counts : List Counted) → AreBelow row es → AreBelow (row +ℤ pos 1) (es ++ entries_of row counts)
below_next row es counts below =
    All-append (λ (e : Entry). e.row <ℤ (row +ℤ pos 1)) es (entries_of row counts)
    (λ k d inside. (let less = below k d inside in omega (arith, ints, less)))
    (λ k d inside. (let same = row_here row counts k d inside in omega (arith, ints, same)))

-- ---- one after another

before_all : (e : Entry) (row : ℤ) (ys : List Entry) → e.row <ℤ row → All (λ (y : Entry). y.row ≡ row) ys → All (IsBefore e) ys
before_all e row ys less same k d inside = let here = same k d inside in inl (omega (arith, ints, less, here))

pub ascending_both : (row : ℤ) (xs ys : List Entry) → AreAscending xs → AreAscending ys → AreBelow row xs
    → All (λ (y : Entry). y.row ≡ row) ys → AreAscending (xs ++ ys)
ascending_both row [] ys p q below same = q
ascending_both row (x ∷ xs) ys p q below same = (
  All-append (IsBefore x) xs ys p.0 (before_all x row ys (All-head (λ (e : Entry). e.row <ℤ row) x xs below) same),
  ascending_both row xs ys p.1 q (All-tail (λ (e : Entry). e.row <ℤ row) x xs below) same,
)
