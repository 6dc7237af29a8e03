-- The entries of an area: row of windows after row of windows, and that they add up.
use Rattle.std.proofs.Common.{ℕ, ◌+◌, ◌≤◌, ◌<◌, ◌≡◌, ◌⊎◌, inl, inr, ℤ, pos, ◌+ℤ◌, ◌*ℤ◌, ◌≤ℤ◌, ◌<ℤ◌, Bool, true, false}
use Rattle.std.proofs.Common.{List, [], ◌∷◌, ◌++◌, slice_index_or, arith, refl, sym, subst}
use Rattle.std.proofs.lemmas.Int.{ints, by_lt_z}
use Rattle.std.proofs.lemmas.List.Elements.{All-nil, All-head, All-tail, All-append}
use Rattle.std.proofs.lemmas.List.Sums.{sum_by-cons, count_by-le-length}
use Rattle.std.specs.List.{All}
use Rattle.std.specs.Ordering.{int_eq}
use Rattle.half_grid.specs.Reach.{IsTileWithinReach}
use Rattle.half_grid.specs.Sizes.{is_tile, IsNumberIn}
use Rattle.half_grid.specs.declared.plane.Tile.{Tile}
use Rattle.half_grid.proofs.ForCallers.{int_eq_true}
use Rattle.density_map.specs.declared.counts.Counted.{Counted}
use Rattle.density_map.specs.Counts.{AreCounts, count_at}
use Rattle.density_map.specs.Frames.{IsInFrame}
use Rattle.density_map.specs.Windows.{IsWindowSize, IsTakenInWindow, IsWindowCount, window}
use Rattle.density_map.proofs.ForCallers.{next_side, multiples, floor_of}
use Rattle.density_report.specs.declared.entries.Entry.{Entry}
use Rattle.density_report.specs.Tables.{IsBefore, AreAscending, AreEntries, tiles_for, listed}
use Rattle.density_report.specs.Rows.{IsBelow, entries_of, sum_of, AreRowCounts, HasNone}
use Rattle.density_report.proofs.NumberLemmas.{number_same, number_none, number_sum}
use Rattle.density_report.proofs.EntryLemmas.{listed_both, listed_own, AreBelow, listed_above, listed_here, listed_else}
use Rattle.density_report.proofs.EntryLemmas.{ascending_here, above_zero_here, row_here, ascending_both}

pub some_size : (size : ℤ) → IsWindowSize size → pos 0 <ℤ size
some_size size h = let low = h.low in omega (arith, ints, low)

-- ---- the entries, row by row

-- below the least row nothing is listed
pub no_entries : (area : Tile → Type 0) (size row : ℤ) → ((t : Tile) → area t → (row *ℤ size) ≤ℤ t.j) → AreEntries (IsBelow area size row) size []
no_entries area size row above = record {
  ascending = tt;
  above_zero = All-nil (λ (e : Entry). 0 < e.tiles);
  counts = λ i j. number_none (IsTakenInWindow (IsBelow area size row) size i j) (λ t h. (
      let up = above t h.taken.taken in
      let down = h.taken.below in
      omega (arith, ints, up, down)
      ));
}

-- where no tile is in a row above, they are those of the area
pub all_entries : (area : Tile → Type 0) (size row : ℤ) (entries : List Entry)
    → ((t : Tile) → area t → t.j <ℤ (row *ℤ size)) → AreEntries (IsBelow area size row) size entries
    → AreEntries area size entries
all_entries area size row entries below are = record {
  ascending = are.ascending;
  above_zero = are.above_zero;
  counts = λ i j. number_same (IsTakenInWindow (IsBelow area size row) size i j) (IsTakenInWindow area size i j) (listed i j entries)
      (λ t h. record { inside = h.inside; taken = h.taken.taken })
      (λ t h. record { inside = h.inside; taken = record { below = below t h.taken; taken = h.taken } })
      (are.counts i j);
}

-- the windows of a row below
low_window : (area : Tile → Type 0) (size row i j : ℤ) (n : ℕ) → IsWindowSize size → j <ℤ row
    → IsWindowCount (IsBelow area size row) size i j n → IsWindowCount (IsBelow area size (row +ℤ pos 1)) size i j n
low_window area size row i j n h less p =
    let up = multiples (j +ℤ pos 1) row size (some_size size h) (omega (arith, ints, less)) in
    let next = next_side row size in
    let low = h.low in
    number_same (IsTakenInWindow (IsBelow area size row) size i j) (IsTakenInWindow (IsBelow area size (row +ℤ pos 1)) size i j) n
    (λ t w. record { inside = w.inside; taken = record { below = (let b = w.taken.below in omega (arith, ints, b, next, low)); taken = w.taken.taken } })
    (λ t w. record { inside = w.inside; taken = record { below = (let b = w.inside.below_top in omega (arith, ints, b, up)); taken = w.taken.taken } })
    p

-- those of the row itself
own_window : (area : Tile → Type 0) (size row i : ℤ) (n : ℕ) → IsWindowCount area size i row n → IsWindowCount (IsBelow area size (row +ℤ pos 1)) size i row n
own_window area size row i n p =
    number_same (IsTakenInWindow area size i row) (IsTakenInWindow (IsBelow area size (row +ℤ pos 1)) size i row) n
    (λ t w. record { inside = w.inside; taken = record { below = w.inside.below_top; taken = w.taken } })
    (λ t w. record { inside = w.inside; taken = w.taken.taken })
    p

-- and those above, which have none
high_window : (area : Tile → Type 0) (size row i j : ℤ) → IsWindowSize size → row <ℤ j → IsWindowCount (IsBelow area size (row +ℤ pos 1)) size i j 0
high_window area size row i j h more =
    let up = multiples (row +ℤ pos 1) j size (some_size size h) (omega (arith, ints, more)) in
    number_none (IsTakenInWindow (IsBelow area size (row +ℤ pos 1)) size i j) (λ t w. (
    let a = w.inside.above_bottom in
    let b = w.taken.below in
    omega (arith, ints, a, b, up)
    ))

pub next_entries : (area : Tile → Type 0) (size row : ℤ) (entries : List Entry) (counts : List Counted)
    → IsWindowSize size → AreCounts counts → AreBelow row entries
    → AreEntries (IsBelow area size row) size entries → AreRowCounts area size row counts
    → AreEntries (IsBelow area size (row +ℤ pos 1)) size (entries ++ entries_of row counts)
next_entries area size row entries counts h ascending below are more = record {
  ascending = ascending_both row entries (entries_of row counts) are.ascending (ascending_here row counts ascending) below (row_here row counts);
  above_zero = All-append (λ (e : Entry). 0 < e.tiles) entries (entries_of row counts) are.above_zero (above_zero_here row counts ascending);
  counts = λ i j. by_lt_z j row
      (λ less. (
      let both = listed_both i j entries (entries_of row counts) in
      let else = listed_else i j row counts (λ e. omega (arith, ints, e, less)) in
      let same : listed i j entries ≡ listed i j (entries ++ entries_of row counts) = omega (arith, both, else) in
      subst (λ (n : ℕ). IsWindowCount (IsBelow area size (row +ℤ pos 1)) size i j n) same
      (low_window area size row i j (listed i j entries) h less (are.counts i j))
      ))
      (λ from. by_lt_z row j
      (λ less. (
      let both = listed_both i j entries (entries_of row counts) in
      let else = listed_else i j row counts (λ e. omega (arith, ints, e, less)) in
      let none = listed_above i j row entries below from in
      let same : 0 ≡ listed i j (entries ++ entries_of row counts) = omega (arith, both, else, none) in
      subst (λ (n : ℕ). IsWindowCount (IsBelow area size (row +ℤ pos 1)) size i j n) same (high_window area size row i j h less)
      ))
      (λ to. (
      let here : row ≡ j = omega (arith, ints, from, to) in
      let both = listed_both i row entries (entries_of row counts) in
      let all = listed_here i row counts in
      let none = listed_above i row row entries below (omega (arith, ints)) in
      let same : count_at i counts ≡ listed i row (entries ++ entries_of row counts) = omega (arith, both, all, none) in
      subst (λ (k : ℤ). IsWindowCount (IsBelow area size (row +ℤ pos 1)) size i k (listed i k (entries ++ entries_of row counts))) here
      (subst (λ (n : ℕ). IsWindowCount (IsBelow area size (row +ℤ pos 1)) size i row n) same (own_window area size row i (count_at i counts) (more.each i)))
      )));
}

-- below a row of windows the counts are those of the whole area, and from there on there are none
pub low_count : (area : Tile → Type 0) (size row i j : ℤ) (n : ℕ) → IsWindowSize size → j <ℤ row
    → IsWindowCount (IsBelow area size row) size i j n → IsWindowCount area size i j n
low_count area size row i j n h less p =
    let up = multiples (j +ℤ pos 1) row size (some_size size h) (omega (arith, ints, less)) in
    number_same (IsTakenInWindow (IsBelow area size row) size i j) (IsTakenInWindow area size i j) n
    (λ t w. record { inside = w.inside; taken = w.taken.taken })
    (λ t w. record { inside = w.inside; taken = record { below = (let b = w.inside.below_top in omega (arith, ints, b, up)); taken = w.taken } })
    p

pub high_count : (area : Tile → Type 0) (size row i j : ℤ) → IsWindowSize size → row ≤ℤ j → IsWindowCount (IsBelow area size row) size i j 0
high_count area size row i j h more =
    let up = multiples row j size (some_size size h) more in
    number_none (IsTakenInWindow (IsBelow area size row) size i j) (λ t w. (
    let a = w.inside.above_bottom in
    let b = w.taken.below in
    omega (arith, ints, a, b, up)
    ))

-- the tiles of the area below the next row are within reach where those below this one are
pub next_within : (area : Tile → Type 0) (size row : ℤ) (counts : List Counted)
    → ((t : Tile) → IsBelow area size row t → IsTileWithinReach t) → AreRowCounts area size row counts
    → (t : Tile) → IsBelow area size (row +ℤ pos 1) t → IsTileWithinReach t
next_within area size row counts within more t b =
    by_lt_z t.j (row *ℤ size)
    (λ less. within t (record { below = less; taken = b.taken }))
    (λ from. more.within t b.taken from b.below)

-- where the area has nothing in some rows of windows, what is below them is what is below the next one
pub passed_below : (area : Tile → Type 0) (size row up : ℤ) → HasNone area size row up → (t : Tile) → IsBelow area size up t → IsBelow area size row t
passed_below area size row up none t b =
    by_lt_z t.j (row *ℤ size)
    (λ less. record { below = less; taken = b.taken })
    (λ from. absurd (none t b.taken from b.below))

pub passed_entries : (area : Tile → Type 0) (size row up : ℤ) (entries : List Entry) → IsWindowSize size → row ≤ℤ up
    → HasNone area size row up → AreEntries (IsBelow area size row) size entries
    → AreEntries (IsBelow area size up) size entries
passed_entries area size row up entries h more none are =
    let rise = multiples row up size (some_size size h) more in
    record {
      ascending = are.ascending;
      above_zero = are.above_zero;
      counts = λ i j. number_same (IsTakenInWindow (IsBelow area size row) size i j) (IsTakenInWindow (IsBelow area size up) size i j) (listed i j entries)
          (λ t w. record { inside = w.inside; taken = record { below = (let b = w.taken.below in omega (arith, ints, b, rise)); taken = w.taken.taken } })
          (λ t w. record { inside = w.inside; taken = passed_below area size row up none t w.taken })
          (are.counts i j);
    }

-- ---- their sum

-- the tile is in the window of one of the entries
abbrev IsInOne : ℤ → List Entry → Tile → Type 0
IsInOne size [] t = ⊥
IsInOne size (e ∷ es) t = IsInFrame (window size e.column e.row) t ⊎ IsInOne size es t

-- two windows share no tile
windows_apart : (size : ℤ) (a b : Entry) (t : Tile) → pos 0 <ℤ size → IsBefore a b
    → IsInFrame (window size a.column a.row) t → IsInFrame (window size b.column b.row) t → ⊥
windows_apart size a b t some (inl less) p q =
    let up = multiples (a.row +ℤ pos 1) b.row size some (omega (arith, ints, less)) in
    let high = p.below_top in
    let low = q.above_bottom in
    omega (arith, ints, up, high, low)
windows_apart size a b t some (inr (same, less)) p q =
    let up = multiples (a.column +ℤ pos 1) b.column size some (omega (arith, ints, less)) in
    let high = p.below_right in
    let low = q.from_left in
    omega (arith, ints, up, high, low)

apart_of_all : (size : ℤ) (a : Entry) (es : List Entry) (t : Tile) → pos 0 <ℤ size → All (IsBefore a) es
    → IsInFrame (window size a.column a.row) t → IsInOne size es t → ⊥
apart_of_all size a [] t some before p q = q
apart_of_all size a (e ∷ es) t some before p (inl q) = windows_apart size a e t some (All-head (IsBefore a) e es before) p q
apart_of_all size a (e ∷ es) t some before p (inr q) = apart_of_all size a es t some (All-tail (IsBefore a) e es before) p q

-- the tiles of an area that are in one of the windows
pub record IsInOneOf (area : Tile → Type 0) (size : ℤ) (es : List Entry) (t : Tile) : Type 0 where
  pub taken : area t
  pub inside : IsInOne size es t

abbrev pub HaveCounts : (Tile → Type 0) → ℤ → List Entry → Type 0
HaveCounts area size es = All (λ (e : Entry). IsWindowCount area size e.column e.row e.tiles) es

numbers : (area : Tile → Type 0) (size : ℤ) (es : List Entry) → pos 0 <ℤ size → AreAscending es
    → HaveCounts area size es → IsNumberIn (IsInOneOf area size es) (sum_of es)
numbers area size [] some ascending have = number_none (IsInOneOf area size []) (λ t h. h.inside)
numbers area size (e ∷ es) some ascending have =
    let here = All-head (λ (x : Entry). IsWindowCount area size x.column x.row x.tiles) e es have in
    let rest = numbers area size es some ascending.1 (All-tail (λ (x : Entry). IsWindowCount area size x.column x.row x.tiles) e es have) in
    let both = number_sum (IsTakenInWindow area size e.column e.row) (IsInOneOf area size es) e.tiles (sum_of es)
    (λ t p q. apart_of_all size e es t some ascending.0 p.inside q.inside) here rest in
    subst (λ (n : ℕ). IsNumberIn (IsInOneOf area size (e ∷ es)) n) (sym (sum_by-cons (λ (x : Entry). x.tiles) e es))
    (number_same (λ t. IsTakenInWindow area size e.column e.row t ⊎ IsInOneOf area size es t) (IsInOneOf area size (e ∷ es))
    (e.tiles + sum_of es) (λ t h. to t h) (λ t h. from t h.taken h.inside) both)
  where
    to : (t : Tile) → IsTakenInWindow area size e.column e.row t ⊎ IsInOneOf area size es t → IsInOneOf area size (e ∷ es) t
    to t (inl p) = record { taken = p.taken; inside = inl p.inside }
    to t (inr q) = record { taken = q.taken; inside = inr q.inside }

    from : (t : Tile) → area t → IsInOne size (e ∷ es) t → IsTakenInWindow area size e.column e.row t ⊎ IsInOneOf area size es t
    from t taken (inl p) = inl (record { inside = p; taken = taken })
    from t taken (inr q) = inr (record { taken = taken; inside = q })

-- a window for which something is listed is one of them
is_this_one : (size i j : ℤ) (e : Entry) (es : List Entry) (t : Tile) (b c : Bool) → int_eq e.row j ≡ b → int_eq e.column i ≡ c → IsInFrame (window size i j) t
    → (tiles_for i j e ≡ 0 → IsInOne size es t) → IsInOne size (e ∷ es) t
is_this_one size i j e es t true true p q inside rest =
    inl (subst (λ (k : ℤ). IsInFrame (window size k e.row) t) (sym (int_eq_true e.column i q))
    (subst (λ (k : ℤ). IsInFrame (window size i k) t) (sym (int_eq_true e.row j p)) inside))
is_this_one size i j e es t true false p q inside rest = inr (rest (rw (p, q) refl))
is_this_one size i j e es t false c p q inside rest = inr (rest (rw p refl))

is_in_one : (size i j : ℤ) (es : List Entry) (t : Tile) → IsInFrame (window size i j) t → 1 ≤ listed i j es → IsInOne size es t
is_in_one size i j [] t inside some = absurd (omega (arith, some))
is_in_one size i j (e ∷ es) t inside some =
    is_this_one size i j e es t (int_eq e.row j) (int_eq e.column i) refl refl inside
    (λ none. is_in_one size i j es t inside (let one = sum_by-cons (tiles_for i j) e es in omega (arith, one, none, some)))

-- all counts are those of windows
pub have_counts : (area : Tile → Type 0) (size : ℤ) (es : List Entry) → AreEntries area size es → HaveCounts area size es
have_counts area size es are k d inside =
    let e = slice_index_or es k d in
    subst (λ (n : ℕ). IsWindowCount area size e.column e.row n) (listed_own es are.ascending k d inside) (are.counts e.column e.row)

-- each tile of the area is in one of the windows
each_in_one : (area : Tile → Type 0) (size : ℤ) (es : List Entry) (t : Tile) → IsWindowSize size → AreEntries area size es → area t → IsInOne size es t
each_in_one area size es t h are taken =
    let i = floor_of size t.i (some_size size h) in
    let j = floor_of size t.j (some_size size h) in
    let inside : IsInFrame (window size i.0 j.0) t = record { from_left = i.1; below_right = i.2; above_bottom = j.1; below_top = j.2 } in
    let p = are.counts i.0 j.0 in
    let once = p.once t (record { inside = inside; taken = taken }) in
    let few = count_by-le-length (is_tile t) p.tiles in
    is_in_one size i.0 j.0 es t inside (omega (arith, once, few, p.count))

-- the counts of an area's entries add up to the number of its tiles
pub total : (area : Tile → Type 0) (size : ℤ) (es : List Entry) → IsWindowSize size → AreEntries area size es → IsNumberIn area (sum_of es)
total area size es h are =
    number_same (IsInOneOf area size es) area (sum_of es) (λ t p. p.taken)
    (λ t taken. record { taken = taken; inside = each_in_one area size es t h are taken })
    (numbers area size es (some_size size h) are.ascending (have_counts area size es are))
