-- An area that has a joined list has a density table.
use Rattle.std.proofs.Common.{ℕ, zero, suc, ◌+◌, ◌≤◌, ◌<◌, ◌^◌, ◌≡◌, ℤ, pos, neg_ℤ, ◌+ℤ◌, ◌*ℤ◌, ◌≤ℤ◌, ◌<ℤ◌, Bool, true, false}
use Rattle.std.proofs.Common.{nat_lt, List, [], ◌∷◌, ◌++◌, length, Option, Some, None, arith, refl, sym, ap, subst, ◌∙◌}
use Rattle.std.proofs.lemmas.Int.{ints, by_lt_z}
use Rattle.std.proofs.lemmas.Bool.Decides.{nat_tests}
use Rattle.std.proofs.lemmas.List.Elements.{All-nil, All-cons, All-weaker}
use Rattle.std.proofs.lemmas.List.Sums.{sum_by-cons}
use Rattle.std.specs.Int.{int_gap}
use Rattle.std.specs.List.{All}
use Rattle.half_grid.specs.Reach.{IsTileWithinReach}
use Rattle.half_grid.specs.Trapezoids.{Trapezoid}
use Rattle.half_grid.specs.Windows.{RowRange}
use Rattle.half_grid.specs.declared.plane.Tile.{Tile}
use Rattle.half_grid.proofs.ForCallers.{int_eq_same, int_eq_other}
use Rattle.bool_ops.specs.Operations.{IsInRows}
use Rattle.density_map.specs.declared.counts.Counted.{Counted}
use Rattle.density_map.specs.Counts.{AreCounts, column_of, count_at, tiles_at}
use Rattle.density_map.specs.Windows.{IsWindowSize, IsTakenInWindow, IsWindowCount, window_sum}
use Rattle.density_map.proofs.ForCallers.{sum_is_count, next_side, multiples, less_by_multiples, floor_of, gap_is}
use Rattle.deck_plan.specs.Bands.{AreRowsNear}
use Rattle.deck_plan.specs.Needs.{IsBand}
use Rattle.deck_plan.specs.Plans.{Planned, IsBandOf, planned_area}
use Rattle.density_report.specs.declared.entries.Entry.{Entry}
use Rattle.density_report.specs.declared.strips.Batch.{Batch}
use Rattle.density_report.specs.Tables.{Table, AreEntries, IsMost, IsDensityTable}
use Rattle.density_report.specs.Rows.{IsBelow, rows_of, entries_of, sum_of, AreRowCounts, AreTrapsOf, HasRows}
use Rattle.density_report.proofs.NumberLemmas.{number_none}
use Rattle.density_report.proofs.EntryLemmas.{AreBelow, below_next}
use Rattle.density_report.proofs.BoundLemmas.{none_more}
use Rattle.density_report.proofs.RowSteps.{traps_apart, some_within}
use Rattle.density_report.proofs.TableLemmas.{some_size, no_entries, next_entries, all_entries, total}

-- ---- counts, column by column

-- a count stands before those of the columns right of it, where it is above 0
put : ℤ → ℕ → List Counted → List Counted
put i zero rest = rest
put i (suc n) rest = record { column = i; tiles = suc n } ∷ rest

-- the counts of n columns from the column i on
columns : (ℤ → ℕ) → ℤ → ℕ → List Counted
columns f i zero = []
columns f i (suc n) = put i (f i) (columns f (i +ℤ pos 1) n)

put_from : (low i : ℤ) (n : ℕ) (rest : List Counted) → low ≤ℤ i → All (λ (c : Counted). low ≤ℤ c.column) rest
    → All (λ (c : Counted). low ≤ℤ c.column) (put i n rest)
unfolding put
put_from low i zero rest up h = h
put_from low i (suc n) rest up h = All-cons (λ (c : Counted). low ≤ℤ c.column) (record { column = i; tiles = suc n }) rest up h

columns_from : (f : ℤ → ℕ) (low i : ℤ) (n : ℕ) → low ≤ℤ i → All (λ (c : Counted). low ≤ℤ c.column) (columns f i n)
unfolding columns
columns_from f low i zero up = All-nil (λ (c : Counted). low ≤ℤ c.column)
columns_from f low i (suc n) up =
    put_from low i (f i) (columns f (i +ℤ pos 1) n) up (columns_from f low (i +ℤ pos 1) n (omega (arith, ints, up)))

ascending_more : (c : Counted) (cs : List Counted) → All (λ (x : Counted). c.column <ℤ x.column) cs → AreCounts cs
    → (j k : ℕ) (d : Counted) → j < k → k < length (c ∷ cs) → column_of (c ∷ cs) j d <ℤ column_of (c ∷ cs) k d
ascending_more c cs first are j zero d less inside = absurd (omega (arith, less))
ascending_more c cs first are zero (suc k) d less inside = first k d (omega (arith, inside))
ascending_more c cs first are (suc j) (suc k) d less inside = are.ascending j k d (omega (arith, less)) (omega (arith, inside))

put_counts : (i : ℤ) (n : ℕ) (rest : List Counted) → All (λ (x : Counted). i <ℤ x.column) rest → AreCounts rest → AreCounts (put i n rest)
unfolding put
put_counts i zero rest first are = are
put_counts i (suc n) rest first are = record {
  ascending = ascending_more (record { column = i; tiles = suc n }) rest first are;
  above_zero = All-cons (λ (c : Counted). 0 < c.tiles) (record { column = i; tiles = suc n }) rest (omega arith) are.above_zero;
}

no_columns : AreCounts []
no_columns = record { ascending = λ j k d less inside. absurd (omega (arith, inside)); above_zero = All-nil (λ (c : Counted). 0 < c.tiles) }

columns_counts : (f : ℤ → ℕ) (i : ℤ) (n : ℕ) → AreCounts (columns f i n)
unfolding columns
columns_counts f i zero = no_columns
columns_counts f i (suc n) =
    put_counts i (f i) (columns f (i +ℤ pos 1) n)
    (All-weaker (λ (c : Counted). (i +ℤ pos 1) ≤ℤ c.column) (λ (c : Counted). i <ℤ c.column) (λ c up. omega (arith, ints, up))
    (columns f (i +ℤ pos 1) n) (columns_from f (i +ℤ pos 1) (i +ℤ pos 1) n (omega (arith, ints))))
    (columns_counts f (i +ℤ pos 1) n)

-- ---- the count of a column

put_other : (j i : ℤ) (n : ℕ) (rest : List Counted) → (i ≡ j → ⊥) → count_at j (put i n rest) ≡ count_at j rest
unfolding put
put_other j i zero rest apart = refl
put_other j i (suc n) rest apart =
    let c : Counted = record { column = i; tiles = suc n } in
    let one = sum_by-cons (tiles_at j) c rest in
    let none : tiles_at j c ≡ 0 = rw (int_eq_other i j apart) refl in
    omega (arith, one, none)

put_own : (i : ℤ) (n : ℕ) (rest : List Counted) → count_at i (put i n rest) ≡ n + count_at i rest
unfolding put
put_own i zero rest = omega arith
put_own i (suc n) rest =
    let c : Counted = record { column = i; tiles = suc n } in
    let one = sum_by-cons (tiles_at i) c rest in
    let own : tiles_at i c ≡ suc n = rw (int_eq_same i i refl) refl in
    omega (arith, one, own)

left_of : (f : ℤ → ℕ) (j i : ℤ) (n : ℕ) → j <ℤ i → count_at j (columns f i n) ≡ 0
unfolding columns
left_of f j i zero less = refl
left_of f j i (suc n) less =
    put_other j i (f i) (columns f (i +ℤ pos 1) n) (λ e. omega (arith, ints, e, less)) ∙ left_of f j (i +ℤ pos 1) n (omega (arith, ints, less))

right_of : (f : ℤ → ℕ) (j i : ℤ) (n : ℕ) → (i +ℤ pos n) ≤ℤ j → count_at j (columns f i n) ≡ 0
unfolding columns
right_of f j i zero up = refl
right_of f j i (suc n) up =
    put_other j i (f i) (columns f (i +ℤ pos 1) n) (λ e. omega (arith, ints, e, up)) ∙ right_of f j (i +ℤ pos 1) n (omega (arith, ints, up))

among : (f : ℤ → ℕ) (j i : ℤ) (n : ℕ) → i ≤ℤ j → j <ℤ (i +ℤ pos n) → count_at j (columns f i n) ≡ f j
unfolding columns
among f j i zero up less = absurd (omega (arith, ints, up, less))
among f j i (suc n) up less =
    by_lt_z i j
    (λ more. put_other j i (f i) (columns f (i +ℤ pos 1) n) (λ e. omega (arith, ints, e, more))
    ∙ among f j (i +ℤ pos 1) n (omega (arith, ints, more)) (omega (arith, ints, less)))
    (λ down. (
    let same : i ≡ j = omega (arith, ints, up, down) in
    let own = put_own i (f i) (columns f (i +ℤ pos 1) n) in
    let none = left_of f i (i +ℤ pos 1) n (omega (arith, ints)) in
    let here : count_at i (put i (f i) (columns f (i +ℤ pos 1) n)) ≡ f i = omega (arith, own, none) in
    subst (λ (k : ℤ). count_at k (put i (f i) (columns f (i +ℤ pos 1) n)) ≡ f k) same here
    ))

-- ---- a row of windows has counts

pub record HasCounts (area : Tile → Type 0) (size row : ℤ) : Type 0 where
  pub counts : List Counted
  pub ordered : AreCounts counts
  pub are : AreRowCounts area size row counts

-- the columns of windows that have all that is within reach
record Columns (size : ℤ) : Type 0 where
  first : ℤ
  count : ℕ
  low : (first *ℤ size) ≤ℤ neg_ℤ (pos (2 ^ 44))
  high : pos (2 ^ 44) <ℤ ((first +ℤ pos count) *ℤ size)

all_columns : (size : ℤ) → IsWindowSize size → Columns size
all_columns size h =
    let some = some_size size h in
    let a = floor_of size (neg_ℤ (pos (2 ^ 44))) some in
    let b = floor_of size (pos (2 ^ 44)) some in
    let below = b.2 in
    let from = a.1 in
    let up = less_by_multiples a.0 (b.0 +ℤ pos 1) size some (omega (arith, ints, from, below)) in
    let gap = gap_is a.0 (b.0 +ℤ pos 1) (omega (arith, ints, up)) in
    record {
      first = a.0;
      count = int_gap a.0 (b.0 +ℤ pos 1);
      low = a.1;
      high = subst (λ (k : ℤ). pos (2 ^ 44) <ℤ (k *ℤ size)) (sym gap) below;
    }

-- what trapezoids have in a window of a row, by its column
abbrev in_row : ℤ → ℤ → List Trapezoid → ℤ → ℕ
in_row size row traps i = window_sum size i row traps

some_counts : (p : Planned) (k : ℕ) (batch : Batch) (size row : ℤ) (traps : List Trapezoid) → IsWindowSize size → AreTrapsOf p k batch traps
    → ((t : Tile) → (row *ℤ size) ≤ℤ t.j → t.j <ℤ ((row +ℤ pos 1) *ℤ size) → IsInRows (rows_of batch) t)
    → HasCounts (planned_area p k) size row
some_counts p k batch size row traps h of inside =
    let all = all_columns size h in
    record {
      counts = columns (in_row size row traps) all.first all.count;
      ordered = columns_counts (in_row size row traps) all.first all.count;
      are = record { each = λ i. each i; within = within };
    }
  where
    within : (t : Tile) → planned_area p k t → (row *ℤ size) ≤ℤ t.j → t.j <ℤ ((row +ℤ pos 1) *ℤ size) → IsTileWithinReach t
    within t a low high = some_within t traps of.shots
        (let one = of.joined.covers.once t (record { rows = inside t low high; area = a }) in omega (arith, one))

    own : (i : ℤ) → IsWindowCount (planned_area p k) size i row (in_row size row traps i)
    own i =
        sum_is_count (planned_area p k) size i row traps (traps_apart p k (rows_of batch) traps of.joined)
        (λ t w. (
          λ a. of.joined.covers.once t (record { rows = inside t w.above_bottom w.below_top; area = a }),
          λ out. of.joined.covers.never t (λ g. out g.area),
        ))

    none : (i : ℤ) → ((t : Tile) → IsTakenInWindow (planned_area p k) size i row t → ⊥) → (n : ℕ) → n ≡ 0 → IsWindowCount (planned_area p k) size i row n
    none i out n e = subst (λ (m : ℕ). IsWindowCount (planned_area p k) size i row m) (sym e) (number_none (IsTakenInWindow (planned_area p k) size i row) out)

    each : (i : ℤ) → IsWindowCount (planned_area p k) size i row (count_at i (columns (in_row size row traps) (all_columns size h).first (all_columns size h).count))
    each i =
        let all = all_columns size h in
        by_lt_z i all.first
        (λ less. none i (λ t w. (
        let up = multiples (i +ℤ pos 1) all.first size (some_size size h) (omega (arith, ints, less)) in
        let reach = (within t w.taken w.inside.above_bottom w.inside.below_top).column.low in
        let side = w.inside.below_right in
        let low = all.low in
        omega (arith, ints, up, reach, side, low)
        )) (count_at i (columns (in_row size row traps) all.first all.count)) (left_of (in_row size row traps) i all.first all.count less))
        (λ from. by_lt_z i (all.first +ℤ pos all.count)
        (λ less. subst (λ (n : ℕ). IsWindowCount (planned_area p k) size i row n) (sym (among (in_row size row traps) i all.first all.count from less)) (own i))
        (λ past. none i (λ t w. (
        let up = multiples (all.first +ℤ pos all.count) i size (some_size size h) past in
        let reach = (within t w.taken w.inside.above_bottom w.inside.below_top).column.high in
        let side = w.inside.from_left in
        let high = all.high in
        omega (arith, ints, up, reach, side, high)
        )) (count_at i (columns (in_row size row traps) all.first all.count)) (right_of (in_row size row traps) i all.first all.count past)))

-- ---- the entries of some rows of windows

record Grid (area : Tile → Type 0) (size row : ℤ) : Type 0 where
  entries : List Entry
  are : AreEntries (IsBelow area size row) size entries
  below : AreBelow row entries

grid : (area : Tile → Type 0) (size row : ℤ) (n : ℕ) → IsWindowSize size → ((t : Tile) → area t → (row *ℤ size) ≤ℤ t.j)
    → ((k : ℤ) → row ≤ℤ k → k <ℤ (row +ℤ pos n) → HasCounts area size k) → Grid area size (row +ℤ pos n)
grid area size row zero h above has =
    let same : row ≡ row +ℤ pos 0 = omega (arith, ints) in
    subst (λ (r : ℤ). Grid area size r) same
    (record { entries = []; are = no_entries area size row above; below = All-nil (λ (e : Entry). e.row <ℤ row) })
grid area size row (suc n) h above has =
    let g = grid area size row n h above (λ k up less. has k up (omega (arith, ints, less))) in
    let own = has (row +ℤ pos n) (omega (arith, ints)) (omega (arith, ints)) in
    let same : (row +ℤ pos n) +ℤ pos 1 ≡ row +ℤ pos (suc n) = omega (arith, ints) in
    subst (λ (r : ℤ). Grid area size r) same
    (record {
      entries = g.entries ++ entries_of (row +ℤ pos n) own.counts;
      are = next_entries area size (row +ℤ pos n) g.entries own.counts h own.ordered g.below g.are own.are;
      below = below_next (row +ℤ pos n) g.entries own.counts g.below;
    })

-- ---- the first that has the most

more_most : (e : Entry) (es : List Entry) (most : Option Entry) → IsMost es most → (o : Option Entry) × IsMost (e ∷ es) o
more_most e es None none = (
  Some e,
  record {
    before = [];
    after = es;
    here = refl;
    less = All-nil (λ (x : Entry). x.tiles < e.tiles);
    no_greater = subst (λ (l : List Entry). All (λ (x : Entry). x.tiles ≤ e.tiles) l) (sym none) (All-nil (λ (x : Entry). x.tiles ≤ e.tiles));
  },
)
more_most e es (Some g) first = by (nat_lt e.tiles g.tiles) refl
  where
    by : (b : Bool) → nat_lt e.tiles g.tiles ≡ b → (o : Option Entry) × IsMost (e ∷ es) o
    by true t = (
      Some g,
      record {
        before = e ∷ first.before;
        after = first.after;
        here = ap (λ (l : List Entry). e ∷ l) first.here;
        less = All-cons (λ (x : Entry). x.tiles < g.tiles) e first.before (grind (arith, nat_tests)) first.less;
        no_greater = first.no_greater;
      },
    )
    by false t = (
      Some e,
      record {
        before = [];
        after = es;
        here = refl;
        less = All-nil (λ (x : Entry). x.tiles < e.tiles);
        no_greater = (
            let most : g.tiles ≤ e.tiles = grind (arith, nat_tests) in
            All-weaker (λ (x : Entry). x.tiles ≤ g.tiles) (λ (x : Entry). x.tiles ≤ e.tiles) (λ x few. omega (arith, few, most)) es
            (none_more es g first)
            );
      },
    )

some_most : (es : List Entry) → (o : Option Entry) × IsMost es o
some_most [] = (None, refl)
some_most (e ∷ es) = let rest = some_most es in more_most e es rest.0 rest.1

-- ---- the table

table_of : (area : Tile → Type 0) (size : ℤ) (entries : List Entry) → IsWindowSize size → AreEntries area size entries
    → (table : Table) × IsDensityTable area size table
table_of area size entries h are =
    let most = some_most entries in (
      record { entries = entries; most = most.0; triangles = sum_of entries },
      record { entries = are; most = most.1; triangles = total area size entries h are },
    )

-- an output whose area has a joined list in each band within reach, and whose rows are these
pub has_table : (p : Planned) (k : ℕ) (size : ℤ) (rows : RowRange) → IsWindowSize size → AreRowsNear rows → HasRows p k rows
    → ((band : RowRange) → IsBand band → (traps : List Trapezoid) × IsBandOf p k band traps)
    → (table : Table) × IsDensityTable (planned_area p k) size table
has_table p k size rows h near outside lists =
    let some = some_size size h in
    let a = floor_of size rows.y0 some in
    let b = floor_of size rows.y1 some in
    let row = a.0 in
    let end = b.0 +ℤ pos 1 in
    let batch : Batch = record { mesh = record { size = size }; row = row; end = end } in
    let from = a.1 in
    let not_before = a.2 in
    let up_to = b.1 in
    let past = b.2 in
    let window = near.window in
    let low = near.low in
    let high = near.high in
    let wide = h.high in
    let next = next_side row size in
    let last = next_side b.0 size in
    let is_band : IsBand (rows_of batch) =
    record {
      low = record { low = omega (arith, ints, low, not_before, next, wide); high = omega (arith, ints, from, window, high) };
      high = record { low = omega (arith, ints, past, window, low); high = omega (arith, ints, up_to, high, last, wide) };
      has_rows = omega (arith, ints, from, window, past);
    } in
    let list = lists (rows_of batch) is_band in
    let of : AreTrapsOf p k batch list.0 = record { joined = list.1.joined; shots = list.1.shots } in
    let up = less_by_multiples row end size some (omega (arith, ints, from, window, past)) in
    let gap = gap_is row end (omega (arith, ints, up)) in
    let g = grid (planned_area p k) size row (int_gap row end) h (λ t taken. (let own = (outside t taken).from in omega (arith, ints, own, from)))
    (λ r more less. some_counts p k batch size r list.0 h of (λ t bottom top. (
    let one = multiples row r size some more in
    let other = multiples (r +ℤ pos 1) end size some (omega (arith, ints, less, gap)) in
    record { from = omega (arith, ints, one, bottom); below = omega (arith, ints, other, top) }
    ))) in
    table_of (planned_area p k) size g.entries h
    (all_entries (planned_area p k) size end g.entries (λ t taken. (let own = (outside t taken).below in omega (arith, ints, own, past)))
    (subst (λ (r : ℤ). AreEntries (IsBelow (planned_area p k) size r) size g.entries) gap g.are))
