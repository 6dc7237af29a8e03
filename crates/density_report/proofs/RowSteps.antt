-- What is put for an output, row of windows after row of windows.
use Rattle.std.proofs.Common.{ℕ, ◌+◌, ◌^◌, ◌≤◌, ◌<◌, ◌≡◌, ℤ, pos, ◌+ℤ◌, ◌*ℤ◌, ◌≤ℤ◌, ◌<ℤ◌, Bool, true, false, List, []}
use Rattle.std.proofs.Common.{◌∷◌, ◌++◌, flat_map, take, IsTrue, arith, refl, sym, ap, subst, ◌∙◌, append_assoc}
use Rattle.std.proofs.lemmas.Int.{ints}
use Rattle.std.proofs.lemmas.List.{append-nil}
use Rattle.std.proofs.lemmas.Grind.{flat_map-append}
use Rattle.std.proofs.lemmas.List.Elements.{All-nil, All-head, All-tail, All-weaker}
use Rattle.std.proofs.lemmas.List.Folds.{flat_map-map}
use Rattle.std.proofs.lemmas.List.Sums.{sum_by-append, sum_by-take-le}
use Rattle.std.specs.List.{All}
use Rattle.half_grid.specs.Reach.{IsTileWithinReach}
use Rattle.half_grid.specs.Trapezoids.{Trapezoid, IsShot, count_in, trapezoid_has}
use Rattle.half_grid.specs.Windows.{RowRange}
use Rattle.half_grid.specs.Winding.{count_one}
use Rattle.half_grid.specs.declared.plane.Tile.{Tile}
use Rattle.half_grid.proofs.ForCallers.{tile_of_shot_within, has_in, count_by-cons}
use Rattle.depot.specs.Content.{Content, IsPartSaid}
use Rattle.bool_ops.specs.Operations.{IsInRows, IsJoinedOf}
use Rattle.density_map.specs.declared.counts.Counted.{Counted}
use Rattle.density_map.specs.Counts.{AreCounts, count_at}
use Rattle.density_map.specs.Rows.{RowMap, AreApart, IsMapOf}
use Rattle.density_map.specs.Windows.{IsWindowSize, IsWindowCount, window_sum}
use Rattle.density_map.proofs.ForCallers.{sum_is_count}
use Rattle.deck_plan.specs.Areas.{IsInBand}
use Rattle.deck_plan.specs.Plans.{Planned, planned_area}
use Rattle.depot.specs.Printing.{IsSaidButFor}
use Rattle.depot.proofs.ForCallers.{hold_more, part_held, said_then}
use Rattle.density_report.specs.declared.entries.Entry.{Entry}
use Rattle.density_report.specs.declared.entries.Totals.{Totals}
use Rattle.density_report.specs.Tables.{AreEntries}
use Rattle.density_report.specs.Texts.{entry_line}
use Rattle.density_report.specs.declared.strips.Batch.{Batch}
use Rattle.density_report.specs.Rows.{IsBelow, rows_of, entry_of, entries_of, counted_line, triangles_of, sum_of, AreTotals}
use Rattle.density_report.specs.Rows.{AreRowCounts, AreRowsPut, AreRowsCut, AreTrapsOf, HasNone}
use Rattle.density_report.proofs.NumberLemmas.{either_way, number_few}
use Rattle.density_report.proofs.EntryLemmas.{AreBelow, below_next, sum_here}
use Rattle.density_report.proofs.TableLemmas.{no_entries, next_entries, all_entries, next_within, passed_entries, passed_below, total}
use Rattle.density_report.proofs.TextLemmas.{part_said}

-- ---- the counts of one row of windows

pub traps_apart : (p : Planned) (k : ℕ) (band : RowRange) (traps : List Trapezoid)
    → IsJoinedOf band (IsInBand p.cells p.top p.deck k band) traps → AreApart traps
traps_apart p k band traps joined t =
    either_way (IsInBand p.cells p.top p.deck k band t) (count_in traps t) 1
    (λ h. (let one = joined.covers.once t h in omega (arith, one)))
    (λ out. (let none = joined.covers.never t out in omega (arith, none)))

-- the first of them share none either
pub first_apart : (traps : List Trapezoid) (n : ℕ) → AreApart traps → AreApart (take n traps)
first_apart traps n h t =
    let less : count_in (take n traps) t ≤ count_in traps t = sum_by-take-le _ traps n in
    let one = h t in
    omega (arith, less, one)

-- a tile that is in some shot is within reach
within_by : (t : Tile) (z : Trapezoid) (b : Bool) → trapezoid_has t z ≡ b → IsShot z
    → (count_one (trapezoid_has t z) ≡ 0 → IsTileWithinReach t) → IsTileWithinReach t
within_by t z true e shot rest = tile_of_shot_within z t shot (has_in t z e)
within_by t z false e shot rest = rest (ap count_one e)

pub some_within : (t : Tile) (traps : List Trapezoid) → All IsShot traps → 1 ≤ count_in traps t → IsTileWithinReach t
some_within t [] shots some = absurd (omega (arith, some))
some_within t (z ∷ traps) shots some =
    within_by t z (trapezoid_has t z) refl (All-head IsShot z traps shots)
    (λ none. some_within t traps (All-tail IsShot z traps shots) (let one = count_by-cons (trapezoid_has t) z traps in omega (arith, one, none, some)))

-- the counts of one row of windows of some, by trapezoids that have the area in all of them
pub row_counts : (p : Planned) (k : ℕ) (batch : Batch) (size row : ℤ) (traps : List Trapezoid) (m : RowMap) → AreTrapsOf p k batch traps
    → ((t : Tile) → (row *ℤ size) ≤ℤ t.j → t.j <ℤ ((row +ℤ pos 1) *ℤ size) → IsInRows (rows_of batch) t) → m.size ≡ size → m.row ≡ row → IsMapOf m traps
    → AreRowCounts (planned_area p k) size row m.counts
row_counts p k batch size row traps m of inside e f mapped = record {
  each = λ i. subst (λ (n : ℕ). IsWindowCount (planned_area p k) size i row n) (same size row e f i)
      (sum_is_count (planned_area p k) size i row traps (traps_apart p k (rows_of batch) traps of.joined)
      (λ t within. (
        λ a. of.joined.covers.once t (record { rows = inside t within.above_bottom within.below_top; area = a }),
        λ out. of.joined.covers.never t (λ h. out h.area),
      )));
  within = λ t a low high. some_within t traps of.shots
      (let one = of.joined.covers.once t (record { rows = inside t low high; area = a }) in omega (arith, one));
}
  where
    same : (size row : ℤ) → m.size ≡ size → m.row ≡ row → (i : ℤ) → window_sum size i row traps ≡ count_at i m.counts
    same size row e f i = sym (mapped i ∙ rw (e, f) refl)

-- ---- rows of windows, one after another

-- the entries of the rows of windows below this one were put, and the totals are theirs
pub record AreRowsSoFar (p : Planned) (k : ℕ) (size row : ℤ) (tells : Bool) (before : Content) (held : List ℕ)
    (totals : Totals) (left : List ℕ) (now : Content) : Type 0 where
  pub entries : List Entry
  pub below : AreBelow row entries
  pub are : AreEntries (IsBelow (planned_area p k) size row) size entries
  pub within : (t : Tile) → IsBelow (planned_area p k) size row t → IsTileWithinReach t
  pub totals_of : AreTotals entries totals
  pub content : IsTrue tells → IsSaidButFor before (held ++ flat_map entry_line entries) left now

-- a depot that took note of how far that is holds the same
pub rows_told : {p : Planned} {k : ℕ} {size row : ℤ} {tells : Bool} {before : Content} {held : List ℕ} {totals : Totals} {left : List ℕ}
    {now later : Content} → later ≡ now → AreRowsSoFar p k size row tells before held totals left now
    → AreRowsSoFar p k size row tells before held totals left later
rows_told {p} {k} {size} {row} {tells} {before} {held} {totals} {left} same s =
    subst (λ (now : Content). AreRowsSoFar p k size row tells before held totals left now) (sym same) s

-- none yet
pub no_rows : (p : Planned) (k : ℕ) (size row : ℤ) (tells : Bool) (before : Content) (held : List ℕ) (totals : Totals) (rows : RowRange) → AreTotals [] totals
    → ((t : Tile) → planned_area p k t → IsInRows rows t) → (row *ℤ size) ≤ℤ rows.y0 → AreRowsSoFar p k size row tells before held totals held before
no_rows p k size row tells before held totals rows none outside low = record {
  entries = [];
  below = All-nil (λ (e : Entry). e.row <ℤ row);
  are = no_entries (planned_area p k) size row (λ t a. (let from = (outside t a).from in omega (arith, ints, from, low)));
  within = λ t b. absurd (let from = (outside t b.taken).from in let under = b.below in omega (arith, ints, from, low, under));
  totals_of = none;
  content = λ told. record {
    said = [];
    content = sym (ap (λ (said : List ℕ). record before { said = said }) (append-nil before.said));
    whole = sym (append-nil held);
  };
}

-- the lines of a row's counts are those of its entries
pub row_lines : (row : ℤ) (counts : List Counted) → flat_map entry_line (entries_of row counts) ≡ flat_map (counted_line row) counts
row_lines row counts = flat_map-map entry_line (entry_of row) counts

-- the lines of some entries, and those of a row after them
more_lines : (held : List ℕ) (entries : List Entry) (row : ℤ) (counts : List Counted)
    → (held ++ flat_map entry_line entries) ++ flat_map (counted_line row) counts ≡ held ++ flat_map entry_line (entries ++ entries_of row counts)
more_lines held entries row counts =
    append_assoc held (flat_map entry_line entries) (flat_map (counted_line row) counts)
    ∙ ap (λ (l : List ℕ). held ++ l)
    (ap (λ (l : List ℕ). flat_map entry_line entries ++ l) (sym (row_lines row counts)) ∙ sym
    (flat_map-append entry_line entries (entries_of row counts)))

module _ (p : Planned) (k : ℕ) (size row : ℤ) (tells : Bool) (before : Content) (held : List ℕ) (totals : Totals) (left : List ℕ) (now : Content)
    (s : AreRowsSoFar p k size row tells before held totals left now) where
  -- where the area wasn't computed, or nothing more was put
  pub stopped : IsTrue tells → AreRowsCut p k size before held now
  stopped told = record { row = row; entries = s.entries; are = s.are; content = part_said (s.content told) }

  module _ (counts : List Counted) (h : IsWindowSize size) (ascending : AreCounts counts) (more : AreRowCounts (planned_area p k) size row counts) where
    next : AreEntries (IsBelow (planned_area p k) size (row +ℤ pos 1)) size (s.entries ++ entries_of row counts)
    next = next_entries (planned_area p k) size row s.entries counts h ascending s.below s.are more

    -- the sum stays small
    pub few : totals.triangles + triangles_of counts < 2 ^ 127
    few =
        let small = number_few (IsBelow (planned_area p k) size (row +ℤ pos 1))
        (sum_of (s.entries ++ entries_of row counts)) (next_within (planned_area p k) size row counts s.within more)
        (total (IsBelow (planned_area p k) size (row +ℤ pos 1)) size (s.entries ++ entries_of row counts) h next) in
        let both = sum_by-append (λ (e : Entry). e.tiles) s.entries (entries_of row counts) in
        let here = sum_here row counts in
        let sum = s.totals_of.sum in
        omega (arith, small, both, here, sum)

    pub row_cut : (later : Content) → IsTrue tells → IsPartSaid now (left ++ flat_map (counted_line row) counts) later → AreRowsCut p k size before held later
    row_cut later told part = record {
      row = row +ℤ pos 1;
      entries = s.entries ++ entries_of row counts;
      are = next;
      content = subst (λ (l : List ℕ). IsPartSaid before l later) (more_lines held s.entries row counts)
          (part_held later (hold_more (flat_map (counted_line row) counts) (s.content told)) part);
    }

    pub row_put : (new : Totals) (rest : List ℕ) (later : Content) (up : ℤ) → up ≡ row +ℤ pos 1
        → ((entries : List Entry) → AreTotals entries totals → AreTotals (entries ++ entries_of row counts) new)
        → (IsTrue tells → IsSaidButFor now (left ++ flat_map (counted_line row) counts) rest later) → AreRowsSoFar p k size up tells before held new rest later
    row_put new rest later up e counted put =
        subst (λ (r : ℤ). AreRowsSoFar p k size r tells before held new rest later) (sym e)
        (record {
          entries = s.entries ++ entries_of row counts;
          below = below_next row s.entries counts s.below;
          are = next;
          within = next_within (planned_area p k) size row counts s.within more;
          totals_of = counted s.entries s.totals_of;
          content = λ told. subst (λ (l : List ℕ). IsSaidButFor before l rest later) (more_lines held s.entries row counts)
              (said_then (flat_map (counted_line row) counts) (s.content told) (put told));
        })

  -- where the area has nothing in the rows of windows from this one up to another
  pub rows_passed : (up : ℤ) → IsWindowSize size → row ≤ℤ up → HasNone (planned_area p k) size row up → AreRowsSoFar p k size up tells before held totals left now
  rows_passed up h more none = record {
    entries = s.entries;
    below = All-weaker (λ (e : Entry). e.row <ℤ row) (λ (e : Entry). e.row <ℤ up) (λ e less. omega (arith, ints, less, more)) s.entries s.below;
    are = passed_entries (planned_area p k) size row up s.entries h more none s.are;
    within = λ t b. s.within t (passed_below (planned_area p k) size row up none t b);
    totals_of = s.totals_of;
    content = s.content;
  }

  -- where no row is left
  pub rows_put : (rows : RowRange) → ((t : Tile) → planned_area p k t → IsInRows rows t) → rows.y1 ≤ℤ (row *ℤ size)
      → AreRowsPut p k size tells before held totals left now
  rows_put rows outside last = record {
    entries = s.entries;
    are = all_entries (planned_area p k) size row s.entries (λ t a. (let under = (outside t a).below in omega (arith, ints, under, last))) s.are;
    totals_of = s.totals_of;
    content = s.content;
  }
