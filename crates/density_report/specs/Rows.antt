-- A row of windows of an output's area, and what is put to a buffer for it, row after row.
use Rattle.std.specs.Prelude.{ℕ, ℤ, pos, neg_ℤ, ◌≡◌, ◌⊎◌, ◌+◌, ◌^◌, ◌<◌, ◌≤◌, ◌+ℤ◌, ◌-ℤ◌, ◌*ℤ◌, ◌≤ℤ◌, ◌<ℤ◌, Bool}
use Rattle.std.specs.Prelude.{IsTrue, List, [], ◌++◌, length, map, flat_map, sum_by, slice_get, slice_index_or, take, Some}
use Rattle.std.specs.Int.{int_gap}
use Rattle.std.specs.List.{All}
use Rattle.half_grid.specs.Reach.{IsTileWithinReach}
use Rattle.half_grid.specs.Trapezoids.{Trapezoid, IsShot}
use Rattle.half_grid.specs.Windows.{RowRange, row_range}
use Rattle.half_grid.specs.declared.plane.Tile.{Tile}
use Rattle.depot.specs.Content.{Content, IsPartSaid}
use Rattle.density_map.specs.declared.counts.Counted.{Counted}
use Rattle.density_map.specs.Counts.{count_at}
use Rattle.density_map.specs.Rows.{RowMap, IsMapOf}
use Rattle.density_map.specs.Windows.{IsWindowSize, IsWindowCount}
use Rattle.bool_ops.specs.Operations.{IsInRows, IsJoinedOf}
use Rattle.deck_text.specs.declared.deck.Output.{Output}
use Rattle.deck_plan.specs.Areas.{IsInBand}
use Rattle.deck_plan.specs.Plans.{Planned, planned_area}
use Rattle.depot.specs.Printing.{IsSaidButFor}
use Rattle.density_report.specs.declared.entries.Entry.{Entry}
use Rattle.density_report.specs.declared.entries.Totals.{Totals}
use Rattle.density_report.specs.declared.strips.Batch.{Batch}
use Rattle.density_report.specs.declared.strips.Portion.{Portion}
use Rattle.density_report.specs.Tables.{Table, AreEntries, IsMost, IsDensityTable}
use Rattle.density_report.specs.Texts.{entry_line, front_text, table_text, tables_text}
use Rattle.density_report.specs.Saying.{AreTables}

-- a count of a row of windows, as an entry, and all of them
abbrev pub entry_of : ℤ → Counted → Entry
entry_of row counted = record { column = counted.column; row = row; tiles = counted.tiles }

abbrev pub entries_of : ℤ → List Counted → List Entry
entries_of row counts = map (entry_of row) counts

-- the line of a count
abbrev pub counted_line : ℤ → Counted → List ℕ
counted_line row counted = entry_line (entry_of row counted)

-- the triangles of all counts
abbrev pub triangles_of : List Counted → ℕ
triangles_of counts = sum_by (λ c. c.tiles) counts

abbrev pub sum_of : List Entry → ℕ
sum_of entries = sum_by (λ e. e.tiles) entries

-- the first of the entries that have the most, and the sum of all
pub record AreTotals (entries : List Entry) (totals : Totals) : Type 0 where
  pub greatest : IsMost entries totals.most
  pub sum : totals.triangles ≡ sum_of entries

-- the counts are those of an area in a row of windows, in which all of its tiles are within reach
pub record AreRowCounts (area : Tile → Type 0) (size row : ℤ) (counts : List Counted) : Type 0 where
  pub each : (i : ℤ) → IsWindowCount area size i row (count_at i counts)
  pub within : (t : Tile) → area t → (row *ℤ size) ≤ℤ t.j → t.j <ℤ ((row +ℤ pos 1) *ℤ size) → IsTileWithinReach t

-- ---- what is put for an output

-- no tile of the output's area lies outside the rows
abbrev pub HasRows : Planned → ℕ → RowRange → Type 0
HasRows p k rows = (t : Tile) → planned_area p k t → IsInRows rows t

-- the tiles of an area below some row of windows
pub record IsBelow (area : Tile → Type 0) (size row : ℤ) (t : Tile) : Type 0 where
  pub below : t.j <ℤ (row *ℤ size)
  pub taken : area t

-- the entries of all rows were put, and the totals are theirs
pub record AreRowsPut (p : Planned) (k : ℕ) (size : ℤ) (tells : Bool) (before : Content) (held : List ℕ) (totals : Totals) (left : List ℕ)
    (now : Content) : Type 0 where
  pub entries : List Entry
  pub are : AreEntries (planned_area p k) size entries
  pub totals_of : AreTotals entries totals
  pub content : IsTrue tells → IsSaidButFor before (held ++ flat_map entry_line entries) left now

-- a prefix of the entries of the first rows was said
pub record AreRowsCut (p : Planned) (k : ℕ) (size : ℤ) (before : Content) (held : List ℕ) (now : Content) : Type 0 where
  pub row : ℤ
  pub entries : List Entry
  pub are : AreEntries (IsBelow (planned_area p k) size row) size entries
  pub content : IsPartSaid before (held ++ flat_map entry_line entries) now

-- the table of output k was put
pub record IsTablePut (p : Planned) (k : ℕ) (size : ℤ) (tells : Bool) (before : Content) (held left : List ℕ) (now : Content) : Type 0 where
  pub output : Output
  pub here : slice_get p.deck.outputs k ≡ Some output
  pub table : Table
  pub is : IsDensityTable (planned_area p k) size table
  pub content : IsTrue tells → IsSaidButFor before (held ++ table_text size (output, table)) left now

-- the bytes are the first lines of the table of output k: those of the windows below some row of windows
pub record IsFront (p : Planned) (size : ℤ) (k : ℕ) (bytes : List ℕ) : Type 0 where
  pub output : Output
  pub here : slice_get p.deck.outputs k ≡ Some output
  pub row : ℤ
  pub entries : List Entry
  pub are : AreEntries (IsBelow (planned_area p k) size row) size entries
  pub text : bytes ≡ front_text size output.file entries

-- the bytes begin the text of the table of output k: they are its first lines or the whole
abbrev pub BeginsTable : Planned → ℕ → ℤ → List ℕ → Type 0
BeginsTable p k size bytes =
    IsFront p size k bytes
    ⊎ ((output : Output) × (table : Table) × (slice_get p.deck.outputs k ≡ Some output) × IsDensityTable (planned_area p k) size table
    × (bytes ≡ table_text size (output, table)))

-- a prefix of what begins it was said
abbrev pub IsTableCut : Planned → ℕ → ℤ → Content → List ℕ → Content → Type 0
IsTableCut p k size before held now = (bytes : List ℕ) × BeginsTable p k size bytes × IsPartSaid before (held ++ bytes) now

-- the tables of the first n outputs were put
pub record AreTablesPut (p : Planned) (n : ℕ) (size : ℤ) (tells : Bool) (before : Content) (held : List ℕ) (now : Content) : Type 0 where
  pub tables : List Table
  pub are : AreTables p size n tables
  pub content : IsTrue tells → IsSaidButFor before (tables_text size (take n p.deck.outputs) tables) held now

-- The bytes begin the text of the tables: they are the text of the tables of the first n outputs, and after it nothing or
-- the first lines of the next table.
pub record IsBeginning (p : Planned) (size : ℤ) (bytes : List ℕ) : Type 0 where
  pub n : ℕ
  pub inside : n ≤ length p.deck.outputs
  pub tables : List Table
  pub are : AreTables p size n tables
  pub rest : List ℕ
  pub front : (rest ≡ []) ⊎ IsFront p size n rest
  pub text : bytes ≡ tables_text size (take n p.deck.outputs) tables ++ rest

-- a prefix of what begins it was said
abbrev pub IsBeginningSaid : Planned → ℤ → Content → Content → Type 0
IsBeginningSaid p size before now = (bytes : List ℕ) × IsBeginning p size bytes × IsPartSaid before bytes now

-- ---- rows of windows, as numbers

-- their rows
abbrev pub rows_of : Batch → RowRange
rows_of batch = row_range (batch.row *ℤ batch.mesh.size) (batch.end *ℤ batch.mesh.size)

-- rows within 2^33 of 0
pub record AreNearRows (rows : RowRange) : Type 0 where
  pub low : neg_ℤ (pos 8589934592) ≤ℤ rows.y0
  pub high : rows.y1 ≤ℤ pos 8589934592
  pub window : rows.y0 ≤ℤ rows.y1

-- the rows of windows from this one up to below the end are those that have some of the rows
pub record HoldRows (size : ℤ) (rows : RowRange) (row end : ℤ) : Type 0 where
  pub from : (row *ℤ size) ≤ℤ rows.y0
  pub not_before : rows.y0 <ℤ ((row +ℤ pos 1) *ℤ size)
  pub up_to : rows.y1 ≤ℤ (end *ℤ size)
  pub not_after : ((end -ℤ pos 1) *ℤ size) <ℤ rows.y1
  pub low : neg_ℤ (pos (2 ^ 46)) ≤ℤ row
  pub end_low : neg_ℤ (pos (2 ^ 46)) ≤ℤ end
  pub high : end ≤ℤ pos (2 ^ 46)

-- the windows have a size that windows may have, and their rows lie within 2^32 of 0, as do the numbers of their rows
pub record IsBatch (batch : Batch) : Type 0 where
  pub size : IsWindowSize batch.mesh.size
  pub low : neg_ℤ (pos 4294967296) ≤ℤ (batch.row *ℤ batch.mesh.size)
  pub order : (batch.row *ℤ batch.mesh.size) ≤ℤ (batch.end *ℤ batch.mesh.size)
  pub high : (batch.end *ℤ batch.mesh.size) ≤ℤ pos 4294967296
  pub least : neg_ℤ (pos 4294967296) ≤ℤ batch.row
  pub ascending : batch.row ≤ℤ batch.end
  pub most : batch.end ≤ℤ pos 4294967296

-- there are some, with as few rows as an area may be asked for
pub record AreFewRows (batch : Batch) : Type 0 where
  pub some : (batch.row *ℤ batch.mesh.size) <ℤ (batch.end *ℤ batch.mesh.size)
  pub few : (batch.end *ℤ batch.mesh.size) ≤ℤ ((batch.row *ℤ batch.mesh.size) +ℤ pos 16777216)

-- a number of rows that is that of a row of windows at least
pub record IsPortion (size : ℤ) (portion : Portion) : Type 0 where
  pub low : size ≤ℤ portion.rows
  pub high : portion.rows ≤ℤ pos 16777216
  pub some : pos 0 <ℤ size

-- the first of some rows of windows
pub record IsPart (left part : Batch) : Type 0 where
  pub mesh : part.mesh ≡ left.mesh
  pub row : part.row ≡ left.row
  pub some : part.row <ℤ part.end
  pub up_to : part.end ≤ℤ left.end
  pub batch : IsBatch part
  pub few : AreFewRows part

-- ---- the area and the counts of some rows of windows

-- the joined list of the output's area in their rows
pub record AreTrapsOf (p : Planned) (k : ℕ) (batch : Batch) (traps : List Trapezoid) : Type 0 where
  pub joined : IsJoinedOf (rows_of batch) (IsInBand p.cells p.top p.deck k (rows_of batch)) traps
  pub shots : All IsShot traps

-- the counts of trapezoids in a row of windows
pub record IsMapAt (size row : ℤ) (traps : List Trapezoid) (m : RowMap) : Type 0 where
  pub size_is : m.size ≡ size
  pub row_is : m.row ≡ row
  pub counted : IsMapOf m traps

-- the maps are those of the rows of windows below the end, the last of these first
abbrev pub AreMapsOf : ℤ → ℤ → List Trapezoid → List RowMap → Type 0
AreMapsOf size end traps maps = (at : ℕ) (d : RowMap) → at < length maps → IsMapAt size (end -ℤ pos (at + 1)) traps (slice_index_or maps at d)

-- the rows of windows before these places lie above the trapezoid, and those from their end on lie below it
pub record ArePlacesOf (batch : Batch) (z : Trapezoid) (from end : ℕ) : Type 0 where
  pub inside : end ≤ int_gap batch.row batch.end
  pub above : z.y1 ≤ℤ ((batch.end -ℤ pos from) *ℤ batch.mesh.size)
  pub below : ((batch.end -ℤ pos end) *ℤ batch.mesh.size) ≤ℤ z.y0

-- the counts of an area in the rows of windows from this one on, that of the first one last
pub record AreCountsFrom (area : Tile → Type 0) (size row : ℤ) (maps : List RowMap) : Type 0 where
  pub each : (at : ℕ) (d : RowMap) → at < length maps
      → AreRowCounts area size ((row +ℤ pos (length maps)) -ℤ pos (at + 1)) (slice_index_or maps at d).counts

-- no tile of the area lies in the rows of windows from the first up to below the second
abbrev pub HasNone : (Tile → Type 0) → ℤ → ℤ → ℤ → Type 0
HasNone area size row up = (t : Tile) → area t → (row *ℤ size) ≤ℤ t.j → t.j <ℤ (up *ℤ size) → ⊥

-- of the rows of windows that are left the first ones were passed by, in which the area has nothing
pub record IsPassed (area : Tile → Type 0) (old new : Batch) : Type 0 where
  pub mesh : new.mesh ≡ old.mesh
  pub end : new.end ≡ old.end
  pub forward : old.row ≤ℤ new.row
  pub batch : IsBatch new
  pub none : HasNone area old.mesh.size old.row new.row

-- the same, and the counts of some of those that are left were put; either of the two was done to some
pub record IsFilled (area : Tile → Type 0) (old new : Batch) (maps : List RowMap) : Type 0 where
  pub passed : IsPassed area old new
  pub counts : AreCountsFrom area old.mesh.size new.row maps
  pub inside : (new.row +ℤ pos (length maps)) ≤ℤ new.end
  pub some : old.row ≡ new.row → 0 < length maps
