-- What the reader keeps of the records so far.
use Rattle.std.specs.Prelude.{◌≡◌, ◌^◌, ℕ, List, [], ◌∷◌, ◌++◌, Option, Some, None, map, All, if◌then◌else◌}
use Rattle.layout_model.specs.Layouts.{IsShapeOnGrid, AreOffsets, IsMove}
use Rattle.layout_model.specs.Images.{IsOrient}
use Rattle.layout_model.specs.declared.pair.Pair.{Pair}
use Rattle.layout_model.specs.declared.shapes.Shape.{Shape}
use Rattle.oas_record.specs.declared.fields.Called.{Called}
use Rattle.oas_fields.specs.Values.{AreFields, ArePlacesWithin, begins_cell}
use Rattle.oas_reader.specs.Items.{Item, records_in, tables_at_end}
use Rattle.oas_reader.specs.Order.{ids_of}
use Rattle.oas_reader.specs.Names.{cell_called}
use Rattle.oas_reader.specs.Naming.{IsCalledWithin, AreCalledWithin, HaveSpans, AreNamesOf}
use Rattle.oas_reader.specs.Meaning.{given_in_cell, shapes_at, placings_at, counts_of, Placing as APlacing}
use Rattle.oas_reader.specs.Places.{IsPlace}
use Rattle.oas_reader.specs.declared.cells.Begun.{Begun}
use Rattle.oas_reader.specs.declared.cells.Draft.{Draft}
use Rattle.oas_reader.specs.declared.cells.Drafts.{Drafts}
use Rattle.oas_reader.specs.declared.placing.Placing.{Placing}
use Rattle.oas_reader.specs.declared.reading.Reader.{Reader}

-- ---- placements

-- what the layout's definition says of a placement that is kept
abbrev pub placing_of : Placing → APlacing
placing_of p = record { target = Some p.target; orient = p.orient; at = p.at; offsets = p.offsets }

abbrev pub placings_of : List Placing → List APlacing
placings_of placings = map placing_of placings

pub record IsPlacingOnGrid (p : Placing) : Type 0 where
  pub orient : IsOrient p.orient
  pub at : IsMove p.at
  pub offsets : AreOffsets p.offsets

-- ---- cells

-- the CELL record of the open cell, with its offset
abbrev pub begun_by : Item → Option Called → Option Begun → Option Begun
begun_by item None before = before
begun_by item (Some called) before = Some (record { at = item.at; called = called })

abbrev pub begun_of : List Item → Option Begun
begun_of [] = None
begun_of (item ∷ past) = begun_by item (cell_called item.r) (begun_of past)

-- a cell that is whole, as the layout's definition sees it: its CELL record, its shapes and its placements
pub record WholeCell : Type 0 where
  pub begun : Begun
  pub shapes : List Shape
  pub placings : List APlacing

abbrev pub whole_by : Option Begun → List Shape → List APlacing → List WholeCell
whole_by None shapes placings = []
whole_by (Some begun) shapes placings = record { begun = begun; shapes = shapes; placings = placings } ∷ []

abbrev pub whole_of : List Pair → List Item → List WholeCell
whole_of wanted [] = []
whole_of wanted (item ∷ past) =
    if begins_cell item.r then whole_of wanted past ++ whole_by (begun_of past)
    (given_in_cell (shapes_at wanted) (records_in past)) (given_in_cell placings_at (records_in past))
    else whole_of wanted past

abbrev pub whole_cell : Draft → WholeCell
whole_cell draft = record {
  begun = record { at = draft.at; called = draft.called };
  shapes = draft.shapes;
  placings = placings_of draft.placings.items;
}

-- ---- strings within the bytes, and the grid

abbrev pub ArePlacingsWithin : List ℕ → List Placing → Type 0
ArePlacingsWithin bytes placings = All (λ placing. IsCalledWithin bytes placing.target) placings

pub record IsDraftWithin (bytes : List ℕ) (draft : Draft) : Type 0 where
  pub called : IsCalledWithin bytes draft.called
  pub placings : ArePlacingsWithin bytes draft.placings.items

abbrev pub IsBegunWithin : List ℕ → Option Begun → Type 0
IsBegunWithin bytes None = Unit {0}
IsBegunWithin bytes (Some begun) = IsCalledWithin bytes begun.called

pub record IsDraftOnGrid (draft : Draft) : Type 0 where
  pub shapes : All IsShapeOnGrid draft.shapes
  pub placings : All IsPlacingOnGrid draft.placings.items

-- ---- all of it

-- what holds of the cells whatever the records
pub record AreDraftsWithin (bytes : List ℕ) (drafts : Drafts) : Type 0 where
  pub begun : IsBegunWithin bytes drafts.begun
  pub placings : ArePlacingsWithin bytes drafts.placings.items
  pub whole : All (IsDraftWithin bytes) drafts.whole.items
  pub shapes_grid : All IsShapeOnGrid drafts.shapes
  pub placings_grid : All IsPlacingOnGrid drafts.placings.items
  pub whole_grid : All IsDraftOnGrid drafts.whole.items

-- the cells after these records
pub record AreDraftsOf (wanted : List Pair) (past : List Item) (drafts : Drafts) : Type 0 where
  pub begun : drafts.begun ≡ begun_of past
  pub shapes : drafts.shapes ≡ given_in_cell (shapes_at wanted) (records_in past)
  pub placings : placings_of drafts.placings.items ≡ given_in_cell placings_at (records_in past)
  pub whole : map whole_cell drafts.whole.items ≡ whole_of wanted past

-- the reader after these records
pub record IsReaderOf (bytes : List ℕ) (wanted : List Pair) (past : List Item) (reader : Reader) : Type 0 where
  pub place : IsPlace (ids_of (records_in past)) reader.place
  pub tables : reader.tables ≡ tables_at_end (records_in past)
  pub fields : AreFields (records_in past) reader.fields
  pub names : AreNamesOf bytes past reader.names
  pub drafts : AreDraftsOf wanted past reader.drafts
  pub counts : reader.counts ≡ counts_of wanted (records_in past)

-- what holds of the reader whatever the records
pub record IsReaderWithin (bytes : List ℕ) (reader : Reader) : Type 0 where
  pub near : ArePlacesWithin (2 ^ 40) reader.fields
  pub cell : AreCalledWithin bytes reader.fields.cell
  pub spans : HaveSpans bytes reader.names
  pub drafts : AreDraftsWithin bytes reader.drafts
