-- The cells by name, as the program makes them of what it keeps.
use Rattle.std.specs.Prelude.{◌≡◌, ℕ, List, Some, map, reverse}
use Rattle.layout_model.specs.declared.cells.Cell.{Cell}
use Rattle.oas_record.specs.declared.records.OasRecord.{OasRecord}
use Rattle.oas_reader.specs.declared.cells.Draft.{Draft}
use Rattle.oas_reader.specs.declared.refusing.OasBad.{OasBad}
use Rattle.oas_reader.specs.declared.refusing.OasBad.TheVariants as faults
use Rattle.oas_reader.specs.Items.{Item}
use Rattle.oas_reader.specs.Meaning.{called_name, named}
use Rattle.oas_reader.specs.Names.{first_twins}
use Rattle.oas_reader.specs.Naming.{cell_record}
use Rattle.oas_reader.specs.Reading.{item}
use Rattle.oas_reader.specs.Readers.{placings_of}

-- the cell by name
abbrev pub cell_by : List ℕ → List OasRecord → Draft → Cell
cell_by bytes all draft = record {
  name = called_name bytes all (Some draft.called);
  shapes = draft.shapes;
  placements = named bytes all (placings_of draft.placings.items);
}

abbrev pub cells_by : List ℕ → List OasRecord → List Draft → List Cell
cells_by bytes all drafts = map (cell_by bytes all) drafts

-- the CELL records, the last one first
abbrev pub cell_item : Draft → Item
cell_item draft = item draft.at (cell_record draft.called)

abbrev pub cell_items : List Draft → List Item
cell_items drafts = reverse (map cell_item drafts)

-- the first two of one name
abbrev pub AreTwins : List ℕ → List OasRecord → List Item → OasBad → Type 0
AreTwins bytes all items bad =
    (first : ℕ) × (second : ℕ) × (first_twins bytes all items ≡ Some (first, second)) × (bad ≡ faults.Names first second)
