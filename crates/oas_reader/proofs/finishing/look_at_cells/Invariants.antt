use Rattle.std.proofs.Common.{◌≡◌, None, List, take}
use Rattle.oas_reader.specs.Items.{Item, records_in}
use Rattle.oas_reader.specs.Finished.{cell_items}
use Rattle.oas_reader.specs.Names.{first_twins}
use Rattle.oas_reader.specs.Naming.{AreNamesOf, AreCellsOf}
use Rattle.oas_reader.proofs.finishing.look_at_cells.Given as goal

abbrev pub invariant-loop-draft : goal.invariant-loop-draft
invariant-loop-draft l = (past : List Item) → AreNamesOf l.bytes past l.names → (
    AreCellsOf l.bytes (records_in past) (cell_items (take l.draft-index l.drafts)) l.cells
    × (first_twins l.bytes (records_in past) (cell_items (take l.draft-index l.drafts)) ≡ None)
    )
