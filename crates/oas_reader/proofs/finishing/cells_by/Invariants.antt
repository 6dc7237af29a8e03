use Rattle.std.proofs.Common.{◌≡◌, ◌++◌, List, length, All}
use Rattle.std.specs.Vec.Iter.{into_iter_items, into_iter_len}
use Rattle.oas_reader.specs.Items.{Item, records_in}
use Rattle.oas_reader.specs.Finished.{cells_by}
use Rattle.oas_reader.specs.Naming.{AreNamesOf}
use Rattle.oas_reader.specs.Readers.{IsDraftOnGrid}
use Rattle.layout_model.specs.Layouts.{IsCellOnGrid}
use Rattle.oas_reader.proofs.finishing.cells_by.Given as goal

abbrev pub invariant-loop-draft : goal.invariant-loop-draft
invariant-loop-draft l =
    (l.yielded ++ into_iter_items l.draft-iterator ≡ into_iter_items l.initial.draft-iterator)
    × (into_iter_len l.draft-iterator ≡ length (into_iter_items l.draft-iterator))
    × ((past : List Item) → AreNamesOf l.bytes past l.names → l.cells ≡ cells_by l.bytes (records_in past) l.yielded)
    × (All IsDraftOnGrid l.yielded → All IsCellOnGrid l.cells)
