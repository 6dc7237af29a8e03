use Rattle.std.proofs.Common.{◌≡◌, ◌++◌, List, length, All}
use Rattle.std.specs.Vec.Iter.{into_iter_items, into_iter_len}
use Rattle.oas_reader.specs.Items.{Item, records_in}
use Rattle.oas_reader.specs.Meaning.{named}
use Rattle.oas_reader.specs.Readers.{placings_of, IsPlacingOnGrid}
use Rattle.layout_model.specs.Layouts.{IsPlacementOnGrid}
use Rattle.oas_reader.specs.Naming.{AreNamesOf}
use Rattle.oas_reader.proofs.finishing.placements_of.Given as goal

abbrev pub invariant-loop-placing : goal.invariant-loop-placing
invariant-loop-placing l =
    (l.yielded ++ into_iter_items l.placing-iterator ≡ into_iter_items l.initial.placing-iterator)
    × (into_iter_len l.placing-iterator ≡ length (into_iter_items l.placing-iterator))
    × ((past : List Item) → AreNamesOf l.bytes past l.names → l.placements ≡ named l.bytes (records_in past) (placings_of l.yielded))
    × (All IsPlacingOnGrid l.yielded → All IsPlacementOnGrid l.placements)
