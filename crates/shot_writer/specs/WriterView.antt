-- What a writer shows: the layer and the datatype of its records, the sums of what it was given, and the refusal that it
-- keeps.
use Rattle.std.specs.Prelude.{Option}
use Rattle.depot.specs.declared.outside.DepotBad.{DepotBad}
use Rattle.layout_model.specs.declared.pair.Pair.{Pair}
use Rattle.shot_writer.specs.declared.parts.Sums.{Sums}
use Rattle.shot_writer.specs.declared.writer.ShotWriter.{ShotWriter}

abbrev pub pair_of : ShotWriter → Pair
pair_of writer = writer.pair

abbrev pub sums_of : ShotWriter → Sums
sums_of writer = writer.sums

-- a refusal of an earlier call, if there was one
abbrev pub refusal_of : ShotWriter → Option DepotBad
refusal_of writer = writer.refusal
