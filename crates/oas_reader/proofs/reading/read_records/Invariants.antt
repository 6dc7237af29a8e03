use Rattle.std.proofs.Common.{◌-◌, length}
use Rattle.oas_reader.specs.Files.{IsStanding}
use Rattle.oas_reader.proofs.reading.read_records.Given as goal

abbrev pub invariant-records : goal.invariant-records
invariant-records l = IsStanding l.bytes l.unit l.sorted l.at l.reader

abbrev pub decreases-records : goal.decreases-records
decreases-records l = length l.bytes - l.at
