use Rattle.std.proofs.Common.{◌≤◌, ◌-◌, length}
use Rattle.gds_reader.specs.Readers.{IsStanding}
use Rattle.gds_reader.proofs.reading.Reader.take_boundaries.Given as goal

abbrev pub invariant-boundaries : goal.invariant-boundaries
invariant-boundaries l = record {
  standing : IsStanding l.bytes l.unit l.sorted l.from l.self;
  onward : l.fn.at ≤ l.from;
}

abbrev pub decreases-boundaries : goal.decreases-boundaries
decreases-boundaries l = length l.bytes - l.from
