use Rattle.std.proofs.Common.{◌≡◌, length}
use Rattle.std.specs.Prelude.{All}
use Rattle.gds_reader.specs.Elements.{IsFilePoint}
use Rattle.gds_reader.specs.Values.{points_from}
use Rattle.gds_reader.proofs.pointing.read_points.Given as goal

abbrev pub invariant-loop-index : goal.invariant-loop-index
invariant-loop-index l = record {
  points : l.points.items ≡ points_from l.bytes l.current.first l.index;
  grid : All IsFilePoint l.points.items;
  count : length l.points.items ≡ l.index;
}
