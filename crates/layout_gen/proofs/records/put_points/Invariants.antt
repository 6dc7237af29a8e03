use Rattle.std.proofs.Common.{◌≡◌, ◌+◌, ◌*◌, ◌++◌, length, drop}
use Rattle.layout_gen.specs.Streams.{points_bytes}
use Rattle.layout_gen.proofs.records.put_points.Given as goal

abbrev pub invariant-loop-point : goal.invariant-loop-point
invariant-loop-point l = record {
  value : l.buffer ++ points_bytes (drop l.point-index l.points) ≡ l.initial.buffer ++ points_bytes l.points;
  size : length l.buffer ≡ length l.initial.buffer + 8 * l.point-index;
}
