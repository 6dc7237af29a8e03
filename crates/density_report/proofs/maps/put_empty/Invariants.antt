use Rattle.std.proofs.Common.{◌≡◌, pos, ◌+ℤ◌, [], length}
use Rattle.std.specs.Int.{int_gap}
use Rattle.density_report.specs.Rows.{AreMapsOf, IsBatch}
use Rattle.density_report.proofs.maps.put_empty.Given as goal

abbrev pub invariant-loop-rest : goal.invariant-loop-rest
invariant-loop-rest l = record {
  mesh : l.rest.mesh ≡ l.batch.mesh;
  row : l.rest.row ≡ l.batch.row;
  rest : IsBatch l.rest;
  maps : AreMapsOf l.batch.mesh.size l.batch.end [] l.maps.items;
  count : l.rest.end +ℤ pos (length l.maps.items) ≡ l.batch.end;
}

abbrev pub decreases-loop-rest : goal.decreases-loop-rest
decreases-loop-rest l = int_gap l.rest.row l.rest.end
