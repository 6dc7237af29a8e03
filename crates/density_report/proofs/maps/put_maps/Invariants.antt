use Rattle.std.proofs.Common.{◌≡◌, length, take}
use Rattle.std.specs.Int.{int_gap}
use Rattle.density_report.specs.Rows.{AreMapsOf}
use Rattle.density_report.proofs.maps.put_maps.Given as goal

abbrev pub invariant-loop-next : goal.invariant-loop-next
invariant-loop-next l = record {
  maps : AreMapsOf l.batch.mesh.size l.batch.end (take l.next l.traps) l.maps.items;
  count : length l.maps.items ≡ int_gap l.batch.row l.batch.end;
}
